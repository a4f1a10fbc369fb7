use Rattle.std.proofs.Common.{◌≡◌, true, false, refl, sym, ◌∙◌, Some}
use Rattle.sis_model.specs.Answer.{refusal_of}
use Rattle.sis_model.specs.declared.command.Command.TheVariants as command
use Rattle.sis_model.specs.declared.reply.Reply.TheVariants as reply
use Rattle.sis_name.specs.Units.{is_store_name}
use Rattle.sis_core.specs.Session.{session}
use Rattle.sis_core.proofs.Operated.{refused}
use Rattle.sis_core.proofs.Told.{only_told, stat_found, stat_missing}
use Rattle.sis_core.proofs.telling.stat.Goals as goal

pub returns-then-is_store : goal.returns-then-is_store
returns-then-is_store g c w opens client shows =
    let store : is_store_name c.args.name.now ≡ true =
    sym c.is_store.ensures.value ∙ c.if-is_store.true in
    let none : refusal_of w client (command.Stat c.args.name.now) ≡ Some reply.AccessDenied =
    rw store refl in
    refused w (session c.args.volume.now opens) client (command.Stat c.args.name.now)
    reply.AccessDenied shows c.requires.up none refl refl refl none (λ fresh jobs later next. tt)

pub returns-in-Some : goal.returns-in-Some
returns-in-Some g c w opens client shows =
    let s = session c.args.volume.now opens in
    let user : is_store_name c.args.name.now ≡ false =
    sym c.is_store.ensures.value ∙ c.if-is_store.false in
    let may = stat_found w s client c.args.name.now c.in-Some.size shows user c.in-Some.ensures in
    only_told w s client (command.Stat c.args.name.now) (reply.Sized c.in-Some.size) shows
    c.requires.up c.requires.table (record { needs = λ jobs. refl; table = λ jobs. refl }) refl refl
    refl refl may may (λ jobs later next is. is)

pub returns-in-None : goal.returns-in-None
returns-in-None g c w opens client shows =
    let s = session c.args.volume.now opens in
    let user : is_store_name c.args.name.now ≡ false =
    sym c.is_store.ensures.value ∙ c.if-is_store.false in
    let none = stat_missing w s client c.args.name.now shows user c.in-None.ensures in
    refused w s client (command.Stat c.args.name.now) reply.NotFound shows c.requires.up none refl
    refl refl none (λ fresh jobs later next. tt)
