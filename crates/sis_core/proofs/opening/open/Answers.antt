use Rattle.std.proofs.Common.{◌≡◌, ◌<◌, ℕ, false, true, is_some, filter, length, None, Option, Some, ap, arith, refl, subst, sym, ◌∙◌}
use Rattle.sis_model.specs.Answer.{refusal_of}
use Rattle.sis_model.specs.World.{bytes_of}
use Rattle.sis_model.specs.declared.command.Command.TheVariants as command
use Rattle.sis_model.specs.declared.reply.Hindrance.TheVariants as hindrance
use Rattle.sis_model.specs.declared.reply.LimitKind.TheVariants as limit
use Rattle.sis_model.specs.declared.reply.Reply.TheVariants as reply
use Rattle.sis_name.specs.Units.{is_store_name}
use Rattle.sis_core.specs.Opens.{is_of, open_as}
use Rattle.sis_core.specs.Session.{session}
use Rattle.sis_core.proofs.Named.{found_in}
use Rattle.sis_core.proofs.OpensLemmas.{free_there, full_count, low_count, opened_decides}
use Rattle.sis_core.proofs.Operated.{refused}
use Rattle.sis_core.proofs.Told.{short_told}
use Rattle.sis_core.proofs.opening.open.Goals as goal

pub returns-then-is_store : goal.returns-then-is_store
returns-then-is_store g c w shows =
    let store : is_store_name c.args.name.now ≡ true =
    sym c.is_store.ensures.value ∙ c.if-is_store.true in
    let refusal : refusal_of w c.args.client (command.Open c.args.name.now c.args.writes)
    ≡ Some reply.AccessDenied = rw store refl in
    refused w (session c.args.volume.now c.args.opens.now) c.args.client
    (command.Open c.args.name.now c.args.writes) reply.AccessDenied shows c.requires.up refusal refl
    refl refl refusal (λ fresh jobs later next. tt)

pub returns-in_default : goal.returns-in_default
returns-in_default g c w shows =
    let s = session c.args.volume.now c.args.opens.now in
    let user : is_store_name c.args.name.now ≡ false =
    sym c.is_store.ensures.value ∙ c.if-is_store.false in
    let none : is_some (bytes_of w c.args.name.now) ≡ false =
    found_in w s c.args.name.now c.find.result shows c.find.ensures
    ∙ ap (λ (o : Option ℕ). is_some o) c.in_default.is in
    let refusal : refusal_of w c.args.client (command.Open c.args.name.now c.args.writes)
    ≡ Some reply.NotFound = rw (user, none) refl in
    refused w s c.args.client (command.Open c.args.name.now c.args.writes) reply.NotFound shows
    c.requires.up refusal refl refl refl refusal (λ fresh jobs later next. tt)

pub returns-then-count-ge-MOST_OPENS : goal.returns-then-count-ge-MOST_OPENS
returns-then-count-ge-MOST_OPENS g c w shows =
    let s = session c.args.volume.now c.args.opens.now in
    let user : is_store_name c.args.name.now ≡ false =
    sym c.is_store.ensures.value ∙ c.if-is_store.false in
    let some : is_some (bytes_of w c.args.name.now) ≡ true =
    found_in w s c.args.name.now c.find.result shows c.find.ensures
    ∙ ap (λ (o : Option ℕ). is_some o) c.in-Some.is in
    let full = full_count c.count.result w s c.args.client shows c.count.ensures
    c.if-count-ge-MOST_OPENS.true in
    let refusal : refusal_of w c.args.client (command.Open c.args.name.now c.args.writes)
    ≡ Some (reply.Hindered (hindrance.Limit limit.Opens)) = rw (user, some, full) refl in
    refused w s c.args.client (command.Open c.args.name.now c.args.writes)
    (reply.Hindered (hindrance.Limit limit.Opens)) shows c.requires.up refusal refl refl refl
    refusal (λ fresh jobs later next. tt)

-- the client has fewer than 64 opens, so one of the numbers up to it is free
pub add-requires : goal.add-requires
add-requires g c =
    let few : length (filter (is_of c.args.client) c.args.opens.now) < 64 =
    omega (arith, c.count.ensures, c.if-count-ge-MOST_OPENS.false) in
    subst (λ (n : ℕ). open_as c.args.client n c.args.opens.now ≡ None)
    (sym c.free_number-number.ensures) (free_there c.args.client c.args.opens.now few)

pub returns-in-Ok : goal.returns-in-Ok
returns-in-Ok g c w shows =
    let s = session c.args.volume.now c.args.opens.now in
    let user : is_store_name c.args.name.now ≡ false =
    sym c.is_store.ensures.value ∙ c.if-is_store.false in
    let few = low_count c.count.result w s c.args.client shows c.count.ensures
    c.if-count-ge-MOST_OPENS.false in
    opened_decides w s c.args.client c.free_number-number.result c.in-Some.file c.args.name.now
    c.args.writes c.find.result c.add.new.self shows c.requires.up c.requires.table c.find.ensures
    c.in-Some.is user few c.free_number-number.ensures c.in-Ok.ensures.ok

pub returns-in-Err : goal.returns-in-Err
returns-in-Err g c w shows =
    rw c.in-Err.ensures.err
    (short_told w (session c.args.volume.now c.args.opens.now) c.args.client
    (command.Open c.args.name.now c.args.writes) shows c.requires.up refl refl)
