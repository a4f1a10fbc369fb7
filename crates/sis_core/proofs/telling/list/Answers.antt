use Rattle.std.proofs.Common.{refl}
use Rattle.std.specs.Option.{option_copied}
use Rattle.sis_model.specs.declared.command.Command.TheVariants as command
use Rattle.sis_model.specs.declared.reply.Reply.TheVariants as reply
use Rattle.sis_core.specs.Session.{session}
use Rattle.sis_core.proofs.Told.{names_told, only_told, short_told}
use Rattle.sis_core.proofs.telling.list.Goals as goal

pub returns-in-Ok : goal.returns-in-Ok
returns-in-Ok g c w opens client shows =
    let s = session c.args.volume.now opens in
    let after = option_copied c.args.after in
    let may = names_told w s client after c.in-Ok.names c.in-Ok.more shows c.requires.table
    c.in-Ok.ensures.names c.in-Ok.ensures.more in
    only_told w s client (command.List after) (reply.Names c.in-Ok.names c.in-Ok.more) shows
    c.requires.up c.requires.table (record { needs = λ jobs. refl; table = λ jobs. refl }) refl refl
    refl refl may may (λ jobs later next is. is)

pub returns-in-Err : goal.returns-in-Err
returns-in-Err g c w opens client shows =
    short_told w (session c.args.volume.now opens) client (command.List (option_copied c.args.after))
    shows c.requires.up refl refl
