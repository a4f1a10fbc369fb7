use Rattle.std.proofs.Common.{refl}
use Rattle.sis_model.specs.declared.command.Command.TheVariants as command
use Rattle.sis_model.specs.declared.reply.Reply.TheVariants as reply
use Rattle.sis_core.specs.Session.{session}
use Rattle.sis_core.proofs.Told.{only_told}
use Rattle.sis_core.proofs.telling.space.Goals as goal

pub returns : goal.returns
returns g c w opens client shows =
    only_told w (session c.args.volume.now opens) client command.Space
    (reply.Space c.used.result c.total.result) shows c.requires.up c.requires.table
    (record { needs = λ jobs. refl; table = λ jobs. refl }) refl refl refl refl (refl, tt) (refl, tt)
    (λ jobs later next is. (is, c.used.ensures, c.total.ensures))
