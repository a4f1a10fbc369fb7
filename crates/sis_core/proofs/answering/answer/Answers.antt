use Rattle.std.proofs.Common.{ℕ, List, Option, subst, sym}
use Rattle.sis_model.specs.declared.command.Command.{Command}
use Rattle.sis_model.specs.declared.command.Command.TheVariants as command
use Rattle.sis_core.specs.Deciding.{DecidesFor}
use Rattle.sis_core.specs.Session.{session}
use Rattle.sis_core.proofs.answering.answer.Goals as goal

pub returns-in-Put-clause-decides : goal.returns-in-Put-clause-decides
returns-in-Put-clause-decides g c w shows =
    subst (λ (x : Command). DecidesFor w (session c.args.volume.now c.args.opens.now)
    (session c.put.new.volume c.args.opens.now) c.args.client x c.put.result)
    (sym c.in-Put.is) (c.put.ensures.decides w c.args.opens.now c.args.client shows)

pub returns-in-Open-clause-decides : goal.returns-in-Open-clause-decides
returns-in-Open-clause-decides g c w shows =
    subst (λ (x : Command). DecidesFor w (session c.args.volume.now c.args.opens.now)
    (session c.args.volume.now c.open.new.opens) c.args.client x c.open.result)
    (sym c.in-Open.is) (c.open.ensures w shows)

pub returns-in-Remove-clause-decides : goal.returns-in-Remove-clause-decides
returns-in-Remove-clause-decides g c w shows =
    subst (λ (x : Command). DecidesFor w (session c.args.volume.now c.args.opens.now)
    (session c.remove.new.volume c.args.opens.now) c.args.client x c.remove.result)
    (sym c.in-Remove.is) (c.remove.ensures.decides w c.args.client shows)

pub returns-in-Rename-clause-decides : goal.returns-in-Rename-clause-decides
returns-in-Rename-clause-decides g c w shows =
    subst (λ (x : Command). DecidesFor w (session c.args.volume.now c.args.opens.now)
    (session c.rename.new.volume c.args.opens.now) c.args.client x c.rename.result)
    (sym c.in-Rename.is) (c.rename.ensures.decides w c.args.client shows)

pub returns-in-Stat-clause-decides : goal.returns-in-Stat-clause-decides
returns-in-Stat-clause-decides g c w shows =
    subst (λ (x : Command). DecidesFor w (session c.args.volume.now c.args.opens.now)
    (session c.args.volume.now c.args.opens.now) c.args.client x c.stat.result)
    (sym c.in-Stat.is) (c.stat.ensures w c.args.opens.now c.args.client shows)

pub returns-in-Space-clause-decides : goal.returns-in-Space-clause-decides
returns-in-Space-clause-decides g c w shows =
    subst (λ (x : Command). DecidesFor w (session c.args.volume.now c.args.opens.now)
    (session c.args.volume.now c.args.opens.now) c.args.client x c.space.result)
    (sym c.in-Space.is) (c.space.ensures w c.args.opens.now c.args.client shows)

pub returns-in-Sync-clause-decides : goal.returns-in-Sync-clause-decides
returns-in-Sync-clause-decides g c w shows =
    subst (λ (x : Command). DecidesFor w (session c.args.volume.now c.args.opens.now)
    (session c.sync.new.volume c.args.opens.now) c.args.client x c.sync.result)
    (sym c.in-Sync.is) (c.sync.ensures.decides w c.args.opens.now c.args.client shows)

pub returns-in-List-clause-decides : goal.returns-in-List-clause-decides
returns-in-List-clause-decides g c w shows =
    subst (λ (x : Command). DecidesFor w (session c.args.volume.now c.args.opens.now)
    (session c.args.volume.now c.args.opens.now) c.args.client x c.list.result)
    (sym c.in-List.is)
    (subst (λ (after : Option (List ℕ)). DecidesFor w (session c.args.volume.now c.args.opens.now)
    (session c.args.volume.now c.args.opens.now) c.args.client (command.List after) c.list.result)
    c.as_ref.ensures.value (c.list.ensures w c.args.opens.now c.args.client shows))
