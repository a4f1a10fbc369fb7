use Rattle.std.proofs.Common.{inl, refl}
use Rattle.sis_cli.specs.Run.{LaysNew}
use Rattle.sis_cli.specs.Words.{texts, plan_of, shown}
use Rattle.sis_cli.proofs.WordLemmas.{any_format, no_format, refused_history, script_accepted}
use Rattle.sis_cli.proofs.top.run.Goals as goal

pub returns-in-Err-clause-history : goal.returns-in-Err-clause-history
returns-in-Err-clause-history g c =
    rw (c.from.ensures, c.new.ensures)
    (refused_history (plan_of (texts c.args.words.now)) c.in-Err.fault
    (g.D.Disk.seen c.args.disk) c.in-Err.ensures.words (g.met.D.Disk.counted c.args.disk))

pub returns-in-Err-clause-blocks : goal.returns-in-Err-clause-blocks
returns-in-Err-clause-blocks g c =
    let seen = g.D.Disk.seen c.args.disk in
    any_format (plan_of (texts c.args.words.now)) (λ l. LaysNew l seen seen) (λ l. inl refl)

pub returns-in-None-clause-complete : goal.returns-in-None-clause-complete
returns-in-None-clause-complete g c =
    script_accepted (plan_of (texts c.args.words.now)) (shown c.in-Ok.plan) _ _ _ _
    c.outcome-in-None.result.status c.in-Ok.ensures.words
    (no_format c.in-Ok.plan.verb c.in-Ok.plan.layout c.in-Ok.ensures.verb c.in-None.is)
    (rw (c.outcome-in-None.ensures.disk, c.outcome-in-None.ensures.status, c.faults-before.ensures)
    c.serve.ensures.cause)
