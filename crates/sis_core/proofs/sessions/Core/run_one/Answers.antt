use Rattle.std.proofs.Common.{◌<◌, arith}
use Rattle.sis_core.proofs.AddLemmas.{adds_one}
use Rattle.sis_core.proofs.ExecLemmas.{idle_again}
use Rattle.sis_core.proofs.sessions.Core.run_one.Goals as goal

pub returns-clause-kept : goal.returns-clause-kept
returns-clause-kept g c =
    let lt : c.args.client < 17 = let most = c.requires.client.1 in omega (arith, most) in
    adds_one c.args.self.now.entries c.steps.self.entries c.step.new.self.entries
    c.args.self.now.jobs c.steps.self.jobs c.args.client c.args.command
    c.in-Answered.ensures.steps.command _ _ c.requires.idle lt c.steps.invariant.jobs
    c.steps.invariant.entries c.in-Answered.ensures.steps.has c.in-Answered.ensures.steps.entries

pub returns-clause-idle : goal.returns-clause-idle
returns-clause-idle g c =
    idle_again c.args.self.now.jobs c.steps.self.jobs c.step.new.self.jobs c.args.client _
    c.requires.idle c.steps.invariant.jobs c.in-Answered.ensures.steps.jobs
