use Rattle.std.proofs.Common.{arith}
use Rattle.std.proofs.lemmas.Grind.{common_steps}
use Rattle.sis_disk.proofs.Answered.{went_read, went_err}
use Rattle.sis_disk.proofs.Picked.{answered_fits}
use Rattle.sis_disk.proofs.Push.{live_with}
use Rattle.sis_disk.proofs.memory.MemoryDisk.read.Goals as goal

pub invariant_of-self : goal.invariant_of-self
invariant_of-self c = (
  grind (arith, common_steps, live_with),
  answered_fits _ _ _ _ _ (λ ok. tt) c.self.invariant.1 c.enter.ensures,
)

pub invariant_of-self-2 : goal.invariant_of-self-2
invariant_of-self-2 c = (
  grind (arith, common_steps, live_with),
  answered_fits _ _ _ _ _ (λ ok. tt) c.self.invariant.1 c.enter.ensures,
)

pub returns-in_err-enter-clause-call : goal.returns-in_err-enter-clause-call
returns-in_err-enter-clause-call c =
    rw (← c.self.view_is)
    (went_err _ _ _ _ _ c.from_residual.ensures.0
    (rw c.in_err-enter.was at (went_read _ _ _ _ _ _ c.enter.ensures)))

pub returns-clause-call : goal.returns-clause-call
returns-clause-call c =
    rw (← c.self.view_is) (rw c.in_ok-enter.was at (went_read _ _ _ _ _ _ c.enter.ensures))
