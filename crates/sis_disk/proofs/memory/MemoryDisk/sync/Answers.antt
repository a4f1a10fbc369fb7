use Rattle.std.proofs.Common.{arith}
use Rattle.std.proofs.lemmas.Grind.{common_steps}
use Rattle.sis_disk.proofs.Answered.{went_sync}
use Rattle.sis_disk.proofs.Picked.{answered_fits}
use Rattle.sis_disk.proofs.Push.{live_with}
use Rattle.sis_disk.proofs.memory.MemoryDisk.sync.Goals as goal

pub invariant_of-self : goal.invariant_of-self
invariant_of-self c = (
  grind (arith, common_steps, live_with),
  answered_fits _ _ _ _ _ (λ ok. tt) c.self.invariant.1 c.enter.ensures,
)

pub returns-clause-call : goal.returns-clause-call
returns-clause-call c = rw (← c.self.view_is) (went_sync _ _ _ _ c.enter.ensures)
