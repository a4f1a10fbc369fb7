use Rattle.std.proofs.Common.{take}
use Rattle.sis_volume.specs.Keeping.{TakesRuns}
use Rattle.sis_volume.proofs.data_blocks.take_runs.Given as goal

abbrev pub invariant-loop-run : goal.invariant-loop-run
invariant-loop-run l = TakesRuns l.low (take l.run-index l.runs) l.fn.places l.places
