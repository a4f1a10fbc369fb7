use Rattle.std.proofs.Common.{length}
use Rattle.sis_backpointer.proofs.Readings.{Reads}
use Rattle.sis_backpointer.proofs.reading.list_at.Given as goal

abbrev pub invariant-loop-rest : goal.invariant-loop-rest
invariant-loop-rest l = Reads l.bytes l.rest l.backs.items

abbrev pub decreases-loop-rest : goal.decreases-loop-rest
decreases-loop-rest l = length l.rest
