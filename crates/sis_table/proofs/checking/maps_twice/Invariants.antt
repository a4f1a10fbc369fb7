use Rattle.sis_table.proofs.GoodLemmas.{Scanned}
use Rattle.sis_table.proofs.checking.maps_twice.Given as goal

abbrev pub invariant-loop-run : goal.invariant-loop-run
invariant-loop-run l = Scanned l.fn.marks l.marks l.runs l.run-index
