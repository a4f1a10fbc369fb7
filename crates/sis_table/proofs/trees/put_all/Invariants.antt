use Rattle.std.proofs.Common.{length}
use Rattle.sis_table.proofs.TreeLemmas.{Putting}
use Rattle.sis_table.proofs.trees.put_all.Given as goal

abbrev pub decreases-loop-key : goal.decreases-loop-key
decreases-loop-key g l = length l.touched.entries

abbrev pub invariant-loop-key : goal.invariant-loop-key
invariant-loop-key g l = Putting g.K.Ord.cmp l.fn.touched l.fn.map l.touched l.map
