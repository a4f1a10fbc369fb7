use Rattle.std.proofs.Common.{length}
use Rattle.sis_table.proofs.TreeLemmas.{Entering}
use Rattle.sis_table.proofs.trees.enter_some.Given as goal

abbrev pub decreases-loop-key : goal.decreases-loop-key
decreases-loop-key g l = length l.added.entries

abbrev pub invariant-loop-key : goal.invariant-loop-key
invariant-loop-key g l = Entering g.K.Ord.cmp l.fn.added l.added l.entered.items l.fn.map l.map
