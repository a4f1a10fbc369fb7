use Rattle.std.proofs.Common.{◌≡◌, cond, take, None}
use Rattle.std.specs.BTreeMap.{get, IsOrdered}
use Rattle.sis_table.specs.Trees.{is_one}
use Rattle.sis_table.proofs.trees.forget.Given as goal

abbrev pub invariant-loop-key : goal.invariant-loop-key
invariant-loop-key g l = record {
  out : (q : _) → get g.K.Ord.cmp l.map q ≡ cond (is_one g.K.Ord.cmp (take l.key-index l.keys) q) None (get g.K.Ord.cmp l.fn.map q);
  ordered : IsOrdered g.K.Ord.cmp l.map;
}
