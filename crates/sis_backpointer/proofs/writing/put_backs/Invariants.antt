use Rattle.std.proofs.Common.{◌≡◌, ◌+◌, ◌*◌, ◌≤◌, ◌++◌, length, vec_capacity, flat_map, drop}
use Rattle.sis_backpointer.specs.Backs.{back_text, backs_text}
use Rattle.sis_backpointer.proofs.writing.put_backs.Given as goal

abbrev pub invariant-loop-back : goal.invariant-loop-back
invariant-loop-back l = record {
  items : l.out.items ++ flat_map back_text (drop l.back-index l.backs) ≡ l.fn.out.items ++ backs_text l.backs;
  size : length l.out.items ≡ length l.fn.out.items + 16 * l.back-index;
  room : vec_capacity l.fn.out ≤ vec_capacity l.out;
}
