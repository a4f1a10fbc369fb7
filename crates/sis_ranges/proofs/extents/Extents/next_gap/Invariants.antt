use Rattle.std.proofs.Common.{◌≡◌, ◌-◌, ◌≤◌, ◌<◌, ℕ, false}
use Rattle.std.specs.Ordering.{nat_cmp}
use Rattle.std.specs.FinMap.{FinMap}
use Rattle.sis_ranges.specs.Extents.{is_gap}
use Rattle.sis_ranges.proofs.extents.Extents.next_gap.Given as goal

pub record NoGap (m : FinMap nat_cmp ℕ) (start next : ℕ) : Type 0 where
  pub behind : start ≤ next
  pub mapped : (q : ℕ) → start ≤ q → q < next → is_gap m q ≡ false

abbrev pub invariant-loop-next : goal.invariant-loop-next
invariant-loop-next l = NoGap l.self l.from l.next

abbrev pub decreases-loop-next : goal.decreases-loop-next
decreases-loop-next l = l.below - l.next
