use Rattle.std.proofs.Common.{◌≡◌, ℕ, ◌-◌, ◌<◌, ◌≤◌, Bool, not}
use Rattle.sis_places.specs.Inside.{is_neither}
use Rattle.sis_places.proofs.words.first.Given as goal

-- no number looked at so far passes
pub record NoneBefore (test : ℕ → Bool) (value : Bool) (from below at : ℕ) : Type 0 where
  pub behind : from ≤ at
  pub within : at ≤ below
  pub before : (i : ℕ) → from ≤ i → i < at → test i ≡ not value

abbrev pub invariant-loop-at : goal.invariant-loop-at
invariant-loop-at l = NoneBefore (is_neither l.current l.committed) l.spare l.from l.below l.at

abbrev pub decreases-loop-at : goal.decreases-loop-at
decreases-loop-at l = l.below - l.at
