use Rattle.std.proofs.Common.{◌≡◌, ℕ, ◌-◌, ◌≤◌, Bool}
use Rattle.sis_places.specs.Places.{PlacesView, with_bits}
use Rattle.sis_places.proofs.places.Places.put.Given as goal

-- the places up to here are done
pub record DoneTo (old now : PlacesView) (start end at : ℕ) (value : Bool) : Type 0 where
  pub behind : start ≤ at
  pub within : at ≤ end
  pub is : now ≡ with_bits start (at - start) value old

abbrev pub invariant-loop-at : goal.invariant-loop-at
invariant-loop-at l = DoneTo l.fn.self l.self l.start l.end l.at l.value

abbrev pub decreases-loop-at : goal.decreases-loop-at
decreases-loop-at l = l.end - l.at
