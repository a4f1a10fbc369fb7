-- What was taken from a source.
use Rattle.std.specs.Prelude.{◌≡◌, ℕ, ◌≤◌, List, ◌++◌, length, Option, Some, None, ⊤}

-- Where a source tells what it has left, this front of it was taken.
abbrev pub HasRead : Option (List ℕ) → Option (List ℕ) → List ℕ → Type 0
HasRead None None front = ⊤
HasRead (Some bytes) (Some rest) front = bytes ≡ front ++ rest
HasRead None (Some rest) front = ⊥
HasRead (Some bytes) None front = ⊥

-- so many bytes were taken, or fewer
abbrev pub TakesAtMost : ℕ → Option (List ℕ) → Option (List ℕ) → Type 0
TakesAtMost most old new = (front : List ℕ) × (length front ≤ most) × HasRead old new front
