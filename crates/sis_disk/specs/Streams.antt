-- What a source takes, what is written to a sink, and what a count of faults says of an answer.
use Rattle.std.specs.Prelude.{◌≡◌, ℕ, ◌+◌, ◌≤◌, ◌++◌, List, [], Option, None, Some, Result, OnErr, OnOk, ⊤}
use Rattle.sis_disk.specs.Record.{Rose}

-- an error comes only with a fault, and each fault with an error
pub record HasCause {T E : Type 0} (before now : ℕ) (result : Result T E) : Type 0 where
  pub later : before ≤ now
  pub failed : OnErr result (Rose before now)
  pub once : OnErr result (now ≤ before + 1)
  pub quiet : OnOk result (now ≡ before)

-- Where a source tells what it has left, a read takes the next bytes, and none only at the end.
abbrev pub Takes : Option (List ℕ) → Option (List ℕ) → List ℕ → Type 0
Takes None None bytes = ⊤
Takes (Some left) (Some rest) bytes = (left ≡ bytes ++ rest) × (bytes ≡ [] → rest ≡ [])
Takes None (Some rest) bytes = ⊥
Takes (Some left) None bytes = ⊥

-- a failed read takes nothing
abbrev pub TakesNothing : Option (List ℕ) → Option (List ℕ) → Type 0
TakesNothing old new = new ≡ old

-- Where a sink tells what was written, the bytes were appended.
abbrev pub Appended : Option (List ℕ) → Option (List ℕ) → List ℕ → Type 0
Appended None None bytes = ⊤
Appended (Some old) (Some new) bytes = new ≡ old ++ bytes
Appended None (Some new) bytes = ⊥
Appended (Some old) None bytes = ⊥

-- a front of the bytes was appended
abbrev pub AppendedFront : Option (List ℕ) → Option (List ℕ) → List ℕ → Type 0
AppendedFront old new bytes =
    (front rest : List ℕ) × (bytes ≡ front ++ rest) × Appended old new front
