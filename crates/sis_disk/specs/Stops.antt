-- What a stop may leave while calls are made.
use Rattle.std.specs.Prelude.{◌≡◌, ℕ, ◌+◌, ◌<◌, ◌≤◌, false, List, [], ◌∷◌, ◌++◌, Option, Some, None}
use Rattle.sis_disk.specs.Record.{Call, DiskRecord, State, Seen, after, state_of, IsImage, is_loose}

-- each image of this state has P
abbrev pub Shows : (List ℕ → Type 0) → State → Type 0
Shows P s = (m : List ℕ) → IsImage s m → P m

-- each image has P, before the first of these calls and after each of them
abbrev pub ShowsAlong : (List ℕ → Type 0) → State → List Call → Type 0
ShowsAlong P s [] = Shows P s
ShowsAlong P s (c ∷ cs) = Shows P s × ShowsAlong P (after s c) cs

-- the record with some calls more
abbrev pub with_calls : List Call → DiskRecord → DiskRecord
with_calls more r = record { opening = r.opening; calls = r.calls ++ more }

-- from one record to a later one each image has P
abbrev pub GoesOn : (List ℕ → Type 0) → Option DiskRecord → Option DiskRecord → Type 0
GoesOn P None new = new ≡ None
GoesOn P (Some r) new =
    (more : List Call) × (new ≡ Some (with_calls more r)) × ShowsAlong P (state_of r) more

-- the record went on by calls of this kind
abbrev pub GoesOnBy : (List Call → Type 0) → Option DiskRecord → Option DiskRecord → Type 0
GoesOnBy Are None new = new ≡ None
GoesOnBy Are (Some r) new = (more : List Call) × (new ≡ Some (with_calls more r)) × Are more

-- the calls of some function went by
pub record Elapses (old new : Seen) : Type 0 where
  pub size : new.size ≡ old.size
  pub calls : old.calls ≤ new.calls
  pub faults : old.faults ≤ new.faults

-- A stop while they went by, or before or after, leaves what has P.
pub record Leaves (P : List ℕ → Type 0) (old new : Seen) : Type 0 where
  pub told : GoesOn P old.told new.told

-- where a disk tells its calls, its state has P
abbrev pub Now : (State → Type 0) → Seen → Type 0
Now P seen = (r : DiskRecord) → seen.told ≡ Some r → P (state_of r)

-- no position of the n from `at` on is loose
abbrev pub IsFirm : List (ℕ × ℕ) → ℕ → ℕ → Type 0
IsFirm loose at n = (i : ℕ) → at ≤ i → i < at + n → is_loose loose i ≡ false

-- the same with n more loose positions from `at` on
abbrev pub loosened : ℕ → ℕ → State → State
loosened at n s = record { live = s.live; loose = (at, n) ∷ s.loose }
