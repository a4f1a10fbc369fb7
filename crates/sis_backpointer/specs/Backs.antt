-- Backpointers as a list: which lists rise, what is added and taken out, and their bytes.
use Rattle.std.specs.Prelude.{◌≡◌, ℕ, zero, suc, ◌+◌, ◌/◌, ◌%◌, ◌^◌, ◌<◌, ◌==◌, ◌&&◌, not, nat_lt, Bool, true, if◌then◌else◌, List, [], ◌∷◌, ◌++◌, length, map, drop, find, filter, flat_map, Option, Some, None, Result, Ok, Err, ⊤}
use Rattle.std.specs.List.{list_any}
use Rattle.std.specs.List.Sorted.{IsStrictlySortedBy}
use Rattle.std.specs.Option.{option_map}
use Rattle.std.specs.Ordering.{nat_cmp}
use Rattle.byteorder.specs.Endian.{little_bytes, little_number}
use Rattle.sis_reading.specs.Steps.{◌>>=◌, guard}
use Rattle.sis_backpointer.specs.declared.back.Back.{Back}
use Rattle.sis_backpointer.specs.declared.fault.BackFault.{BackFault}
use Rattle.sis_backpointer.specs.declared.fault.BackFault.TheVariants as faults

-- ---- lists of backpointers

abbrev pub index_of : Back → ℕ
index_of b = b.index

abbrev pub file_id : Back → ℕ
file_id b = b.file

-- the indexes rise strictly, so none comes twice
abbrev pub IsRising : List Back → Type 0
IsRising backs = IsStrictlySortedBy nat_cmp (map index_of backs)

-- whether the backpointer has this index, or both this index and this file
abbrev pub is_at : ℕ → Back → Bool
is_at index b = b.index == index

abbrev pub is_pair : ℕ → ℕ → Back → Bool
is_pair index file b = (b.index == index) && (b.file == file)

-- whether its index is below this one
abbrev pub is_below : ℕ → Back → Bool
is_below index b = nat_lt b.index index

-- some backpointer has this index, or both this index and this file
abbrev pub has_index : ℕ → List Back → Bool
has_index index backs = list_any (is_at index) backs

abbrev pub has_pair : ℕ → ℕ → List Back → Bool
has_pair index file backs = list_any (is_pair index file) backs

-- the file of the first backpointer with this index
abbrev pub file_of : ℕ → List Back → Option ℕ
file_of index backs = option_map file_id (find (is_at index) backs)

-- the list with one more, in front of the first one with an index that isn't lower
abbrev pub with_back : Back → List Back → List Back
with_back b [] = b ∷ []
with_back b (x ∷ xs) = if nat_lt x.index b.index then x ∷ with_back b xs else b ∷ x ∷ xs

-- the list without the one of this index
abbrev pub without_back : ℕ → List Back → List Back
without_back index backs = filter (λ b. not (is_at index b)) backs

-- why a backpointer may be refused
abbrev pub RefusesBack : Back → List Back → BackFault → Type 0
RefusesBack b backs (faults.Present index) = (index ≡ b.index) × (has_index b.index backs ≡ true)
RefusesBack b backs (faults.Length have) = ⊥
RefusesBack b backs (faults.Order at) = ⊥
RefusesBack b backs faults.Memory = ⊤

-- ---- their bytes

-- a number of eight bytes, the lowest first
unfoldable pub le8 : ℕ → List ℕ
le8 n = little_bytes 8 n

-- index and file
unfoldable pub back_text : Back → List ℕ
back_text b = le8 b.index ++ le8 b.file

-- one backpointer behind the other
abbrev pub backs_text : List Back → List ℕ
backs_text backs = flat_map back_text backs

-- both numbers have 64 bits
pub record IsBack (b : Back) : Type 0 where
  pub index : b.index < 2 ^ 64
  pub file : b.file < 2 ^ 64

-- the backpointer that the bytes begin with, and so many
abbrev pub back_at : List ℕ → Back
back_at bytes = record { index = little_number 8 bytes; file = little_number 8 (drop 8 bytes) }

abbrev pub entries_at : ℕ → List ℕ → List Back
entries_at zero bytes = []
entries_at (suc n) bytes = back_at bytes ∷ entries_at n (drop 16 bytes)

-- where the first one begins whose index isn't above the one before, if the first of all is here
abbrev pub first_fall : ℕ → List Back → Option ℕ
first_fall at [] = None
first_fall at (b ∷ []) = None
first_fall at (b ∷ c ∷ backs) =
    if nat_lt b.index c.index then first_fall (at + 16) (c ∷ backs) else Some (at + 16)

-- these backpointers, where no index falls
abbrev pub unless_fall : List Back → Option ℕ → Result (List Back) BackFault
unless_fall backs None = Ok backs
unless_fall backs (Some at) = Err (faults.Order at)

abbrev pub in_order : List Back → Result (List Back) BackFault
in_order backs = unless_fall backs (first_fall 0 backs)

-- what some bytes say as backpointers, or the first fault
unfoldable pub backs_at : List ℕ → Result (List Back) BackFault
backs_at bytes = do
  a ← guard (faults.Length (length bytes)) (not (length bytes % 16 == 0)) (tt {0})
  in_order (entries_at (length bytes / 16) bytes)

-- the fault of the reading that an error names; none where memory ran out
abbrev pub named : BackFault → Option BackFault
named (faults.Present index) = Some (faults.Present index)
named (faults.Length have) = Some (faults.Length have)
named (faults.Order at) = Some (faults.Order at)
named faults.Memory = None
