-- The calls of a disk: what it then has, and what a stop may leave.
use Rattle.std.specs.Prelude.{◌≡◌, ◌⊎◌, ℕ, ◌+◌, ◌-◌, ◌^◌, ◌<◌, ◌≤◌, min, nat_le, nat_lt, Bool, true, false, ◌&&◌, ◌||◌, List, [], ◌∷◌, ◌++◌, length, take, drop, slice_get, slice_index, Option, Some, IfSome, Result, OnOk, OnErr}
use Rattle.std.specs.Option.{option_map}

-- a call that was made: its range, the bytes of a write, and whether it succeeded
pub data Call : Type 0 where
  Reads : (at len : ℕ) (ok : Bool) → Call
  Writes : (at : ℕ) (bytes : List ℕ) (ok : Bool) → Call
  Syncs : (ok : Bool) → Call

-- all calls of a disk, the first one first, and the bytes that it opened with
pub record DiskRecord : Type 0 where
  pub opening : List ℕ
  pub calls : List Call

-- the live bytes, and the ranges (start and length) whose bytes a stop may change
pub record State : Type 0 where
  pub live : List ℕ
  pub loose : List (ℕ × ℕ)

-- old with these bytes in place of those at `at`
abbrev pub laid : List ℕ → ℕ → List ℕ → List ℕ
laid old at bytes = take at old ++ bytes ++ drop (at + length bytes) old

-- the state after one call more
abbrev pub after : State → Call → State
after s (Reads at len ok) = s
after s (Writes at bytes true) =
    record { live = laid s.live at bytes; loose = (at, length bytes) ∷ s.loose }
after s (Writes at bytes false) =
    record { live = s.live; loose = (at, length bytes) ∷ s.loose }
after s (Syncs true) = record { live = s.live; loose = [] }
after s (Syncs false) = s

-- the state after some calls more
abbrev pub after_all : State → List Call → State
after_all s [] = s
after_all s (c ∷ cs) = after_all (after s c) cs

-- the state after the first k calls
abbrev pub state_at : DiskRecord → ℕ → State
state_at r k = after_all (record { live = r.opening; loose = [] }) (take k r.calls)

-- the state after all calls
abbrev pub state_of : DiskRecord → State
state_of r = after_all (record { live = r.opening; loose = [] }) r.calls

-- what a read gives
abbrev pub live_bytes : DiskRecord → List ℕ
live_bytes r = (state_of r).live

-- the position lies in one of the ranges
abbrev pub is_loose : List (ℕ × ℕ) → ℕ → Bool
is_loose [] i = false
is_loose (range ∷ ranges) i =
    (nat_le range.0 i && nat_lt i (range.0 + range.1)) || is_loose ranges i

-- what a stop in this state may leave
pub record IsImage (s : State) (m : List ℕ) : Type 0 where
  pub size : length m ≡ length s.live
  pub same : (i : ℕ) → i < length m → is_loose s.loose i ≡ false
      → slice_index m i ≡ slice_index s.live i

-- what a stop may leave after the first k calls
abbrev pub IsImageAfter : DiskRecord → ℕ → List ℕ → Type 0
IsImageAfter r k m = IsImage (state_at r k) m

-- the record with one call more
abbrev pub with_call : Call → DiskRecord → DiskRecord
with_call c r = record { opening = r.opening; calls = r.calls ++ c ∷ [] }

-- the count rose, or stands at the end of its type
abbrev pub Rose : ℕ → ℕ → Type 0
Rose old new = min (old + 1) (2 ^ 64 - 1) ≤ new

-- What contracts see of a disk. `told` has its calls, where it tells them.
pub record Seen : Type 0 where
  pub size : ℕ
  pub calls : ℕ
  pub faults : ℕ
  pub told : Option DiskRecord

-- a call was made
pub record Made (c : Call) (old new : Seen) : Type 0 where
  pub calls : new.calls ≡ old.calls + 1
  pub told : new.told ≡ option_map (with_call c) old.told

-- the disk refused a call, so it wasn't made
pub record NotMade (old new : Seen) : Type 0 where
  pub calls : new.calls ≡ old.calls
  pub told : new.told ≡ old.told

-- What a call leaves. Given whether it succeeded, `call` is the call. A refused call fails. The
-- count of faults rises by one for a call that fails, and for no other.
pub record Went {T E : Type 0} (call : Bool → Call) (result : Result T E)
    (old new : Seen) : Type 0 where
  pub size : new.size ≡ old.size
  pub faults : old.faults ≤ new.faults
  pub cause : OnErr result (Rose old.faults new.faults)
  pub once : OnErr result (new.faults ≤ old.faults + 1)
  pub quiet : OnOk result (new.faults ≡ old.faults)
  pub ok : OnOk result (Made (call true) old new)
  pub err : OnErr result (Made (call false) old new ⊎ NotMade old new)

-- the live bytes, where the disk tells them
abbrev pub live_of : Seen → Option (List ℕ)
live_of seen = option_map live_bytes seen.told

-- the count of calls is that of the record, where the disk tells it
abbrev pub IsCounted : Seen → Type 0
IsCounted seen = IfSome seen.told (λ r. length r.calls ≡ seen.calls)

-- call number n of the record is a sync that succeeded
abbrev pub SyncsAt : ℕ → DiskRecord → Type 0
SyncsAt n r = slice_get r.calls n ≡ Some (Syncs true)

-- the disk tells these bytes, and no call yet
abbrev pub BeginsWith : List ℕ → Seen → Type 0
BeginsWith m seen = seen.told ≡ Some (record { opening = m; calls = [] })
