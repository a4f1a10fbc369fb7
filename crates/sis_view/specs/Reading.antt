-- What fetching lends, and what it leaves.
use Rattle.std.specs.Prelude.{◌≡◌, ℕ, ◌+◌, ◌*◌, ◌≤◌, List, slice_range, Option, Result, OnErr, OnOk}
use Rattle.std.specs.List.{AllByRecursion}
use Rattle.std.specs.Option.{option_map}
use Rattle.sis_disk.specs.Record.{Call, Reads, Writes, Syncs, Seen, Rose, live_of, state_of}
use Rattle.sis_disk.specs.Stops.{Elapses, GoesOnBy}

-- the bytes of a block
abbrev pub block_of : List ℕ → ℕ → List ℕ
block_of live block = slice_range live (4096 * block) (4096 * block + 4096)

-- the loose ranges, where the disk tells them
abbrev pub loose_of : Seen → Option (List (ℕ × ℕ))
loose_of seen = option_map (λ r. (state_of r).loose) seen.told

-- the call is a read within so many bytes
abbrev pub IsReadWithin : ℕ → Call → Type 0
IsReadWithin size (Reads at len ok) = at + len ≤ size
IsReadWithin size (Writes at bytes ok) = ⊥
IsReadWithin size (Syncs ok) = ⊥

-- At most so many calls were made, each of them a read within the disk. So no byte changed, and no
-- position became loose or firm.
pub record OnlyReads (most : ℕ) (old new : Seen) : Type 0 where
  pub elapses : Elapses old new
  pub calls : new.calls ≤ old.calls + most
  pub told : GoesOnBy (AllByRecursion (IsReadWithin old.size)) old.told new.told
  pub live : live_of new ≡ live_of old
  pub loose : loose_of new ≡ loose_of old

-- What a fetch leaves. The count of faults rises by one where it failed, and else stands still.
pub record Fetched {T E : Type 0} (most : ℕ) (result : Result T E) (old new : Seen) : Type 0 where
  pub reads : OnlyReads most old new
  pub cause : OnErr result (Rose old.faults new.faults)
  pub once : OnErr result (new.faults ≤ old.faults + 1)
  pub quiet : OnOk result (new.faults ≡ old.faults)
