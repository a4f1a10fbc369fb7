-- What contracts see of a disk in memory, and how it answers.
use Rattle.std.specs.Prelude.{◌≡◌, ◌⊎◌, ℕ, ◌+◌, ◌<◌, Bool, true, false, List, length, Some, Result, OnOk, OnErr}
use Rattle.sis_disk.specs.Record.{Call, DiskRecord, Seen, live_bytes, with_call}
use Rattle.sis_disk.specs.Failing.{is_to_fail, raised}

-- its record, the numbers of the calls to fail, the room for further calls in bytes, and its faults
pub record MemoryView : Type 0 where
  pub told : DiskRecord
  pub fails : List ℕ
  pub room : ℕ
  pub faults : ℕ

-- the next call is one to fail
abbrev pub fails_next : MemoryView → Bool
fails_next disk = is_to_fail disk.fails (length disk.told.calls)

-- the same as the trait's clauses see it
abbrev pub seen_of : MemoryView → Seen
seen_of disk = record {
  size = length (live_bytes disk.told);
  calls = length disk.told.calls;
  faults = disk.faults;
  told = Some disk.told;
}

-- the call stands in the record, and took so much of the room
pub record Enters (call : Call) (cost : ℕ) (old new : MemoryView) : Type 0 where
  pub told : new.told ≡ with_call call old.told
  pub room : cost + new.room ≡ old.room

-- the disk refused a call for want of room, and nothing else
pub record Refuses (cost : ℕ) (old new : MemoryView) : Type 0 where
  pub cause : old.room < cost
  pub told : new.told ≡ old.told
  pub room : new.room ≡ old.room

-- What a call does which takes so much of the room. It is refused exactly where less is left, and
-- any other call fails exactly where its number is one to fail.
pub record Answers {T E : Type 0} (call : Bool → Call) (cost : ℕ) (result : Result T E)
    (old new : MemoryView) : Type 0 where
  pub ok : OnOk result
      ((fails_next old ≡ false) × Enters (call true) cost old new × (new.faults ≡ old.faults))
  pub err : OnErr result
      (((fails_next old ≡ true) × Enters (call false) cost old new) ⊎ Refuses cost old new)
  pub fault : OnErr result (new.faults ≡ raised old.faults)
  pub fails : new.fails ≡ old.fails
