-- What opening does to a disk, and what it answers.
use Rattle.std.specs.Prelude.{◌≡◌, ℕ, ◌+◌, ◌≤◌, true, false, List, [], ◌∷◌, Result, Err, ⊤}
use Rattle.std.specs.List.{AllByRecursion}
use Rattle.sis_disk.specs.Record.{Call, Reads, Writes, Syncs, Seen, Rose, live_of}
use Rattle.sis_disk.specs.Stops.{Elapses, GoesOnBy}
use Rattle.sis_disk.specs.Superblock.{ImageFault}
use Rattle.sis_journal.specs.declared.fault.OpenFault.{OpenFault}
use Rattle.sis_journal.specs.declared.fault.OpenFault.TheVariants as faults

-- the fault is the one that reading gives, unless the disk failed or memory ran out
abbrev pub FailsReading : {V : Type 0} → OpenFault → Result V ImageFault → Type 0
FailsReading faults.Disk read = ⊤
FailsReading faults.Memory read = ⊤
FailsReading (faults.Image at kind) read = read ≡ Err (at, kind)
FailsReading (faults.Bad kind file index) read = ⊥

-- where the disk failed, its count of faults rose
abbrev pub Caused : OpenFault → ℕ → ℕ → Type 0
Caused faults.Disk old new = Rose old new
Caused faults.Memory old new = ⊤
Caused (faults.Image at kind) old new = ⊤
Caused (faults.Bad kind file index) old new = ⊤

-- the count of faults is as it was, or one higher at most where the disk failed
abbrev pub CountsFault : OpenFault → ℕ → ℕ → Type 0
CountsFault faults.Disk old new = new ≤ old + 1
CountsFault faults.Memory old new = new ≡ old
CountsFault (faults.Image at kind) old new = new ≡ old
CountsFault (faults.Bad kind file index) old new = new ≡ old

abbrev pub IsRead : Call → Type 0
IsRead (Reads at len ok) = ⊤
IsRead (Writes at bytes ok) = ⊥
IsRead (Syncs ok) = ⊥

-- no call, or a sync, and reads alone where it succeeded
abbrev pub AreSyncThenReads : List Call → Type 0
AreSyncThenReads [] = ⊤
AreSyncThenReads (Syncs true ∷ more) = AllByRecursion IsRead more
AreSyncThenReads (Syncs false ∷ more) = more ≡ []
AreSyncThenReads (Reads at len ok ∷ more) = ⊥
AreSyncThenReads (Writes at bytes ok ∷ more) = ⊥

-- a sync that succeeded, and reads alone
abbrev pub AreSyncedReads : List Call → Type 0
AreSyncedReads [] = ⊥
AreSyncedReads (Syncs true ∷ more) = AllByRecursion IsRead more
AreSyncedReads (Syncs false ∷ more) = ⊥
AreSyncedReads (Reads at len ok ∷ more) = ⊥
AreSyncedReads (Writes at bytes ok ∷ more) = ⊥

-- The sync succeeded, where the disk tells its calls.
pub record IsSynced (old new : Seen) : Type 0 where
  pub told : GoesOnBy AreSyncedReads old.told new.told

-- A sync went by, and behind it at most so many reads. So no byte changed.
pub record SyncThenReads (most : ℕ) (old new : Seen) : Type 0 where
  pub elapses : Elapses old new
  pub calls : new.calls ≤ old.calls + most + 1
  pub told : GoesOnBy AreSyncThenReads old.told new.told
  pub live : live_of new ≡ live_of old
