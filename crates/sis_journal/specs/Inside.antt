-- Words that only private functions cite.
use Rattle.std.specs.Prelude.{◌≡◌, ◌⊎◌, ℕ, ◌+◌, ◌≤◌, Bool, true, false, not, List, [], length, slice_range, Result, Ok, Err, ⊤}
use Rattle.std.specs.List.{AllByRecursion}
use Rattle.sis_disk.specs.declared.layout.Layout.{Layout}
use Rattle.sis_disk.specs.Areas.{area_bytes, area_start}
use Rattle.sis_disk.specs.Layout.{table_cap}
use Rattle.sis_disk.specs.Record.{Call, Writes, Syncs, Made, NotMade, Seen, State, live_of}
use Rattle.sis_disk.specs.Stops.{Elapses}
use Rattle.sis_journal.specs.declared.fault.OpenFault.{OpenFault}
use Rattle.sis_journal.specs.declared.fault.OpenFault.TheVariants as faults
use Rattle.sis_journal.specs.Opening.{IsRead}
use Rattle.sis_disk.specs.Stops.{GoesOnBy}
use Rattle.sis_journal.specs.Texts.{KeepsText, KeepsData, made_stable}

-- ---- opening

-- the fault isn't one of the image or its files
abbrev pub IsOutside : OpenFault → Type 0
IsOutside faults.Disk = ⊤
IsOutside faults.Memory = ⊤
IsOutside (faults.Image at kind) = ⊥
IsOutside (faults.Bad kind file index) = ⊥

-- at most so many calls went by, and each of them read
pub record OnlyReads (most : ℕ) (old new : Seen) : Type 0 where
  pub elapses : Elapses old new
  pub calls : new.calls ≤ old.calls + most
  pub told : GoesOnBy (AllByRecursion IsRead) old.told new.told
  pub live : live_of new ≡ live_of old

-- ---- committing

-- the call failed, or was refused
abbrev pub Failed : (Bool → Call) → Seen → Seen → Type 0
Failed call old new = Made (call false) old new ⊎ NotMade old new

-- A write, and then a sync where the write succeeded.
abbrev pub WritesStable : {T E : Type 0} → ℕ → List ℕ → Result T E → Seen → Seen → Type 0
WritesStable at bytes (Ok x) old new =
    (mid : Seen) × Made (Writes at bytes true) old mid × Made (Syncs true) mid new
WritesStable at bytes (Err e) old new =
    Failed (Writes at bytes) old new
    ⊎ ((mid : Seen) × Made (Writes at bytes true) old mid × Failed Syncs mid new)

-- The old text is kept, the other area has the new one, nothing is loose, and the data are those of
-- an earlier state.
pub record IsReady (l : Layout) (second : Bool) (old new : List ℕ) (before s : State) : Type 0 where
  pub keeps : KeepsText l second old s
  pub fits : length new ≤ table_cap l
  pub area : slice_range s.live (area_start l (not second))
      (area_start l (not second) + length (area_bytes new)) ≡ area_bytes new
  pub stable : s.loose ≡ []
  pub blocks : KeepsData l (made_stable before) s.live
