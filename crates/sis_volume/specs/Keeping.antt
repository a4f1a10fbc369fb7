-- What writes to some places leave as it was. Only private functions cite these words.
use Rattle.std.specs.Prelude.{◌≡◌, ℕ, ◌+◌, ◌*◌, ◌/◌, ◌<◌, ◌≤◌, Bool, true, false, List, [], ◌∷◌, ◌++◌, length, take, slice_index, slice_index_or, ◌||◌, Option, None, Some, IfSome}
use Rattle.std.specs.List.{AllByRecursion, list_any}
use Rattle.sis_disk.specs.declared.layout.Layout.{Layout}
use Rattle.sis_disk.specs.Causes.{StaysUp}
use Rattle.sis_disk.specs.Layout.{first_place}
use Rattle.sis_disk.specs.Record.{DiskRecord, Seen, State, is_loose, state_of}
use Rattle.sis_disk.specs.Stops.{Elapses, GoesOnBy, Leaves}
use Rattle.sis_places.specs.Places.{PlacesView}
use Rattle.sis_places.specs.declared.stretch.Stretch.{Stretch}
use Rattle.sis_ranges.specs.declared.run.Run.{Run}
use Rattle.sis_ranges.specs.Extents.{has_place, place_end}
use Rattle.sis_table.specs.Content.{run_bytes}
use Rattle.sis_table.specs.Edits.{map_edit}
use Rattle.sis_table.specs.Uses.{used_after}
use Rattle.sis_table.specs.declared.edit.Edit.{Edit}
use Rattle.sis_table.specs.declared.place_use.PlaceUse.{PlaceUse}
use Rattle.sis_volume.specs.Staging.{IsFreshRun, WritesTo}
use Rattle.sis_volume.specs.View.{TxnView, is_fresh, maps_to}
use Rattle.sis_volume.specs.declared.txn.Front.{Front}
use Rattle.sis_volume.specs.declared.txn.Front.TheVariants as front

-- ---- writes to the places that pass a test

-- no position of another place changed its byte or became loose
pub record KeepsOut (test : ℕ → Bool) (old new : State) : Type 0 where
  pub size : length new.live ≡ length old.live
  pub live : (i : ℕ) → i < length old.live → test (i / 4096) ≡ false
      → slice_index new.live i ≡ slice_index old.live i
  pub loose : (i : ℕ) → i < length old.live → test (i / 4096) ≡ false
      → is_loose old.loose i ≡ false → is_loose new.loose i ≡ false

-- an image has the live bytes of this state at all other positions that weren't loose then
pub record AgreesOut (test : ℕ → Bool) (s : State) (m : List ℕ) : Type 0 where
  pub size : length m ≡ length s.live
  pub same : (i : ℕ) → i < length m → test (i / 4096) ≡ false → is_loose s.loose i ≡ false
      → slice_index m i ≡ slice_index s.live i

-- The disk's calls were writes to such places alone, behind the byte `first`.
pub record WritesOnly (first : ℕ) (test : ℕ → Bool) (old new : Seen) : Type 0 where
  pub elapses : Elapses old new
  pub up : StaysUp first old new
  pub told : GoesOnBy (AllByRecursion (WritesTo test)) old.told new.told
  pub untold : old.told ≡ None → new.told ≡ None
  pub keeps : (r : DiskRecord) → old.told ≡ Some r → (s : DiskRecord) × (new.told ≡ Some s)
      × KeepsOut test (state_of r) (state_of s)
  pub images : (r : DiskRecord) → old.told ≡ Some r → Leaves (AgreesOut test (state_of r)) old new

-- ---- bits of the current table

-- the bits of so many places, from `low` on, are as before, but for those of these runs, which are
-- set
pub record TakesRuns (low : ℕ) (runs : List Run) (old new : PlacesView) : Type 0 where
  pub size : length new.current ≡ length old.current
  pub current : (i : ℕ) → i < length old.current → slice_index_or new.current i false
      ≡ (slice_index_or old.current i false || list_any (has_place (low + i)) runs)
  pub committed : new.committed ≡ old.committed

-- they are what becomes of them where places are taken and freed so
pub record ChangesBits (low : ℕ) (uses : List PlaceUse) (old new : PlacesView) : Type 0 where
  pub size : length new.current ≡ length old.current
  pub current : (i : ℕ) → i < length old.current → slice_index_or new.current i false
      ≡ used_after uses (low + i) (slice_index_or old.current i false)
  pub committed : new.committed ≡ old.committed

-- ---- runs of fresh places

-- neighbouring places that are fresh, from one on, at most so many; the first is that of `low`
pub record IsNextFresh (l : Layout) (p : PlacesView) (edits : List Edit) (from most : ℕ)
    (s : Stretch) : Type 0 where
  pub behind : from ≤ s.start
  pub some : 1 ≤ s.count
  pub few : s.count ≤ most
  pub within : s.start + s.count ≤ length p.current
  pub each : (i : ℕ) → s.start ≤ i → i < s.start + s.count
      → is_fresh l p edits (first_place l + i) ≡ true

-- such places, or none from there on is fresh
abbrev pub FindsFresh : Layout → PlacesView → List Edit → ℕ → ℕ → Option Stretch → Type 0
FindsFresh l p edits from most None =
    (i : ℕ) → from ≤ i → is_fresh l p edits (first_place l + i) ≡ false
FindsFresh l p edits from most (Some s) = IsNextFresh l p edits from most s

-- a run of fresh places, for at most so many blocks from `first` on
pub record IsNextRun (l : Layout) (p : PlacesView) (edits : List Edit) (first most : ℕ) (r : Run)
    : Type 0 where
  pub begins : r.first ≡ first
  pub some : 1 ≤ r.count
  pub few : r.count ≤ most
  pub high : place_end r ≤ l.total
  pub fresh : IsFreshRun l p edits r

-- the first of these blocks were written to such a run, and are mapped there
pub record StagesRun (l : Layout) (p : PlacesView) (old new : TxnView) (file first : ℕ)
    (bytes : List ℕ) (live : Option (List ℕ)) (r : Run) : Type 0 where
  pub next : IsNextRun l p old.edits first (length bytes / 4096) r
  pub txn : new ≡ record { edits = old.edits ++ map_edit file r ∷ [] }
  pub written : IfSome live (λ now. run_bytes now r ≡ take (4096 * r.count) bytes)

-- what edits map of so many neighbouring places, from the first one on
abbrev pub IsFront : List Edit → ℕ → ℕ → Front → Type 0
IsFront edits place count (front.Mapped end) = (place < end)
    × ((q : ℕ) → place ≤ q → q < end → list_any (maps_to q) edits ≡ true)
IsFront edits place count (front.Free n) = (1 ≤ n) × (n ≤ count)
    × ((q : ℕ) → place ≤ q → q < place + n → list_any (maps_to q) edits ≡ false)

-- the run's places are among so many, from `low` on
pub record IsAmong (low n : ℕ) (r : Run) : Type 0 where
  pub begins : low ≤ r.place
  pub ends : place_end r ≤ low + n
