-- What staging writes, and where.
use Rattle.std.specs.Prelude.{◌≡◌, ℕ, ◌+◌, ◌/◌, ◌<◌, ◌≤◌, Bool, false, true, List, [], ◌∷◌, ◌++◌, length, map, flat_map, take, Option, IfSome, ⊤}
use Rattle.sis_disk.specs.declared.layout.Layout.{Layout}
use Rattle.sis_disk.specs.Record.{Call, Reads, Writes, Syncs, Seen, Rose}
use Rattle.sis_disk.specs.Layout.{first_byte}
use Rattle.sis_model.specs.declared.reply.Hindrance.{Hindrance}
use Rattle.sis_model.specs.declared.reply.Hindrance.TheVariants as hindrance
use Rattle.sis_places.specs.Places.{PlacesView}
use Rattle.sis_ranges.specs.Extents.{IsChain, place_end}
use Rattle.sis_table.specs.Edits.{map_edit}
use Rattle.sis_table.specs.Content.{block_at, run_bytes}
use Rattle.sis_table.specs.declared.edit.Edit.{Edit}
use Rattle.sis_ranges.specs.declared.run.Run.{Run}
use Rattle.sis_volume.specs.View.{TxnView, is_fresh}

-- neither table nor one of the edits maps a place of the run, and all are data blocks
abbrev pub IsFreshRun : Layout → PlacesView → List Edit → Run → Type 0
IsFreshRun l p edits r =
    (place : ℕ) → r.place ≤ place → place < place_end r → is_fresh l p edits place ≡ true

-- each of these runs of a file is so, and has no place of a run before it
abbrev pub AreFreshRuns : Layout → PlacesView → ℕ → List Edit → List Run → Type 0
AreFreshRuns l p file edits [] = ⊤
AreFreshRuns l p file edits (r ∷ rs) =
    IsFreshRun l p edits r × AreFreshRuns l p file (edits ++ map_edit file r ∷ []) rs

-- Blocks of a file, from `first` on, were written to fresh places, each block to its own, and new
-- edits map them there.
pub record Stages (l : Layout) (p : PlacesView) (old new : TxnView) (file first blocks : ℕ)
    (bytes : List ℕ) (live : Option (List ℕ)) (runs : List Run) : Type 0 where
  pub edits : new.edits ≡ old.edits ++ map (map_edit file) runs
  pub chain : IsChain first (first + blocks) runs
  pub fresh : AreFreshRuns l p file old.edits runs
  pub written : IfSome live (λ now. flat_map (run_bytes now) runs ≡ bytes)

-- the call is a write, to places that pass a test
abbrev pub WritesTo : (ℕ → Bool) → Call → Type 0
WritesTo test (Reads at len ok) = ⊥
WritesTo test (Writes at bytes ok) =
    (i : ℕ) → at ≤ i → i < at + length bytes → test (i / 4096) ≡ true
WritesTo test (Syncs ok) = ⊥

-- the call is a write, to data blocks that neither table nor one of the edits maps
abbrev pub WritesFresh : Layout → PlacesView → List Edit → Call → Type 0
WritesFresh l p edits call = WritesTo (is_fresh l p edits) call

-- What stands before the data blocks stays as it is, and each block that either table or one of the
-- edits maps.
pub record KeepsOthers (l : Layout) (p : PlacesView) (edits : List Edit) (old new : List ℕ)
    : Type 0 where
  pub size : length new ≡ length old
  pub areas : take (first_byte l) new ≡ take (first_byte l) old
  pub blocks : (place : ℕ) → is_fresh l p edits place ≡ false
      → block_at new place ≡ block_at old place

-- why staging may fail on a volume that is up: want of memory, where no call failed, or a fault of
-- the disk
abbrev pub HindersStaging : Seen → Seen → Hindrance → Type 0
HindersStaging old new hindrance.Memory = new.faults ≡ old.faults
HindersStaging old new hindrance.Disk = Rose old.faults new.faults
HindersStaging old new (hindrance.Limit kind) = ⊥
HindersStaging old new (hindrance.Full needed used total) = ⊥
HindersStaging old new (hindrance.TableFull needed cap) = ⊥
HindersStaging old new (hindrance.Down at) = ⊥
