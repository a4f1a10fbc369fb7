-- Which text an image holds, and what no stop takes back.
use Rattle.std.specs.Prelude.{◌≡◌, ◌⊎◌, ℕ, ◌+◌, ◌*◌, ◌<◌, ◌≤◌, ◌==◌, Bool, false, List, [], length, take, slice_index, slice_range}
use Rattle.sis_disk.specs.declared.layout.Layout.{Layout}
use Rattle.sis_disk.specs.Areas.{area_bytes, selected_at}
use Rattle.sis_disk.specs.Layout.{first_place, table_cap}
use Rattle.sis_disk.specs.Record.{State, is_loose}
use Rattle.sis_disk.specs.Stops.{IsFirm}
use Rattle.sis_disk.specs.Superblock.{superblock}

-- an image holds this text
pub record HoldsText (l : Layout) (text m : List ℕ) : Type 0 where
  pub size : length m ≡ 4096 * l.total
  pub superblock : take 4096 m ≡ superblock l
  pub fits : length text ≤ table_cap l
  pub area : slice_range m (selected_at l m) (selected_at l m + length (area_bytes text))
      ≡ area_bytes text

-- the disk's live bytes hold this text, this area is selected, and no position before the data
-- blocks is loose
pub record KeepsText (l : Layout) (second : Bool) (text : List ℕ) (s : State) : Type 0 where
  pub holds : HoldsText l text s.live
  pub selector : (slice_index s.live 4096 == 1) ≡ second
  pub firm : IsFirm s.loose 0 (4096 * first_place l)

-- at the firm positions among the data blocks the image has these live bytes
pub record KeepsData (l : Layout) (s : State) (m : List ℕ) : Type 0 where
  pub size : length m ≡ length s.live
  pub same : (i : ℕ) → 4096 * first_place l ≤ i → i < length m → is_loose s.loose i ≡ false
      → slice_index m i ≡ slice_index s.live i

-- the same live bytes, and nothing loose
abbrev pub made_stable : State → State
made_stable s = record { live = s.live; loose = [] }

-- what a stop within a commit may leave: the old text with the data as it was firm before, or the
-- new text with all live data
abbrev pub OldOrNew : Layout → List ℕ → List ℕ → State → List ℕ → Type 0
OldOrNew l old new s m =
    (HoldsText l old m × KeepsData l s m) ⊎ (HoldsText l new m × KeepsData l (made_stable s) m)
