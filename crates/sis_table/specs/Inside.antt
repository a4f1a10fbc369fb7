-- Words that only this crate's private functions cite: what each edit frees and takes.
use Rattle.std.specs.Prelude.{◌≡◌, ℕ, ◌+◌, ◌-◌, ◌<◌, ◌≤◌, ◌==◌, Bool, true, false, if◌then◌else◌, List, [], ◌∷◌, Option, None, Some}
use Rattle.std.specs.List.{AllByRecursion, list_any, range_with_len}
use Rattle.sis_disk.specs.declared.layout.Layout.{Layout}
use Rattle.sis_disk.specs.Layout.{first_place}
use Rattle.sis_ranges.specs.declared.run.Run.{Run}
use Rattle.sis_ranges.specs.Extents.{in_stretch}
use Rattle.sis_table.specs.declared.edit.Edit.{Edit}
use Rattle.sis_table.specs.declared.edit.Edit.TheVariants as edit
use Rattle.sis_table.specs.declared.node.Node.{Node}
use Rattle.sis_table.specs.declared.place_use.PlaceUse.{PlaceUse}
use Rattle.sis_table.specs.Edits.{edited}
use Rattle.sis_table.specs.Uses.{IsDataUse, used_after}
use Rattle.sis_table.specs.Volume.{VolumeTable, maps_place, node_with, place_in}

-- a block lies at the place
abbrev pub lies_at : ℕ → Option ℕ → Bool
lies_at place None = false
lies_at place (Some p) = p == place

-- one of the blocks from `first` up to before `end` lies at the place
abbrev pub lies_between : (ℕ → Option ℕ) → ℕ → ℕ → ℕ → Bool
lies_between at first end place =
    list_any (λ block. lies_at place (at block)) (range_with_len first (end - first))

-- a block of the file lies at the place, if the file is there
abbrev pub maps_by : Option Node → ℕ → Bool
maps_by None place = false
maps_by (Some n) place = maps_place place n

-- a place that the edit frees, and one that it takes
abbrev pub frees : VolumeTable → Edit → ℕ → Bool
frees v (edit.Make id kind name) place = false
frees v (edit.Drop id) place = maps_by (node_with v id) place
frees v (edit.Rename id name) place = false
frees v (edit.Size id size) place = false
frees v (edit.Map id first count at) place =
    lies_between (place_in v id) first (first + count) place
frees v (edit.Unmap id first count) place =
    lies_between (place_in v id) first (first + count) place
frees v (edit.Version id version) place = false

abbrev pub takes : Edit → ℕ → Bool
takes (edit.Make id kind name) place = false
takes (edit.Drop id) place = false
takes (edit.Rename id name) place = false
takes (edit.Size id size) place = false
takes (edit.Map id first count at) place = in_stretch at count place
takes (edit.Unmap id first count) place = false
takes (edit.Version id version) place = false

-- whether a place is used after an edit, where it was so before or wasn't, and after edits
abbrev pub used_by : VolumeTable → Edit → ℕ → Bool → Bool
used_by v e place before =
    if takes e place then true else if frees v e place then false else before

abbrev pub used_by_all : VolumeTable → List Edit → ℕ → Bool → Bool
used_by_all v [] place before = before
used_by_all v (e ∷ es) place before = used_by_all (edited v e) es place (used_by v e place before)

-- what was told of places says what the edits do to them
abbrev pub Tells : VolumeTable → List Edit → List PlaceUse → Type 0
Tells v es uses =
    (place : ℕ) (before : Bool) → used_after uses place before ≡ used_by_all v es place before

-- the places of a run, free from then on
abbrev pub freed : Run → PlaceUse
freed r = record { place = r.place; count = r.count; is_taken = false }

-- What was noted of blocks that are taken out, which lie so: their places are free from then on,
-- and are those of data blocks, as all places of the blocks are.
pub record Frees (is_free : ℕ → Bool) (at : ℕ → Option ℕ) (old new : List PlaceUse) : Type 0 where
  pub told : (place : ℕ) (before : Bool) → used_after new place before
      ≡ (if is_free place then false else used_after old place before)
  pub places : (l : Layout)
      → ((block place : ℕ) → at block ≡ Some place → (first_place l ≤ place) × (place < l.total))
      → AllByRecursion (IsDataUse l) old → AllByRecursion (IsDataUse l) new

-- what was noted of an edit
pub record Notes (v : VolumeTable) (e : Edit) (old new : List PlaceUse) : Type 0 where
  pub told : (place : ℕ) (before : Bool)
      → used_after new place before ≡ used_by v e place (used_after old place before)
  pub places : AllByRecursion (IsDataUse v.layout) old → AllByRecursion (IsDataUse v.layout) new
