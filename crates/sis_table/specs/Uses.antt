-- What edits do to the places of the image.
use Rattle.std.specs.Prelude.{◌≡◌, ℕ, ◌+◌, ◌≤◌, Bool, true, false, if◌then◌else◌, List, [], ◌∷◌, ⊤}
use Rattle.sis_disk.specs.declared.layout.Layout.{Layout}
use Rattle.sis_disk.specs.Layout.{first_place}
use Rattle.sis_ranges.specs.Extents.{in_stretch}
use Rattle.sis_table.specs.declared.edit.Edit.{Edit}
use Rattle.sis_table.specs.declared.edit.Edit.TheVariants as edit
use Rattle.sis_table.specs.declared.place_use.PlaceUse.{PlaceUse}
use Rattle.sis_table.specs.Edits.{edited}
use Rattle.sis_table.specs.Volume.{VolumeTable, is_used}

-- a place is one of those that are taken or freed
abbrev pub has_use : ℕ → PlaceUse → Bool
has_use place u = in_stretch u.place u.count place

-- whether a place is used after these, where it was so before or wasn't: the last that has it
-- decides
abbrev pub used_after : List PlaceUse → ℕ → Bool → Bool
used_after [] place before = before
used_after (u ∷ us) place before =
    used_after us place (if has_use place u then u.is_taken else before)

-- from one table to another, places become used and free as told
abbrev pub ChangesUse : VolumeTable → VolumeTable → List PlaceUse → Type 0
ChangesUse v w uses = (place : ℕ) → is_used w place ≡ used_after uses place (is_used v place)

-- some places, all of them those of data blocks
pub record IsDataUse (l : Layout) (u : PlaceUse) : Type 0 where
  pub some : 1 ≤ u.count
  pub low : first_place l ≤ u.place
  pub high : u.place + u.count ≤ l.total

-- no file maps one of so many places, from one on
abbrev pub AreFree : VolumeTable → ℕ → ℕ → Type 0
AreFree v first count =
    (place : ℕ) → in_stretch first count place ≡ true → is_used v place ≡ false

-- what the edit maps, it maps to places that no file maps
abbrev pub IsFresh : VolumeTable → Edit → Type 0
IsFresh v (edit.Make id kind name) = ⊤
IsFresh v (edit.Drop id) = ⊤
IsFresh v (edit.Rename id name) = ⊤
IsFresh v (edit.Size id size) = ⊤
IsFresh v (edit.Map id first count place) = AreFree v place count
IsFresh v (edit.Unmap id first count) = ⊤
IsFresh v (edit.Version id version) = ⊤

-- each of the edits does so, where its turn comes
abbrev pub TakesFresh : VolumeTable → List Edit → Type 0
TakesFresh v [] = Unit {0}
TakesFresh v (e ∷ es) = IsFresh v e × TakesFresh (edited v e) es
