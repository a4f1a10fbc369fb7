-- What a commit leaves as it was.
use Rattle.std.specs.Prelude.{◌≡◌, ℕ, ◌+◌, ◌*◌, Bool, List, length, take, drop, slice_range, Option, None, Some, ⊤}
use Rattle.sis_disk.specs.declared.layout.Layout.{Layout}
use Rattle.sis_disk.specs.Areas.{area_start}
use Rattle.sis_disk.specs.Layout.{first_byte}

-- both are there, and P holds of them, or none is
abbrev pub Both : {X : Type 0} → (X → X → Type 0) → Option X → Option X → Type 0
Both P None None = ⊤
Both P None (Some new) = ⊥
Both P (Some old) None = ⊥
Both P (Some old) (Some new) = P old new

-- the superblock, the bytes behind the selector, this area and the data blocks are the same
pub record KeepsRest (l : Layout) (second : Bool) (old new : List ℕ) : Type 0 where
  pub size : length new ≡ length old
  pub first_block : take 4096 new ≡ take 4096 old
  pub behind_selector : slice_range new 4097 8192 ≡ slice_range old 4097 8192
  pub area : slice_range new (area_start l second) (area_start l second + 4096 * l.area)
      ≡ slice_range old (area_start l second) (area_start l second + 4096 * l.area)
  pub blocks : drop (first_byte l) new ≡ drop (first_byte l) old
