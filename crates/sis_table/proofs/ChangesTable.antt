-- A change of files leaves a table whose files go together, given free places.
use Rattle.std.proofs.Common.{◌≡◌, ℕ, ◌<◌, ◌≤◌, List, [], ◌∷◌, length, Some, refl, sym, ap, ◌∙◌, subst, arith}
use Rattle.std.specs.List.{AllByRecursion, range_with_len}
use Rattle.sis_ranges.specs.declared.run.Run.{Run}
use Rattle.sis_table.specs.declared.node.Node.{Node}
use Rattle.sis_table.specs.declared.edit.Edit.TheVariants as edit
use Rattle.sis_table.specs.declared.kind.NodeKind.TheVariants.{Plain}
use Rattle.sis_table.specs.Edits.{MayEdit, MayEditBy, MayMake, MayRename, edited_by}
use Rattle.sis_table.specs.Good.{IsGood}
use Rattle.sis_table.specs.Volume.{VolumeTable, IsTable, blocks_of, greatest_number, greatest_size, node_with}
use Rattle.sis_table.specs.Changes.{AreFreePlaces, AreFreeRuns, Resize, are_free, blocks_by, make_edits, places_by, renamed, resize_edits, with_file, with_resize, without_file}
use Rattle.sis_table.proofs.EditLemmas.{IsTable-edited, IsTable-edited_by}
use Rattle.sis_table.proofs.UseLemmas.{IsGood-edited, IsGood-edited_by}
use Rattle.sis_table.proofs.ChangesMaps.{AreBelow, length-places_by, length-range}
use Rattle.sis_table.proofs.ChangesEdits.{edited_by-make, edited_by-resize}
use Rattle.sis_table.proofs.ChangesMay.{MayEditBy-make, MayEditBy-resize, TakesFresh-make, TakesFresh-resize, if_here}

-- the places of free runs are free places
pub free_places : (v : VolumeTable) (blocks : List ℕ) (runs : List Run) → AreFreeRuns v blocks runs → AreFreePlaces v (length blocks) (places_by runs)
free_places v blocks runs h = record { size = length-places_by runs ∙ ap (λ (bs : List ℕ). length bs) h.order; free = h.free }

-- ---- a run for each block

singles : List ℕ → List ℕ → List Run
singles [] places = []
singles (b ∷ bs) [] = []
singles (b ∷ bs) (p ∷ ps) = record { first = b; count = 1; place = p } ∷ singles bs ps

blocks-singles : (blocks places : List ℕ) → length places ≡ length blocks → blocks_by (singles blocks places) ≡ blocks
unfolding singles
blocks-singles [] places size = refl
blocks-singles (b ∷ bs) [] size = absurd (omega (arith, size))
blocks-singles (b ∷ bs) (p ∷ ps) size = ap (λ (xs : List ℕ). b ∷ xs) (blocks-singles bs ps (omega (arith, size)))

places-singles : (blocks places : List ℕ) → length places ≡ length blocks → places_by (singles blocks places) ≡ places
unfolding singles
places-singles [] [] size = refl
places-singles [] (p ∷ ps) size = absurd (omega (arith, size))
places-singles (b ∷ bs) [] size = absurd (omega (arith, size))
places-singles (b ∷ bs) (p ∷ ps) size = ap (λ (xs : List ℕ). p ∷ xs) (places-singles bs ps (omega (arith, size)))

some-singles : (blocks places : List ℕ) → AllByRecursion (λ r. 1 ≤ r.count) (singles blocks places)
unfolding singles
some-singles [] places = tt
some-singles (b ∷ bs) [] = tt
some-singles (b ∷ bs) (p ∷ ps) = (omega arith, some-singles bs ps)

free_singles : (v : VolumeTable) (blocks places : List ℕ) → AreFreePlaces v (length blocks) places → AreFreeRuns v blocks (singles blocks places)
free_singles v blocks places h = record {
  some = some-singles blocks places;
  order = blocks-singles blocks places h.size;
  free = ap (are_free v) (places-singles blocks places h.size) ∙ h.free;
}

-- ---- another size

module _ (v : VolumeTable) (n : Node) (r : Resize) (places : List ℕ) (t : IsTable v) (is : node_with v n.id ≡ Some n) (limit : r.size ≤ greatest_size) (version : n.version < greatest_number)
    (below : AreBelow (blocks_of r.size) r.blocks) (free : AreFreePlaces v (length r.blocks) places) where
  resize_runs : AreFreeRuns v r.blocks (singles r.blocks places)
  resize_runs = free_singles v r.blocks places free

  resize_made : edited_by v (resize_edits n (Some r) (singles r.blocks places)) ≡ with_resize n (Some r) places v
  resize_made = edited_by-resize v n r (singles r.blocks places) t is below resize_runs.order ∙ ap (λ (ps : List ℕ). with_resize n (Some r) ps v) (places-singles r.blocks places free.size)

  resize_may : MayEditBy v (resize_edits n (Some r) (singles r.blocks places))
  resize_may = MayEditBy-resize v n r (singles r.blocks places) t is limit version below resize_runs

  pub IsTable-resize : IsTable (with_resize n (Some r) places v)
  IsTable-resize = subst (λ (w : VolumeTable). IsTable w) resize_made (IsTable-edited_by v (resize_edits n (Some r) (singles r.blocks places)) t resize_may)

  pub IsGood-resize : IsGood v → IsGood (with_resize n (Some r) places v)
  IsGood-resize good = subst (λ (w : VolumeTable). IsGood w) resize_made
      (IsGood-edited_by v (resize_edits n (Some r) (singles r.blocks places)) t good resize_may (TakesFresh-resize v n r (singles r.blocks places) t is resize_runs))

-- ---- a new file

module _ (v : VolumeTable) (name : List ℕ) (size : ℕ) (places : List ℕ) (t : IsTable v) (may : MayMake v v.next_id Plain name) (limit : size ≤ greatest_size) (free : AreFreePlaces v (blocks_of size) places) where
  abbrev all_blocks : List ℕ
  all_blocks = range_with_len 0 (blocks_of size)

  enough : AreFreePlaces v (length all_blocks) places
  enough = record { size = free.size ∙ sym (length-range 0 (blocks_of size)); free = free.free }

  make_runs : AreFreeRuns v all_blocks (singles all_blocks places)
  make_runs = free_singles v all_blocks places enough

  make_made : edited_by v (make_edits v.next_id name size (singles all_blocks places)) ≡ with_file name size places v
  make_made = edited_by-make v name size (singles all_blocks places) t make_runs.order ∙ ap (λ (ps : List ℕ). with_file name size ps v) (places-singles all_blocks places enough.size)

  make_may : MayEditBy v (make_edits v.next_id name size (singles all_blocks places))
  make_may = MayEditBy-make v name t size (singles all_blocks places) may limit make_runs

  pub IsTable-make : IsTable (with_file name size places v)
  IsTable-make = subst (λ (w : VolumeTable). IsTable w) make_made (IsTable-edited_by v (make_edits v.next_id name size (singles all_blocks places)) t make_may)

  pub IsGood-make : IsGood v → IsGood (with_file name size places v)
  IsGood-make good = subst (λ (w : VolumeTable). IsGood w) make_made
      (IsGood-edited_by v (make_edits v.next_id name size (singles all_blocks places)) t good make_may (TakesFresh-make v name t size (singles all_blocks places) make_runs))

-- ---- a removal, and another name

module _ (v : VolumeTable) (id : ℕ) (n : Node) (t : IsTable v) (is : node_with v id ≡ Some n) where
  may_remove : MayEdit v (edit.Drop id)
  may_remove = if_here (node_with v id) n (λ m. Unit {0}) is tt

  pub IsTable-remove : IsTable (without_file id v)
  IsTable-remove = IsTable-edited v (edit.Drop id) t may_remove

  pub IsGood-remove : IsGood v → IsGood (without_file id v)
  IsGood-remove good = IsGood-edited v (edit.Drop id) t good may_remove tt

  module _ (name : List ℕ) (may : MayRename v n name) where
    may_rename : MayEdit v (edit.Rename id name)
    may_rename = if_here (node_with v id) n (λ m. MayRename v m name) is may

    pub IsTable-rename : IsTable (renamed id name v)
    IsTable-rename = IsTable-edited v (edit.Rename id name) t may_rename

    pub IsGood-rename : IsGood v → IsGood (renamed id name v)
    IsGood-rename good = IsGood-edited v (edit.Rename id name) t good may_rename tt
