-- What the laws of changes say.
use Rattle.std.proofs.Common.{Bool, cond, ◌≡◌, ℕ, ◌+◌, ◌≤◌, List, [], length, Option, None, Some, refl, sym, ap, ◌∙◌, inl, inr, arith}
use Rattle.std.specs.Prelude.{◌==◌}
use Rattle.std.specs.List.{count_by, range_with_len}
use Rattle.std.specs.Option.{option_map, option_or}
use Rattle.std.specs.FinMap.{insert, len}
use Rattle.std.proofs.lemmas.Bool.{cases_eq, cond-false, cond-true, eq-eqb, ne_eqb}
use Rattle.sis_ranges.specs.declared.run.Run.{Run}
use Rattle.sis_ranges.specs.Extents.{is_gap}
use Rattle.sis_model.specs.World.{overwritten, resized}
use Rattle.sis_table.specs.declared.node.Node.{Node}
use Rattle.sis_table.specs.declared.kind.NodeKind.TheVariants.{Plain}
use Rattle.sis_table.specs.Content.{content_of, files_of}
use Rattle.sis_table.specs.Edits.{MayEditBy, MayMake, edited_by, with_name}
use Rattle.sis_table.specs.Good.{IsGood}
use Rattle.sis_table.specs.Uses.{TakesFresh}
use Rattle.sis_table.specs.Volume.{VolumeTable, IsTable, blocks_of, greatest_size, node_with, used}
use Rattle.sis_table.specs.Changes.{AreFreePlaces, AreFreeRuns, KeepsUsed, MayResize, Resize, WritesBlocks, make_edits, made_file, places_by, resize_edits, renamed, resized_node, size_of, with_file, with_resize, without_file, write_of}
use Rattle.sis_table.proofs.FileLemmas.{find-push}
use Rattle.sis_table.proofs.ChangeLemmas.{file_without, find-with_node, rising_nodes}
use Rattle.sis_table.proofs.ChangesMaps.{equal_test}
use Rattle.sis_table.proofs.EditLemmas.{has_id}
use Rattle.sis_table.proofs.ChangesNodes.{changed-there, last_there, some_is}
use Rattle.sis_table.proofs.ChangesBlocks.{resize_is}
use Rattle.sis_table.proofs.ChangesEdits.{edited_by-make, edited_by-resize}
use Rattle.sis_table.proofs.ChangesMay.{MayEditBy-make, MayEditBy-resize, TakesFresh-make, TakesFresh-resize}
use Rattle.sis_table.proofs.ChangesTable.{IsGood-resize, IsTable-resize}
use Rattle.sis_table.proofs.ChangesUsed.{used-grown, used-resize}
use Rattle.sis_table.proofs.ChangesContent.{content_of-kept, content_of-made, content_of-size, content_of-write}
use Rattle.sis_table.proofs.ChangesFiles.{files_of-added, files_of-rewritten}

-- ---- a write or a new size

module _ (v : VolumeTable) (n : Node) (r : Resize) (t : IsTable v) (may : MayResize v n r) where
  module _ (runs : List Run) (free : AreFreeRuns v r.blocks runs) where
    pub resize_by_edits : edited_by v (resize_edits n (Some r) runs) ≡ with_resize n (Some r) (places_by runs) v
    resize_by_edits = edited_by-resize v n r runs t may.there (resize_is n r may.change).below free.order

    pub resize_may : MayEditBy v (resize_edits n (Some r) runs)
    resize_may = MayEditBy-resize v n r runs t may.there may.limit may.version (resize_is n r may.change).below free

    pub resize_fresh : TakesFresh v (resize_edits n (Some r) runs)
    resize_fresh = TakesFresh-resize v n r runs t may.there free

  module _ (places : List ℕ) (free : AreFreePlaces v (length r.blocks) places) where
    pub resize_table : IsTable (with_resize n (Some r) places v)
    resize_table = IsTable-resize v n r places t may.there may.limit may.version (resize_is n r may.change).below free

    pub resize_good : IsGood v → IsGood (with_resize n (Some r) places v)
    resize_good = IsGood-resize v n r places t may.there may.limit may.version (resize_is n r may.change).below free

    pub resize_used : IsGood v → used (with_resize n (Some r) places v) + len n.map ≡ used v + len (resized_node r.size r.blocks places n).map
    resize_used good = used-resize v n r places t good may.there may.limit may.version (resize_is n r may.change).below free

    pub resize_used_grown : IsGood v → n.size ≤ r.size → used (with_resize n (Some r) places v) ≡ used v + count_by (is_gap n.map) r.blocks
    resize_used_grown good le = used-grown v n r places t good may.there may.limit may.version (resize_is n r may.change).below free le (resize_is n r may.change).once

  -- the file afterwards, and the others
  pub resize_there : (places : List ℕ) → node_with (with_resize n (Some r) places v) n.id ≡ Some (resized_node r.size r.blocks places n)
  resize_there places = changed-there v n.id (resized_node r.size r.blocks places) n (λ m. refl) may.there

  pub resize_others : (places : List ℕ) (id : ℕ) → (id ≡ n.id → ⊥) → node_with (with_resize n (Some r) places v) id ≡ node_with v id
  resize_others places id other =
      find-with_node n.id (resized_node r.size r.blocks places) v.nodes id (λ m. refl)
      ∙ cond-false (id == n.id) (option_map (resized_node r.size r.blocks places) (node_with v id)) (node_with v id) (ne_eqb id n.id other)

  -- A file whose id and version stay has the same bytes.
  pub resize_versions : (places old new : List ℕ) → KeepsUsed v old new → (id : ℕ) (m k : Node) → node_with v id ≡ Some m → node_with (with_resize n (Some r) places v) id ≡ Some k → k.version ≡ m.version
      → content_of (with_resize n (Some r) places v) new k ≡ content_of v old m
  resize_versions places old new keeps id m k m_is k_is same = elim (cases_eq id n.id) [
    | inl here ↦
        let before : m ≡ n = some_is m n (sym m_is ∙ ap (node_with v) here ∙ may.there) in
        let after : k ≡ resized_node r.size r.blocks places n = some_is k (resized_node r.size r.blocks places n) (sym k_is ∙ ap (node_with (with_resize n (Some r) places v)) here ∙ resize_there places) in
        absurd (omega (arith, same, ap (λ (x : Node). x.version) before, ap (λ (x : Node). x.version) after))
    | inr other ↦
        let its : k ≡ m = some_is k m (sym k_is ∙ resize_others places id other ∙ m_is) in
        ap (content_of (with_resize n (Some r) places v) new) its ∙ content_of-kept v (with_resize n (Some r) places v) old new id m m_is keeps
  ]

module _ (v : VolumeTable) (n : Node) (r : Resize) (places old new : List ℕ) (t : IsTable v) (may : MayResize v n r) (free : AreFreePlaces v (length r.blocks) places) where
  pub write_bytes : (at : ℕ) (more : List ℕ) → write_of n at (length more) ≡ Some r → WritesBlocks v r.blocks places old new (overwritten at more (content_of v old n))
      → content_of (with_resize n (Some r) places v) new (resized_node r.size r.blocks places n) ≡ overwritten at more (content_of v old n)
  write_bytes at more is image = content_of-write v (with_resize n (Some r) places v) n at more r places old new t may free is image

  pub write_files : (at : ℕ) (more : List ℕ) → write_of n at (length more) ≡ Some r → WritesBlocks v r.blocks places old new (overwritten at more (content_of v old n))
      → files_of (with_resize n (Some r) places v) new ≡ insert (files_of v old) n.name (overwritten at more (content_of v old n))
  write_files at more is image =
      files_of-rewritten v old new image.kept n (resized_node r.size r.blocks places) (overwritten at more (content_of v old n)) t may.there (λ m. refl)
      (content_of-write v v n at more r places old new t may free is image)

  pub size_bytes : (size : ℕ) → size_of n size ≡ Some r → WritesBlocks v r.blocks places old new (resized size (content_of v old n))
      → content_of (with_resize n (Some r) places v) new (resized_node r.size r.blocks places n) ≡ resized size (content_of v old n)
  size_bytes size is image = content_of-size v (with_resize n (Some r) places v) n size r places old new t may free is image

  pub size_files : (size : ℕ) → size_of n size ≡ Some r → WritesBlocks v r.blocks places old new (resized size (content_of v old n))
      → files_of (with_resize n (Some r) places v) new ≡ insert (files_of v old) n.name (resized size (content_of v old n))
  size_files size is image =
      files_of-rewritten v old new image.kept n (resized_node r.size r.blocks places) (resized size (content_of v old n)) t may.there (λ m. refl)
      (content_of-size v v n size r places old new t may free is image)

-- ---- a new file

pub make_by_edits : (v : VolumeTable) (name : List ℕ) (size : ℕ) (runs : List Run) → IsTable v → AreFreeRuns v (range_with_len 0 (blocks_of size)) runs
    → edited_by v (make_edits v.next_id name size runs) ≡ with_file name size (places_by runs) v
make_by_edits v name size runs t free = edited_by-make v name size runs t free.order

pub make_may : (v : VolumeTable) (name : List ℕ) (size : ℕ) (runs : List Run) → IsTable v → MayMake v v.next_id Plain name → size ≤ greatest_size → AreFreeRuns v (range_with_len 0 (blocks_of size)) runs
    → MayEditBy v (make_edits v.next_id name size runs)
make_may v name size runs t may limit free = MayEditBy-make v name t size runs may limit free

pub make_fresh : (v : VolumeTable) (name : List ℕ) (size : ℕ) (runs : List Run) → IsTable v → AreFreeRuns v (range_with_len 0 (blocks_of size)) runs → TakesFresh v (make_edits v.next_id name size runs)
make_fresh v name size runs t free = TakesFresh-make v name t size runs free

pub make_files : (v : VolumeTable) (name places old new bytes : List ℕ) → IsTable v → MayMake v v.next_id Plain name → length bytes ≤ greatest_size → AreFreePlaces v (blocks_of (length bytes)) places
    → WritesBlocks v (range_with_len 0 (blocks_of (length bytes))) places old new bytes → files_of (with_file name (length bytes) places v) new ≡ insert (files_of v old) name bytes
make_files v name places old new bytes t may limit free image =
    files_of-added v old new image.kept (made_file v.next_id name (length bytes) places) (v.next_id + 1) bytes may.free (content_of-made v v name places old new bytes t may limit free image)

-- the file afterwards, and the others
pub make_there : (v : VolumeTable) (name : List ℕ) (size : ℕ) (places : List ℕ) → IsTable v → node_with (with_file name size places v) v.next_id ≡ Some (made_file v.next_id name size places)
make_there v name size places t = last_there v (made_file v.next_id name size places) t refl

pub make_others : (v : VolumeTable) (name : List ℕ) (size : ℕ) (places : List ℕ) (id : ℕ) → (id ≡ v.next_id → ⊥) → node_with (with_file name size places v) id ≡ node_with v id
make_others v name size places id other =
    find-push (has_id id) v.nodes (made_file v.next_id name size places)
    ∙ ap (option_or (node_with v id)) (cond-false (v.next_id == id) (Some (made_file v.next_id name size places)) None (ne_eqb v.next_id id (λ e. other (sym e))))
    ∙ none_more (node_with v id)
  where
    none_more : (o : Option Node) → option_or o None ≡ o
    none_more None = refl
    none_more (Some m) = refl

-- ---- a removal, and another name

taken_out : (v : VolumeTable) (id other : ℕ) → IsTable v → node_with (without_file id v) other ≡ cond (other == id) None (node_with v other)
taken_out v id other t = file_without id v.nodes (rising_nodes v.layout v.next_id [] v.nodes t.nodes) other ∙ ap (λ (b : Bool). cond b None (node_with v other)) (equal_test id other)

pub remove_there : (v : VolumeTable) (id : ℕ) → IsTable v → node_with (without_file id v) id ≡ None
remove_there v id t = taken_out v id id t ∙ cond-true (id == id) None (node_with v id) (eq-eqb id id refl)

pub remove_others : (v : VolumeTable) (id other : ℕ) → IsTable v → (other ≡ id → ⊥) → node_with (without_file id v) other ≡ node_with v other
remove_others v id other t apart = taken_out v id other t ∙ cond-false (other == id) None (node_with v other) (ne_eqb other id apart)

pub rename_there : (v : VolumeTable) (id : ℕ) (name : List ℕ) (n : Node) → node_with v id ≡ Some n → node_with (renamed id name v) id ≡ Some (with_name name n)
rename_there v id name n is = changed-there v id (with_name name) n (λ m. refl) is

pub rename_others : (v : VolumeTable) (id : ℕ) (name : List ℕ) (other : ℕ) → (other ≡ id → ⊥) → node_with (renamed id name v) other ≡ node_with v other
rename_others v id name other apart =
    find-with_node id (with_name name) v.nodes other (λ m. refl)
    ∙ cond-false (other == id) (option_map (with_name name) (node_with v other)) (node_with v other) (ne_eqb other id apart)
