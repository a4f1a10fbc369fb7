-- The edits of a change make just that change.
use Rattle.std.proofs.Common.{◌≡◌, ℕ, ◌+◌, ◌-◌, ◌<◌, ◌≤◌, Bool, true, false, cond, List, [], ◌∷◌, ◌++◌, map, Option, None, Some, refl, sym, ap, ◌∙◌, subst, arith}
use Rattle.std.specs.Prelude.{◌==◌, nat_lt}
use Rattle.std.specs.List.{range_with_len}
use Rattle.std.specs.FinMap.{get, empty, same_map, nat_cmp-IsAntisymmetric}
use Rattle.std.proofs.lemmas.Cmp.{nat_cmp_total}
use Rattle.std.proofs.lemmas.Bool.{eqb-true, ltb-true, ltb-false, cond-true, cond-false}
use Rattle.std.proofs.lemmas.Bool.Decides.{nat_tests}
use Rattle.sis_ranges.specs.declared.run.Run.{Run}
use Rattle.sis_ranges.specs.Extents.{in_stretch}
use Rattle.sis_ranges.proofs.CutLemmas.{split, lt_yes, lt_no}
use Rattle.sis_ranges.proofs.MapLemmas.{get-front, get-without_stretch}
use Rattle.sis_disk.specs.declared.layout.Layout.{Layout}
use Rattle.sis_table.specs.declared.node.Node.{Node}
use Rattle.sis_table.specs.declared.edit.Edit.TheVariants as edit
use Rattle.sis_table.specs.declared.kind.NodeKind.TheVariants.{Plain}
use Rattle.sis_table.specs.Edits.{edited_by, map_edit, with_map, with_size, with_version, without_map}
use Rattle.sis_table.specs.Volume.{VolumeTable, IsTable, IsNode, blocks_of, node_with}
use Rattle.sis_table.specs.Changes.{Resize, resized_node, with_resize, with_places, with_file, resize_edits, cut_edits, size_edits, make_edits, blocks_by, places_by}
use Rattle.sis_table.proofs.ChangesMaps.{Blocks, AreBelow, front, front-with_places, with_all-places}
use Rattle.sis_table.proofs.PutLemmas.{edited_by-append, edited_by-put, with_all}
use Rattle.sis_table.proofs.ChangesNodes.{changed, changed-like, changed-same, changed-twice, there_limits}

-- ---- runs

-- a file with the blocks of runs at their places
abbrev pub mapped_by : List Run → Node → Node
mapped_by [] n = n
mapped_by (r ∷ rs) n = mapped_by rs (with_map r n)

pub edited_by-maps : (v : VolumeTable) (id : ℕ) (runs : List Run) → edited_by v (map (map_edit id) runs) ≡ changed id (mapped_by runs) v
edited_by-maps v id [] = sym (changed-same v id (mapped_by []) (λ n. refl))
edited_by-maps v id (r ∷ rs) = edited_by-maps (changed id (with_map r) v) id rs ∙ changed-twice v id (with_map r) (mapped_by rs) (λ n. refl)

mapped_by-all : (runs : List Run) (n : Node) → mapped_by runs n ≡ record n { map = with_all n.map runs }
mapped_by-all [] n = refl
mapped_by-all (r ∷ rs) n = mapped_by-all rs (with_map r n)

pub mapped_by-places : (runs : List Run) (n : Node) → mapped_by runs n ≡ record n { map = with_places (blocks_by runs) (places_by runs) n.map }
mapped_by-places runs n = mapped_by-all runs n ∙ ap (λ (m : Blocks). record n { map = m }) (with_all-places runs n.map)

-- ---- another size

-- what the edits of a cut and of a size make of a file
abbrev pub cut_by : Node → ℕ → Node → Node
cut_by n size m = cond (nat_lt size n.size) (without_map (blocks_of size) (blocks_of n.size - blocks_of size) m) m

abbrev pub sized_by : Node → ℕ → Node → Node
sized_by n size m = cond (size == n.size) m (with_size size m)

pub edited_by-cut : (v : VolumeTable) (n : Node) (size : ℕ) → edited_by v (cut_edits n size) ≡ changed n.id (cut_by n size) v
edited_by-cut v n size =
    elim (nat_lt size n.size) as (λ t. edited_by v (cond t (edit.Unmap n.id (blocks_of size) (blocks_of n.size - blocks_of size) ∷ []) []) ≡ changed n.id (λ m. cond t (without_map (blocks_of size) (blocks_of n.size - blocks_of size) m) m) v) [
      | true ↦ refl
      | false ↦ sym (changed-same v n.id (λ m. m) (λ m. refl))
    ]

pub edited_by-sized : (v : VolumeTable) (n : Node) (size : ℕ) → edited_by v (size_edits n size) ≡ changed n.id (sized_by n size) v
edited_by-sized v n size =
    elim (size == n.size) as (λ t. edited_by v (cond t [] (edit.Size n.id size ∷ [])) ≡ changed n.id (λ m. cond t m (with_size size m)) v) [
      | true ↦ sym (changed-same v n.id (λ m. m) (λ m. refl))
      | false ↦ refl
    ]

pub cut_by-id : (n : Node) (size : ℕ) (m : Node) → (cut_by n size m).id ≡ m.id
cut_by-id n size m = elim (nat_lt size n.size) as (λ t. (cond t (without_map (blocks_of size) (blocks_of n.size - blocks_of size) m) m).id ≡ m.id) [ true ↦ refl | false ↦ refl ]

pub sized_by-id : (n : Node) (size : ℕ) (m : Node) → (sized_by n size m).id ≡ m.id
sized_by-id n size m = elim (size == n.size) as (λ t. (cond t m (with_size size m)).id ≡ m.id) [ true ↦ refl | false ↦ refl ]

-- a file maps nothing behind its end
pub unmapped_past : (l : Layout) (n : Node) (q : ℕ) → IsNode l n → blocks_of n.size ≤ q → get n.map q ≡ None
unmapped_past l n q h le =
    elim (get n.map q) as (λ o. get n.map q ≡ o → o ≡ None) [
      | None ↦ λ e. refl
      | Some place ↦ λ e. absurd (omega (arith, le, (h.placed q place e).inside))
    ] refl

pub blocks_rise : (a b : ℕ) → a ≤ b → blocks_of a ≤ blocks_of b
blocks_rise a b le = omega arith

either_way : (b : Bool) (o : Option ℕ) → cond b o o ≡ o
either_way true o = refl
either_way false o = refl

cut_inside : (a b q : ℕ) (o : Option ℕ) → a ≤ b → q < b → cond (in_stretch a (b - a) q) None o ≡ cond (nat_lt q a) o None
cut_inside a b q o le lt = grind (arith, nat_tests, le, lt)

module _ (l : Layout) (n : Node) (size : ℕ) (h : IsNode l n) where
  cut_at : (q : ℕ) → blocks_of size ≤ blocks_of n.size → cond (in_stretch (blocks_of size) (blocks_of n.size - blocks_of size) q) None (get n.map q) ≡ cond (nat_lt q (blocks_of size)) (get n.map q) None
  cut_at q le = split (blocks_of n.size) q
      (λ past.
      ap (cond (in_stretch (blocks_of size) (blocks_of n.size - blocks_of size) q) None) (unmapped_past l n q h past)
      ∙ either_way (in_stretch (blocks_of size) (blocks_of n.size - blocks_of size) q) None
      ∙ sym (cond-false (nat_lt q (blocks_of size)) (get n.map q) None (lt_no q (blocks_of size) (omega (arith, le, past)))))
      (λ inside. cut_inside (blocks_of size) (blocks_of n.size) q (get n.map q) le inside)

  kept_at : (q : ℕ) → blocks_of n.size ≤ blocks_of size → get n.map q ≡ cond (nat_lt q (blocks_of size)) (get n.map q) None
  kept_at q le = split (blocks_of n.size) q
      (λ past.
      unmapped_past l n q h past
      ∙ sym (either_way (nat_lt q (blocks_of size)) None)
      ∙ ap (λ (o : Option ℕ). cond (nat_lt q (blocks_of size)) o None) (sym (unmapped_past l n q h past)))
      (λ inside. sym (cond-true (nat_lt q (blocks_of size)) (get n.map q) None (lt_yes q (blocks_of size) (omega (arith, le, inside)))))

  -- all blocks are inside a size that isn't less
  pub front_whole : n.size ≤ size → front (blocks_of size) n.map ≡ n.map
  front_whole le = same_map nat_cmp_total nat_cmp-IsAntisymmetric _ _ (λ q. get-front n.map (blocks_of size) q ∙ sym (kept_at q (blocks_rise n.size size le)))

  -- a cut keeps the blocks inside the new size
  pub cut_by-front : cut_by n size n ≡ record n { map = front (blocks_of size) n.map }
  cut_by-front =
      elim (nat_lt size n.size) as (λ t. nat_lt size n.size ≡ t → cond t (without_map (blocks_of size) (blocks_of n.size - blocks_of size) n) n ≡ record n { map = front (blocks_of size) n.map }) [
        | true ↦ λ e. ap (λ (m : Blocks). record n { map = m }) (same_map nat_cmp_total nat_cmp-IsAntisymmetric _ _ (λ q.
            get-without_stretch n.map (blocks_of size) (blocks_of n.size - blocks_of size) q ∙ cut_at q (blocks_rise size n.size (omega (arith, ltb-true size n.size e))) ∙ sym (get-front n.map (blocks_of size) q)))
        | false ↦ λ e. ap (λ (m : Blocks). record n { map = m }) (same_map nat_cmp_total nat_cmp-IsAntisymmetric _ _ (λ q.
            kept_at q (blocks_rise n.size size (ltb-false size n.size e)) ∙ sym (get-front n.map (blocks_of size) q)))
      ] refl

pub sized_by-size : (n : Node) (size : ℕ) (m : Node) → m.size ≡ n.size → sized_by n size m ≡ with_size size m
sized_by-size n size m same =
    elim (size == n.size) as (λ t. (size == n.size) ≡ t → cond t m (with_size size m) ≡ with_size size m) [
      | true ↦ λ e. ap (λ (k : ℕ). record m { size = k }) (same ∙ sym (eqb-true size n.size e))
      | false ↦ λ e. refl
    ] refl

-- all steps together
abbrev pub resized_by : Node → ℕ → List Run → Node → Node
resized_by n size runs m = mapped_by runs (with_version (n.version + 1) (sized_by n size (cut_by n size m)))

resized_by-node : (l : Layout) (n : Node) (size : ℕ) (runs : List Run) → IsNode l n → AreBelow (blocks_of size) (blocks_by runs)
    → resized_by n size runs n ≡ resized_node size (blocks_by runs) (places_by runs) n
resized_by-node l n size runs h below =
    ap (λ (m : Node). mapped_by runs (with_version (n.version + 1) (sized_by n size m))) (cut_by-front l n size h)
    ∙ ap (λ (m : Node). mapped_by runs (with_version (n.version + 1) m)) (sized_by-size n size (record n { map = front (blocks_of size) n.map }) refl)
    ∙ mapped_by-places runs (record n { size = size; version = n.version + 1; map = front (blocks_of size) n.map })
    ∙ ap (λ (m : Blocks). record n { size = size; version = n.version + 1; map = m }) (front-with_places (blocks_of size) (blocks_by runs) (places_by runs) n.map below)

-- The edits of a change of size and blocks make the table that `with_resize` says, where the runs
-- have its blocks in order, inside the new size.
pub edited_by-resize : (v : VolumeTable) (n : Node) (r : Resize) (runs : List Run) → IsTable v → node_with v n.id ≡ Some n
    → AreBelow (blocks_of r.size) r.blocks → blocks_by runs ≡ r.blocks
    → edited_by v (resize_edits n (Some r) runs) ≡ with_resize n (Some r) (places_by runs) v
edited_by-resize v n r runs t is below same =
    let in_runs : AreBelow (blocks_of r.size) (blocks_by runs) = subst (λ (bs : List ℕ). AreBelow (blocks_of r.size) bs) (sym same) below in
    edited_by-append v (cut_edits n r.size ++ size_edits n r.size) (edit.Version n.id (n.version + 1) ∷ map (map_edit n.id) runs)
    ∙ ap (λ (w : VolumeTable). edited_by w (edit.Version n.id (n.version + 1) ∷ map (map_edit n.id) runs))
    (edited_by-append v (cut_edits n r.size) (size_edits n r.size)
    ∙ ap (λ (w : VolumeTable). edited_by w (size_edits n r.size)) (edited_by-cut v n r.size)
    ∙ edited_by-sized (changed n.id (cut_by n r.size) v) n r.size
    ∙ changed-twice v n.id (cut_by n r.size) (sized_by n r.size) (cut_by-id n r.size))
    ∙ edited_by-maps (changed n.id (with_version (n.version + 1)) (changed n.id (λ m. sized_by n r.size (cut_by n r.size m)) v)) n.id runs
    ∙ ap (changed n.id (mapped_by runs)) (changed-twice v n.id (λ m. sized_by n r.size (cut_by n r.size m)) (with_version (n.version + 1)) (λ m. sized_by-id n r.size (cut_by n r.size m) ∙ cut_by-id n r.size m))
    ∙ changed-twice v n.id (λ m. with_version (n.version + 1) (sized_by n r.size (cut_by n r.size m))) (mapped_by runs) (λ m. sized_by-id n r.size (cut_by n r.size m) ∙ cut_by-id n r.size m)
    ∙ changed-like v n.id (resized_by n r.size runs) (resized_node r.size (blocks_by runs) (places_by runs)) n is (resized_by-node v.layout n r.size runs (there_limits v n.id n t is) in_runs)
    ∙ ap (λ (bs : List ℕ). changed n.id (resized_node r.size bs (places_by runs)) v) same

-- ---- a new file

-- The edits of a new file with the next id make it, where the runs have its blocks in order.
pub edited_by-make : (v : VolumeTable) (name : List ℕ) (size : ℕ) (runs : List Run) → IsTable v → blocks_by runs ≡ range_with_len 0 (blocks_of size)
    → edited_by v (make_edits v.next_id name size runs) ≡ with_file name size (places_by runs) v
edited_by-make v name size runs t same =
    edited_by-put v v.next_id Plain name size runs t (omega arith)
    ∙ ap (λ (m : Blocks). record v { next_id = v.next_id + 1; nodes = v.nodes ++ record { id = v.next_id; name = name; kind = Plain; size = size; version = 1; map = m } ∷ [] })
    (with_all-places runs empty ∙ ap (λ (bs : List ℕ). with_places bs (places_by runs) empty) same)
