-- The edits of a change may be made, and take free places.
use Rattle.std.proofs.Common.{◌≡◌, ℕ, zero, suc, ◌+◌, ◌-◌, ◌<◌, ◌≤◌, Bool, true, false, cond, List, [], ◌∷◌, ◌++◌, map, Option, None, Some, refl, sym, ap, ◌∙◌, subst, inl, inr, arith}
use Rattle.std.specs.Prelude.{◌==◌, ◌⊎◌, nat_lt, ⊤}
use Rattle.std.specs.List.{AllByRecursion, list_any, range_with_len}
use Rattle.std.specs.FinMap.{get, empty, get-empty}
use Rattle.std.specs.Ordering.{nat_cmp}
use Rattle.std.proofs.lemmas.Bool.{or_cases, or_from, or_left, or_right, eqb-true, eq-eqb, cond-false, false_from_ne_true}
use Rattle.std.proofs.lemmas.Bool.Decides.{nat_tests}
use Rattle.std.proofs.lemmas.List.Folds.{list_any-append}
use Rattle.sis_disk.specs.declared.layout.Layout.{Layout}
use Rattle.sis_disk.specs.Layout.{first_place}
use Rattle.sis_ranges.specs.declared.run.Run.{Run}
use Rattle.sis_ranges.specs.Extents.{in_stretch, has_block, run_places}
use Rattle.sis_ranges.proofs.CutLemmas.{lt_no}
use Rattle.sis_ranges.proofs.MapLemmas.{get-front, get-with_blocks, get-without_stretch}
use Rattle.sis_ranges.proofs.PlaceLemmas.{AreDistinct, found-at, in-range}
use Rattle.sis_table.specs.declared.node.Node.{Node}
use Rattle.sis_table.specs.declared.edit.Edit.{Edit}
use Rattle.sis_table.specs.declared.edit.Edit.TheVariants as edit
use Rattle.sis_table.specs.declared.kind.NodeKind.TheVariants.{Plain}
use Rattle.sis_table.specs.Edits.{edited, edited_by, made, map_edit, with_map, with_size, with_version, without_map, IfThere, MayEdit, MayEditBy, MayMake, MayMap, MaySize, MayVersion}
use Rattle.sis_table.specs.Good.{is_among}
use Rattle.sis_table.specs.Uses.{TakesFresh}
use Rattle.sis_table.specs.Volume.{VolumeTable, IsTable, IsNode, blocks_of, node_with, greatest_number, greatest_size, is_used, maps_place}
use Rattle.sis_table.specs.Changes.{AreFreeRuns, Resize, are_free, blocks_by, cut_edits, make_edits, places_by, resize_edits, run_blocks, size_edits}
use Rattle.sis_table.proofs.PutLemmas.{IsRunIn, MayEditBy-append, edited_by-append, put_may}
use Rattle.sis_table.proofs.ChangesNodes.{changed, changed-there, changed-twice, not_some, some_is, there_limits}
use Rattle.sis_table.proofs.ChangesMaps.{AreBelow, front}
use Rattle.sis_table.proofs.ChangesBlocks.{below_range}
use Rattle.sis_table.proofs.ChangesUses.{free_among, free_once, unused_after_change, used_after_change}
use Rattle.sis_table.proofs.ChangesEdits.{cut_by, cut_by-front, cut_by-id, edited_by-cut, edited_by-sized, sized_by, sized_by-id, sized_by-size}

TakesFresh-append : (v : VolumeTable) (es fs : List Edit) → TakesFresh v es → TakesFresh (edited_by v es) fs → TakesFresh v (es ++ fs)
TakesFresh-append v [] fs h g = g
TakesFresh-append v (e ∷ es) fs h g = (h.0, TakesFresh-append (edited v e) es fs h.1 g)

pub if_here : (o : Option Node) (n : Node) (P : Node → Type 0) → o ≡ Some n → P n → IfThere o P
if_here o n P is h = subst (λ (q : Option Node). IfThere q P) (sym is) h

-- ---- runs that a file may map

all_front : {X : Type 0} (P : X → Type 0) (xs ys : List X) → AllByRecursion P (xs ++ ys) → AllByRecursion P xs
all_front P [] ys h = tt
all_front P (x ∷ xs) ys h = (h.0, all_front P xs ys h.1)

all_back : {X : Type 0} (P : X → Type 0) (xs ys : List X) → AllByRecursion P (xs ++ ys) → AllByRecursion P ys
all_back P [] ys h = h
all_back P (x ∷ xs) ys h = all_back P xs ys h.1

range_end : (end first count : ℕ) → 1 ≤ count → AreBelow end (range_with_len first count) → first + count ≤ end
range_end end first zero some h = absurd (omega (arith, some))
range_end end first (suc zero) some h = omega (arith, h.0)
range_end end first (suc (suc n)) some h = omega (arith, range_end end (first + 1) (suc n) (omega arith) h.1)

-- the places are those of data blocks
abbrev AreData : Layout → List ℕ → Type 0
AreData l places = AllByRecursion (λ p. (first_place l ≤ p) × (p < l.total)) places

data_ends : (l : Layout) (first count : ℕ) → AreData l (range_with_len first count) → AreBelow l.total (range_with_len first count)
data_ends l first zero h = tt
data_ends l first (suc n) h = (h.0.1, data_ends l (first + 1) n h.1)

data_begins : (l : Layout) (first count : ℕ) → 1 ≤ count → AreData l (range_with_len first count) → first_place l ≤ first
data_begins l first zero some h = absurd (omega (arith, some))
data_begins l first (suc n) some h = h.0.0

free_data : (v : VolumeTable) (places : List ℕ) → are_free v places ≡ true → AreData v.layout places
free_data v places free = each places (λ p p_in. let f = free_among v places p free p_in in (f.low, f.high))
  where
    each : (ps : List ℕ) → ((p : ℕ) → is_among ps p ≡ true → (first_place v.layout ≤ p) × (p < v.layout.total)) → AreData v.layout ps
    each [] h = tt
    each (p ∷ ps) h = (h p (or_left (p == p) (is_among ps p) (eq-eqb p p refl)), each ps (λ q q_in. h q (or_right (p == q) (is_among ps q) q_in)))

runs_in : (l : Layout) (end : ℕ) (runs : List Run) → AllByRecursion (λ r. 1 ≤ r.count) runs → AreBelow end (blocks_by runs) → AreData l (places_by runs) → AllByRecursion (IsRunIn l end) runs
runs_in l end [] some below inside = tt
runs_in l end (r ∷ rs) some below inside =
    let here = all_front (λ b. b < end) (run_blocks r) (blocks_by rs) below in
    let places = all_front (λ p. (first_place l ≤ p) × (p < l.total)) (run_places r) (places_by rs) inside in (
      record {
        some = some.0;
        inside = range_end end r.first r.count some.0 here;
        low = data_begins l r.place r.count some.0 places;
        high = range_end l.total r.place r.count some.0 (data_ends l r.place r.count places);
      },
      runs_in l end rs some.1 (all_back (λ b. b < end) (run_blocks r) (blocks_by rs) below)
          (all_back (λ p. (first_place l ≤ p) × (p < l.total)) (run_places r) (places_by rs) inside),
    )

free_runs_in : (v : VolumeTable) (end : ℕ) (blocks : List ℕ) (runs : List Run) → AreBelow end blocks → AreFreeRuns v blocks runs → AllByRecursion (IsRunIn v.layout end) runs
free_runs_in v end blocks runs below h = runs_in v.layout end runs h.some (subst (λ (bs : List ℕ). AreBelow end bs) (sym h.order) below) (free_data v (places_by runs) h.free)

MayEditBy-maps : (w : VolumeTable) (id : ℕ) (n : Node) (runs : List Run) → node_with w id ≡ Some n → AllByRecursion (IsRunIn w.layout (blocks_of n.size)) runs → MayEditBy w (map (map_edit id) runs)
MayEditBy-maps w id n [] is fit = tt
MayEditBy-maps w id n (r ∷ rs) is fit = (
  if_here (node_with w id) n (λ m. MayMap w.layout m r) is (record { some = fit.0.some; inside = fit.0.inside; low = fit.0.low; high = fit.0.high }),
  MayEditBy-maps (changed id (with_map r) w) id (with_map r n) rs (changed-there w id (with_map r) n (λ m. refl) is) fit.1,
)

-- ---- places that are taken

among_front : (xs ys : List ℕ) (p : ℕ) → is_among xs p ≡ true → is_among (xs ++ ys) p ≡ true
among_front xs ys p h = list_any-append (λ q. q == p) xs ys ∙ or_left (is_among xs p) (is_among ys p) h

among_back : (xs ys : List ℕ) (p : ℕ) → is_among ys p ≡ true → is_among (xs ++ ys) p ≡ true
among_back xs ys p h = list_any-append (λ q. q == p) xs ys ∙ or_right (is_among xs p) (is_among ys p) h

distinct_back : (xs ys : List ℕ) → AreDistinct (xs ++ ys) → AreDistinct ys
distinct_back [] ys h = h
distinct_back (x ∷ xs) ys h = distinct_back xs ys h.1

distinct_apart : (xs ys : List ℕ) (p : ℕ) → AreDistinct (xs ++ ys) → is_among xs p ≡ true → is_among ys p ≡ true → ⊥
distinct_apart [] ys p once f g = absurd cc
distinct_apart (x ∷ xs) ys p once f g = elim (or_cases (x == p) (is_among xs p) f) [
  | inl here ↦ absurd (cc (among_back xs ys p g, once.0, ap (is_among (xs ++ ys)) (eqb-true x p here)))
  | inr later ↦ distinct_apart xs ys p once.1 later g
]

-- a place that is used after a run's blocks were mapped was so before, or the run has it
used_mapped : (w : VolumeTable) (id : ℕ) (r : Run) (p : ℕ) → is_used (changed id (with_map r) w) p ≡ true → (is_used w p ≡ true) ⊎ (is_among (run_places r) p ≡ true)
used_mapped w id r p h = used_after_change w id (with_map r) p (is_among (run_places r) p ≡ true) (λ n b lies. either n b (has_block b r) refl (sym (get-with_blocks n.map r b) ∙ lies)) h
  where
    inside : (b : ℕ) → has_block b r ≡ true → in_stretch r.place r.count (r.place + (b - r.first)) ≡ true
    inside b e = grind (arith, nat_tests, e)

    either : (n : Node) (b : ℕ) (t : Bool) → has_block b r ≡ t → cond t (Some (r.place + (b - r.first))) (get n.map b) ≡ Some p → (get n.map b ≡ Some p) ⊎ (is_among (run_places r) p ≡ true)
    either n b true e lies = inr (subst (λ q. is_among (run_places r) q ≡ true) (some_is (r.place + (b - r.first)) p lies) (in-range r.count r.place (r.place + (b - r.first)) ∙ inside b e))
    either n b false e lies = inl lies

TakesFresh-maps : (w : VolumeTable) (id : ℕ) (runs : List Run) → ((p : ℕ) → is_among (places_by runs) p ≡ true → is_used w p ≡ false) → AreDistinct (places_by runs) → TakesFresh w (map (map_edit id) runs)
TakesFresh-maps w id [] free once = tt
TakesFresh-maps w id (r ∷ rs) free once = (
  λ p p_in. free p (among_front (run_places r) (places_by rs) p (in-range r.count r.place p ∙ p_in)),
  TakesFresh-maps (changed id (with_map r) w) id rs
      (λ p p_in. false_from_ne_true (is_used (changed id (with_map r) w) p) (λ used. elim (used_mapped w id r p used) [
        | inl old ↦ absurd (cc (free p (among_back (run_places r) (places_by rs) p p_in)))
        | inr new ↦ distinct_apart (run_places r) (places_by rs) p once new p_in
      ]))
      (distinct_back (run_places r) (places_by rs) once),
)

-- ---- another size

cut_less : (n : Node) (size : ℕ) (k : Node) (b p : ℕ) → get (cut_by n size k).map b ≡ Some p → get k.map b ≡ Some p
cut_less n size k b p =
    elim (nat_lt size n.size) as (λ t. get (cond t (without_map (blocks_of size) (blocks_of n.size - blocks_of size) k) k).map b ≡ Some p → get k.map b ≡ Some p) [
      | true ↦ λ h. inner (in_stretch (blocks_of size) (blocks_of n.size - blocks_of size) b) (sym (get-without_stretch k.map (blocks_of size) (blocks_of n.size - blocks_of size) b) ∙ h)
      | false ↦ λ h. h
    ]
  where
    inner : (t : Bool) → cond t None (get k.map b) ≡ Some p → get k.map b ≡ Some p
    inner true h = absurd (not_some p h)
    inner false h = h

sized_less : (n : Node) (size : ℕ) (k : Node) (b p : ℕ) → get (sized_by n size k).map b ≡ Some p → get k.map b ≡ Some p
sized_less n size k b p =
    elim (size == n.size) as (λ t. get (cond t k (with_size size k)).map b ≡ Some p → get k.map b ≡ Some p) [
      | true ↦ λ h. h
      | false ↦ λ h. h
    ]

module _ (v : VolumeTable) (n : Node) (size : ℕ) (t : IsTable v) (is : node_with v n.id ≡ Some n) where
  limits : IsNode v.layout n
  limits = there_limits v n.id n t is

  -- the table after the edits of a cut and of a size, and the file there
  abbrev sized_table : VolumeTable
  sized_table = changed n.id (λ m. sized_by n size (cut_by n size m)) v

  abbrev fronted : Node
  fronted = record n { size = size; map = front (blocks_of size) n.map }

  edited_by-both : edited_by v (cut_edits n size ++ size_edits n size) ≡ sized_table
  edited_by-both =
      edited_by-append v (cut_edits n size) (size_edits n size)
      ∙ ap (λ (w : VolumeTable). edited_by w (size_edits n size)) (edited_by-cut v n size)
      ∙ edited_by-sized (changed n.id (cut_by n size) v) n size
      ∙ changed-twice v n.id (cut_by n size) (sized_by n size) (cut_by-id n size)

  sized_there : node_with sized_table n.id ≡ Some fronted
  sized_there =
      changed-there v n.id (λ m. sized_by n size (cut_by n size m)) n (λ m. sized_by-id n size (cut_by n size m) ∙ cut_by-id n size m) is
      ∙ ap (λ (m : Node). Some (sized_by n size m)) (cut_by-front v.layout n size limits)
      ∙ ap (λ (m : Node). Some m) (sized_by-size n size (record n { map = front (blocks_of size) n.map }) refl)

  may_cut : MayEditBy v (cut_edits n size)
  may_cut =
      elim (nat_lt size n.size) as (λ b. MayEditBy v (cond b (edit.Unmap n.id (blocks_of size) (blocks_of n.size - blocks_of size) ∷ []) [])) [
        | true ↦ (if_here (node_with v n.id) n (λ m. ⊤) is tt, tt)
        | false ↦ tt
      ]

  may_size : size ≤ greatest_size → MayEditBy (edited_by v (cut_edits n size)) (size_edits n size)
  may_size limit = subst (λ (w : VolumeTable). MayEditBy w (size_edits n size)) (sym (edited_by-cut v n size))
      (elim (size == n.size) as (λ b. MayEditBy (changed n.id (cut_by n size) v) (cond b [] (edit.Size n.id size ∷ []))) [
        | true ↦ tt
        | false ↦ (
          if_here (node_with (changed n.id (cut_by n size) v) n.id) (cut_by n size n) (λ m. MaySize m size) (changed-there v n.id (cut_by n size) n (cut_by-id n size) is)
              (subst (λ (m : Node). MaySize m size) (sym (cut_by-front v.layout n size limits)) (record {
                limit = limit;
                mapped = λ b le. get-front n.map (blocks_of size) b ∙ cond-false (nat_lt b (blocks_of size)) (get n.map b) None (lt_no b (blocks_of size) le);
              })),
          tt,
        )
      ])

  may_version : n.version < greatest_number → MayEdit sized_table (edit.Version n.id (n.version + 1))
  may_version lt = if_here (node_with sized_table n.id) fronted (λ m. MayVersion m (n.version + 1)) sized_there (record { above = omega arith; limit = omega (arith, lt) })

  may_runs : (blocks : List ℕ) (runs : List Run) → AreBelow (blocks_of size) blocks → AreFreeRuns v blocks runs
      → MayEditBy (changed n.id (with_version (n.version + 1)) sized_table) (map (map_edit n.id) runs)
  may_runs blocks runs below h =
      MayEditBy-maps (changed n.id (with_version (n.version + 1)) sized_table) n.id (with_version (n.version + 1) fronted) runs
      (changed-there sized_table n.id (with_version (n.version + 1)) fronted (λ m. refl) sized_there)
      (free_runs_in v (blocks_of size) blocks runs below h)

  sized_unused : (p : ℕ) → is_used v p ≡ false → is_used (changed n.id (with_version (n.version + 1)) sized_table) p ≡ false
  sized_unused p free =
      unused_after_change sized_table n.id (with_version (n.version + 1)) p (λ k b lies. lies)
      (unused_after_change v n.id (λ m. sized_by n size (cut_by n size m)) p (λ k b lies. cut_less n size k b p (sized_less n size (cut_by n size k) b p lies)) free)

-- The edits of a change of size and blocks may be made, where its blocks lie inside the new size
-- and the version may rise.
pub MayEditBy-resize : (v : VolumeTable) (n : Node) (r : Resize) (runs : List Run) → IsTable v → node_with v n.id ≡ Some n
    → r.size ≤ greatest_size → n.version < greatest_number → AreBelow (blocks_of r.size) r.blocks → AreFreeRuns v r.blocks runs
    → MayEditBy v (resize_edits n (Some r) runs)
MayEditBy-resize v n r runs t is limit version below h =
    MayEditBy-append v (cut_edits n r.size ++ size_edits n r.size) (edit.Version n.id (n.version + 1) ∷ map (map_edit n.id) runs) (
      MayEditBy-append v (cut_edits n r.size) (size_edits n r.size) (may_cut v n r.size t is, may_size v n r.size t is limit),
      subst (λ (w : VolumeTable). MayEditBy w (edit.Version n.id (n.version + 1) ∷ map (map_edit n.id) runs)) (sym (edited_by-both v n r.size t is))
          (may_version v n r.size t is version, may_runs v n r.size t is r.blocks runs below h),
    )

-- they take free places
pub TakesFresh-resize : (v : VolumeTable) (n : Node) (r : Resize) (runs : List Run) → IsTable v → node_with v n.id ≡ Some n → AreFreeRuns v r.blocks runs
    → TakesFresh v (resize_edits n (Some r) runs)
TakesFresh-resize v n r runs t is h =
    TakesFresh-append v (cut_edits n r.size ++ size_edits n r.size) (edit.Version n.id (n.version + 1) ∷ map (map_edit n.id) runs)
    (TakesFresh-append v (cut_edits n r.size) (size_edits n r.size) (cut v) (sized (edited_by v (cut_edits n r.size))))
    (subst (λ (w : VolumeTable). TakesFresh w (edit.Version n.id (n.version + 1) ∷ map (map_edit n.id) runs)) (sym (edited_by-both v n r.size t is)) (
      tt,
      TakesFresh-maps (changed n.id (with_version (n.version + 1)) (sized_table v n r.size t is)) n.id runs
          (λ p p_in. sized_unused v n r.size t is p (free_among v (places_by runs) p h.free p_in).unused)
          (free_once v (places_by runs) h.free),
    ))
  where
    cut : (w : VolumeTable) → TakesFresh w (cut_edits n r.size)
    cut w = elim (nat_lt r.size n.size) as (λ b. TakesFresh w (cond b (edit.Unmap n.id (blocks_of r.size) (blocks_of n.size - blocks_of r.size) ∷ []) [])) [ true ↦ (tt, tt) | false ↦ tt ]

    sized : (w : VolumeTable) → TakesFresh w (size_edits n r.size)
    sized w = elim (r.size == n.size) as (λ b. TakesFresh w (cond b [] (edit.Size n.id r.size ∷ []))) [ true ↦ tt | false ↦ (tt, tt) ]

-- ---- a new file

module _ (v : VolumeTable) (name : List ℕ) (t : IsTable v) where
  abbrev begun : VolumeTable
  begun = edited v (edit.Make v.next_id Plain name)

  begun_unused : (p : ℕ) → is_used v p ≡ false → is_used begun p ≡ false
  begun_unused p free =
      list_any-append (maps_place p) v.nodes (made v.next_id Plain name ∷ [])
      ∙ or_from (is_used v p) (list_any (maps_place p) (made v.next_id Plain name ∷ [])) free (or_from (maps_place p (made v.next_id Plain name)) false maps_none refl)
    where
      maps_none : maps_place p (made v.next_id Plain name) ≡ false
      maps_none = false_from_ne_true (maps_place p (made v.next_id Plain name)) (λ e. let there = found-at empty p e in not_some p (sym (get-empty nat_cmp there.0) ∙ there.1))

  -- The edits of a new file may be made.
  pub MayEditBy-make : (size : ℕ) (runs : List Run) → MayMake v v.next_id Plain name → size ≤ greatest_size → AreFreeRuns v (range_with_len 0 (blocks_of size)) runs
      → MayEditBy v (make_edits v.next_id name size runs)
  MayEditBy-make size runs may limit h =
      put_may v v.next_id Plain name size runs t may limit
      (free_runs_in v (blocks_of size) (range_with_len 0 (blocks_of size)) runs (below_range (blocks_of size) 0 (blocks_of size) (omega arith)) h)

  -- they take free places
  pub TakesFresh-make : (size : ℕ) (runs : List Run) → AreFreeRuns v (range_with_len 0 (blocks_of size)) runs → TakesFresh v (make_edits v.next_id name size runs)
  TakesFresh-make size runs h = (
    tt,
    (
      tt,
      TakesFresh-maps (changed v.next_id (with_size size) begun) v.next_id runs
          (λ p p_in. unused_after_change begun v.next_id (with_size size) p (λ k b lies. lies) (begun_unused p (free_among v (places_by runs) p h.free p_in).unused))
          (free_once v (places_by runs) h.free),
    ),
  )
