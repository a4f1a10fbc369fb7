-- Runs that were staged lie at free places, and keep their bytes while others are staged.
use Rattle.std.proofs.Common.{◌≡◌, inl, inr, ℕ, zero, suc, ◌+◌, ◌-◌, ◌<◌, ◌≤◌, Bool, true, false, not, List, [], ◌∷◌, ◌++◌, map, flat_map, refl, sym, ap, ap₂, ◌∙◌, arith, append_assoc}
use Rattle.std.specs.Prelude.{◌&&◌, ◌||◌, ◌==◌, nat_le, nat_lt}
use Rattle.std.specs.List.{list_any, range_with_len}
use Rattle.std.proofs.lemmas.Bool.{and_from, and_parts, cases_Bool, eq-eqb, eqb-true, not_from_false, or_left, or_right, true≢false}
use Rattle.std.proofs.lemmas.Bool.Decides.{nat_tests}
use Rattle.std.proofs.lemmas.List.Folds.{list_any-append}
use Rattle.sis_disk.specs.Layout.{first_place}
use Rattle.sis_places.specs.Places.{PlacesView}
use Rattle.sis_places.specs.Places as bits
use Rattle.sis_ranges.specs.declared.run.Run.{Run}
use Rattle.sis_ranges.specs.Extents.{in_stretch, run_places}
use Rattle.sis_table.specs.Changes.{are_free, is_free, places_by}
use Rattle.sis_table.specs.Content.{block_at, run_bytes}
use Rattle.sis_table.specs.Edits.{map_edit}
use Rattle.sis_table.specs.Good.{is_among}
use Rattle.sis_table.specs.Volume.{VolumeTable, IsTable, is_used, used_places}
use Rattle.sis_table.specs.declared.edit.Edit.{Edit}
use Rattle.sis_table.proofs.ChangesBlocks.{range_has}
use Rattle.sis_table.proofs.ChangesRuns.{are_free-append, are_free-range, run_bytes-blocks}
use Rattle.sis_volume.specs.Staging.{AreFreshRuns, KeepsOthers}
use Rattle.sis_volume.specs.View.{is_data, is_fresh, is_spare, maps_to}
use Rattle.sis_volume.proofs.Taken.{fresh_unused}

turned : (b : Bool) → (b ≡ true → ⊥) → b ≡ false
turned true never = absurd (never refl)
turned false never = refl

-- a number of a stretch lies in it
among_range : (first count q : ℕ) → is_among (range_with_len first count) q ≡ true
    → in_stretch first count q ≡ true
among_range first zero q is = absurd (true≢false (sym is))
among_range first (suc n) q is = elim (cases_Bool (first == q)) [
  | inl here ↦ (let same : first ≡ q = eqb-true first q here in grind (arith, nat_tests))
  | inr other ↦
      (let later : in_stretch (first + 1) n q ≡ true = among_range (first + 1) n q (sym (ap (λ (b : Bool). b || is_among (range_with_len (first + 1) n) q) other) ∙ is) in
      grind (arith, nat_tests, later))
]

-- and a number that lies in it is one of it
pub among_is : (first count q : ℕ)
    → is_among (range_with_len first count) q ≡ (nat_le first q && nat_lt q (first + count))
among_is first count q = elim (cases_Bool (is_among (range_with_len first count) q)) [
  | inl has ↦ has ∙ sym (among_range first count q has)
  | inr not_has ↦
      not_has
      ∙ sym (turned (in_stretch first count q) (λ inside.
      let low : first ≤ q = grind (arith, nat_tests, inside) in
      let high : q < first + count = grind (arith, nat_tests, inside) in
      true≢false (sym (range_has first count q low high) ∙ not_has)))
]

among_append : (xs ys : List ℕ) (q : ℕ)
    → is_among (xs ++ ys) q ≡ (is_among xs q || is_among ys q)
among_append xs ys q = list_any-append (λ p. p == q) xs ys

module _ (v : VolumeTable) (p : PlacesView) (file : ℕ) (table : IsTable v) (bits_are : p.current ≡ used_places v) where
  -- a fresh place is free
  fresh_free : (edits : List Edit) (q : ℕ) → is_fresh v.layout p edits q ≡ true
      → is_free v q ≡ true
  fresh_free edits q is =
      let parts = and_parts (is_spare v.layout p q) (not (list_any (maps_to q) edits)) is in
      let data_ = and_parts (is_data v.layout q) (bits.is_spare p (q - first_place v.layout)) parts.0 in
      and_from (is_data v.layout q) (not (is_used v q)) data_.0
      (not_from_false (is_used v q) (fresh_unused v v.layout p file refl table bits_are edits q is))

  -- and with fewer edits as well
  fresh_fewer : (edits more : List Edit) (q : ℕ) → is_fresh v.layout p (edits ++ more) q ≡ true
      → is_fresh v.layout p edits q ≡ true
  fresh_fewer edits more q is =
      let parts = and_parts (is_spare v.layout p q) (not (list_any (maps_to q) (edits ++ more))) is in
      and_from (is_spare v.layout p q) (not (list_any (maps_to q) edits)) parts.0
      (front (list_any (maps_to q) edits) (list_any (maps_to q) more)
      (ap not (sym (list_any-append (maps_to q) edits more)) ∙ parts.1))
    where
      front : (a b : Bool) → not (a || b) ≡ true → not a ≡ true
      front true b e = e
      front false b e = refl

  -- one that an edit maps isn't fresh
  mapped_out : (edits : List Edit) (r : Run) (q : ℕ) → in_stretch r.place r.count q ≡ true
      → is_fresh v.layout p (edits ++ map_edit file r ∷ []) q ≡ true → ⊥
  mapped_out edits r q inside is =
      let parts = and_parts (is_spare v.layout p q) (not (list_any (maps_to q) (edits ++ map_edit file r ∷ []))) is in
      let hit : list_any (maps_to q) (edits ++ map_edit file r ∷ []) ≡ true =
      list_any-append (maps_to q) edits (map_edit file r ∷ [])
      ∙ or_right (list_any (maps_to q) edits) _ (or_left (in_stretch r.place r.count q) false inside) in
      true≢false (sym parts.1 ∙ ap not hit)

  -- the places of such runs are fresh
  among_fresh : (edits : List Edit) (runs : List Run) → AreFreshRuns v.layout p file edits runs
      → (q : ℕ) → is_among (places_by runs) q ≡ true → is_fresh v.layout p edits q ≡ true
  among_fresh edits [] are q is = absurd (true≢false (sym is))
  among_fresh edits (r ∷ rs) are q is = elim (cases_Bool (is_among (run_places r) q)) [
    | inl here ↦
        (let inside : in_stretch r.place r.count q ≡ true = among_range r.place r.count q here in
        let low : r.place ≤ q = grind (arith, nat_tests, inside) in
        let high : q < r.place + r.count = grind (arith, nat_tests, inside) in
        are.0 q low high)
    | inr other ↦
        fresh_fewer edits (map_edit file r ∷ []) q
        (among_fresh (edits ++ map_edit file r ∷ []) rs are.1 q
        (sym (ap (λ (b : Bool). b || is_among (places_by rs) q) other) ∙ sym (among_append (run_places r) (places_by rs) q) ∙ is))
  ]

  -- and free, each of them once
  pub runs_free : (edits : List Edit) (runs : List Run) → AreFreshRuns v.layout p file edits runs
      → are_free v (places_by runs) ≡ true
  runs_free edits [] are = refl
  runs_free edits (r ∷ rs) are =
      are_free-append v (run_places r) (places_by rs)
      (are_free-range v r.place r.count (λ q low high. fresh_free edits q (are.0 q low high)))
      (runs_free (edits ++ map_edit file r ∷ []) rs are.1)
      (λ q q_in. turned (is_among (places_by rs) q) (λ later.
      mapped_out edits r q (among_range r.place r.count q q_in)
      (among_fresh (edits ++ map_edit file r ∷ []) rs are.1 q later)))

  -- edits that map runs map each of their places
  maps_all : (edits : List Edit) (runs : List Run) (q : ℕ) → is_among (places_by runs) q ≡ true
      → list_any (maps_to q) (edits ++ map (map_edit file) runs) ≡ true
  maps_all edits [] q is = absurd (true≢false (sym is))
  maps_all edits (r ∷ rs) q is = elim (cases_Bool (is_among (run_places r) q)) [
    | inl here ↦
        list_any-append (maps_to q) edits (map (map_edit file) (r ∷ rs))
        ∙ or_right (list_any (maps_to q) edits) _
        (or_left (in_stretch r.place r.count q) (list_any (maps_to q) (map (map_edit file) rs))
        (among_range r.place r.count q here))
    | inr other ↦
        ap (list_any (maps_to q)) (sym (append_assoc edits (map_edit file r ∷ []) (map (map_edit file) rs)))
        ∙ maps_all (edits ++ map_edit file r ∷ []) rs q
        (sym (ap (λ (b : Bool). b || is_among (places_by rs) q) other) ∙ sym (among_append (run_places r) (places_by rs) q) ∙ is)
  ]

  -- runs that are staged behind others have none of their places
  pub runs_apart : (edits : List Edit) (runs rest : List Run) (q : ℕ)
      → AreFreshRuns v.layout p file (edits ++ map (map_edit file) runs) rest
      → is_among (places_by runs) q ≡ true → is_among (places_by rest) q ≡ false
  runs_apart edits runs rest q are is =
      turned (is_among (places_by rest) q) (λ later.
      let fresh = among_fresh (edits ++ map (map_edit file) runs) rest are q later in
      let parts = and_parts (is_spare v.layout p q) (not (list_any (maps_to q) (edits ++ map (map_edit file) runs))) fresh in
      true≢false (sym parts.1 ∙ ap not (maps_all edits runs q is)))

  -- and leave their bytes
  pub runs_kept : (edits : List Edit) (runs : List Run) (old new : List ℕ)
      → KeepsOthers v.layout p (edits ++ map (map_edit file) runs) old new
      → flat_map (run_bytes new) runs ≡ flat_map (run_bytes old) runs
  runs_kept edits runs old new keeps =
      run_bytes-blocks new runs
      ∙ same (places_by runs) (λ q is. keeps.blocks q (turned (is_fresh v.layout p (edits ++ map (map_edit file) runs) q) (λ fresh.
      let parts = and_parts (is_spare v.layout p q) (not (list_any (maps_to q) (edits ++ map (map_edit file) runs))) fresh in
      true≢false (sym parts.1 ∙ ap not (maps_all edits runs q is)))))
      ∙ sym (run_bytes-blocks old runs)
    where
      same : (places : List ℕ)
          → ((q : ℕ) → is_among places q ≡ true → block_at new q ≡ block_at old q)
          → flat_map (block_at new) places ≡ flat_map (block_at old) places
      same [] each = refl
      same (q ∷ qs) each =
          ap₂ (λ (xs ys : List ℕ). xs ++ ys) (each q (or_left (q == q) (is_among qs q) (eq-eqb q q refl)))
          (same qs (λ r is. each r (or_right (q == r) (is_among qs r) is)))
