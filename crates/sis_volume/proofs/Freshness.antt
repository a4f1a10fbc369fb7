-- Fresh places: which bits say so, and how many there are.
use Rattle.std.proofs.Common.{◌≡◌, inl, inr, ℕ, ◌+◌, ◌-◌, ◌<◌, ◌≤◌, Bool, true, false, not, List, [], ◌∷◌, ◌++◌, length, get_or, take, drop, Option, Some, None, refl, sym, ap, ◌∙◌, subst, arith}
use Rattle.std.specs.Prelude.{◌&&◌, ◌||◌, IsSome}
use Rattle.std.specs.List.{list_any}
use Rattle.std.proofs.Math.Bool.{or-false, or-true}
use Rattle.std.proofs.lemmas.Bool.{cases_lt, true≢false}
use Rattle.std.proofs.lemmas.Bool.Decides.{nat_tests}
use Rattle.std.proofs.lemmas.List.{drop_more, take_more, take_all, take-append-drop}
use Rattle.std.proofs.lemmas.List.Folds.{list_any-append}
use Rattle.sis_disk.specs.declared.layout.Layout.{Layout}
use Rattle.sis_disk.specs.Layout.{IsLayout, first_place, data_blocks}
use Rattle.sis_places.specs.Places.{PlacesView, FindsNextSet, spare_bits}
use Rattle.sis_places.specs.Places as bits
use Rattle.sis_places.specs.declared.stretch.Stretch.{Stretch}
use Rattle.sis_places.proofs.CallerLemmas.{get_or-spare_bits, length-spare_bits, spare-within}
use Rattle.sis_places.proofs.Tally.{tally, count-tally, tally-same, tally-none, tally-all, tally-split}
use Rattle.sis_table.specs.declared.edit.Edit.{Edit}
use Rattle.sis_ranges.specs.declared.run.Run.{Run}
use Rattle.sis_table.specs.Edits.{map_edit}
use Rattle.sis_ranges.specs.Extents.{place_end}
use Rattle.sis_volume.specs.Keeping.{FindsFresh, IsFront, IsNextFresh, IsNextRun}
use Rattle.sis_volume.specs.declared.txn.Front.TheVariants as front
use Rattle.sis_volume.specs.View.{count_of, is_data, is_fresh, is_spare, maps_to}

and_true : (a b : Bool) → (a && b) ≡ true → (a ≡ true) × (b ≡ true)
and_true true b e = (refl, e)
and_true false b e = absurd (true≢false (sym e))

and_false : (a b : Bool) → b ≡ false → (a && b) ≡ false
and_false true b e = e
and_false false b e = refl

not_true : (b : Bool) → b ≡ false → not b ≡ true
not_true true e = absurd (true≢false e)
not_true false e = refl

not_false : (b : Bool) → not b ≡ true → b ≡ false
not_false true e = absurd (true≢false (sym e))
not_false false e = refl

-- ---- one place

module _ (l : Layout) (p : PlacesView) where
  -- the place of an index
  pub data_at : (i : ℕ) → IsLayout l → i < data_blocks l → is_data l (first_place l + i) ≡ true
  data_at i layout lt = let has = layout.has_data in grind (arith, nat_tests)

  back : (i : ℕ) → first_place l + i - first_place l ≡ i
  back i = omega arith

  -- an index with a spare bit is that of a spare place
  pub spare_at : (i : ℕ) → IsLayout l → length p.current ≡ data_blocks l
      → get_or (spare_bits p) i false ≡ true → is_spare l p (first_place l + i) ≡ true
  spare_at i layout len is =
      let lt = spare-within p i is in
      let here : bits.is_spare p (first_place l + i - first_place l) ≡ true
      = ap (bits.is_spare p) (back i) ∙ sym (get_or-spare_bits p i lt) ∙ is in
      rw (data_at i layout (omega arith)) here

  -- and one without isn't
  pub unspare_at : (i : ℕ) → IsLayout l → length p.current ≡ data_blocks l
      → get_or (spare_bits p) i false ≡ false → is_spare l p (first_place l + i) ≡ false
  unspare_at i layout len is = elim (cases_lt i (length p.current)) [
    | inl lt ↦ and_false (is_data l (first_place l + i)) _
        (ap (bits.is_spare p) (back i) ∙ sym (get_or-spare_bits p i lt) ∙ is)
    | inr ge ↦ (let out : is_data l (first_place l + i) ≡ false = (let has = layout.has_data in grind (arith, nat_tests)) in
        ap (λ (b : Bool). b && bits.is_spare p (first_place l + i - first_place l)) out)
  ]

  -- a place that isn't spare isn't fresh
  pub spare_first : (edits : List Edit) (place : ℕ) → is_spare l p place ≡ false
      → is_fresh l p edits place ≡ false
  spare_first edits place out = ap (λ (b : Bool). b && not (list_any (maps_to place) edits)) out

  -- nor is one that an edit maps
  pub mapped_first : (edits : List Edit) (place : ℕ) → list_any (maps_to place) edits ≡ true
      → is_fresh l p edits place ≡ false
  mapped_first edits place is =
      and_false (is_spare l p place) _ (ap not is)

  -- one that is spare and that no edit maps is
  pub fresh_place : (edits : List Edit) (place : ℕ) → is_spare l p place ≡ true
      → list_any (maps_to place) edits ≡ false → is_fresh l p edits place ≡ true
  fresh_place edits place is out = rw (is, out) refl

  pub fresh_parts : (edits : List Edit) (place : ℕ) → is_fresh l p edits place ≡ true
      → (is_spare l p place ≡ true) × (list_any (maps_to place) edits ≡ false)
  fresh_parts edits place is =
      let both = and_true _ _ is in (both.0, not_false _ both.1)

  -- a place before the data blocks isn't fresh
  pub below_data : (edits : List Edit) (place : ℕ) → place < first_place l
      → is_fresh l p edits place ≡ false
  below_data edits place lt =
      let out : is_data l place ≡ false = grind (arith, nat_tests) in
      spare_first edits place (ap (λ (b : Bool). b && bits.is_spare p (place - first_place l)) out)

  -- nor is one that the current table maps, or the committed one
  pub fresh_current : (edits : List Edit) (place : ℕ)
      → get_or p.current (place - first_place l) false ≡ true → is_fresh l p edits place ≡ false
  fresh_current edits place is =
      spare_first edits place (and_false (is_data l place) _
      (ap (λ (b : Bool). not b && not (get_or p.committed (place - first_place l) false)) is))

  pub fresh_committed : (edits : List Edit) (place : ℕ)
      → get_or p.committed (place - first_place l) false ≡ true → is_fresh l p edits place ≡ false
  fresh_committed edits place is =
      spare_first edits place (and_false (is_data l place) _
      (and_false (not (get_or p.current (place - first_place l) false)) _ (ap not is)))

  or_left : (a b : Bool) → (a || b) ≡ false → a ≡ false
  or_left true b e = absurd (true≢false e)
  or_left false b e = refl

  -- with more edits fewer places are fresh
  pub fewer_fresh : (edits more : List Edit) (place : ℕ) → is_fresh l p edits place ≡ false
      → is_fresh l p (edits ++ more) place ≡ false
  fewer_fresh edits more place out = by (is_fresh l p (edits ++ more) place) refl
    where
      by : (b : Bool) → is_fresh l p (edits ++ more) place ≡ b → b ≡ false
      by false e = refl
      by true e =
          let parts = fresh_parts (edits ++ more) place e in
          let none : list_any (maps_to place) edits ≡ false
          = or_left _ (list_any (maps_to place) more) (sym (list_any-append (maps_to place) edits more) ∙ parts.1) in
          sym (fresh_place edits place parts.0 none) ∙ out

-- ---- what edits map

-- the first edits map none of so many places
pub record IsFreeFor (edits : List Edit) (place count free : ℕ) : Type 0 where
  pub some : 1 ≤ free
  pub few : free ≤ count
  pub none : (q : ℕ) → place ≤ q → q < place + free → list_any (maps_to q) edits ≡ false

or_none : (a b : Bool) → a ≡ false → b ≡ false → (a || b) ≡ false
or_none a b is_a is_b = rw (is_a, is_b) refl

-- one edit more
pub free_more : (edits : List Edit) (i place count free n : ℕ) (e : Edit) → i < length edits
    → e ≡ get_or edits i e → IsFreeFor (take i edits) place count free
    → IsFront (e ∷ []) place free (front.Free n) → IsFreeFor (take (i + 1) edits) place count n
free_more edits i place count free n e lt is so_far one =
    let few = so_far.few in
    let less = one.1 in
    record {
      some = one.0;
      few = omega arith;
      none = λ q ge below.
          ap (list_any (maps_to q)) (take_more edits i e lt)
          ∙ ap (λ (x : Edit). list_any (maps_to q) (take i edits ++ x ∷ [])) (sym is)
          ∙ list_any-append (maps_to q) (take i edits) (e ∷ [])
          ∙ or_none _ _ (so_far.none q ge (omega arith)) (one.2 q ge below);
    }

pub free_all : (edits : List Edit) (i place count free : ℕ) → length edits ≤ i
    → IsFreeFor (take i edits) place count free → IsFreeFor edits place count free
free_all edits i place count free le so_far =
    subst (λ (es : List Edit). IsFreeFor es place count free) (take_all i edits le) so_far

-- an edit among others maps what it maps alone
pub mapped_among : (edits : List Edit) (i q : ℕ) (e : Edit) → i < length edits → e ≡ get_or edits i e
    → list_any (maps_to q) (e ∷ []) ≡ true → list_any (maps_to q) edits ≡ true
mapped_among edits i q e lt is one =
    ap (list_any (maps_to q)) (sym (take-append-drop i edits) ∙ ap (λ (es : List Edit). take i edits ++ es) (drop_more edits i e lt))
    ∙ list_any-append (maps_to q) (take i edits) (get_or edits i e ∷ drop (i + 1) edits)
    ∙ ap (λ (x : Edit). list_any (maps_to q) (take i edits) || list_any (maps_to q) (x ∷ drop (i + 1) edits)) (sym is)
    ∙ hit (list_any (maps_to q) (take i edits)) (maps_to q e) (list_any (maps_to q) (drop (i + 1) edits)) one
  where
    hit : (a b c : Bool) → (b || false) ≡ true → (a || (b || c)) ≡ true
    hit true b c e = refl
    hit false true c e = refl
    hit false false c e = absurd (true≢false (sym e))

-- ---- a search

-- from one index up to before another no place is fresh
pub record IsPassed (l : Layout) (p : PlacesView) (edits : List Edit) (from at : ℕ) : Type 0 where
  pub behind : from ≤ at
  pub none : (i : ℕ) → from ≤ i → i < at → is_fresh l p edits (first_place l + i) ≡ false

module _ (l : Layout) (p : PlacesView) (edits : List Edit) (layout : IsLayout l) (len : length p.current ≡ data_blocks l) where
  -- none behind an index either
  pub passed_all : (from at most : ℕ) → IsPassed l p edits from at
      → FindsNextSet (spare_bits p) at most None → FindsFresh l p edits from most None
  passed_all from at most passed none i ge = elim (cases_lt i at) [
    | inl lt ↦ passed.none i ge lt
    | inr behind' ↦ spare_first l p edits (first_place l + i) (unspare_at l p i layout len (none i behind'))
  ]

  -- past places that an edit maps
  pub passed_mapped : (from at most end : ℕ) (s : Stretch) → IsPassed l p edits from at
      → FindsNextSet (spare_bits p) at most (Some s)
      → IsFront edits (first_place l + s.start) s.count (front.Mapped end)
      → IsPassed l p edits from (end - first_place l)
  passed_mapped from at most end s passed next mapped =
      let so_far = passed.behind in
      let behind' = next.behind in
      let later = mapped.0 in
      record {
        behind = omega arith;
        none = λ i ge lt. elim (cases_lt i at) [
          | inl before ↦ passed.none i ge before
          | inr after' ↦ elim (cases_lt i s.start) [
            | inl unset ↦ spare_first l p edits (first_place l + i) (unspare_at l p i layout len (next.before i after' unset))
            | inr on ↦ mapped_first l p edits (first_place l + i) (mapped.1 (first_place l + i) (omega arith) (omega arith))
          ]
        ];
      }

  -- so many places in front are fresh
  pub found_fresh : (from at most n : ℕ) (s : Stretch) → IsPassed l p edits from at
      → FindsNextSet (spare_bits p) at most (Some s)
      → IsFront edits (first_place l + s.start) s.count (front.Free n)
      → FindsFresh l p edits from most (Some (record { start = s.start; count = n }))
  found_fresh from at most n s passed next free =
      let so_far = passed.behind in
      let behind' = next.behind in
      let few = next.few in
      let within = next.within in
      let less = free.1 in
      let all = length-spare_bits p in
      record {
        behind = omega arith;
        some = free.0;
        few = omega arith;
        within = omega arith;
        each = λ i ge lt. fresh_place l p edits (first_place l + i)
            (spare_at l p i layout len (next.each i ge (omega arith)))
            (free.2 (first_place l + i) (omega arith) (omega arith));
      }

  -- ---- how many

  pub count-tally_of : (test : ℕ → Bool) → count_of l test ≡ tally test (first_place l) (data_blocks l)
  count-tally_of test = count-tally test (first_place l) (data_blocks l)

  -- where one is fresh, the search from the first one on finds one
  pub some_fresh : (most : ℕ) (o : Option Stretch) → 0 < count_of l (is_fresh l p edits)
      → FindsFresh l p edits 0 most o → IsSome o
  some_fresh most None some none =
      let zero' : tally (is_fresh l p edits) (first_place l) (data_blocks l) ≡ 0
      = tally-none (is_fresh l p edits) (first_place l) (data_blocks l) (λ i ge. (let there : first_place l + (i - first_place l) ≡ i = omega arith in
      ap (is_fresh l p edits) (sym there) ∙ none (i - first_place l) (omega arith))) in
      absurd (omega (arith, count-tally_of (is_fresh l p edits)))
  some_fresh most (Some s) some next = refl

  -- the run at such a stretch
  pub stretch_run : (first most low : ℕ) (s : Stretch) → low ≡ first_place l
      → IsNextFresh l p edits 0 most s
      → IsNextRun l p edits first most (record { first = first; count = s.count; place = low + s.start })
  stretch_run first most low s is next =
      let has = layout.has_data in
      let within = next.within in
      record {
        begins = refl;
        some = next.some;
        few = next.few;
        high = omega arith;
        fresh = λ place ge lt. (let there : first_place l + (place - first_place l) ≡ place = omega arith in
            ap (is_fresh l p edits) (sym there) ∙ next.each (place - first_place l) (omega arith) (omega arith));
      }

  -- ---- a run more that is mapped

  unmapped_same : (es : List Edit) (e : Edit) (q : ℕ) → maps_to q e ≡ false
      → is_fresh l p (es ++ e ∷ []) q ≡ is_fresh l p es q
  unmapped_same es e q out =
      ap (λ (b : Bool). is_spare l p q && not b)
      (list_any-append (maps_to q) es (e ∷ [])
      ∙ ap (λ (b : Bool). list_any (maps_to q) es || (b || false)) out
      ∙ or-false (list_any (maps_to q) es))

  mapped_out : (es : List Edit) (e : Edit) (q : ℕ) → maps_to q e ≡ true
      → is_fresh l p (es ++ e ∷ []) q ≡ false
  mapped_out es e q is =
      mapped_first l p (es ++ e ∷ []) q
      (list_any-append (maps_to q) es (e ∷ [])
      ∙ ap (λ (b : Bool). list_any (maps_to q) es || (b || false)) is
      ∙ or-true (list_any (maps_to q) es))

  three_parts : (test : ℕ → Bool) (low n start count : ℕ) → low ≤ start → start + count ≤ low + n
      → tally test low n
      ≡ tally test low (start - low) + tally test start count + tally test (start + count) (low + n - (start + count))
  three_parts test low n start count ge le =
      let front = tally-split test (start + count - low) (low + n - (start + count)) n low (start + count) (omega arith) (omega arith) in
      let middle = tally-split test (start - low) count (start + count - low) low start (omega arith) (omega arith) in
      omega (arith, front, middle)

  pub data_low : (place : ℕ) → is_fresh l p edits place ≡ true → first_place l ≤ place
  data_low place is =
      let spare = (fresh_parts l p edits place is).0 in
      let data_ = (and_true (is_data l place) (bits.is_spare p (place - first_place l)) spare).0 in
      grind (arith, nat_tests)

  -- where a fresh run is mapped, so many places fewer are fresh
  pub fresh_taken : (file first most : ℕ) (r : Run) → IsNextRun l p edits first most r
      → count_of l (is_fresh l p (edits ++ map_edit file r ∷ [])) + r.count
      ≡ count_of l (is_fresh l p edits)
  fresh_taken file first most r next =
      let old = is_fresh l p edits in
      let new = is_fresh l p (edits ++ map_edit file r ∷ []) in
      let low = first_place l in
      let n = data_blocks l in
      let has = layout.has_data in
      let some = next.some in
      let high = next.high in
      let ge : low ≤ r.place = data_low r.place (next.fresh r.place (omega arith) (omega arith)) in
      let was = three_parts old low n r.place r.count ge (omega arith) in
      let now = three_parts new low n r.place r.count ge (omega arith) in
      let front = tally-same new old low (r.place - low) (λ i lo hi. unmapped_same edits (map_edit file r) i (let lt : i < r.place = omega arith in grind (arith, nat_tests))) in
      let rest = tally-same new old (place_end r) (low + n - place_end r) (λ i lo hi. unmapped_same edits (map_edit file r) i (let ge' : place_end r ≤ i = omega arith in grind (arith, nat_tests))) in
      let all = tally-all old r.place r.count (λ i lo hi. next.fresh i lo hi) in
      let none : tally new r.place r.count ≡ 0
      = tally-same new (λ _. false) r.place r.count (λ i lo hi. mapped_out edits (map_edit file r) i (grind (arith, nat_tests, lo, hi))) ∙ tally-none (λ _. false) r.place r.count (λ i lo. refl) in
      omega (arith, count-tally_of old, count-tally_of new)
