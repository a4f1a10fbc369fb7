-- A table has no defect exactly where no place is mapped twice; and what marks tell of it.
use Rattle.std.proofs.Common.{◌≡◌, ℕ, zero, suc, ◌+◌, ◌-◌, ◌<◌, ◌≤◌, Bool, true, false, cond, ◌||◌, List, [], ◌∷◌, ◌++◌, length, take, drop, replicate, flat_map, find, get_or, eqb, refl, ap, ap₂, sym, ◌∙◌, subst, arith, append_assoc, add-one, Option, None, Some, ◌⊎◌, inl, inr, ⊎_elim}
use Rattle.std.specs.Prelude.{slice_range}
use Rattle.std.specs.List.{All, AllByRecursion, list_any, range_with_len}
use Rattle.std.specs.FinMap.{get}
use Rattle.std.proofs.lemmas.Grind.{common_steps}
use Rattle.std.proofs.lemmas.List.{append-nil, take_more, length-replicate}
use Rattle.std.proofs.lemmas.List.Concat.{flat_map-append}
use Rattle.std.proofs.lemmas.List.Elements.{All-from_recursion}
use Rattle.std.proofs.lemmas.List.Folds.{list_any-append}
use Rattle.std.proofs.Math.Seq.{drop-cons}
use Rattle.std.proofs.Math.Bool.{or-false, or_assoc}
use Rattle.std.proofs.lemmas.Bool.{cases_lt, or_from, or_left, or_parts, or_right}
use Rattle.std.proofs.lemmas.Bool.Decides.{nat_tests}
use Rattle.sis_disk.specs.declared.layout.Layout.{Layout}
use Rattle.sis_disk.specs.declared.layout.GoodKind.TheVariants.{PlaceTwice}
use Rattle.sis_ranges.specs.declared.run.Run.{Run}
use Rattle.sis_ranges.specs.Extents.{place_end, run_places, runs_of, has_place}
use Rattle.sis_ranges.proofs.PlaceLemmas.{AreDistinct, distinct-once, found-at, in-range, once-distinct, value-found, values-runs_of}
use Rattle.sis_table.specs.Good.{IsGood, is_among, repeats, defect_after, first_defect, Marks}
use Rattle.sis_table.specs.Volume.{VolumeTable, IsTable, IsNode, AreNodes, blocks_of, last_id, maps_place, place_by, places_of}
use Rattle.sis_table.specs.declared.node.Node.{Node}
use Rattle.sis_table.proofs.EditLemmas.{all_nodes, has_id, last_id-push}
use Rattle.sis_table.proofs.MapLemmas.{IsRunPlaced, placed_parts}
use Rattle.sis_table.proofs.PlaceLemmas.{its_id, maps-from, not_id, used_by_one}

-- ---- places that are repeated

is_no : (a : Bool) → (a ≡ true → ⊥) → a ≡ false
is_no true f = absurd (f refl)
is_no false f = refl

one_among : (before : List ℕ) (p q : ℕ) → is_among (before ++ p ∷ []) q ≡ (is_among before q || eqb p q)
one_among before p q = list_any-append (λ r. eqb r q) before (p ∷ []) ∙ ap (λ (b : Bool). is_among before q || b) (or-false (eqb p q))

same_number : (p q : ℕ) → eqb p q ≡ true → p ≡ q
same_number p q e = grind (arith, nat_tests, e)

itself : (p : ℕ) → eqb p p ≡ true
itself p = grind (arith, nat_tests)

-- none of these places is an earlier one
abbrev AreNone : List ℕ → List ℕ → Type 0
AreNone before places = (p : ℕ) → is_among places p ≡ true → is_among before p ≡ false

distinct_none : (before places : List ℕ) → repeats before places ≡ false → AreDistinct places × AreNone before places
distinct_none before [] h = (tt, λ p is. absurd cc)
distinct_none before (p ∷ ps) h =
    let both = or_parts (is_among before p) (repeats (before ++ p ∷ []) ps) h in
    let others = distinct_none (before ++ p ∷ []) ps both.1 in (
      (is_no (is_among ps p) (λ again. (let e = sym (others.1 p again) ∙ one_among before p p ∙ or_right (is_among before p) (eqb p p) (itself p) in cc)), others.0),
      λ q is. by q (eqb p q) refl is both.0 (λ later. (or_parts (is_among before q) (eqb p q) (sym (one_among before p q) ∙ others.1 q later)).0),
    )
  where
    by : (q : ℕ) (b : Bool) → eqb p q ≡ b → (b || is_among ps q) ≡ true → is_among before p ≡ false → (is_among ps q ≡ true → is_among before q ≡ false) → is_among before q ≡ false
    by q true here is none others = subst (λ (r : ℕ). is_among before r ≡ false) (same_number p q here) none
    by q false here is none others = others is

none_distinct : (before places : List ℕ) → AreDistinct places → AreNone before places → repeats before places ≡ false
none_distinct before [] distinct none = refl
none_distinct before (p ∷ ps) distinct none =
    or_from (is_among before p) (repeats (before ++ p ∷ []) ps) (none p (or_left (eqb p p) (is_among ps p) (itself p)))
    (none_distinct (before ++ p ∷ []) ps distinct.1 (λ q is. one_among before p q ∙ or_from (is_among before q) (eqb p q) (none q (or_right (eqb p q) (is_among ps q) is))
    (is_no (eqb p q) (λ same. (let e : is_among ps q ≡ false = ap (is_among ps) (sym (same_number p q same)) ∙ distinct.0 in cc)))))

-- ---- files

-- each file maps a place once, and none that a later file maps
abbrev AreOnce : List Node → Type 0
AreOnce [] = Unit {0}
AreOnce (n ∷ ns) = AreDistinct (places_of n) × ((p : ℕ) → maps_place p n ≡ true → list_any (maps_place p) ns ≡ false) × AreOnce ns

-- and none of the earlier places
abbrev NoneMaps : List ℕ → List Node → Type 0
NoneMaps before nodes = (p : ℕ) → list_any (maps_place p) nodes ≡ true → is_among before p ≡ false

among_both : (before places : List ℕ) (p : ℕ) → is_among (before ++ places) p ≡ (is_among before p || is_among places p)
among_both before places p = list_any-append (λ q. eqb q p) before places

defect_once : (before : List ℕ) (nodes : List Node) → defect_after before nodes ≡ None → AreOnce nodes × NoneMaps before nodes
defect_once before [] h = (tt, λ p is. absurd cc)
defect_once before (n ∷ ns) h = by (repeats before (places_of n)) refl h (λ later. defect_once (before ++ places_of n) ns later)
  where
    by : (b : Bool) → repeats before (places_of n) ≡ b → cond b (Some (PlaceTwice, n.id, 0)) (defect_after (before ++ places_of n) ns) ≡ None
        → (defect_after (before ++ places_of n) ns ≡ None → AreOnce ns × NoneMaps (before ++ places_of n) ns) → AreOnce (n ∷ ns) × NoneMaps before (n ∷ ns)
    by true e is others = cc
    by false e is others =
        let first = distinct_none before (places_of n) e in
        let rest = others is in (
          (
            first.0,
            λ p maps. is_no (list_any (maps_place p) ns) (λ later. (let f = sym (rest.1 p later) ∙ among_both before (places_of n) p ∙ or_right (is_among before p) _ maps in cc)),
            rest.0,
          ),
          λ p is'. either p (maps_place p n) refl is' (λ here. first.1 p here) (λ later. (or_parts (is_among before p) _ (sym (among_both before (places_of n) p) ∙ rest.1 p later)).0),
        )
      where
        either : (p : ℕ) (b : Bool) → maps_place p n ≡ b → (b || list_any (maps_place p) ns) ≡ true → (maps_place p n ≡ true → is_among before p ≡ false)
            → (list_any (maps_place p) ns ≡ true → is_among before p ≡ false) → is_among before p ≡ false
        either p true here is f g = f here
        either p false here is f g = g is

once_defect : (before : List ℕ) (nodes : List Node) → AreOnce nodes → NoneMaps before nodes → defect_after before nodes ≡ None
once_defect before [] once none = refl
once_defect before (n ∷ ns) once none =
    let first : repeats before (places_of n) ≡ false = none_distinct before (places_of n) once.0 (λ p is. none p (or_left (maps_place p n) _ is)) in
    ap (λ (b : Bool). cond b (Some (PlaceTwice, n.id, 0)) (defect_after (before ++ places_of n) ns)) first
    ∙ once_defect (before ++ places_of n) ns once.2 (λ p is. among_both before (places_of n) p ∙ or_from (is_among before p) (maps_place p n) (none p (or_right (maps_place p n) _ is))
    (is_no (maps_place p n) (λ here. (let e = once.1 p here in cc))))

-- where two blocks of these files lie at one place, they are one block of one file
abbrev AreGood : List Node → Type 0
AreGood nodes = (i j a b place : ℕ) → place_by (find (has_id i) nodes) a ≡ Some place → place_by (find (has_id j) nodes) b ≡ Some place → (i ≡ j) × (a ≡ b)

once_good : (nodes : List Node) → AreOnce nodes → AreGood nodes
once_good [] once i j a b place is_a is_b = absurd cc
once_good (n ∷ ns) once i j a b place is_a is_b =
    by (has_id i n) refl (has_id j n) refl is_a is_b (λ f g. once_good ns once.2 i j a b place f g)
  where
    again : (k block other : ℕ) → get n.map block ≡ Some place → place_by (find (has_id k) ns) other ≡ Some place → ⊥
    again k block other here there =
        let none = once.1 place (value-found n.map block place here) in
        let some = maps-from ns k other place there in
        cc

    by : (c : Bool) → has_id i n ≡ c → (d : Bool) → has_id j n ≡ d → place_by (cond c (Some n) (find (has_id i) ns)) a ≡ Some place → place_by (cond d (Some n) (find (has_id j) ns)) b ≡ Some place
        → (place_by (find (has_id i) ns) a ≡ Some place → place_by (find (has_id j) ns) b ≡ Some place → (i ≡ j) × (a ≡ b)) → (i ≡ j) × (a ≡ b)
    by true e true f at_a at_b others = (sym (same_number n.id i e) ∙ same_number n.id j f, distinct-once n.map once.0 a b place at_a at_b)
    by true e false f at_a at_b others = absurd (again j a b at_a at_b)
    by false e true f at_a at_b others = absurd (again i b a at_b at_a)
    by false e false f at_a at_b others = others at_a at_b

-- a block of a later file has a later id
later_id : (l : Layout) (next : ℕ) (front nodes : List Node) (i block place : ℕ) → AreNodes l next front nodes → place_by (find (has_id i) nodes) block ≡ Some place → last_id front < i
later_id l next front [] i block place h is = absurd cc
later_id l next front (n ∷ ns) i block place h is = by (has_id i n) refl is (λ later. later_id l next (front ++ n ∷ []) ns i block place h.4 later)
  where
    by : (b : Bool) → has_id i n ≡ b → place_by (cond b (Some n) (find (has_id i) ns)) block ≡ Some place
        → (place_by (find (has_id i) ns) block ≡ Some place → last_id (front ++ n ∷ []) < i) → last_id front < i
    by true here e others = omega (arith, same_number n.id i here, h.0)
    by false here e others = omega (arith, others e, last_id-push front n, h.0)

good_once : (l : Layout) (next : ℕ) (front nodes : List Node) → AreNodes l next front nodes → AreGood nodes → AreOnce nodes
good_once l next front [] h good = tt
good_once l next front (n ∷ ns) h good = (
  once-distinct n.map (λ a b place is_a is_b. (good n.id n.id a b place (here a place is_a) (here b place is_b)).1),
  λ p maps. is_no (list_any (maps_place p) ns) (λ later. apart p maps later),
  good_once l next (front ++ n ∷ []) ns h.4 (λ i j a b place is_a is_b. good i j a b place (there i a place is_a) (there j b place is_b)),
)
  where
    here : (block place : ℕ) → get n.map block ≡ Some place → place_by (find (has_id n.id) (n ∷ ns)) block ≡ Some place
    here block place is = ap (λ (b : Bool). place_by (cond b (Some n) (find (has_id n.id) ns)) block) (its_id n) ∙ is

    there : (i block place : ℕ) → place_by (find (has_id i) ns) block ≡ Some place → place_by (find (has_id i) (n ∷ ns)) block ≡ Some place
    there i block place is =
        let later : n.id < i = omega (arith, later_id l next (front ++ n ∷ []) ns i block place h.4 is, last_id-push front n) in
        ap (λ (b : Bool). place_by (cond b (Some n) (find (has_id i) ns)) block) (not_id n i later) ∙ is

    apart : (p : ℕ) → maps_place p n ≡ true → list_any (maps_place p) ns ≡ true → ⊥
    apart p maps later =
        let one = used_by_one l next p (front ++ n ∷ []) ns h.4 later in
        let mine = found-at n.map p maps in
        let its = found-at one.node.map p one.maps in
        let at : place_by (find (has_id one.node.id) ns) its.0 ≡ Some p = ap (λ (o : Option Node). place_by o its.0) one.found ∙ its.1 in
        let same = (good n.id one.node.id mine.0 its.0 p (here mine.0 p mine.1) (there one.node.id its.0 p at)).0 in
        absurd (omega (arith, same, one.later, last_id-push front n))

pub no_both : {X : Type 0} {o : Option X} {x : X} → o ≡ None → o ≡ Some x → ⊥
no_both none some = cc

-- a table has no defect exactly where it is good
pub good_law : (v : VolumeTable) → IsTable v → (first_defect v ≡ None → IsGood v) × (IsGood v → first_defect v ≡ None)
good_law v h = (
  λ none. once_good v.nodes (defect_once [] v.nodes none).0,
  λ good. once_defect [] v.nodes (good_once v.layout v.next_id [] v.nodes h.nodes good) (λ p is. refl),
)

-- ---- marks

-- what the marks of places in a row tell
any_marked : (marks : List Bool) (a n : ℕ) → a + n ≤ length marks
    → list_any (λ m. m) (take n (drop a marks)) ≡ list_any (λ k. get_or marks k false) (range_with_len a n)
any_marked marks a zero le = grind arith
any_marked marks a (suc n) le =
    ap (λ (l : List Bool). list_any (λ m. m) (take (suc n) l)) (drop-cons marks a false (omega arith))
    ∙ ap (λ k. get_or marks a false || list_any (λ m. m) (take n (drop k marks))) (sym (add-one a))
    ∙ ap (λ (b : Bool). get_or marks a false || b) (any_marked marks (a + 1) n (omega arith))

any_same : (p q : ℕ → Bool) (a n : ℕ) → ((k : ℕ) → a ≤ k → k < a + n → p k ≡ q k) → list_any p (range_with_len a n) ≡ list_any q (range_with_len a n)
any_same p q a zero h = refl
any_same p q a (suc n) h =
    ap (λ (b : Bool). b || list_any p (range_with_len (a + 1) n)) (h a (omega arith) (omega arith))
    ∙ ap (λ (b : Bool). q a || b) (any_same p q (a + 1) n (λ k low high. h k (omega arith) (omega arith)))

-- of places in a row, one is earlier where one is repeated: they are distinct
range_repeats : (n a : ℕ) (before rest : List ℕ) → repeats before (range_with_len a n ++ rest) ≡ (list_any (is_among before) (range_with_len a n) || repeats (before ++ range_with_len a n) rest)
range_repeats zero a before rest = ap (λ (ps : List ℕ). repeats ps rest) (sym (append-nil before))
range_repeats (suc n) a before rest =
    ap (λ (b : Bool). is_among before a || b)
    (range_repeats n (a + 1) (before ++ a ∷ []) rest
    ∙ ap₂ (λ (b : Bool) (ps : List ℕ). b || repeats ps rest)
    (any_same (is_among (before ++ a ∷ [])) (is_among before) (a + 1) n (λ k low high. one_among before a k ∙ ap (λ (b : Bool). is_among before k || b) (away k low) ∙ or-false (is_among before k)))
    (append_assoc before (a ∷ []) (range_with_len (a + 1) n)))
    ∙ sym (or_assoc (is_among before a) _ _)
  where
    away : (k : ℕ) → a + 1 ≤ k → eqb a k ≡ false
    away k low = grind (arith, nat_tests, low)

-- a place of the run is an earlier one
abbrev maps_again : List ℕ → Run → Bool
maps_again before r = list_any (is_among before) (run_places r)

pub marks_tell : (marks : List Bool) (before : List ℕ) (r : Run) → place_end r ≤ length marks → Marks marks before
    → list_any (λ m. m) (slice_range marks r.place (place_end r)) ≡ maps_again before r
marks_tell marks before r le h =
    let size : place_end r - r.place ≡ r.count = omega arith in
    ap (λ n. list_any (λ m. m) (take n (drop r.place marks))) size
    ∙ any_marked marks r.place r.count le
    ∙ any_same (λ k. get_or marks k false) (is_among before) r.place r.count (λ k low high. h k (omega arith))

outside : (r : Run) (k : ℕ) → (k < r.place) ⊎ (place_end r ≤ k) → has_place k r ≡ false
outside r k (inl lt) = grind (arith, nat_tests)
outside r k (inr le) = grind (arith, nat_tests)

write_front : (marks : List Bool) (a n k : ℕ) → a + n ≤ length marks → k < a → get_or (take a marks ++ replicate n true ++ drop (a + n) marks) k false ≡ get_or marks k false
write_front marks a n k le lt = grind (arith, common_steps)

write_middle : (marks : List Bool) (a n k : ℕ) → a + n ≤ length marks → a ≤ k → k < a + n → get_or (take a marks ++ replicate n true ++ drop (a + n) marks) k false ≡ true
write_middle marks a n k le low high = grind (arith, common_steps)

write_behind : (marks : List Bool) (a n k : ℕ) → a + n ≤ length marks → a + n ≤ k → get_or (take a marks ++ replicate n true ++ drop (a + n) marks) k false ≡ get_or marks k false
write_behind marks a n k le low = grind (arith, common_steps)

write_length : (marks : List Bool) (a n : ℕ) → a + n ≤ length marks → length (take a marks ++ replicate n true ++ drop (a + n) marks) ≡ length marks
write_length marks a n le = grind (arith, common_steps)

inside : (r : Run) (k : ℕ) → r.place ≤ k → k < place_end r → has_place k r ≡ true
inside r k low high = grind (arith, nat_tests)

pub marks_written : (marks new : List Bool) (before : List ℕ) (r : Run) → place_end r ≤ length marks → Marks marks before
    → new ≡ take r.place marks ++ replicate r.count true ++ drop (place_end r) marks → Marks new (before ++ run_places r)
marks_written marks new before r le h is =
    subst (λ (l : List Bool). Marks l (before ++ run_places r)) (sym is) (λ k lt. at k (subst (λ n. k < n) (write_length marks r.place r.count le) lt) ∙ sym (ends k))
  where
    ends : (k : ℕ) → is_among (before ++ run_places r) k ≡ (is_among before k || has_place k r)
    ends k = among_both before (run_places r) k ∙ ap (λ (b : Bool). is_among before k || b) (in-range r.count r.place k)

    other : (k : ℕ) → k < length marks → has_place k r ≡ false → get_or marks k false ≡ (is_among before k || has_place k r)
    other k lt away = h k lt ∙ sym (or-false (is_among before k)) ∙ ap (λ (b : Bool). is_among before k || b) (sym away)

    at : (k : ℕ) → k < length marks → get_or (take r.place marks ++ replicate r.count true ++ drop (place_end r) marks) k false ≡ (is_among before k || has_place k r)
    at k lt = ⊎_elim
        (λ (front : k < r.place). write_front marks r.place r.count k le front ∙ other k lt (outside r k (inl front)))
        (λ (low : r.place ≤ k). ⊎_elim
        (λ (high : k < place_end r). write_middle marks r.place r.count k le low high ∙ sym (or_right (is_among before k) (has_place k r) (inside r k low high)))
        (λ (behind : place_end r ≤ k). write_behind marks r.place r.count k le behind ∙ other k lt (outside r k (inr behind)))
        (cases_lt k (place_end r)))
        (cases_lt k r.place)

-- ---- a loop over runs

abbrev pub all_places : List Run → List ℕ
all_places runs = flat_map run_places runs

-- as far as it has come
abbrev pub Scanned : List Bool → List Bool → List Run → ℕ → Type 0
Scanned first marks runs i = (before : List ℕ) → Marks first before
    → Marks marks (before ++ all_places (take i runs)) × (repeats before (all_places runs) ≡ repeats (before ++ all_places (take i runs)) (all_places (drop i runs)))

-- the next run
record Next (runs : List Run) (i : ℕ) (r : Run) : Type 0 where
  pub front : all_places (take (i + 1) runs) ≡ all_places (take i runs) ++ run_places r
  pub rest : all_places (drop i runs) ≡ run_places r ++ all_places (drop (i + 1) runs)

next_run : (runs : List Run) (i : ℕ) (r : Run) → i < length runs → r ≡ get_or runs i r → Next runs i r
next_run runs i r lt is = record {
  front = ap all_places (take_more runs i r lt ∙ ap (λ (x : Run). take i runs ++ x ∷ []) (sym is))
      ∙ flat_map-append run_places (take i runs) (r ∷ []) ∙ ap (λ (ps : List ℕ). all_places (take i runs) ++ ps) (append-nil (run_places r));
  rest = ap all_places (drop-cons runs i r lt ∙ ap (λ (x : Run). x ∷ drop (suc i) runs) (sym is) ∙ ap (λ k. r ∷ drop k runs) (sym (add-one i)));
}

split_at : (before : List ℕ) (runs : List Run) (i : ℕ) (r : Run) → Next runs i r
    → repeats (before ++ all_places (take i runs)) (all_places (drop i runs))
    ≡ (maps_again (before ++ all_places (take i runs)) r || repeats (before ++ all_places (take (i + 1) runs)) (all_places (drop (i + 1) runs)))
split_at before runs i r n =
    ap (λ (ps : List ℕ). repeats (before ++ all_places (take i runs)) ps) n.rest
    ∙ range_repeats r.count r.place (before ++ all_places (take i runs)) (all_places (drop (i + 1) runs))
    ∙ ap (λ (ps : List ℕ). maps_again (before ++ all_places (take i runs)) r || repeats ps (all_places (drop (i + 1) runs)))
    (append_assoc before (all_places (take i runs)) (run_places r) ∙ ap (λ (ps : List ℕ). before ++ ps) (sym n.front))

-- a mark was there
pub scan_hit : (first marks : List Bool) (runs : List Run) (i : ℕ) (r : Run) → i < length runs → r ≡ get_or runs i r → place_end r ≤ length marks
    → list_any (λ m. m) (slice_range marks r.place (place_end r)) ≡ true → Scanned first marks runs i
    → (before : List ℕ) → Marks first before → repeats before (all_places runs) ≡ true
scan_hit first marks runs i r lt is le hit so_far before h =
    let s = so_far before h in
    let again : maps_again (before ++ all_places (take i runs)) r ≡ true = sym (marks_tell marks (before ++ all_places (take i runs)) r le s.0) ∙ hit in
    s.1 ∙ split_at before runs i r (next_run runs i r lt is) ∙ ap (λ (b : Bool). b || repeats (before ++ all_places (take (i + 1) runs)) (all_places (drop (i + 1) runs))) again

pub scan_more : (first marks new : List Bool) (runs : List Run) (i : ℕ) (r : Run) → i < length runs → r ≡ get_or runs i r → place_end r ≤ length marks
    → list_any (λ m. m) (slice_range marks r.place (place_end r)) ≡ false
    → new ≡ take r.place marks ++ replicate r.count true ++ drop (place_end r) marks → Scanned first marks runs i → Scanned first new runs (i + 1)
scan_more first marks new runs i r lt is le miss wrote so_far before h =
    let s = so_far before h in
    let n = next_run runs i r lt is in
    let again : maps_again (before ++ all_places (take i runs)) r ≡ false = sym (marks_tell marks (before ++ all_places (take i runs)) r le s.0) ∙ miss in (
      subst (Marks new) (append_assoc before (all_places (take i runs)) (run_places r) ∙ ap (λ (ps : List ℕ). before ++ ps) (sym n.front))
          (marks_written marks new (before ++ all_places (take i runs)) r le s.0 wrote),
      s.1 ∙ split_at before runs i r n ∙ ap (λ (b : Bool). b || repeats (before ++ all_places (take (i + 1) runs)) (all_places (drop (i + 1) runs))) again,
    )

-- the end, with no mark met
pub scan_all : (first marks : List Bool) (runs : List Run) (i : ℕ) → length runs ≤ i → Scanned first marks runs i
    → (before : List ℕ) → Marks first before → (repeats before (all_places runs) ≡ false) × Marks marks (before ++ all_places runs)
scan_all first marks runs i le so_far before h =
    let s = so_far before h in
    let none : drop i runs ≡ [] = grind (arith, common_steps) in
    let whole : take i runs ≡ runs = grind (arith, common_steps) in (
      s.1 ∙ ap (λ (rs : List Run). repeats (before ++ all_places (take i runs)) (all_places rs)) none,
      subst (λ (rs : List Run). Marks marks (before ++ all_places rs)) whole s.0,
    )

-- ---- a loop over files

-- the runs of each file end inside the image
abbrev AreInside : ℕ → List Node → Type 0
AreInside total nodes = AllByRecursion (λ n. AllByRecursion (λ r. place_end r ≤ total) (runs_of n.map)) nodes

-- as far as it has come: these files are left, and those before them have these places
pub record Judged (total : ℕ) (marks : List Bool) (nodes rest : List Node) : Type 0 where
  pub before : List ℕ
  pub size : length marks ≡ total
  pub marked : Marks marks before
  pub told : defect_after [] nodes ≡ defect_after before rest
  pub inside : AreInside total rest

no_marks : (total : ℕ) → Marks (replicate total false) []
no_marks total k lt = grind (arith, common_steps)

ends_inside : (l : Layout) (blocks : ℕ) (runs : List Run) → AllByRecursion (IsRunPlaced l blocks) runs → AllByRecursion (λ r. place_end r ≤ l.total) runs
ends_inside l blocks [] h = tt
ends_inside l blocks (r ∷ rs) h = (h.0.high, ends_inside l blocks rs h.1)

nodes_inside : (l : Layout) (nodes : List Node) → AllByRecursion (IsNode l) nodes → AreInside l.total nodes
nodes_inside l [] h = tt
nodes_inside l (n ∷ ns) h = (ends_inside l (blocks_of n.size) (runs_of n.map) (placed_parts l (blocks_of n.size) n.map h.0.placed), nodes_inside l ns h.1)

pub judge_none : (v : VolumeTable) (marks : List Bool) (nodes : List Node) → IsTable v → nodes ≡ v.nodes → marks ≡ replicate v.layout.total false → Judged v.layout.total marks v.nodes nodes
judge_none v marks nodes h same is = record {
  before = [];
  size = ap (λ (l : List Bool). length l) is ∙ length-replicate v.layout.total false;
  marked = subst (λ (l : List Bool). Marks l []) (sym is) (no_marks v.layout.total);
  told = ap (defect_after []) (sym same);
  inside = subst (AreInside v.layout.total) (sym same) (nodes_inside v.layout v.nodes (all_nodes v.layout v.next_id [] v.nodes h.nodes));
}

-- the next file's runs are inside the marks
pub runs_inside : (total : ℕ) (marks : List Bool) (nodes rest more : List Node) (n : Node) → rest ≡ n ∷ more → Judged total marks nodes rest → All (λ r. place_end r ≤ length marks) (runs_of n.map)
runs_inside total marks nodes rest more n is so_far =
    All-from_recursion (λ r. place_end r ≤ length marks) (runs_of n.map)
    (subst (λ k. AllByRecursion (λ r. place_end r ≤ k) (runs_of n.map)) (sym so_far.size) (subst (AreInside total) is so_far.inside).0)

next_told : (total : ℕ) (marks : List Bool) (nodes rest more : List Node) (n : Node) → rest ≡ n ∷ more → (j : Judged total marks nodes rest)
    → defect_after [] nodes ≡ cond (repeats j.before (places_of n)) (Some (PlaceTwice, n.id, 0)) (defect_after (j.before ++ places_of n) more)
next_told total marks nodes rest more n is j = j.told ∙ ap (defect_after j.before) is

-- the places of a file as its runs give them
pub places_by_runs : (n : Node) → all_places (runs_of n.map) ≡ places_of n
places_by_runs n = sym (values-runs_of n.map)

pub judge_hit : (total : ℕ) (marks : List Bool) (nodes rest more : List Node) (n : Node) → rest ≡ n ∷ more
    → ((before : List ℕ) → Marks marks before → true ≡ repeats before (all_places (runs_of n.map))) → Judged total marks nodes rest → defect_after [] nodes ≡ Some (PlaceTwice, n.id, 0)
judge_hit total marks nodes rest more n is hit so_far =
    let again : repeats so_far.before (places_of n) ≡ true = ap (repeats so_far.before) (sym (places_by_runs n)) ∙ sym (hit so_far.before so_far.marked) in
    next_told total marks nodes rest more n is so_far
    ∙ ap (λ (b : Bool). cond b (Some (PlaceTwice, n.id, 0)) (defect_after (so_far.before ++ places_of n) more)) again

pub judge_more : (total : ℕ) (marks new : List Bool) (nodes rest more : List Node) (n : Node) → rest ≡ n ∷ more
    → ((before : List ℕ) → Marks marks before → false ≡ repeats before (all_places (runs_of n.map)))
    → ((before : List ℕ) → Marks marks before → Marks new (before ++ all_places (runs_of n.map))) → length new ≡ length marks
    → Judged total marks nodes rest → Judged total new nodes more
judge_more total marks new nodes rest more n is miss wrote size so_far =
    let first : repeats so_far.before (places_of n) ≡ false = ap (repeats so_far.before) (sym (places_by_runs n)) ∙ sym (miss so_far.before so_far.marked) in
    record {
      before = so_far.before ++ places_of n;
      size = size ∙ so_far.size;
      marked = subst (λ (ps : List ℕ). Marks new (so_far.before ++ ps)) (places_by_runs n) (wrote so_far.before so_far.marked);
      told = next_told total marks nodes rest more n is so_far
          ∙ ap (λ (b : Bool). cond b (Some (PlaceTwice, n.id, 0)) (defect_after (so_far.before ++ places_of n) more)) first;
      inside = (subst (AreInside total) is so_far.inside).1;
    }

pub judge_all : (total : ℕ) (marks : List Bool) (nodes rest : List Node) → rest ≡ [] → Judged total marks nodes rest → defect_after [] nodes ≡ None
judge_all total marks nodes rest none so_far = so_far.told ∙ ap (defect_after so_far.before) none
