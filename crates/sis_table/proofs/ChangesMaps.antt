-- Maps with blocks at new places.
use Rattle.std.proofs.Common.{◌≡◌, ℕ, zero, suc, ◌+◌, ◌-◌, ◌<◌, ◌≤◌, Bool, true, false, cond, ◌||◌, List, [], ◌∷◌, ◌++◌, length, None, Some, refl, sym, ap, ap₂, ◌∙◌, subst, arith, inl, inr, length-append}
use Rattle.std.specs.Prelude.{◌==◌, ◌⊎◌, nat_lt}
use Rattle.std.specs.List.{AllByRecursion, range_with_len}
use Rattle.std.specs.Ordering.{nat_cmp, eq_by_cmp}
use Rattle.std.specs.FinMap.{FinMap, get, insert, retain_keys, get-insert, same_map, nat_cmp-IsAntisymmetric}
use Rattle.std.proofs.lemmas.Cmp.{nat_cmp_total}
use Rattle.std.proofs.lemmas.Bool.{or_parts, or_left, or_right, eqb-true, eq-eqb, ne_eqb, cond-true, cond-false}
use Rattle.std.proofs.lemmas.Bool.Decides.{nat_tests}
use Rattle.sis_ranges.specs.declared.run.Run.{Run}
use Rattle.sis_ranges.specs.Extents.{in_stretch, run_places, with_blocks}
use Rattle.sis_ranges.proofs.CutLemmas.{split, lt_yes, lt_no}
use Rattle.sis_ranges.proofs.MapLemmas.{equal_yes, equal_less, equal_more, get-with_blocks, get-front}
use Rattle.sis_table.specs.Good.{is_among}
use Rattle.sis_table.proofs.PutLemmas.{with_all}
use Rattle.sis_table.specs.Changes.{with_places, run_blocks, blocks_by, places_by}

abbrev pub Blocks : Type 0
Blocks = FinMap nat_cmp ℕ

-- the two tests of equal numbers
pub equal_test : (q k : ℕ) → eq_by_cmp nat_cmp q k ≡ (k == q)
equal_test q k = split q k
    (λ le. split k q
    (λ ge. equal_yes q k (omega (arith, le, ge)) ∙ sym (eq-eqb k q (omega (arith, le, ge))))
    (λ lt. equal_less q k lt ∙ sym (ne_eqb k q (λ e. omega (arith, lt, e)))))
    (λ gt. equal_more q k gt ∙ sym (ne_eqb k q (λ e. omega (arith, gt, e))))

-- what an insertion leaves at a block
pub get-put : (m : Blocks) (b p q : ℕ) → get (insert m b p) q ≡ cond (b == q) (Some p) (get m q)
get-put m b p q = get-insert nat_cmp_total m b p q ∙ ap (λ t. cond t (Some p) (get m q)) (equal_test q b)

-- block q and place p stand at the same position of these lists
abbrev pub IsPlace : List ℕ → List ℕ → ℕ → ℕ → Type 0
IsPlace [] places q p = ⊥
IsPlace (b ∷ bs) [] q p = ⊥
IsPlace (b ∷ bs) (x ∷ xs) q p = ((b ≡ q) × (x ≡ p)) ⊎ IsPlace bs xs q p

-- a block that isn't among these stays where it was
pub with_places-out : (blocks places : List ℕ) (m : Blocks) (q : ℕ) → is_among blocks q ≡ false → get (with_places blocks places m) q ≡ get m q
with_places-out [] places m q out = refl
with_places-out (b ∷ bs) [] m q out = refl
with_places-out (b ∷ bs) (x ∷ xs) m q out =
    let parts = or_parts (b == q) (is_among bs q) out in
    with_places-out bs xs (insert m b x) q parts.1
    ∙ get-put m b x q
    ∙ cond-false (b == q) (Some x) (get m q) parts.0

or_rest : (a b : Bool) → (a || b) ≡ true → b ≡ false → a ≡ true
or_rest true b h e = refl
or_rest false b h e = cc

-- a block that is among them lies at a place of theirs
pub with_places-in : (blocks places : List ℕ) (m : Blocks) (q : ℕ) → length places ≡ length blocks → is_among blocks q ≡ true
    → (p : ℕ) × (get (with_places blocks places m) q ≡ Some p) × IsPlace blocks places q p
with_places-in [] places m q size in_ = absurd cc
with_places-in (b ∷ bs) [] m q size in_ = absurd (omega (arith, size))
with_places-in (b ∷ bs) (x ∷ xs) m q size in_ =
    elim (is_among bs q) as (λ t. is_among bs q ≡ t → (p : ℕ) × (get (with_places bs xs (insert m b x)) q ≡ Some p) × IsPlace (b ∷ bs) (x ∷ xs) q p) [
      | true ↦ λ later.
          let found = with_places-in bs xs (insert m b x) q (omega (arith, size)) later in
          (found.0, found.1, inr found.2)
      | false ↦ λ last.
          let here : (b == q) ≡ true = or_rest (b == q) (is_among bs q) in_ last in
          (x, with_places-out bs xs (insert m b x) q last ∙ get-put m b x q ∙ cond-true (b == q) (Some x) (get m q) here, inl (eqb-true b q here, refl))
    ] refl

-- so a block lies at a place of theirs, or where it was
pub with_places-get : (blocks places : List ℕ) (m : Blocks) (q p : ℕ) → length places ≡ length blocks → get (with_places blocks places m) q ≡ Some p
    → IsPlace blocks places q p ⊎ ((is_among blocks q ≡ false) × (get m q ≡ Some p))
with_places-get blocks places m q p size is =
    elim (is_among blocks q) as (λ t. is_among blocks q ≡ t → IsPlace blocks places q p ⊎ ((is_among blocks q ≡ false) × (get m q ≡ Some p))) [
      | true ↦ λ e.
          let found = with_places-in blocks places m q size e in
          let same : found.0 ≡ p = some_is found.0 p (sym found.1 ∙ is) in
          inl (subst (λ k. IsPlace blocks places q k) same found.2)
      | false ↦ λ e. inr (e, sym (with_places-out blocks places m q e) ∙ is)
    ] refl
  where
    some_is : (a b : ℕ) → Some a ≡ Some b → a ≡ b
    some_is a b e = cc

pub place_among : (blocks places : List ℕ) (q p : ℕ) → IsPlace blocks places q p → is_among places p ≡ true
place_among [] places q p h = absurd h
place_among (b ∷ bs) [] q p h = absurd h
place_among (b ∷ bs) (x ∷ xs) q p h = elim h [
  | inl e ↦ or_left (x == p) (is_among xs p) (eq-eqb x p e.1)
  | inr e ↦ or_right (x == p) (is_among xs p) (place_among bs xs q p e)
]

pub block_among : (blocks places : List ℕ) (q p : ℕ) → IsPlace blocks places q p → is_among blocks q ≡ true
block_among [] places q p h = absurd h
block_among (b ∷ bs) [] q p h = absurd h
block_among (b ∷ bs) (x ∷ xs) q p h = elim h [
  | inl e ↦ or_left (b == q) (is_among bs q) (eq-eqb b q e.0)
  | inr e ↦ or_right (b == q) (is_among bs q) (block_among bs xs q p e)
]

-- ---- runs

get-with_range : (count first place : ℕ) (m : Blocks) (q : ℕ)
    → get (with_places (range_with_len first count) (range_with_len place count) m) q ≡ cond (in_stretch first count q) (Some (place + (q - first))) (get m q)
get-with_range zero first place m q = sym (cond-false (in_stretch first 0 q) (Some (place + (q - first))) (get m q) (grind (arith, nat_tests)))
get-with_range (suc n) first place m q =
    get-with_range n (first + 1) (place + 1) (insert m first place) q
    ∙ ap (cond (in_stretch (first + 1) n q) (Some (place + 1 + (q - (first + 1))))) (get-put m first place q)
    ∙ step
  where
    step : cond (in_stretch (first + 1) n q) (Some (place + 1 + (q - (first + 1)))) (cond (first == q) (Some place) (get m q)) ≡ cond (in_stretch first (suc n) q) (Some (place + (q - first))) (get m q)
    step = grind (arith, nat_tests)

-- a run's blocks at its places
pub with_blocks-places : (m : Blocks) (r : Run) → with_blocks m r ≡ with_places (run_blocks r) (run_places r) m
with_blocks-places m r = same_map nat_cmp_total nat_cmp-IsAntisymmetric _ _ (λ q. get-with_blocks m r q ∙ sym (get-with_range r.count r.first r.place m q))

pub with_places-append : (blocks more places rest : List ℕ) (m : Blocks) → length places ≡ length blocks
    → with_places (blocks ++ more) (places ++ rest) m ≡ with_places more rest (with_places blocks places m)
with_places-append [] more [] rest m size = refl
with_places-append [] more (x ∷ xs) rest m size = absurd (omega (arith, size))
with_places-append (b ∷ bs) more [] rest m size = absurd (omega (arith, size))
with_places-append (b ∷ bs) more (x ∷ xs) rest m size = with_places-append bs more xs rest (insert m b x) (omega (arith, size))

pub length-range : (first count : ℕ) → length (range_with_len first count) ≡ count
length-range first zero = refl
length-range first (suc n) = ap suc (length-range (first + 1) n)

-- so many places as blocks
pub length-places_by : (runs : List Run) → length (places_by runs) ≡ length (blocks_by runs)
length-places_by [] = refl
length-places_by (r ∷ rs) =
    length-append (run_places r) (places_by rs)
    ∙ ap₂ (λ (a b : ℕ). a + b) (length-range r.place r.count ∙ sym (length-range r.first r.count)) (length-places_by rs)
    ∙ sym (length-append (run_blocks r) (blocks_by rs))

-- the blocks of runs, one run after the other
pub with_all-places : (runs : List Run) (m : Blocks) → with_all m runs ≡ with_places (blocks_by runs) (places_by runs) m
with_all-places [] m = refl
with_all-places (r ∷ rs) m =
    ap (λ (k : Blocks). with_all k rs) (with_blocks-places m r)
    ∙ with_all-places rs (with_places (run_blocks r) (run_places r) m)
    ∙ sym (with_places-append (run_blocks r) (blocks_by rs) (run_places r) (places_by rs) m (length-range r.place r.count ∙ sym (length-range r.first r.count)))

-- ---- the blocks inside a size

abbrev pub front : ℕ → Blocks → Blocks
front end m = retain_keys m (λ block. nat_lt block end)

abbrev pub AreBelow : ℕ → List ℕ → Type 0
AreBelow end blocks = AllByRecursion (λ b. b < end) blocks

pub among_below : (end : ℕ) (blocks : List ℕ) (q : ℕ) → AreBelow end blocks → end ≤ q → is_among blocks q ≡ false
among_below end [] q below le = refl
among_below end (b ∷ bs) q below le = grind (arith, nat_tests, below.0, among_below end bs q below.1 le)

-- blocks inside the size are kept
pub front-with_places : (end : ℕ) (blocks places : List ℕ) (m : Blocks) → AreBelow end blocks
    → with_places blocks places (front end m) ≡ front end (with_places blocks places m)
front-with_places end blocks places m below = same_map nat_cmp_total nat_cmp-IsAntisymmetric _ _ (λ q. split end q
    (λ out.
    with_places-out blocks places (front end m) q (among_below end blocks q below out)
    ∙ get-front m end q ∙ cond-false (nat_lt q end) (get m q) None (lt_no q end out)
    ∙ sym (get-front (with_places blocks places m) end q ∙ cond-false (nat_lt q end) (get (with_places blocks places m) q) None (lt_no q end out)))
    (λ in_.
    same_inside blocks places (front end m) m q (get-front m end q ∙ cond-true (nat_lt q end) (get m q) None (lt_yes q end in_))
    ∙ sym (get-front (with_places blocks places m) end q ∙ cond-true (nat_lt q end) (get (with_places blocks places m) q) None (lt_yes q end in_))))
  where
    same_inside : (blocks places : List ℕ) (m n : Blocks) (q : ℕ) → get m q ≡ get n q → get (with_places blocks places m) q ≡ get (with_places blocks places n) q
    same_inside [] places m n q is = is
    same_inside (b ∷ bs) [] m n q is = is
    same_inside (b ∷ bs) (x ∷ xs) m n q is =
        same_inside bs xs (insert m b x) (insert n b x) q (get-put m b x q ∙ ap (cond (b == q) (Some x)) is ∙ sym (get-put n b x q))
