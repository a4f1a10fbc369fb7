-- What callers cite: maps and their runs, before and after each call.
use Rattle.std.proofs.Common.{◌≡◌, ℕ, suc, ◌+◌, ◌-◌, ◌<◌, ◌≤◌, Bool, true, false, cond, List, [], ◌∷◌, ◌++◌, flat_map, length, Option, None, Some, refl, sym, ap, ap₂, ◌∙◌, subst, arith}
use Rattle.std.specs.Prelude.{◌==◌, ◌&&◌, nat_lt, not, T}
use Rattle.std.specs.Option.{option_or}
use Rattle.std.specs.Ordering.{nat_cmp, is_lt}
use Rattle.std.proofs.lemmas.Bool.Decides.{nat_tests}
use Rattle.std.proofs.lemmas.Cmp.{nat_cmp_total}
use Rattle.std.specs.FinMap.{FinMap, entries, entries_sorted, empty, find, get, get-entries, get-from_entries, is_sorted, retain_keys, same_map, nat_cmp-IsAntisymmetric}
use Rattle.sis_ranges.specs.declared.run.Run.{Run}
use Rattle.sis_ranges.specs.Extents.{block_end, blocks_of, in_stretch, has_block, place_of, map_of, with_blocks, joined_front, runs_of_blocks, runs_of, IsApart, AreRuns}
use Rattle.sis_ranges.specs.Inside.{before, put_over}
use Rattle.sis_ranges.proofs.CutLemmas.{can_join-same, split, IsBehind, length-before, place_of-past}
use Rattle.sis_ranges.proofs.JoinLemmas.{place_of-append}
use Rattle.sis_ranges.proofs.PartLemmas.{AreRuns-before, AreRuns-put_over, length-put_over, map_of-before, map_of-clear, map_of-set}
use Rattle.sis_ranges.proofs.MapLemmas.{with_none}
pub use Rattle.sis_ranges.proofs.MapLemmas.{get-map_of, get-with_blocks, get-without_stretch, get-front, runs_of-map_of}

-- ---- a map and its runs

pub map_of-empty : map_of [] ≡ empty
map_of-empty = refl

-- a block before runs is the first of their blocks
blocks-front : (e : ℕ × ℕ) (rs : List Run) → flat_map blocks_of (joined_front e rs) ≡ e ∷ flat_map blocks_of rs
blocks-front e [] = refl
blocks-front e (r ∷ rs) = grown ((r.first == e.0 + 1) && (r.place == e.1 + 1)) refl
  where
    goes_on : (r.first == e.0 + 1) && (r.place == e.1 + 1) ≡ true → (r.first ≡ e.0 + 1) × (r.place ≡ e.1 + 1)
    goes_on is = (grind (arith, nat_tests, is), grind (arith, nat_tests, is))

    grown : (b : Bool) → (r.first == e.0 + 1) && (r.place == e.1 + 1) ≡ b
        → flat_map blocks_of (cond b (record { first = e.0; count = r.count + 1; place = e.1 } ∷ rs) (record { first = e.0; count = 1; place = e.1 } ∷ r ∷ rs))
        ≡ e ∷ flat_map blocks_of (r ∷ rs)
    grown true is =
        let on = goes_on is in
        let next : r.count + 1 ≡ suc r.count = omega arith in
        ap (λ (n : ℕ). flat_map blocks_of (record { first = e.0; count = n; place = e.1 } ∷ rs)) next
        ∙ ap₂ (λ (a p : ℕ). e ∷ flat_map blocks_of (record { first = a; count = r.count; place = p } ∷ rs)) (sym on.0) (sym on.1)
    grown false is = refl

blocks-runs : (es : List (ℕ × ℕ)) → flat_map blocks_of (runs_of_blocks es) ≡ es
blocks-runs [] = refl
blocks-runs (e ∷ es) = blocks-front e (runs_of_blocks es) ∙ ap (λ (l : List (ℕ × ℕ)). e ∷ l) (blocks-runs es)

-- the runs of a map put each block where the map does
pub place_of-runs_of : (m : FinMap nat_cmp ℕ) (block : ℕ) → place_of (runs_of m) block ≡ get m block
unfolding runs_of
place_of-runs_of m block =
    sym (get-map_of (runs_of_blocks (entries m)) block)
    ∙ get-from_entries nat_cmp_total (flat_map blocks_of (runs_of_blocks (entries m))) block
    ∙ ap (λ (es : List (ℕ × ℕ)). find nat_cmp block es) (blocks-runs (entries m))
    ∙ sym (get-entries m block)

-- and are those of that map
pub map_of-runs_of : (m : FinMap nat_cmp ℕ) → map_of (runs_of m) ≡ m
map_of-runs_of m = same_map nat_cmp_total nat_cmp-IsAntisymmetric _ _ (λ q. get-map_of (runs_of m) q ∙ place_of-runs_of m q)

-- the blocks rise
abbrev pub IsRising : List (ℕ × ℕ) → Type 0
IsRising [] = Unit {0}
IsRising (e ∷ []) = Unit {0}
IsRising (e ∷ f ∷ es) = (e.0 < f.0) × IsRising (f ∷ es)

pub rises : (es : List (ℕ × ℕ)) → is_sorted nat_cmp es ≡ true → IsRising es
rises [] is = tt
rises (e ∷ []) is = tt
rises (e ∷ f ∷ es) is = (less e.0 f.0 (left _ _ (left _ _ is)), rises (f ∷ es) (right _ _ is))
  where
    left : (a b : Bool) → a && b ≡ true → a ≡ true
    left true b is = refl
    left false b is = is

    right : (a b : Bool) → a && b ≡ true → b ≡ true
    right true b is = is
    right false b is = absurd (subst T (sym is) tt)

    less : (a b : ℕ) → is_lt (nat_cmp a b) ≡ true → a < b
    less a b is = grind (arith, nat_tests, is)

behind-front : (e : ℕ × ℕ) (rs : List Run) (k : ℕ) → k ≤ e.0 → IsBehind k (joined_front e rs)
behind-front e [] k le = le
behind-front e (r ∷ rs) k le =
    elim ((r.first == e.0 + 1) && (r.place == e.1 + 1)) as (λ b. IsBehind k (cond b (record { first = e.0; count = r.count + 1; place = e.1 } ∷ rs) (record { first = e.0; count = 1; place = e.1 } ∷ r ∷ rs))) [
      | true ↦ le
      | false ↦ le
    ]

AreRuns-front : (e : ℕ × ℕ) (rs : List Run) → AreRuns rs → IsBehind (e.0 + 1) rs → AreRuns (joined_front e rs)
AreRuns-front e [] are behind = (omega arith, tt, tt)
AreRuns-front e (r ∷ rs) are behind = grown ((r.first == e.0 + 1) && (r.place == e.1 + 1)) refl
  where
    apart : (rs : List Run) → r.first ≡ e.0 + 1 → r.place ≡ e.1 + 1 → IsApart r rs → IsApart (record { first = e.0; count = r.count + 1; place = e.1 }) rs
    apart [] block place h = tt
    apart (s ∷ ss) block place h =
        (omega (arith, block, h.0), can_join-same r (record { first = e.0; count = r.count + 1; place = e.1 }) s (omega (arith, block)) (omega (arith, place)) h.1)

    grown : (b : Bool) → (r.first == e.0 + 1) && (r.place == e.1 + 1) ≡ b
        → AreRuns (cond b (record { first = e.0; count = r.count + 1; place = e.1 } ∷ rs) (record { first = e.0; count = 1; place = e.1 } ∷ r ∷ rs))
    grown true is = (omega arith, apart rs (grind (arith, nat_tests, is)) (grind (arith, nat_tests, is)) are.1, are.2)
    grown false is = (omega arith, (behind, grind (arith, nat_tests, is)), are)

AreRuns-blocks : (es : List (ℕ × ℕ)) → IsRising es → AreRuns (runs_of_blocks es)
AreRuns-blocks [] rising = tt
AreRuns-blocks (e ∷ []) rising = (omega arith, tt, tt)
AreRuns-blocks (e ∷ f ∷ es) rising =
    AreRuns-front e (runs_of_blocks (f ∷ es)) (AreRuns-blocks (f ∷ es) rising.1)
    (behind-front f (runs_of_blocks es) (e.0 + 1) (omega (arith, rising.0)))

-- the runs of any map are maximal
pub AreRuns-runs_of : (m : FinMap nat_cmp ℕ) → AreRuns (runs_of m)
unfolding runs_of
AreRuns-runs_of m = AreRuns-blocks (entries m) (rises (entries m) (sorted _ (entries_sorted m)))
  where
    sorted : (b : Bool) → T b → b ≡ true
    sorted true is = refl
    sorted false is = absurd is

-- ---- one more run

-- a run behind others adds its blocks to their map, where they have none of them
pub map_of-append : (runs : List Run) (r : Run) → ((q : ℕ) → has_block q r ≡ true → place_of runs q ≡ None)
    → map_of (runs ++ r ∷ []) ≡ with_blocks (map_of runs) r
map_of-append runs r free = same_map nat_cmp_total nat_cmp-IsAntisymmetric _ _ (λ q.
    get-map_of (runs ++ r ∷ []) q ∙ place_of-append runs (r ∷ []) q ∙ either q (has_block q r) refl
    ∙ sym (get-with_blocks (map_of runs) r q ∙ ap (cond (has_block q r) (Some (r.place + (q - r.first)))) (get-map_of runs q)))
  where
    none_more : (o : Option ℕ) → option_or o None ≡ o
    none_more None = refl
    none_more (Some n) = refl

    either : (q : ℕ) (b : Bool) → has_block q r ≡ b
        → option_or (place_of runs q) (cond b (Some (r.place + (q - r.first))) None) ≡ cond b (Some (r.place + (q - r.first))) (place_of runs q)
    either q true is = ap (λ (o : Option ℕ). option_or o (Some (r.place + (q - r.first)))) (free q is)
    either q false is = none_more (place_of runs q)

-- they have none where all together are maximal runs
pub map_of-push : (runs : List Run) (r : Run) → AreRuns (runs ++ r ∷ []) → map_of (runs ++ r ∷ []) ≡ with_blocks (map_of runs) r
map_of-push runs r are = map_of-append runs r (λ q is. free runs q are (grind (arith, nat_tests, is)))
  where
    sooner : (x : Run) (xs : List Run) → AreRuns (x ∷ (xs ++ r ∷ [])) → block_end x ≤ r.first
    sooner x [] are = are.1.0
    sooner x (y ∷ ys) are =
        let rest : block_end y ≤ r.first = sooner y ys are.2 in
        omega (arith, are.1.0, rest)

    free : (xs : List Run) (q : ℕ) → AreRuns (xs ++ r ∷ []) → r.first ≤ q → place_of xs q ≡ None
    free [] q are ge = refl
    free (x ∷ xs) q are ge =
        let by : block_end x ≤ r.first = sooner x xs are in
        place_of-past x xs q (omega (arith, by, ge)) ∙ free xs q are.2 ge

-- ---- how many runs a map has

-- two more at most where a run's blocks are added
pub length-with_blocks : (m : FinMap nat_cmp ℕ) (r : Run) → length (runs_of (with_blocks m r)) ≤ length (runs_of m) + 2
length-with_blocks m r = split r.count 0
    (λ none.
    let same : m ≡ with_blocks m r = with_none m r (omega (arith, none)) in
    let longer : length (runs_of m) ≤ length (runs_of m) + 2 = omega arith in
    subst (λ (n : FinMap nat_cmp ℕ). length (runs_of n) ≤ length (runs_of m) + 2) same longer)
    (λ some.
    let runs : AreRuns (put_over r.first (block_end r) (Some r) (runs_of m)) = AreRuns-put_over r.first (block_end r) (Some r) (runs_of m) (AreRuns-runs_of m) (omega (arith, some), refl, refl) in
    let spelled : runs_of (with_blocks m r) ≡ put_over r.first (block_end r) (Some r) (runs_of m) =
    ap (λ (n : FinMap nat_cmp ℕ). runs_of (with_blocks n r)) (sym (map_of-runs_of m))
    ∙ ap runs_of (sym (map_of-set r (runs_of m) (AreRuns-runs_of m)))
    ∙ runs_of-map_of (put_over r.first (block_end r) (Some r) (runs_of m)) runs in
    let bound = length-put_over r.first (block_end r) (Some r) (runs_of m) (AreRuns-runs_of m) (omega arith) in
    omega (arith, ap (λ (l : List Run). length l) spelled, bound))

-- one more at most where a stretch is taken out
pub length-without_stretch : (m : FinMap nat_cmp ℕ) (first count : ℕ)
    → length (runs_of (retain_keys m (λ k. not (in_stretch first count k)))) ≤ length (runs_of m) + 1
length-without_stretch m first count =
    let runs : AreRuns (put_over first (first + count) None (runs_of m)) = AreRuns-put_over first (first + count) None (runs_of m) (AreRuns-runs_of m) (omega arith) in
    let spelled : runs_of (retain_keys m (λ k. not (in_stretch first count k))) ≡ put_over first (first + count) None (runs_of m) =
    ap (λ (n : FinMap nat_cmp ℕ). runs_of (retain_keys n (λ k. not (in_stretch first count k)))) (sym (map_of-runs_of m))
    ∙ ap runs_of (sym (map_of-clear first count (runs_of m) (AreRuns-runs_of m)))
    ∙ runs_of-map_of (put_over first (first + count) None (runs_of m)) runs in
    let bound = length-put_over first (first + count) None (runs_of m) (AreRuns-runs_of m) (omega arith) in
    omega (arith, ap (λ (l : List Run). length l) spelled, bound)

-- and no more in a front
pub length-front : (m : FinMap nat_cmp ℕ) (block : ℕ) → length (runs_of (retain_keys m (λ k. nat_lt k block))) ≤ length (runs_of m)
length-front m block =
    let spelled : runs_of (retain_keys m (λ k. nat_lt k block)) ≡ before block (runs_of m) =
    ap (λ (n : FinMap nat_cmp ℕ). runs_of (retain_keys n (λ k. nat_lt k block))) (sym (map_of-runs_of m))
    ∙ ap runs_of (sym (map_of-before block (runs_of m) (AreRuns-runs_of m)))
    ∙ runs_of-map_of (before block (runs_of m)) (AreRuns-before (runs_of m) block (AreRuns-runs_of m)) in
    omega (arith, ap (λ (l : List Run). length l) spelled, length-before (runs_of m) block)
