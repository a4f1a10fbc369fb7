-- Runs and the map for which they stand.
use Rattle.std.proofs.Common.{◌≡◌, ℕ, zero, suc, ◌+◌, ◌-◌, ◌<◌, ◌≤◌, Bool, true, false, cond, List, [], ◌∷◌, ◌++◌, flat_map, length, None, Some, refl, sym, ap, ap₂, ◌∙◌, subst, arith, length-append}
use Rattle.std.specs.Prelude.{◌^◌, min, nat_lt, not, is_some, Option}
use Rattle.std.specs.List.{AllByRecursion}
use Rattle.std.specs.Option.{option_or}
use Rattle.std.proofs.lemmas.List.{append-nil}
use Rattle.std.specs.Ordering.{nat_cmp, eq_by_cmp}
use Rattle.std.specs.declared.cmp.Ordering.{Ordering}
use Rattle.std.specs.declared.cmp.Ordering.TheVariants.{Less}
use Rattle.std.proofs.lemmas.Cmp.{nat_cmp_total}
use Rattle.std.specs.FinMap.{FinMap, entries, from_entries, get, len, find, entries-insert, put, empty, len-entries, len-empty, get-from_entries, get-insert, retain_keys, get-retain_keys, remove, get-remove, same_map, nat_cmp-IsAntisymmetric}
use Rattle.std.specs.FinMap.Entries.{by_order}
use Rattle.std.proofs.lemmas.Bool.Decides.{nat_tests}
use Rattle.sis_ranges.specs.declared.run.Run.{Run}
use Rattle.sis_ranges.specs.Extents.{IsPart, block_end, place_end, blocks_from, blocks_of, with_entries, with_blocks, in_stretch, map_of, joined_front, runs_of_blocks, runs_of, is_mapped, is_gap, has_block, place_of, IsApart, AreRuns, IsWithin}
use Rattle.sis_ranges.specs.Inside.{blocks_in, from_block, run_from, AreExtents, IsNext}
use Rattle.sis_ranges.proofs.CutLemmas.{can_join-same, lt_no, lt_yes, split, IsBehind, apart_behind, place_of-in, place_of-past, has_no-low}

abbrev Blocks : Type 0
Blocks = List (ℕ × ℕ)

abbrev IsAbove : ℕ → Blocks → Type 0
IsAbove k [] = Unit {0}
IsAbove k (e ∷ es) = k < e.0

less_by : (a b : ℕ) → a < b → nat_cmp a b ≡ Less
less_by a b lt = grind (arith, nat_tests)

put_front : (k v : ℕ) (es : Blocks) → IsAbove k es → put nat_cmp k v es ≡ (k, v) ∷ es
put_front k v [] above = refl
put_front k v (e ∷ es) above = ap (λ (o : Ordering). by_order o ((k, v) ∷ e ∷ es) ((e.0, v) ∷ es) (e ∷ put nat_cmp k v es)) (less_by k e.0 above)

above_rest : (r : Run) (rs : List Run) (k : ℕ) → IsApart r rs → AreRuns rs → k < r.first + r.count → IsAbove k (flat_map blocks_of rs)
above_rest r [] k apart h lt = tt
above_rest r (s ∷ rs) k apart h lt = above_blocks s.first s.count s.place (flat_map blocks_of rs) k h.0 (omega arith)
  where
    above_blocks : (first count place : ℕ) (rest : Blocks) (k : ℕ) → 1 ≤ count → k < first → IsAbove k (blocks_from first count place ++ rest)
    above_blocks first zero place rest k one lt = absurd (omega arith)
    above_blocks first (suc n) place rest k one lt = lt

entries_blocks : (first count place : ℕ) (rest : Blocks) → entries (from_entries {R = nat_cmp} rest) ≡ rest → ((k : ℕ) → k < first + count → IsAbove k rest) → entries (from_entries {R = nat_cmp} (blocks_from first count place ++ rest)) ≡ blocks_from first count place ++ rest
entries_blocks first zero place rest same above = same
entries_blocks first (suc n) place rest same above =
    entries-insert nat_cmp_total (from_entries (blocks_from (first + 1) n (place + 1) ++ rest)) first place
    ∙ ap (λ (es : Blocks). put nat_cmp first place es) (entries_blocks (first + 1) n (place + 1) rest same (λ k lt. above k (omega arith)))
    ∙ put_front first place (blocks_from (first + 1) n (place + 1) ++ rest) (next n)
  where
    next : (n : ℕ) → IsAbove first (blocks_from (first + 1) n (place + 1) ++ rest)
    next zero = above first (omega arith)
    next (suc m) = omega arith

nothing : (es : Blocks) → length es ≡ 0 → es ≡ []
nothing [] e = refl
nothing (x ∷ es) e = absurd (omega arith)

pub entries_map_of : (runs : List Run) → AreRuns runs → entries (map_of runs) ≡ flat_map blocks_of runs
entries_map_of [] h = nothing (entries (empty {X = ℕ} {R = nat_cmp})) (sym (len-entries (empty {X = ℕ} {R = nat_cmp})) ∙ len-empty nat_cmp ℕ)
entries_map_of (r ∷ rs) h = entries_blocks r.first r.count r.place (flat_map blocks_of rs) (entries_map_of rs h.2) (λ k lt. above_rest r rs k h.1 h.2 lt)

one_run : (first count place : ℕ) (rest : Blocks) (rs : List Run) → 1 ≤ count → runs_of_blocks rest ≡ rs → IsApart (record { first = first; count = count; place = place }) rs
    → runs_of_blocks (blocks_from first count place ++ rest) ≡ record { first = first; count = count; place = place } ∷ rs
one_run first zero place rest rs one same apart = absurd (omega arith)
one_run first (suc zero) place rest rs one same apart = ap (λ (l : List Run). joined_front (first, place) l) same ∙ alone rs apart
  where
    alone : (rs : List Run) → IsApart (record { first = first; count = 1; place = place }) rs → joined_front (first, place) rs ≡ record { first = first; count = 1; place = place } ∷ rs
    alone [] apart = refl
    alone (s ∷ rs) apart = grind (arith, nat_tests, apart.0, apart.1)
one_run first (suc (suc n)) place rest rs one same apart =
    ap (λ (l : List Run). joined_front (first, place) l) (one_run (first + 1) (suc n) (place + 1) rest rs (omega arith) same (later rs apart)) ∙ grind (arith, nat_tests)
  where
    later : (rs : List Run) → IsApart (record { first = first; count = suc (suc n); place = place }) rs → IsApart (record { first = first + 1; count = suc n; place = place + 1 }) rs
    later [] apart = tt
    later (s ∷ rs) apart = (omega (arith, apart.0), can_join-same (record { first = first; count = suc (suc n); place = place }) (record { first = first + 1; count = suc n; place = place + 1 }) s (omega arith) (omega arith) apart.1)

runs_of_runs : (runs : List Run) → AreRuns runs → runs_of_blocks (flat_map blocks_of runs) ≡ runs
runs_of_runs [] h = refl
runs_of_runs (r ∷ rs) h = one_run r.first r.count r.place (flat_map blocks_of rs) rs h.0 (runs_of_runs rs h.2) h.1

pub runs_of-map_of : (runs : List Run) → AreRuns runs → runs_of (map_of runs) ≡ runs
unfolding runs_of
runs_of-map_of runs h = ap runs_of_blocks (entries_map_of runs h) ∙ runs_of_runs runs h

-- ---- places

pub equal_yes : (q k : ℕ) → q ≡ k → eq_by_cmp nat_cmp q k ≡ true
equal_yes q k e = grind (arith, nat_tests, e)

pub equal_less : (q k : ℕ) → q < k → eq_by_cmp nat_cmp q k ≡ false
equal_less q k lt = grind (arith, nat_tests, lt)

pub equal_more : (q k : ℕ) → k < q → eq_by_cmp nat_cmp q k ≡ false
equal_more q k lt = grind (arith, nat_tests, lt)

find-low : (first count place q : ℕ) (rest : Blocks) → q < first → find nat_cmp q (blocks_from first count place ++ rest) ≡ find nat_cmp q rest
find-low first zero place q rest lt = refl
find-low first (suc n) place q rest lt =
    ap (λ (b : Bool). cond b (Some place) (find nat_cmp q (blocks_from (first + 1) n (place + 1) ++ rest))) (equal_less q first lt)
    ∙ find-low (first + 1) n (place + 1) q rest (omega (arith, lt))

find-high : (first count place q : ℕ) (rest : Blocks) → first + count ≤ q → find nat_cmp q (blocks_from first count place ++ rest) ≡ find nat_cmp q rest
find-high first zero place q rest le = refl
find-high first (suc n) place q rest le =
    ap (λ (b : Bool). cond b (Some place) (find nat_cmp q (blocks_from (first + 1) n (place + 1) ++ rest))) (equal_more q first (omega (arith, le)))
    ∙ find-high (first + 1) n (place + 1) q rest (omega (arith, le))

find-in : (first count place q : ℕ) (rest : Blocks) → first ≤ q → q < first + count → find nat_cmp q (blocks_from first count place ++ rest) ≡ Some (place + (q - first))
find-in first zero place q rest low high = absurd (omega (arith, low, high))
find-in first (suc n) place q rest low high = split q first
    (λ le. ap (λ (b : Bool). cond b (Some place) (find nat_cmp q (blocks_from (first + 1) n (place + 1) ++ rest))) (equal_yes q first (omega (arith, le, low)))
    ∙ ap (λ (n : ℕ). Some n) (omega (arith, le)))
    (λ lt. ap (λ (b : Bool). cond b (Some place) (find nat_cmp q (blocks_from (first + 1) n (place + 1) ++ rest))) (equal_more q first lt)
    ∙ find-in (first + 1) n (place + 1) q rest (omega (arith, lt)) (omega (arith, high))
    ∙ ap (λ (n : ℕ). Some n) (omega (arith, lt)))

find_blocks : (runs : List Run) (q : ℕ) → find nat_cmp q (flat_map blocks_of runs) ≡ place_of runs q
find_blocks [] q = refl
find_blocks (r ∷ rs) q = split (block_end r) q
    (λ past. find-high r.first r.count r.place q (flat_map blocks_of rs) past ∙ find_blocks rs q ∙ sym (place_of-past r rs q past))
    (λ less. split r.first q
    (λ ge. find-in r.first r.count r.place q (flat_map blocks_of rs) ge less ∙ sym (place_of-in r rs q ge less))
    (λ low. find-low r.first r.count r.place q (flat_map blocks_of rs) low ∙ find_blocks rs q
    ∙ sym (ap (λ (b : Bool). cond b (Some (r.place + (q - r.first))) (place_of rs q)) (has_no-low r q low))))

pub get-map_of : (runs : List Run) (q : ℕ) → get (map_of runs) q ≡ place_of runs q
get-map_of runs q = get-from_entries nat_cmp_total (flat_map blocks_of runs) q ∙ find_blocks runs q

-- ---- their number

length-blocks_from : (first count place : ℕ) → length (blocks_from first count place) ≡ count
length-blocks_from first zero place = refl
length-blocks_from first (suc n) place = ap suc (length-blocks_from (first + 1) n (place + 1))

length_blocks : (runs : List Run) → length (flat_map blocks_of runs) ≡ blocks_in runs
length_blocks [] = refl
length_blocks (r ∷ rs) = length-append (blocks_of r) (flat_map blocks_of rs) ∙ ap₂ (λ (a b : ℕ). a + b) (length-blocks_from r.first r.count r.place) (length_blocks rs)

pub len-map_of : (runs : List Run) → AreRuns runs → len (map_of runs) ≡ blocks_in runs
len-map_of runs h = len-entries (map_of runs) ∙ ap length (entries_map_of runs h) ∙ length_blocks runs

blocks_behind : (rs : List Run) (n : ℕ) → AreRuns rs → IsBehind n rs → AllByRecursion IsWithin rs → n ≤ 2 ^ 24 → n + blocks_in rs ≤ 2 ^ 24
blocks_behind [] n h behind within le = omega (arith, le)
blocks_behind (r ∷ rs) n h behind within le =
    omega (arith, behind, blocks_behind rs (block_end r) h.2 (apart_behind r rs (block_end r) h.1 (omega arith)) within.1 within.0.blocks)

behind_none : (rs : List Run) → IsBehind 0 rs
behind_none [] = tt
behind_none (r ∷ rs) = omega arith

pub blocks_bound : (runs : List Run) → AreExtents runs → blocks_in runs ≤ 2 ^ 24
blocks_bound runs h = omega (arith, blocks_behind runs 0 h.maximal (behind_none runs) h.within (omega arith))

-- ---- what callers see

-- the map gives what the runs give
pub get_by : (read items : List Run) (m : FinMap nat_cmp ℕ) (q : ℕ) → read ≡ items → map_of items ≡ m → get m q ≡ place_of read q
get_by read items m q same view = sym (ap (λ (n : FinMap nat_cmp ℕ). get n q) view) ∙ get-map_of items q ∙ ap (λ (l : List Run). place_of l q) (sym same)

module _ (read items : List Run) (m : FinMap nat_cmp ℕ) (same : read ≡ items) (view : map_of items ≡ m) where
  pub mapped_by : (q x : ℕ) → place_of read q ≡ Some x → is_mapped m q ≡ true
  mapped_by q x is = ap is_some (get_by read items m q same view ∙ is)

  pub unmapped_by : (q : ℕ) → place_of read q ≡ None → is_mapped m q ≡ false
  unmapped_by q is = ap is_some (get_by read items m q same view ∙ is)

  pub full_by : (q x : ℕ) → place_of read q ≡ Some x → is_gap m q ≡ false
  full_by q x is = ap not (mapped_by q x is)

  pub gap_by : (q : ℕ) → place_of read q ≡ None → is_gap m q ≡ true
  gap_by q is = ap not (unmapped_by q is)

  -- the next run from a block on, up to before another
  pub part_by : (from below : ℕ) (n : Run) → IsNext read from n → n.first < below → from < below
      → IsPart m from below (record { first = (from_block from n).first; count = min (from_block from n).count (below - (from_block from n).first); place = (from_block from n).place })
  part_by from below n next lt less = split from n.first
      (λ ge. part n (same_block ge) (omega arith) ge lt (omega (arith, next.some)) refl (omega arith) (λ q from_q to_q. to_q))
      (λ low. part (run_from from n) (later_block low) (omega (arith, low)) (omega arith) less next.later (omega (arith, low, next.later)) refl (λ q from_q to_q. omega (arith, from_q, to_q)))
    where
      same_block : from ≤ n.first → from_block from n ≡ n
      same_block ge = ap (λ (b : Bool). cond b (run_from from n) n) (lt_no n.first from ge)

      later_block : n.first < from → from_block from n ≡ run_from from n
      later_block low = ap (λ (b : Bool). cond b (run_from from n) n) (lt_yes n.first from low)

      part : (r : Run) → from_block from n ≡ r → n.first ≤ r.first → from ≤ r.first → r.first < below → r.first < block_end n → block_end r ≡ block_end n → r.place ≡ n.place + (r.first - n.first)
          → ((q : ℕ) → from ≤ q → q < r.first → q < n.first)
          → IsPart m from below (record { first = (from_block from n).first; count = min (from_block from n).count (below - (from_block from n).first); place = (from_block from n).place })
      part r is ge low high starts ends place none = subst (λ (x : Run). IsPart m from below (record { first = x.first; count = min x.count (below - x.first); place = x.place })) (sym is) (record {
        some = omega (arith, ends, starts, high);
        low = low;
        high = omega (arith, high);
        gap = λ q from_q to_q. get_by read items m q same view ∙ next.low q from_q (none q from_q to_q);
        mapped = λ q from_q to_q. get_by read items m q same view ∙ next.mapped q (omega (arith, ge, from_q)) (omega (arith, ends, to_q)) ∙ ap (λ (k : ℕ). Some k) (omega (arith, place, ge, from_q));
        whole = λ more is.
            let count : min r.count (below - r.first) ≡ r.count = omega (arith, more) in
            let blocks : r.first + min r.count (below - r.first) ≡ block_end n = omega (arith, count, ends) in
            let places : r.place + min r.count (below - r.first) ≡ place_end n = omega (arith, count, ends, place, ge) in
            next.whole (ap (λ (k : ℕ). place_of read k) (sym blocks) ∙ sym (get_by read items m (r.first + min r.count (below - r.first)) same view) ∙ is ∙ ap (λ (k : ℕ). Some k) places);
      })

-- a map with more blocks
get-with_entries : (m : FinMap nat_cmp ℕ) (es : Blocks) (q : ℕ) → get (with_entries m es) q ≡ option_or (find nat_cmp q es) (get m q)
get-with_entries m [] q = refl
get-with_entries m (e ∷ es) q =
    get-insert nat_cmp_total (with_entries m es) e.0 e.1 q
    ∙ ap (cond (eq_by_cmp nat_cmp q e.0) (Some e.1)) (get-with_entries m es q)
    ∙ elim (eq_by_cmp nat_cmp q e.0) as (λ b. cond b (Some e.1) (option_or (find nat_cmp q es) (get m q)) ≡ option_or (cond b (Some e.1) (find nat_cmp q es)) (get m q)) [ true ↦ refl | false ↦ refl ]

pub get-with_blocks : (m : FinMap nat_cmp ℕ) (r : Run) (q : ℕ) → get (with_blocks m r) q ≡ cond (has_block q r) (Some (r.place + (q - r.first))) (get m q)
get-with_blocks m r q =
    get-with_entries m (blocks_of r) q
    ∙ ap (λ (es : Blocks). option_or (find nat_cmp q es) (get m q)) (sym (append-nil (blocks_of r)))
    ∙ ap (λ (o : Option ℕ). option_or o (get m q)) (find_blocks (r ∷ []) q)
    ∙ elim (has_block q r) as (λ b. option_or (cond b (Some (r.place + (q - r.first))) None) (get m q) ≡ cond b (Some (r.place + (q - r.first))) (get m q)) [ true ↦ refl | false ↦ refl ]

-- a map without a stretch, and the front of a map
pub get-without_stretch : (m : FinMap nat_cmp ℕ) (first count q : ℕ) → get (retain_keys m (λ k. not (in_stretch first count k))) q ≡ cond (in_stretch first count q) None (get m q)
get-without_stretch m first count q =
    get-retain_keys m (λ k. not (in_stretch first count k)) q (λ x e. ap (λ (k : ℕ). not (in_stretch first count k)) (sym (nat_cmp-IsAntisymmetric q x e)))
    ∙ elim (in_stretch first count q) as (λ b. cond (not b) (get m q) None ≡ cond b None (get m q)) [ true ↦ refl | false ↦ refl ]

pub get-front : (m : FinMap nat_cmp ℕ) (block q : ℕ) → get (retain_keys m (λ k. nat_lt k block)) q ≡ cond (nat_lt q block) (get m q) None
get-front m block q = get-retain_keys m (λ k. nat_lt k block) q (λ x e. ap (λ (k : ℕ). nat_lt k block) (sym (nat_cmp-IsAntisymmetric q x e)))

-- ---- stretches of no blocks and of one

in-none : (first count q : ℕ) → count ≡ 0 → in_stretch first count q ≡ false
in-none first count q none = grind (arith, nat_tests, none)

in-one : (first q : ℕ) → in_stretch first 1 q ≡ eq_by_cmp nat_cmp q first
in-one first q = split q first
    (λ le. split first q
    (λ ge. grind (arith, nat_tests, le, ge) ∙ sym (equal_yes q first (omega (arith, le, ge))))
    (λ lt. grind (arith, nat_tests, lt) ∙ sym (equal_less q first lt)))
    (λ gt. grind (arith, nat_tests, gt) ∙ sym (equal_more q first gt))

pub with_none : (m : FinMap nat_cmp ℕ) (r : Run) → r.count ≡ 0 → m ≡ with_blocks m r
with_none m r none = ap (λ (n : ℕ). with_entries m (blocks_from r.first n r.place)) (sym none)

pub without_none : (m : FinMap nat_cmp ℕ) (first count : ℕ) → count ≡ 0 → m ≡ retain_keys m (λ k. not (in_stretch first count k))
without_none m first count none = same_map nat_cmp_total nat_cmp-IsAntisymmetric _ _ (λ q.
    sym (get-without_stretch m first count q ∙ ap (λ (b : Bool). cond b None (get m q)) (in-none first count q none)))

pub without_one : (m : FinMap nat_cmp ℕ) (block : ℕ) → retain_keys m (λ k. not (in_stretch block 1 k)) ≡ remove m block
without_one m block = same_map nat_cmp_total nat_cmp-IsAntisymmetric _ _ (λ q.
    get-without_stretch m block 1 q ∙ ap (λ (b : Bool). cond b None (get m q)) (in-one block q) ∙ sym (get-remove nat_cmp_total m block q))
