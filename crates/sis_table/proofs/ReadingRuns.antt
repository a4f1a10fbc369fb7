-- Runs that are read are runs, and each file's runs are read again.
use Rattle.std.proofs.Common.{◌≡◌, ℕ, zero, suc, ◌+◌, ◌-◌, ◌^◌, ◌<◌, ◌≤◌, false, ltb, leb, eqb, ◌||◌, List, [], ◌∷◌, ◌++◌, length, Option, Some, None, Ok, refl, ap, sym, subst, ◌∙◌, append_assoc, arith}
use Rattle.std.specs.List.{flat_map, AllByRecursion}
use Rattle.std.specs.FinMap.{FinMap, get}
use Rattle.std.specs.Ordering.{nat_cmp}
use Rattle.std.proofs.lemmas.Bool.{or_parts, or_from, le-ltb}
use Rattle.std.proofs.lemmas.Bool.Decides.{nat_tests}
use Rattle.byteorder.specs.Endian.{little_bytes}
use Rattle.sis_disk.specs.declared.layout.Layout.{Layout}
use Rattle.sis_disk.specs.declared.layout.TableKind.TheVariants as kinds
use Rattle.sis_disk.specs.Layout.{IsLayout, first_place}
use Rattle.sis_ranges.specs.declared.run.Run.{Run}
use Rattle.sis_ranges.specs.Extents.{AreRuns, IsApart, IsWithin, map_of, runs_of}
use Rattle.sis_ranges.proofs.CallerLemmas.{AreRuns-runs_of, map_of-runs_of, runs_of-map_of}
use Rattle.sis_table.specs.Volume.{IsPlaced}
use Rattle.sis_table.specs.Spelling.{le8, run_text}
use Rattle.sis_table.specs.Reading.{joins, end_before, number_at, run_at, runs_at, map_at, here}
use Rattle.sis_table.proofs.MapLemmas.{IsRunPlaced, AreRunsPlaced, are_within, placed_map, placed_parts}
use Rattle.sis_table.proofs.ReadingSteps.{IsBytes, Takes, Takes-then, number_step, number_back}
use Rattle.sis_reading.proofs.StepLemmas.{bind_ok, ok_is, guard_ok, guard_again, bind_again, bind_then}

-- a run that may stand behind another
pub record IsNext (l : Layout) (blocks : ℕ) (before : Option Run) (r : Run) : Type 0 where
  pub behind : end_before before ≤ r.first
  pub some : 1 ≤ r.count
  pub apart : joins before r ≡ false
  pub placed : IsRunPlaced l blocks r

abbrev pub AreNext : Layout → ℕ → Option Run → List Run → Type 0
AreNext l blocks before [] = Unit {0}
AreNext l blocks before (r ∷ rs) = IsNext l blocks before r × AreNext l blocks (Some r) rs

next_from : (l : Layout) (blocks : ℕ) (before : Option Run) (r : Run) → (ltb r.first (end_before before) || leb blocks r.first) ≡ false → (eqb r.count 0 || ltb (blocks - r.first) r.count) ≡ false
    → (joins before r || ltb r.place (first_place l) || ltb l.total (r.place + r.count)) ≡ false → IsNext l blocks before r
next_from l blocks before r a b c =
    let a' = or_parts (ltb r.first (end_before before)) (leb blocks r.first) a in
    let b' = or_parts (eqb r.count 0) (ltb (blocks - r.first) r.count) b in
    let c' = or_parts (joins before r || ltb r.place (first_place l)) (ltb l.total (r.place + r.count)) c in
    let d' = or_parts (joins before r) (ltb r.place (first_place l)) c'.0 in
    let some : 1 ≤ r.count = grind (arith, nat_tests, b'.0) in
    let inside : r.first < blocks = grind (arith, nat_tests, a'.1) in
    let long : r.count ≤ blocks - r.first = grind (arith, nat_tests, b'.1) in
    record {
      behind = grind (arith, nat_tests, a'.0);
      some = some;
      apart = d'.0;
      placed = record { inside = omega (arith, inside, long); low = grind (arith, nat_tests, d'.1); high = grind (arith, nat_tests, c'.1) };
    }

pub run_takes : (total : ℕ) (l : Layout) (blocks : ℕ) (before : Option Run) (bytes : List ℕ) (y : Run × List ℕ) → IsBytes bytes → run_at total l blocks before bytes ≡ Ok y → Takes bytes (run_text y.0) y.1 × IsNext l blocks before y.0
unfolding run_at run_text le8
run_takes total l blocks before bytes y fits e =
    let a = number_step 8 total bytes _ y fits e in
    let ga = guard_ok (here total bytes kinds.Run) _ _ _ y a.3 in
    let b = number_step 8 total a.0.1 _ y a.1.rest_fits ga.1 in
    let gb = guard_ok (here total a.0.1 kinds.Run) _ _ _ y b.3 in
    let c = number_step 8 total b.0.1 _ y b.1.rest_fits gb.1 in
    let gc = guard_ok (here total b.0.1 kinds.Run) _ _ _ y c.3 in
    let r : Run = record { first = a.0.0; count = b.0.0; place = c.0.0 } in
    let bc = Takes-then a.0.1 (little_bytes 8 b.0.0) b.0.1 (little_bytes 8 c.0.0) c.0.1 b.1 c.1 in
    let abc = Takes-then bytes (little_bytes 8 a.0.0) a.0.1 (little_bytes 8 b.0.0 ++ little_bytes 8 c.0.0) c.0.1 a.1 bc in
    subst (λ (x : Run × List ℕ). Takes bytes (run_text x.0) x.1 × IsNext l blocks before x.0) (ok_is (r, c.0.1) y gc.1) (abc, next_from l blocks before r ga.0 gb.0 gc.0)

pub runs_take : (total : ℕ) (l : Layout) (blocks n : ℕ) (before : Option Run) (bytes : List ℕ) (y : List Run × List ℕ) → IsBytes bytes → runs_at total l blocks before n bytes ≡ Ok y
    → Takes bytes (flat_map run_text y.0) y.1 × (length y.0 ≡ n) × AreNext l blocks before y.0
unfolding runs_at
runs_take total l blocks zero before bytes y fits e =
    subst (λ (x : List Run × List ℕ). Takes bytes (flat_map run_text x.0) x.1 × (length x.0 ≡ 0) × AreNext l blocks before x.0) (ok_is ([], bytes) y e) (record { parts = refl; rest_fits = fits }, refl, tt)
runs_take total l blocks (suc n) before bytes y fits e =
    let a = bind_ok (run_at total l blocks before bytes) _ y e in
    let b = bind_ok (runs_at total l blocks (Some a.0.0) n a.0.1) _ y a.2 in
    let first = run_takes total l blocks before bytes a.0 fits a.1 in
    let others = runs_take total l blocks n (Some a.0.0) a.0.1 b.0 first.0.rest_fits b.1 in
    let both = Takes-then bytes (run_text a.0.0) a.0.1 (flat_map run_text b.0.0) b.0.1 first.0 others.0 in
    subst (λ (x : List Run × List ℕ). Takes bytes (flat_map run_text x.0) x.1 × (length x.0 ≡ suc n) × AreNext l blocks before x.0) (ok_is (a.0.0 ∷ b.0.0, b.0.1) y b.2) (both, ap suc others.1, (first.1, others.2))

-- the same without the bytes
run_is_next : (total : ℕ) (l : Layout) (blocks : ℕ) (before : Option Run) (bytes : List ℕ) (y : Run × List ℕ) → run_at total l blocks before bytes ≡ Ok y → IsNext l blocks before y.0
unfolding run_at
run_is_next total l blocks before bytes y e =
    bind_then (number_at 8 total bytes) _ y _ e (λ first ef e1.
    let ga = guard_ok (here total bytes kinds.Run) (ltb first.0 (end_before before) || leb blocks first.0) _ _ y e1 in
    bind_then (number_at 8 total first.1) _ y _ ga.1 (λ count ec e2.
    let gb = guard_ok (here total first.1 kinds.Run) (eqb count.0 0 || ltb (blocks - first.0) count.0) _ _ y e2 in
    bind_then (number_at 8 total count.1) _ y _ gb.1 (λ place ep e3.
    let r : Run = record { first = first.0; count = count.0; place = place.0 } in
    let gc = guard_ok (here total count.1 kinds.Run) _ _ _ y e3 in
    subst (λ (x : Run × List ℕ). IsNext l blocks before x.0) (ok_is (r, place.1) y gc.1) (next_from l blocks before r ga.0 gb.0 gc.0))))

runs_are_next : (total : ℕ) (l : Layout) (blocks n : ℕ) (before : Option Run) (bytes : List ℕ) (y : List Run × List ℕ) → runs_at total l blocks before n bytes ≡ Ok y → AreNext l blocks before y.0
unfolding runs_at
runs_are_next total l blocks zero before bytes y e = subst (λ (x : List Run × List ℕ). AreNext l blocks before x.0) (ok_is ([], bytes) y e) tt
runs_are_next total l blocks (suc n) before bytes y e =
    bind_then (run_at total l blocks before bytes) _ y _ e (λ first ef e1.
    bind_then (runs_at total l blocks (Some first.0) n first.1) _ y _ e1 (λ others eo e2.
    subst (λ (x : List Run × List ℕ). AreNext l blocks before x.0) (ok_is (first.0 ∷ others.0, others.1) y e2)
    (run_is_next total l blocks before bytes first ef, runs_are_next total l blocks n (Some first.0) first.1 others eo)))

-- what was written is read again
module _ (total : ℕ) (l : Layout) (blocks : ℕ) (blocks_fit : blocks < 256 ^ 8) (total_fits : l.total < 256 ^ 8) where
  run_again : (before : Option Run) (r : Run) (rest : List ℕ) → IsNext l blocks before r → run_at total l blocks before (run_text r ++ rest) ≡ Ok (r, rest)
  unfolding run_at run_text le8
  run_again before r rest next =
      let a = next.behind in
      let b = next.some in
      let block = next.placed.inside in
      let low = next.placed.low in
      let high = next.placed.high in
      let not_before : ltb r.first (end_before before) ≡ false = le-ltb _ _ a in
      let not_past : leb blocks r.first ≡ false = grind (arith, nat_tests) in
      let not_none : eqb r.count 0 ≡ false = grind (arith, nat_tests) in
      let not_long : ltb (blocks - r.first) r.count ≡ false = le-ltb _ _ (omega arith) in
      let not_low : ltb r.place (first_place l) ≡ false = le-ltb _ _ low in
      let not_high : ltb l.total (r.place + r.count) ≡ false = le-ltb _ _ high in
      let first_right = or_from (ltb r.first (end_before before)) (leb blocks r.first) not_before not_past in
      let count_right = or_from (eqb r.count 0) (ltb (blocks - r.first) r.count) not_none not_long in
      let place_right = or_from (joins before r || ltb r.place (first_place l)) (ltb l.total (r.place + r.count)) (or_from (joins before r) (ltb r.place (first_place l)) next.apart not_low) not_high in
      let first_fits : r.first < 256 ^ 8 = omega (arith, block, blocks_fit) in
      let count_fits : r.count < 256 ^ 8 = omega (arith, block, blocks_fit) in
      let place_fits : r.place < 256 ^ 8 = omega (arith, high, total_fits) in
      let behind_count = little_bytes 8 r.place ++ rest in
      let behind_first = little_bytes 8 r.count ++ behind_count in
      number_back 8 total r.first behind_first _ _ first_fits
      (guard_again (here total (little_bytes 8 r.first ++ behind_first) kinds.Run) _ _ _ _ first_right
      (number_back 8 total r.count behind_count _ _ count_fits
      (guard_again (here total behind_first kinds.Run) _ _ _ _ count_right
      (number_back 8 total r.place rest _ _ place_fits
      (guard_again (here total behind_count kinds.Run) _ _ _ _ place_right refl)))))

  pub runs_again : (rs : List Run) (before : Option Run) (rest : List ℕ) → AreNext l blocks before rs → runs_at total l blocks before (length rs) (flat_map run_text rs ++ rest) ≡ Ok (rs, rest)
  unfolding runs_at
  runs_again [] before rest next = refl
  runs_again (r ∷ rs) before rest next =
      let regrouped : flat_map run_text (r ∷ rs) ++ rest ≡ run_text r ++ (flat_map run_text rs ++ rest) = append_assoc (run_text r) (flat_map run_text rs) rest in
      ap (runs_at total l blocks before (suc (length rs))) regrouped ∙ rw (run_again before r (flat_map run_text rs ++ rest) next.0, runs_again rs (Some r) rest next.1) refl

-- ---- runs that may stand one behind another are sorted, disjoint and maximal

module _ (l : Layout) (blocks : ℕ) where
  is_apart : (r : Run) (rs : List Run) → AreNext l blocks (Some r) rs → IsApart r rs
  is_apart r [] h = tt
  is_apart r (s ∷ rs) h = (h.0.behind, h.0.apart)

  pub are_runs : (before : Option Run) (rs : List Run) → AreNext l blocks before rs → AreRuns rs
  are_runs before [] h = tt
  are_runs before (r ∷ rs) h = (h.0.some, is_apart r rs h.1, are_runs (Some r) rs h.1)

  pub are_placed : (before : Option Run) (rs : List Run) → AreNext l blocks before rs → AreRunsPlaced l blocks rs
  are_placed before [] h = tt
  are_placed before (r ∷ rs) h = (h.0.placed, are_placed (Some r) rs h.1)

  abbrev IsBehind : Option Run → List Run → Type 0
  IsBehind None rs = Unit {0}
  IsBehind (Some r) rs = IsApart r rs

  are_next_from : (before : Option Run) (rs : List Run) → IsBehind before rs → AreRuns rs → AreRunsPlaced l blocks rs → AreNext l blocks before rs
  are_next_from before [] behind are placed = tt
  are_next_from None (r ∷ rs) behind are placed =
      (record { behind = omega arith; some = are.0; apart = refl; placed = placed.0 }, are_next_from (Some r) rs are.1 are.2 placed.1)
  are_next_from (Some q) (r ∷ rs) behind are placed =
      (record { behind = behind.0; some = are.0; apart = behind.1; placed = placed.0 }, are_next_from (Some r) rs are.1 are.2 placed.1)

  pub are_next : (rs : List Run) → AreRuns rs → AreRunsPlaced l blocks rs → AreNext l blocks None rs
  are_next rs are placed = are_next_from None rs tt are placed

-- runs that were read are those of a map that a file of so many blocks can have
pub runs_at_are : (total : ℕ) (l : Layout) (blocks n : ℕ) (before : Option Run) (bytes : List ℕ) (rs : List Run) (rest : List ℕ) → runs_at total l blocks before n bytes ≡ Ok (rs, rest) → AreRuns rs
runs_at_are total l blocks n before bytes rs rest e = are_runs l blocks before rs (runs_are_next total l blocks n before bytes (rs, rest) e)

pub runs_at_within : (total : ℕ) (l : Layout) (blocks n : ℕ) (before : Option Run) (bytes : List ℕ) (rs : List Run) (rest : List ℕ) → IsLayout l → blocks ≤ 2 ^ 24
    → runs_at total l blocks before n bytes ≡ Ok (rs, rest) → AllByRecursion IsWithin rs
runs_at_within total l blocks n before bytes rs rest layout few e =
    are_within l blocks rs few (omega (arith, layout.total_high)) (are_placed l blocks before rs (runs_are_next total l blocks n before bytes (rs, rest) e))

-- ---- maps

-- a map that was read, with its spelling
pub record TakesMap (l : Layout) (blocks n : ℕ) (bytes : List ℕ) (y : FinMap nat_cmp ℕ × List ℕ) : Type 0 where
  pub text : Takes bytes (flat_map run_text (runs_of y.0)) y.1
  pub count : length (runs_of y.0) ≡ n
  pub placed : (block place : ℕ) → get y.0 block ≡ Some place → IsPlaced l blocks block place

pub map_takes : (total : ℕ) (l : Layout) (blocks n : ℕ) (bytes : List ℕ) (y : FinMap nat_cmp ℕ × List ℕ) → IsBytes bytes → map_at total l blocks n bytes ≡ Ok y → TakesMap l blocks n bytes y
unfolding map_at
map_takes total l blocks n bytes y fits e =
    let a = bind_ok (runs_at total l blocks None n bytes) _ y e in
    let read = runs_take total l blocks n None bytes a.0 fits a.1 in
    let same = runs_of-map_of a.0.0 (are_runs l blocks None a.0.0 read.2) in
    subst (TakesMap l blocks n bytes) (ok_is (map_of a.0.0, a.0.1) y a.2) (record {
      text = subst (λ (rs : List Run). Takes bytes (flat_map run_text rs) a.0.1) (sym same) read.0;
      count = ap (λ (rs : List Run). length rs) same ∙ read.1;
      placed = placed_map l blocks a.0.0 (are_placed l blocks None a.0.0 read.2);
    })

pub map_again : (total : ℕ) (l : Layout) (blocks : ℕ) (m : FinMap nat_cmp ℕ) (rest : List ℕ) → blocks < 256 ^ 8 → l.total < 256 ^ 8
    → ((block place : ℕ) → get m block ≡ Some place → IsPlaced l blocks block place)
    → map_at total l blocks (length (runs_of m)) (flat_map run_text (runs_of m) ++ rest) ≡ Ok (m, rest)
unfolding map_at
map_again total l blocks m rest blocks_fit total_fits placed =
    let next = are_next l blocks (runs_of m) (AreRuns-runs_of m) (placed_parts l blocks m placed) in
    bind_again (runs_at total l blocks None (length (runs_of m)) (flat_map run_text (runs_of m) ++ rest)) (runs_of m, rest) _ _
    (runs_again total l blocks blocks_fit total_fits (runs_of m) None rest next)
    (ap (λ (n : FinMap nat_cmp ℕ). Ok (n, rest)) (map_of-runs_of m))
