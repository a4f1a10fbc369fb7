-- The places of a map's blocks, and of its runs.
use Rattle.std.proofs.Common.{◌≡◌, ℕ, zero, suc, ◌+◌, ◌≤◌, Bool, true, false, cond, List, [], ◌∷◌, ◌++◌, map, flat_map, Some, refl, sym, ap, ap₂, ◌∙◌, arith}
use Rattle.std.specs.Prelude.{◌==◌, ◌||◌, T}
use Rattle.std.specs.List.{list_any, range_with_len}
use Rattle.std.specs.Ordering.{nat_cmp, eq_by_cmp}
use Rattle.std.proofs.lemmas.Bool.{or_left, or_right}
use Rattle.std.proofs.lemmas.Bool.Decides.{nat_tests}
use Rattle.std.proofs.lemmas.List.{map-append}
use Rattle.std.proofs.lemmas.List.Folds.{list_any-append}
use Rattle.std.specs.FinMap.{FinMap, entries, entries_sorted, find, get, get-entries, values}
use Rattle.sis_ranges.specs.declared.run.Run.{Run}
use Rattle.sis_ranges.specs.Extents.{blocks_from, blocks_of, in_stretch, map_of, runs_of, run_places, has_place, AreRuns}
use Rattle.sis_ranges.proofs.CallerLemmas.{AreRuns-runs_of, IsRising, map_of-runs_of, rises}
use Rattle.sis_ranges.proofs.MapLemmas.{entries_map_of, equal_more, equal_yes}

places-from : (first count place : ℕ) → map (λ e. e.1) (blocks_from first count place) ≡ range_with_len place count
places-from first zero place = refl
places-from first (suc n) place = ap (λ (ps : List ℕ). place ∷ ps) (places-from (first + 1) n (place + 1))

places-blocks : (runs : List Run) → map (λ e. e.1) (flat_map blocks_of runs) ≡ flat_map run_places runs
places-blocks [] = refl
places-blocks (r ∷ rs) =
    map-append (λ (e : ℕ × ℕ). e.1) (blocks_of r) (flat_map blocks_of rs)
    ∙ ap₂ (λ (ps qs : List ℕ). ps ++ qs) (places-from r.first r.count r.place) (places-blocks rs)

-- the places of a map's blocks are those of its runs, one run behind the other
pub values-map_of : (runs : List Run) → AreRuns runs → values (map_of runs) ≡ flat_map run_places runs
values-map_of runs are = ap (λ (es : List (ℕ × ℕ)). map (λ e. e.1) es) (entries_map_of runs are) ∙ places-blocks runs

pub values-runs_of : (m : FinMap nat_cmp ℕ) → values m ≡ flat_map run_places (runs_of m)
values-runs_of m = ap (λ (n : FinMap nat_cmp ℕ). values n) (sym (map_of-runs_of m)) ∙ values-map_of (runs_of m) (AreRuns-runs_of m)

-- a number is among some in a row where it lies between the first and the last
pub in-range : (n a place : ℕ) → list_any (λ p. p == place) (range_with_len a n) ≡ in_stretch a n place
in-range zero a place = grind (arith, nat_tests)
in-range (suc n) a place = ap (λ (b : Bool). (a == place) || b) (in-range n (a + 1) place) ∙ grind (arith, nat_tests)

-- a place is among those of runs where a run has it
pub has_place-run_places : (runs : List Run) (place : ℕ) → list_any (λ p. p == place) (flat_map run_places runs) ≡ list_any (has_place place) runs
has_place-run_places [] place = refl
has_place-run_places (r ∷ rs) place =
    list_any-append (λ p. p == place) (run_places r) (flat_map run_places rs)
    ∙ ap₂ (λ (b c : Bool). b || c) (in-range r.count r.place place) (has_place-run_places rs place)

-- and among those of a map where one of its runs has it
pub has_place-values : (m : FinMap nat_cmp ℕ) (place : ℕ) → list_any (λ p. p == place) (values m) ≡ list_any (has_place place) (runs_of m)
has_place-values m place = ap (λ (ps : List ℕ). list_any (λ p. p == place) ps) (values-runs_of m) ∙ has_place-run_places (runs_of m) place

abbrev has_value : ℕ → List (ℕ × ℕ) → Bool
has_value place es = list_any (λ p. p == place) (map (λ e. e.1) es)

found-value : (es : List (ℕ × ℕ)) (block place : ℕ) → find nat_cmp block es ≡ Some place → has_value place es ≡ true
found-value [] block place is = absurd cc
found-value (e ∷ es) block place is =
    elim (eq_by_cmp nat_cmp block e.0) as (λ b. cond b (Some e.1) (find nat_cmp block es) ≡ Some place → ((e.1 == place) || has_value place es) ≡ true) [
      | true ↦ λ here. (let same : e.1 ≡ place = cc in or_left (e.1 == place) (has_value place es) (grind (arith, nat_tests, same)))
      | false ↦ λ there. or_right (e.1 == place) (has_value place es) (found-value es block place there)
    ] is

-- where a block lies, a block lies
pub value-found : (m : FinMap nat_cmp ℕ) (block place : ℕ) → get m block ≡ Some place → list_any (λ p. p == place) (values m) ≡ true
value-found m block place is = found-value (entries m) block place (sym (get-entries m block) ∙ is)

-- a block, not below this one, that lies at the place
record LiesAt (es : List (ℕ × ℕ)) (low place : ℕ) : Type 0 where
  pub block : ℕ
  pub found : find nat_cmp block es ≡ Some place
  pub later : low ≤ block

abbrev IsLow : ℕ → List (ℕ × ℕ) → Type 0
IsLow low [] = Unit {0}
IsLow low (e ∷ es) = low ≤ e.0

rises_on : (e : ℕ × ℕ) (es : List (ℕ × ℕ)) → IsRising (e ∷ es) → IsLow (e.0 + 1) es × IsRising es
rises_on e [] rising = (tt, tt)
rises_on e (f ∷ es) rising = (omega (arith, rising.0), rising.1)

found-block : (es : List (ℕ × ℕ)) (low place : ℕ) → IsRising es → IsLow low es → has_value place es ≡ true → LiesAt es low place
found-block [] low place rising begins is = absurd cc
found-block (e ∷ es) low place rising begins is =
    let on = rises_on e es rising in
    by (e.1 == place) refl (λ h. found-block es (e.0 + 1) place on.1 on.0 h) is
  where
    by : (b : Bool) → (e.1 == place) ≡ b → (has_value place es ≡ true → LiesAt es (e.0 + 1) place) → (b || has_value place es) ≡ true → LiesAt (e ∷ es) low place
    by true here others h = record {
      block = e.0;
      found = ap (λ (b : Bool). cond b (Some e.1) (find nat_cmp e.0 es)) (equal_yes e.0 e.0 refl) ∙ ap (λ (p : ℕ). Some p) (grind (arith, nat_tests, here));
      later = begins;
    }
    by false here others h =
        let there = others h in
        record {
          block = there.block;
          found = ap (λ (b : Bool). cond b (Some e.1) (find nat_cmp there.block es)) (equal_more there.block e.0 (omega (arith, there.later))) ∙ there.found;
          later = omega (arith, there.later, begins);
        }

is_rising : (m : FinMap nat_cmp ℕ) → IsRising (entries m)
is_rising m = rises (entries m) (sorted _ (entries_sorted m))
  where
    sorted : (b : Bool) → T b → b ≡ true
    sorted true is = refl
    sorted false is = absurd is

all-low : (es : List (ℕ × ℕ)) → IsLow 0 es
all-low [] = tt
all-low (e ∷ es) = omega arith

-- a block lies at a place that is among those of the blocks
pub found-at : (m : FinMap nat_cmp ℕ) (place : ℕ) → list_any (λ p. p == place) (values m) ≡ true → (block : ℕ) × (get m block ≡ Some place)
found-at m place is =
    let there = found-block (entries m) 0 place (is_rising m) (all-low (entries m)) is in
    (there.block, get-entries m there.block ∙ there.found)

-- ---- no place of a map twice

-- no number of the list stands again behind itself
abbrev pub AreDistinct : List ℕ → Type 0
AreDistinct [] = Unit {0}
AreDistinct (p ∷ ps) = (list_any (λ q. q == p) ps ≡ false) × AreDistinct ps

-- no two blocks lie at one place
abbrev pub IsOnce : FinMap nat_cmp ℕ → Type 0
IsOnce m = (a b place : ℕ) → get m a ≡ Some place → get m b ≡ Some place → a ≡ b

abbrev FindsOnce : List (ℕ × ℕ) → Type 0
FindsOnce es = (a b place : ℕ) → find nat_cmp a es ≡ Some place → find nat_cmp b es ≡ Some place → a ≡ b

one_block : (a b : ℕ) → eq_by_cmp nat_cmp a b ≡ true → a ≡ b
one_block a b e = grind (arith, nat_tests, e)

some_is : (a b : ℕ) → Some a ≡ Some b → a ≡ b
some_is a b e = cc

distinct-finds : (es : List (ℕ × ℕ)) → IsRising es → AreDistinct (map (λ e. e.1) es) → FindsOnce es
distinct-finds [] rising distinct a b place is_a is_b = absurd cc
distinct-finds (e ∷ es) rising distinct a b place is_a is_b =
    by (eq_by_cmp nat_cmp a e.0) refl (eq_by_cmp nat_cmp b e.0) refl (distinct-finds es (rises_on e es rising).1 distinct.1 a b place) is_a is_b
  where
    again : (block : ℕ) → e.1 ≡ place → find nat_cmp block es ≡ Some place → ⊥
    again block same is = let there = found-value es block e.1 (is ∙ ap (λ (p : ℕ). Some p) (sym same)) in let none = distinct.0 in cc

    by : (c : Bool) → eq_by_cmp nat_cmp a e.0 ≡ c → (d : Bool) → eq_by_cmp nat_cmp b e.0 ≡ d → (find nat_cmp a es ≡ Some place → find nat_cmp b es ≡ Some place → a ≡ b)
        → cond c (Some e.1) (find nat_cmp a es) ≡ Some place → cond d (Some e.1) (find nat_cmp b es) ≡ Some place → a ≡ b
    by true here_a true here_b others f g = one_block a e.0 here_a ∙ sym (one_block b e.0 here_b)
    by true here_a false here_b others f g = absurd (again b (some_is e.1 place f) g)
    by false here_a true here_b others f g = absurd (again a (some_is e.1 place g) f)
    by false here_a false here_b others f g = others f g

-- what is found isn't below the first block
found-later : (es : List (ℕ × ℕ)) (low block place : ℕ) → IsRising es → IsLow low es → find nat_cmp block es ≡ Some place → low ≤ block
found-later [] low block place rising begins is = absurd cc
found-later (e ∷ es) low block place rising begins is =
    let on = rises_on e es rising in
    by (eq_by_cmp nat_cmp block e.0) refl (λ later. found-later es (e.0 + 1) block place on.1 on.0 later) is
  where
    by : (c : Bool) → eq_by_cmp nat_cmp block e.0 ≡ c → (find nat_cmp block es ≡ Some place → e.0 + 1 ≤ block) → cond c (Some e.1) (find nat_cmp block es) ≡ Some place → low ≤ block
    by true here others f = omega (arith, begins, one_block block e.0 here)
    by false here others f = omega (arith, begins, others f)

skipped : (e : ℕ × ℕ) (es : List (ℕ × ℕ)) (block place : ℕ) → e.0 + 1 ≤ block → find nat_cmp block es ≡ Some place → find nat_cmp block (e ∷ es) ≡ Some place
skipped e es block place later is = ap (λ (b : Bool). cond b (Some e.1) (find nat_cmp block es)) (equal_more block e.0 (omega (arith, later))) ∙ is

finds-distinct : (es : List (ℕ × ℕ)) → IsRising es → FindsOnce es → AreDistinct (map (λ e. e.1) es)
finds-distinct [] rising once = tt
finds-distinct (e ∷ es) rising once =
    let on = rises_on e es rising in (
      first (has_value e.1 es) refl,
      finds-distinct es on.1 (λ a b place is_a is_b. once a b place
          (skipped e es a place (found-later es (e.0 + 1) a place on.1 on.0 is_a) is_a) (skipped e es b place (found-later es (e.0 + 1) b place on.1 on.0 is_b) is_b)),
    )
  where
    first : (b : Bool) → has_value e.1 es ≡ b → b ≡ false
    first false h = refl
    first true h =
        let on = rises_on e es rising in
        let there = found-block es (e.0 + 1) e.1 on.1 on.0 h in
        let here : find nat_cmp e.0 (e ∷ es) ≡ Some e.1 = ap (λ (b : Bool). cond b (Some e.1) (find nat_cmp e.0 es)) (equal_yes e.0 e.0 refl) in
        let same = once e.0 there.block e.1 here (skipped e es there.block e.1 there.later there.found) in
        absurd (omega (arith, same, there.later))

-- the places of a map are distinct exactly where no two blocks lie at one
pub distinct-once : (m : FinMap nat_cmp ℕ) → AreDistinct (values m) → IsOnce m
distinct-once m distinct a b place is_a is_b =
    distinct-finds (entries m) (is_rising m) distinct a b place (sym (get-entries m a) ∙ is_a) (sym (get-entries m b) ∙ is_b)

pub once-distinct : (m : FinMap nat_cmp ℕ) → IsOnce m → AreDistinct (values m)
once-distinct m once = finds-distinct (entries m) (is_rising m) (λ a b place is_a is_b. once a b place (get-entries m a ∙ is_a) (get-entries m b ∙ is_b))
