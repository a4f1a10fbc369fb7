-- The blocks of a file, and the runs that spell where they lie.
use Rattle.std.proofs.Common.{◌≡◌, ℕ, ◌+◌, ◌-◌, ◌<◌, ◌≤◌, Bool, true, false, cond, List, [], ◌∷◌, length, Some, refl, sym, ◌∙◌, arith}
use Rattle.std.specs.Prelude.{◌^◌}
use Rattle.std.specs.List.{AllByRecursion}
use Rattle.std.specs.FinMap.{FinMap, get}
use Rattle.std.specs.Ordering.{nat_cmp}
use Rattle.std.proofs.lemmas.Bool.Decides.{nat_tests}
use Rattle.sis_disk.specs.declared.layout.Layout.{Layout}
use Rattle.sis_disk.specs.Layout.{first_place}
use Rattle.sis_ranges.specs.declared.run.Run.{Run}
use Rattle.sis_ranges.specs.Extents.{AreRuns, IsWithin, block_end, place_end, has_block, place_of, map_of, runs_of}
use Rattle.sis_ranges.proofs.CutLemmas.{apart_behind, place_of-in, place_of-low, place_of-past, split}
use Rattle.sis_ranges.proofs.CallerLemmas.{AreRuns-runs_of, get-map_of, place_of-runs_of}
use Rattle.sis_table.specs.Volume.{IsPlaced}

-- a run inside a file of so many blocks, at places of data blocks
pub record IsRunPlaced (l : Layout) (blocks : ℕ) (r : Run) : Type 0 where
  pub inside : block_end r ≤ blocks
  pub low : first_place l ≤ r.place
  pub high : place_end r ≤ l.total

-- each mapped block is so placed
abbrev pub ArePlaced : Layout → ℕ → List Run → Type 0
ArePlaced l blocks runs = (block place : ℕ) → place_of runs block ≡ Some place → IsPlaced l blocks block place

abbrev pub AreRunsPlaced : Layout → ℕ → List Run → Type 0
AreRunsPlaced l blocks runs = AllByRecursion (IsRunPlaced l blocks) runs

-- what a later run maps, the runs map
pub later_place : (r : Run) (rs : List Run) (block place : ℕ) → AreRuns (r ∷ rs) → place_of rs block ≡ Some place → place_of (r ∷ rs) block ≡ Some place
later_place r rs block place are is = split (block_end r) block
    (λ past. place_of-past r rs block past ∙ is)
    (λ low. let none = place_of-low rs block (block_end r) are.2 (apart_behind r rs (block_end r) are.1 (omega arith)) low in cc)

placed_run : (l : Layout) (blocks : ℕ) (r : Run) (rs : List Run) → 1 ≤ r.count → ArePlaced l blocks (r ∷ rs) → IsRunPlaced l blocks r
placed_run l blocks r rs some placed =
    let first = placed r.first (r.place + (r.first - r.first)) (place_of-in r rs r.first (omega arith) (omega arith)) in
    let last = placed (block_end r - 1) (r.place + (block_end r - 1 - r.first)) (place_of-in r rs (block_end r - 1) (omega arith) (omega arith)) in
    record { inside = omega (arith, last.inside); low = omega (arith, first.low); high = omega (arith, last.high) }

pub placed_runs : (l : Layout) (blocks : ℕ) (runs : List Run) → AreRuns runs → ArePlaced l blocks runs → AreRunsPlaced l blocks runs
placed_runs l blocks [] are placed = tt
placed_runs l blocks (r ∷ rs) are placed =
    (placed_run l blocks r rs are.0 placed, placed_runs l blocks rs are.2 (λ block place is. placed block place (later_place r rs block place are is)))

pub runs_placed : (l : Layout) (blocks : ℕ) (runs : List Run) → AreRunsPlaced l blocks runs → ArePlaced l blocks runs
runs_placed l blocks [] all block place is = absurd cc
runs_placed l blocks (r ∷ rs) all block place is = by (has_block block r) refl (λ later. runs_placed l blocks rs all.1 block place later) is
  where
    by : (b : Bool) → has_block block r ≡ b → (place_of rs block ≡ Some place → IsPlaced l blocks block place)
        → cond b (Some (r.place + (block - r.first))) (place_of rs block) ≡ Some place → IsPlaced l blocks block place
    by true here others h =
        let at : r.place + (block - r.first) ≡ place = cc in
        let low : r.first ≤ block = grind (arith, nat_tests, here) in
        let high : block < block_end r = grind (arith, nat_tests, here) in
        record { inside = omega (arith, high, all.0.inside); low = omega (arith, at, all.0.low); high = omega (arith, at, low, high, all.0.high) }
    by false here others h = others h

-- ---- the same of a map and its runs

pub placed_map : (l : Layout) (blocks : ℕ) (runs : List Run) → AreRunsPlaced l blocks runs → (block place : ℕ) → get (map_of runs) block ≡ Some place → IsPlaced l blocks block place
placed_map l blocks runs all block place is = runs_placed l blocks runs all block place (sym (get-map_of runs block) ∙ is)

pub placed_parts : (l : Layout) (blocks : ℕ) (m : FinMap nat_cmp ℕ) → ((block place : ℕ) → get m block ≡ Some place → IsPlaced l blocks block place) → AreRunsPlaced l blocks (runs_of m)
placed_parts l blocks m placed =
    placed_runs l blocks (runs_of m) (AreRuns-runs_of m) (λ block place is. placed block place (sym (place_of-runs_of m block) ∙ is))

-- ---- how many there are

-- A run has a block at least, so there are no more runs than blocks.
runs_fit : (l : Layout) (blocks : ℕ) (r : Run) (rs : List Run) → AreRuns (r ∷ rs) → AreRunsPlaced l blocks (r ∷ rs) → r.first + length (r ∷ rs) ≤ blocks
runs_fit l blocks r [] are placed = omega (arith, are.0, placed.0.inside)
runs_fit l blocks r (s ∷ rs) are placed = omega (arith, are.0, are.1.0, runs_fit l blocks s rs are.2 placed.1)

length_runs : (l : Layout) (blocks : ℕ) (runs : List Run) → AreRuns runs → AreRunsPlaced l blocks runs → length runs ≤ blocks
length_runs l blocks [] are placed = omega arith
length_runs l blocks (r ∷ rs) are placed = omega (arith, runs_fit l blocks r rs are placed)

pub length-runs_of : (l : Layout) (blocks : ℕ) (m : FinMap nat_cmp ℕ) → ((block place : ℕ) → get m block ≡ Some place → IsPlaced l blocks block place) → length (runs_of m) ≤ blocks
length-runs_of l blocks m placed = length_runs l blocks (runs_of m) (AreRuns-runs_of m) (placed_parts l blocks m placed)

-- ---- runs of a file keep the limits of a map

pub are_within : (l : Layout) (blocks : ℕ) (runs : List Run) → blocks ≤ 2 ^ 24 → l.total ≤ 2 ^ 20 → AreRunsPlaced l blocks runs → AllByRecursion IsWithin runs
are_within l blocks [] few small all = tt
are_within l blocks (r ∷ rs) few small all =
    (record { blocks = omega (arith, few, all.0.inside); places = omega (arith, small, all.0.high) }, are_within l blocks rs few small all.1)
