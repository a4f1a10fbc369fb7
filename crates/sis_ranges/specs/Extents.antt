-- What `Extents` shows: a map from blocks to places, and its runs.
use Rattle.std.specs.Prelude.{◌≡◌, ◌≢◌, ℕ, zero, suc, ◌+◌, ◌-◌, ◌<◌, ◌≤◌, ◌^◌, ◌==◌, ◌&&◌, nat_le, nat_lt, Bool, true, false, not, if◌then◌else◌, List, [], ◌∷◌, flat_map, Option, None, Some}
use Rattle.std.specs.List.{range_with_len}
use Rattle.std.specs.Ordering.{nat_cmp}
use Rattle.std.specs.FinMap.{FinMap, from_entries, entries, contains_key, get, insert}
use Rattle.sis_ranges.specs.declared.run.Run.{Run}

-- the block behind the run, and the place behind it
abbrev pub block_end : Run → ℕ
block_end r = r.first + r.count

abbrev pub place_end : Run → ℕ
place_end r = r.place + r.count

-- so many blocks at neighbouring places, each with its place
abbrev pub blocks_from : ℕ → ℕ → ℕ → List (ℕ × ℕ)
blocks_from first zero place = []
blocks_from first (suc n) place = (first, place) ∷ blocks_from (first + 1) n (place + 1)

abbrev pub blocks_of : Run → List (ℕ × ℕ)
blocks_of r = blocks_from r.first r.count r.place

-- the map for which runs stand
abbrev pub map_of : List Run → FinMap nat_cmp ℕ
map_of runs = from_entries (flat_map blocks_of runs)

-- a map with these blocks at these places
abbrev pub with_entries : FinMap nat_cmp ℕ → List (ℕ × ℕ) → FinMap nat_cmp ℕ
with_entries m [] = m
with_entries m (e ∷ es) = insert (with_entries m es) e.0 e.1

-- a map with each block of the run at its place there
abbrev pub with_blocks : FinMap nat_cmp ℕ → Run → FinMap nat_cmp ℕ
with_blocks m r = with_entries m (blocks_of r)

-- the block is one of so many, from one on
abbrev pub in_stretch : ℕ → ℕ → ℕ → Bool
in_stretch first count block = nat_le first block && nat_lt block (first + count)

abbrev pub has_block : ℕ → Run → Bool
has_block block r = in_stretch r.first r.count block

-- the run's places, and whether a place is one of them
abbrev pub run_places : Run → List ℕ
run_places r = range_with_len r.place r.count

abbrev pub has_place : ℕ → Run → Bool
has_place place r = in_stretch r.place r.count place

-- where the first run that has a block puts it
abbrev pub place_of : List Run → ℕ → Option ℕ
place_of [] block = None
place_of (r ∷ rs) block =
    if has_block block r then Some (r.place + (block - r.first)) else place_of rs block

-- the second run goes on where the first one ends, in blocks and in places
abbrev pub can_join : Run → Run → Bool
can_join r s = (block_end r == s.first) && (place_end r == s.place)

-- the run ends before the next one begins, and the two can't be joined
abbrev pub IsApart : Run → List Run → Type 0
IsApart r [] = Unit {0}
IsApart r (s ∷ rs) = (block_end r ≤ s.first) × (can_join r s ≡ false)

-- sorted, disjoint and maximal runs, none of them empty
abbrev pub AreRuns : List Run → Type 0
AreRuns [] = Unit {0}
AreRuns (r ∷ rs) = (1 ≤ r.count) × IsApart r rs × AreRuns rs

-- runs of neighbouring blocks, one behind the other, from one block up to before another
abbrev pub IsChain : ℕ → ℕ → List Run → Type 0
IsChain first end [] = first ≡ end
IsChain first end (r ∷ rs) = (r.first ≡ first) × (1 ≤ r.count) × IsChain (block_end r) end rs

-- blocks and places keep their limits
pub record IsWithin (r : Run) : Type 0 where
  pub blocks : block_end r ≤ 2 ^ 24
  pub places : place_end r ≤ 2 ^ 20

-- a block before runs: the first of them grows, where it can, or it is a run of its own
abbrev pub joined_front : ℕ × ℕ → List Run → List Run
joined_front e [] = record { first = e.0; count = 1; place = e.1 } ∷ []
joined_front e (r ∷ rs) =
    if (r.first == e.0 + 1) && (r.place == e.1 + 1)
    then record { first = e.0; count = r.count + 1; place = e.1 } ∷ rs
    else record { first = e.0; count = 1; place = e.1 } ∷ r ∷ rs

-- the maximal runs of these blocks
abbrev pub runs_of_blocks : List (ℕ × ℕ) → List Run
runs_of_blocks [] = []
runs_of_blocks (e ∷ es) = joined_front e (runs_of_blocks es)

-- the maximal runs of a map
unfoldable pub runs_of : FinMap nat_cmp ℕ → List Run
runs_of m = runs_of_blocks (entries m)

-- the blocks that are mapped, and those that aren't
abbrev pub is_mapped : FinMap nat_cmp ℕ → ℕ → Bool
is_mapped m block = contains_key m block

abbrev pub is_gap : FinMap nat_cmp ℕ → ℕ → Bool
is_gap m block = not (contains_key m block)

-- the least number that passes a test, from one on and below another, where there is one
abbrev pub IsLeast : (ℕ → Bool) → ℕ → ℕ → Option ℕ → Type 0
IsLeast test from below None = (q : ℕ) → from ≤ q → q < below → test q ≡ false
IsLeast test from below (Some least) =
    (from ≤ least) × (least < below) × (test least ≡ true)
    × ((q : ℕ) → from ≤ q → q < least → test q ≡ false)

-- A part of a map: blocks of a stretch, which begins at `from`, at neighbouring places. No block of
-- the stretch before them is mapped, and they can't be made more.
pub record IsPart (m : FinMap nat_cmp ℕ) (from below : ℕ) (r : Run) : Type 0 where
  pub some : 1 ≤ r.count
  pub low : from ≤ r.first
  pub high : block_end r ≤ below
  pub gap : (q : ℕ) → from ≤ q → q < r.first → get m q ≡ None
  pub mapped : (q : ℕ) → r.first ≤ q → q < block_end r → get m q ≡ Some (r.place + (q - r.first))
  pub whole : block_end r < below → get m (block_end r) ≢ Some (place_end r)

-- the first part of a map, from one block on and below another, where there is one
abbrev pub IsFirstPart : FinMap nat_cmp ℕ → ℕ → ℕ → Option Run → Type 0
IsFirstPart m from below None = (q : ℕ) → from ≤ q → q < below → get m q ≡ None
IsFirstPart m from below (Some r) = IsPart m from below r
