-- Words that only this crate's private functions cite: runs that are cut and joined.
use Rattle.std.specs.Prelude.{◌≡◌, ◌≢◌, ℕ, suc, ◌+◌, ◌-◌, ◌<◌, ◌≤◌, min, max, nat_le, nat_lt, if◌then◌else◌, List, [], ◌∷◌, Option, None, Some}
use Rattle.std.specs.List.{AllByRecursion}
use Rattle.sis_ranges.specs.declared.run.Run.{Run}
use Rattle.sis_ranges.specs.Extents.{block_end, place_end, can_join, place_of, AreRuns, IsWithin}

-- how many blocks the runs have
abbrev pub blocks_in : List Run → ℕ
blocks_in [] = 0
blocks_in (r ∷ rs) = r.count + blocks_in rs

-- how many blocks of a stretch a run has, and how many the runs have
abbrev pub shared : ℕ → ℕ → Run → ℕ
shared first end r = min (block_end r) end - max r.first first

abbrev pub blocks_between : ℕ → ℕ → List Run → ℕ
blocks_between first end [] = 0
blocks_between first end (r ∷ rs) = shared first end r + blocks_between first end rs

-- what the runs of `Extents` keep, and what its fields keep
pub record AreExtents (runs : List Run) : Type 0 where
  pub maximal : AreRuns runs
  pub within : AllByRecursion IsWithin runs

pub record AreCounted (runs : List Run) (blocks : ℕ) : Type 0 where
  pub extents : AreExtents runs
  pub count : blocks ≡ blocks_in runs

-- the first run that ends behind a block
pub record IsNext (runs : List Run) (block : ℕ) (r : Run) : Type 0 where
  pub some : 1 ≤ r.count
  pub later : block < block_end r
  pub within : IsWithin r
  pub low : (q : ℕ) → block ≤ q → q < r.first → place_of runs q ≡ None
  pub mapped : (q : ℕ) → r.first ≤ q → q < block_end r
      → place_of runs q ≡ Some (r.place + (q - r.first))
  pub whole : place_of runs (block_end r) ≢ Some (place_end r)

-- that run, where there is one
abbrev pub FindsNext : List Run → ℕ → Option Run → Type 0
FindsNext runs block None = (q : ℕ) → block ≤ q → place_of runs q ≡ None
FindsNext runs block (Some r) = IsNext runs block r

-- how many of the first runs end at this block or before it
abbrev pub passed_by : ℕ → List Run → ℕ
passed_by block [] = 0
passed_by block (r ∷ rs) = if nat_le (block_end r) block then suc (passed_by block rs) else 0

-- a run up to before a block, and from a block on
abbrev pub run_before : ℕ → Run → Run
run_before block r = record { first = r.first; count = block - r.first; place = r.place }

abbrev pub run_from : ℕ → Run → Run
run_from block r = record {
  first = block;
  count = r.count - (block - r.first);
  place = r.place + (block - r.first);
}

abbrev pub from_block : ℕ → Run → Run
from_block block r = if nat_lt r.first block then run_from block r else r

-- runs up to before a block, and from a block on
abbrev pub before : ℕ → List Run → List Run
before block [] = []
before block (r ∷ rs) =
    if nat_le (block_end r) block then r ∷ before block rs
    else if nat_lt r.first block then run_before block r ∷ []
    else []

abbrev pub from : ℕ → List Run → List Run
from block [] = []
from block (r ∷ rs) =
    if nat_le (block_end r) block then from block rs else from_block block r ∷ rs

-- the runs with one more behind them, which is joined with the last where it goes on from there
abbrev pub with_run : List Run → Run → List Run
with_run [] x = x ∷ []
with_run (r ∷ []) x =
    if can_join r x then record { first = r.first; count = r.count + x.count; place = r.place } ∷ []
    else r ∷ x ∷ []
with_run (r ∷ s ∷ rs) x = r ∷ with_run (s ∷ rs) x

abbrev pub with_runs : List Run → List Run → List Run
with_runs runs [] = runs
with_runs runs (x ∷ xs) = with_runs (with_run runs x) xs

-- the first run, where there is one
abbrev pub first_of : List Run → Option Run
first_of [] = None
first_of (r ∷ rs) = Some r

-- the runs with one more behind them, where there is one
abbrev pub with_some : List Run → Option Run → List Run
with_some runs None = runs
with_some runs (Some x) = with_run runs x

-- the runs with another one, or none, in place of their blocks from one up to before another
abbrev pub put_over : ℕ → ℕ → Option Run → List Run → List Run
put_over first end new runs = with_runs (with_some (before first runs) new) (from end runs)
