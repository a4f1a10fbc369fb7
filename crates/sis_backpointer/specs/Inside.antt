-- Words that only this crate's private functions cite: what a search finds.
use Rattle.std.specs.Prelude.{◌≡◌, ℕ, ◌<◌, ◌≤◌, List, length, take, drop, slice_index_or}
use Rattle.std.specs.List.{AllByRecursion}
use Rattle.sis_backpointer.specs.declared.back.Back.{Back}

-- the backpointer at this place has the index
pub record IsFound (index : ℕ) (backs : List Back) (at : ℕ) : Type 0 where
  pub within : at < length backs
  pub has : (b : Back) → (slice_index_or backs at b).index ≡ index

-- the index would stand at this place: those before it are lower, and those from it on are greater
pub record IsGap (index : ℕ) (backs : List Back) (at : ℕ) : Type 0 where
  pub within : at ≤ length backs
  pub lower : AllByRecursion (λ b. b.index < index) (take at backs)
  pub greater : AllByRecursion (λ b. index < b.index) (drop at backs)
