-- Words that only this crate's private functions cite: bits in words of 64.
use Rattle.std.specs.Prelude.{◌≡◌, ℕ, ◌+◌, ◌*◌, ◌/◌, ◌%◌, ◌<◌, ◌≤◌, ◌==◌, ◌&&◌, nat_le, nat_lt, Bool, true, false, not, List, length, map, slice_index_or}
use Rattle.std.specs.List.{range_with_len}
use Rattle.std.specs.Int.{bit_at}
use Rattle.sis_places.specs.Places.{PlacesView, spare, used}

-- whether a bit of a word is set
abbrev pub has_bit : ℕ → ℕ → Bool
has_bit word i = bit_at word i == 1

-- bit i is bit i % 64 of word i / 64, and not set past the words
abbrev pub bit_of : List ℕ → ℕ → Bool
bit_of words i = has_bit (slice_index_or words (i / 64) 0) (i % 64)

-- the first bits of words
abbrev pub bits_of : ℕ → List ℕ → List Bool
bits_of len words = map (bit_of words) (range_with_len 0 len)

-- what the words of the two tables show
abbrev pub view_of : ℕ → List ℕ → List ℕ → PlacesView
view_of len current committed =
    record { current = bits_of len current; committed = bits_of len committed }

-- the words have so many bits, and those behind them aren't set
pub record ArePacked (len : ℕ) (words : List ℕ) : Type 0 where
  pub size : len ≤ 64 * length words
  pub rest : (i : ℕ) → len ≤ i → bit_of words i ≡ false

-- what the fields of `Places` keep
pub record ArePlaces (len : ℕ) (current committed : List ℕ) (used_count spare_count : ℕ)
    : Type 0 where
  pub current_packed : ArePacked len current
  pub committed_packed : ArePacked len committed
  pub same : length current ≡ length committed
  pub used_is : used_count ≡ used (view_of len current committed)
  pub spare_is : spare_count ≡ spare (view_of len current committed)

-- a number among `count` ones from `low` on
abbrev pub is_among : ℕ → ℕ → ℕ → Bool
is_among low count i = nat_le low i && nat_lt i (low + count)

-- neither of two bits is set, or else one of them is
abbrev pub is_match : Bool → Bool → Bool → Bool
is_match true a b = not a && not b
is_match false a b = not (not a && not b)

-- neither table's words have a bit set
abbrev pub is_neither : List ℕ → List ℕ → ℕ → Bool
is_neither current committed i = not (bit_of current i) && not (bit_of committed i)

-- the first number of a range at which a test has this value, or else the range's end
pub record IsFirst (test : ℕ → Bool) (value : Bool) (from below first : ℕ) : Type 0 where
  pub behind : from ≤ first
  pub within : first ≤ below
  pub before : (i : ℕ) → from ≤ i → i < first → test i ≡ not value
  pub here : first < below → test first ≡ value
