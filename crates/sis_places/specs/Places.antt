-- What `Places` shows: for each place whether each of the two tables maps it.
use Rattle.std.specs.Prelude.{◌≡◌, ℕ, ◌+◌, ◌<◌, ◌≤◌, ◌&&◌, Bool, true, false, not, List, ◌++◌, length, take, drop, map, replicate, slice_index_or, count_by, Option, None, Some}
use Rattle.std.specs.List.{range_with_len}
use Rattle.sis_places.specs.declared.stretch.Stretch.{Stretch}

-- for each place whether the current table maps it, and whether the committed one does
pub record PlacesView : Type 0 where
  pub current : List Bool
  pub committed : List Bool

-- so many places that neither table maps
abbrev pub unmapped : ℕ → PlacesView
unmapped len = record { current = replicate len false; committed = replicate len false }

-- whether neither table maps a place, and that for each place
abbrev pub is_spare : PlacesView → ℕ → Bool
is_spare p place =
    not (slice_index_or p.current place false) && not (slice_index_or p.committed place false)

abbrev pub spare_bits : PlacesView → List Bool
spare_bits p = map (is_spare p) (range_with_len 0 (length p.current))

-- how many places the current table maps, and how many neither maps
abbrev pub used : PlacesView → ℕ
used p = count_by (λ bit. bit) p.current

abbrev pub spare : PlacesView → ℕ
spare p = count_by (λ bit. bit) (spare_bits p)

-- these bits with `count` of them from `start` on set, or cleared
abbrev pub set_bits : ℕ → ℕ → Bool → List Bool → List Bool
set_bits start count value bits =
    take start bits ++ replicate count value ++ drop (start + count) bits

-- the current table maps these places, or maps them no more
abbrev pub with_bits : ℕ → ℕ → Bool → PlacesView → PlacesView
with_bits start count value p =
    record { current = set_bits start count value p.current; committed = p.committed }

-- the committed table maps what the current one maps
abbrev pub after_commit : PlacesView → PlacesView
after_commit p = record { current = p.current; committed = p.current }

-- The next set bits from `from` on, at most so many, where every bit past the end isn't set.
pub record IsNextSet (bits : List Bool) (from most : ℕ) (s : Stretch) : Type 0 where
  pub behind : from ≤ s.start
  pub some : 1 ≤ s.count
  pub few : s.count ≤ most
  pub within : s.start + s.count ≤ length bits
  pub before : (i : ℕ) → from ≤ i → i < s.start → slice_index_or bits i false ≡ false
  pub each : (i : ℕ) → s.start ≤ i → i < s.start + s.count → slice_index_or bits i false ≡ true
  pub ends : s.count < most → slice_index_or bits (s.start + s.count) false ≡ false

-- those bits, where there are some
abbrev pub FindsNextSet : List Bool → ℕ → ℕ → Option Stretch → Type 0
FindsNextSet bits from most None = (i : ℕ) → from ≤ i → slice_index_or bits i false ≡ false
FindsNextSet bits from most (Some s) = IsNextSet bits from most s
