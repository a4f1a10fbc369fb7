-- Units of UTF-16: which may stand in a name, their order, and the text that they are.
use Rattle.std.specs.Prelude.{ℕ, ◌+◌, ◌==◌, Bool, true, false, ◌&&◌, ◌||◌, if◌then◌else◌, List, [], ◌∷◌, nat_lt, nat_le, nat_eq, flat_map, codes, Option, None, Some}
use Rattle.std.specs.Str.{chars, encode_utf8_all}
use Rattle.std.specs.Char.Escape.{encode_utf16}
use Rattle.std.specs.Char.Utf16.{utf16_lossy_chars, is_high_surrogate, is_low_surrogate}
use Rattle.std.specs.Ordering.{nat_cmp, is_lt}
use Rattle.std.specs.declared.cmp.Ordering.{Ordering}
use Rattle.std.specs.Cmp.Lexicographic.{slice_cmp, lists_total}
use Rattle.std.specs.Cmp.{IsTotalOrder, nat_cmp_total}
use Rattle.std.specs.FinMap.{IsAntisymmetric, nat_cmp-IsAntisymmetric, slice_cmp-IsAntisymmetric}
use Rattle.std.specs.List.{starts_with}

-- a control character below 0x20, a quotation mark, or a number that is no unit of 16 bits
abbrev pub is_barred : ℕ → Bool
is_barred unit = nat_lt unit 0x20 || unit == 0x22 || nat_le 0x10000 unit

-- a high or a low surrogate
abbrev pub is_surrogate : ℕ → Bool
is_surrogate unit = nat_le 0xD800 unit && nat_lt unit 0xE000

-- a high surrogate, and then a low one
abbrev pub is_pair : ℕ → ℕ → Bool
is_pair u v = is_high_surrogate u && is_low_surrogate v

-- the first two units are a pair
abbrev pub is_pair_first : List ℕ → Bool
is_pair_first [] = false
is_pair_first (u ∷ []) = false
is_pair_first (u ∷ v ∷ units) = is_pair u v

-- the place of the first surrogate that has no partner, where the first unit has the place `at`
abbrev pub unpaired_from : ℕ → List ℕ → Option ℕ
unpaired_from at [] = None
unpaired_from at (u ∷ []) = if is_surrogate u then Some at else None
unpaired_from at (u ∷ v ∷ units) =
    if is_pair u v then unpaired_from (at + 2) units
    else if is_surrogate u then Some at
    else unpaired_from (at + 1) (v ∷ units)

-- the order of names: unit by unit, and else the shorter one first
abbrev pub name_cmp : List ℕ → List ℕ → Ordering
name_cmp a b = slice_cmp nat_cmp a b

-- it is a total order
pub name_total : IsTotalOrder name_cmp
name_total = lists_total nat_cmp_total

-- and only equal names tie
pub name_ties : IsAntisymmetric name_cmp
name_ties = slice_cmp-IsAntisymmetric nat_cmp-IsAntisymmetric

-- the name is greater than this one; each is, without one
abbrev pub is_after : Option (List ℕ) → List ℕ → Bool
is_after None name = true
is_after (Some least) name = is_lt (name_cmp least name)

-- what the names of store files begin with
abbrev pub store_prefix : List ℕ
store_prefix = codes "SIS Common Store\\"

-- the units of a store file's name, as no user may take it
abbrev pub is_store_name : List ℕ → Bool
is_store_name units = starts_with nat_eq units store_prefix

-- the units of a text
abbrev pub text_units : List ℕ → List ℕ
text_units text = flat_map encode_utf16 (chars text)

-- the text of some units
abbrev pub name_text : List ℕ → List ℕ
name_text units = encode_utf8_all (utf16_lossy_chars units)
