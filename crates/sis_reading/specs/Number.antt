-- The one spelling of a number by decimal digits.
use Rattle.std.specs.Prelude.{ℕ, ◌^◌, ◌==◌, Bool, false, not, ◌&&◌, if◌then◌else◌, List, [], ◌∷◌, length, nat_lt, Option, Some, None}
use Rattle.std.specs.Char.{is_ascii_digit}
use Rattle.std.specs.List.{list_all}
use Rattle.std.specs.Str.Parse.{digits_value}

-- digits, at least one, and no zero before others
abbrev pub is_plain : List ℕ → Bool
is_plain [] = false
is_plain (b ∷ bs) = not (b == 48 && nat_lt 0 (length bs)) && list_all is_ascii_digit (b ∷ bs)

-- the number below 2^64 whose one spelling this is
abbrev pub plain_number : List ℕ → Option ℕ
plain_number word =
    if is_plain word && nat_lt (digits_value 10 word) (2 ^ 64) then Some (digits_value 10 word)
    else None
