-- A word that spells a number: it is text, and parses to the value of its digits.
use Rattle.std.proofs.Common.{◌≡◌, ℕ, ◌^◌, ◌<◌, ◌≤◌, Bool, true, false, cond, nat_lt, List, [], ◌∷◌, length, Some, None, Result, Ok, Err, refl, arith, rules, ◌&&◌, not, ◌==◌, subst}
use Rattle.std.specs.Result.{OkIff, result_ok}
use Rattle.std.specs.Str.Parse.{digits_value, ParsesUnsigned}
use Rattle.std.specs.Char.{is_ascii_digit}
use Rattle.std.specs.List.{list_all}
use Rattle.std.specs.Str.{IsUtf8, is_utf8}
use Rattle.std.proofs.lemmas.Str.{is_utf8-from_IsUtf8, IsUtf8-from_is_utf8, IsUtf8-from_ascii}
use Rattle.std.proofs.lemmas.Str.Parse.{IsNumeralModel, IsDigitsTest, numerals_by_value, parse_digits}
use Rattle.std.proofs.lemmas.Fmt.{IsAscii-from_digits}
use Rattle.std.proofs.lemmas.Bool.Decides.{nat_tests}
use Rattle.sis_reading.specs.Number.{is_plain}

abbrev AllDecimal : List ℕ → Type 0
AllDecimal ds = list_all is_ascii_digit ds ≡ true

tells : IsDigitsTest AllDecimal
tells = search rules

own : IsNumeralModel AllDecimal (digits_value 10)
own = numerals_by_value AllDecimal tells

second : (a b : Bool) → (a && b) ≡ true → b ≡ true
second true b h = h
second false b h = cc

pub plain_digits : (word : List ℕ) → is_plain word ≡ true → AllDecimal word × (0 < length word)
plain_digits [] h = cc
plain_digits (b ∷ bs) h = (second (not (b == 48 && nat_lt 0 (length bs))) _ h, omega arith)

pub plain_utf8 : (word : List ℕ) → is_plain word ≡ true → is_utf8 word ≡ true
plain_utf8 word h = is_utf8-from_IsUtf8 word (IsUtf8-from_ascii word (IsAscii-from_digits word (own.to word (plain_digits word h).0)))

by_answer : {E : Type 0} (n most : ℕ) (r : Result ℕ E) → OkIff r (n < most) n → result_ok r ≡ cond (nat_lt n most) (Some n) None
by_answer n most (Ok x) h = let below = h.0 in let same = h.1 in grind (arith, nat_tests)
by_answer n most (Err e) h = let above : most ≤ n = omega (arith, h) in grind (arith, nat_tests)

weaker : {E : Type 0} (P Q : Type 0) (n : ℕ) (r : Result ℕ E) → (P → Q) → (Q → P) → OkIff r P n → OkIff r Q n
weaker P Q n (Ok x) f g h = (f h.0, h.1)
weaker P Q n (Err e) f g h = λ q. h (g q)

pub parsed : {E : Type 0} (word text : List ℕ) (r : Result ℕ E) → is_plain word ≡ true → text ≡ word → ParsesUnsigned 64 10 text r → result_ok r ≡ cond (nat_lt (digits_value 10 word) (2 ^ 64)) (Some (digits_value 10 word)) None
parsed word text r plain same parses =
    let d = plain_digits word plain in
    by_answer (digits_value 10 word) (2 ^ 64) r
    (weaker _ _ (digits_value 10 word) r (λ p. p.1) (λ q. (d.1, q)) (parse_digits own 64 word r (subst (λ t. ParsesUnsigned 64 10 t r) same parses) d.0))

pub not_utf8 : (bytes : List ℕ) → ¬ (IsUtf8 bytes) → is_utf8 bytes ≡ false
not_utf8 bytes h = by_test (is_utf8 bytes) (λ e. h (IsUtf8-from_is_utf8 bytes e))
  where
    by_test : (b : Bool) → ¬ (b ≡ true) → b ≡ false
    by_test true f = absurd (f refl)
    by_test false f = refl
