-- The parts of a text between newlines, or between spaces.
use Rattle.std.proofs.Common.{◌≡◌, ℕ, ◌+◌, ◌<◌, ◌≤◌, ◌==◌, Bool, cond, nat_lt, List, [], ◌∷◌, length, take, drop, Some, None, refl, ap, ◌∙◌, arith, subst, position}
use Rattle.std.specs.List.{position_or_len, slice_split}
use Rattle.std.specs.Str.Lines.{lines, lines_of_parts, strip_carriage_return}
use Rattle.std.proofs.lemmas.Bool.Decides.{nat_tests}
use Rattle.std.proofs.lemmas.List.Splits.{slice_split_first, slice_split_none, length-slice_split}
use Rattle.std.proofs.lemmas.List.Sums.{fails_before_first}

abbrev is_newline : ℕ → Bool
is_newline b = b == 10

place_found : (i n at : ℕ) → Some at ≡ cond (nat_lt i n) (Some i) None → (i ≡ at) × (i < n)
place_found i n at e = (grind (arith, nat_tests), grind (arith, nat_tests))

none_found : (i n : ℕ) → None ≡ cond (nat_lt i n) (Some i) None → n ≤ i
none_found i n e = grind (arith, nat_tests)

parts_step : (x : List ℕ) (parts : List (List ℕ)) → 0 < length parts → lines_of_parts (x ∷ parts) ≡ strip_carriage_return x ∷ lines_of_parts parts
parts_step x [] h = absurd (omega arith)
parts_step x (y ∷ more) h = refl

-- the first part ends at the first place that passes
pub split_first : (p : ℕ → Bool) (xs : List ℕ) (at : ℕ) → Some at ≡ position p xs → slice_split p xs ≡ take at xs ∷ slice_split p (drop (at + 1) xs)
split_first p xs at e =
    let f = place_found (position_or_len p xs) (length xs) at e in
    subst (λ (i : ℕ). slice_split p xs ≡ take i xs ∷ slice_split p (drop (i + 1) xs)) f.0 (slice_split_first p xs 0 f.1)

-- with no such place all is one part
pub split_last : (p : ℕ → Bool) (xs : List ℕ) → None ≡ position p xs → slice_split p xs ≡ xs ∷ []
split_last p xs e =
    let n = none_found (position_or_len p xs) (length xs) e in
    slice_split_none p xs (λ k d below. fails_before_first p xs k d (omega arith))

-- the first part is the first line, but for a carriage return
pub lines_first : (xs front rest : List ℕ) → slice_split is_newline xs ≡ front ∷ slice_split is_newline rest → lines xs ≡ strip_carriage_return front ∷ lines rest
lines_first xs front rest e =
    let n : 0 < length (slice_split is_newline rest) = omega (arith, length-slice_split is_newline rest) in
    ap lines_of_parts e ∙ parts_step front (slice_split is_newline rest) n

not_empty : (xs : List ℕ) → 0 < length xs → lines_of_parts (xs ∷ []) ≡ xs ∷ []
not_empty [] h = absurd (omega arith)
not_empty (x ∷ xs) h = grind (arith, nat_tests)

-- one part is one line
pub lines_last : (xs : List ℕ) → 0 < length xs → slice_split is_newline xs ≡ xs ∷ [] → lines xs ≡ xs ∷ []
lines_last xs h e = ap lines_of_parts e ∙ not_empty xs h
