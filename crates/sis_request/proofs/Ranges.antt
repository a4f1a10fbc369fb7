-- Ranges of a request.
use Rattle.std.proofs.Common.{◌≡◌, ℕ, ◌+◌, ◌-◌, ◌≤◌, List, length, slice_range, take, drop, sym, ap, ◌∙◌, arith}
use Rattle.std.proofs.lemmas.List.{take-append-le, take-append-drop, length-drop, length-take-le}

take_less : (j n : ℕ) (xs : List ℕ) → j ≤ n → n ≤ length xs → take j (take n xs) ≡ take j xs
take_less j n xs less long =
    sym (take-append-le j (take n xs) (drop n xs) (omega (arith, length-take-le n xs long)))
    ∙ ap (λ (ys : List ℕ). take j ys) (take-append-drop n xs)

-- a range without its last two bytes is a range
pub lent_range : (bytes name : List ℕ) (a b x y : ℕ) → a ≤ b → b ≤ length bytes → name ≡ take (length (slice_range bytes a b) - 2) (slice_range bytes a b) → a ≡ x → b ≡ y + 2
    → name ≡ slice_range bytes x y
lent_range bytes name a b x y order within is from_x to_y =
    let behind : length (drop a bytes) ≡ length bytes - a = length-drop a bytes in
    let long : b - a ≤ length (drop a bytes) = omega arith in
    let len : length (slice_range bytes a b) ≡ b - a = length-take-le (b - a) (drop a bytes) long in
    let less : length (slice_range bytes a b) - 2 ≤ b - a = omega arith in
    let count : length (slice_range bytes a b) - 2 ≡ y - x = omega arith in
    is ∙ take_less (length (slice_range bytes a b) - 2) (b - a) (drop a bytes) less long
    ∙ ap (λ (n : ℕ). take n (drop a bytes)) count ∙ ap (λ (n : ℕ). take (y - x) (drop n bytes)) from_x
