-- Bits of one word.
use Rattle.std.proofs.Common.{◌≡◌, ℕ, zero, suc, ◌+◌, ◌-◌, ◌*◌, ◌/◌, ◌%◌, ◌^◌, ◌<◌, ◌≤◌, min, max, Bool, true, false, not, cond, refl, ap, sym, ◌∙◌, subst, arith}
use Rattle.std.specs.Prelude.{◌&&◌, ◌==◌, nat_le, bit_and, bit_or}
use Rattle.std.specs.Int.{bit_at, w64, trailing_zeros}
use Rattle.std.proofs.lemmas.Bool.Decides.{nat_tests}
use Rattle.std.proofs.lemmas.Nat.{pow_pos, pow_below, shr-shr, shr_le, shl_whole, or_lt}
use Rattle.std.proofs.lemmas.Nat.Bits.{ones_shr, bit_at-lt, bit_at-zero, bit_at_or, bit_at_and, bit_at_not, bit_at_above, bit_at_mask_inside, bit_at_mask_below, bit_at_mask_above, bit_at-trailing_zeros}
use lib.Pow.{ones_split}
use Rattle.sis_places.specs.Inside.{has_bit, is_among, is_match}

-- ---- tests

pub split : {A : Type 0} (a b : ℕ) → (a ≤ b → A) → (b < a → A) → A
split {A} a b f g = elim (nat_le a b) as (λ t. nat_le a b ≡ t → A) [
  | true ↦ λ e. f (grind (arith, nat_tests, e))
  | false ↦ λ e. g (grind (arith, nat_tests, e))
] refl

pub among_yes : (low count i : ℕ) → low ≤ i → i < low + count → is_among low count i ≡ true
among_yes low count i ge lt = grind (arith, nat_tests, ge, lt)

pub among_no-low : (low count i : ℕ) → i < low → is_among low count i ≡ false
among_no-low low count i lt = grind (arith, nat_tests, lt)

pub among_no-high : (low count i : ℕ) → low + count ≤ i → is_among low count i ≡ false
among_no-high low count i ge = grind (arith, nat_tests, ge)

-- ---- a mask

pub mask_is : (low count : ℕ) → 1 ≤ count → low + count ≤ 64 → (2 ^ 64 - 1) / 2 ^ (64 - count) * 2 ^ low % 2 ^ 64 ≡ 2 ^ (low + count) - 2 ^ low
mask_is low count some fits =
    let few : 64 - (64 - count) ≡ count = omega (arith, some, fits) in
    let ones : (2 ^ 64 - 1) / 2 ^ (64 - count) ≡ 2 ^ count - 1 = ones_shr 64 (64 - count) (omega arith) ∙ ap (λ (n : ℕ). 2 ^ n - 1) few in
    let pos = pow_pos count in
    let pos_low = pow_pos low in
    let small : 2 ^ count - 1 < 2 ^ count = omega arith in
    let whole : (2 ^ count - 1) * 2 ^ low % 2 ^ 64 ≡ (2 ^ count - 1) * 2 ^ low = shl_whole (2 ^ count - 1) count low 64 small (omega (arith, fits)) in
    let parts : 2 ^ (count + low) - 1 ≡ (2 ^ count - 1) * 2 ^ low + (2 ^ low - 1) = ones_split count low in
    let turned : 2 ^ (low + count) ≡ 2 ^ (count + low) = ap (λ (n : ℕ). 2 ^ n) (omega arith) in
    let pos_both = pow_pos (count + low) in
    ap (λ (n : ℕ). n * 2 ^ low % 2 ^ 64) ones ∙ whole ∙ omega (arith, parts, turned, pos_both, pos_low)

mask_bit : (low count i : ℕ) → bit_at (2 ^ (low + count) - 2 ^ low) i ≡ cond (is_among low count i) 1 0
mask_bit low count i =
    split low i
    (λ ge. split (low + count) i
    (λ past. bit_at_mask_above low (low + count) i past ∙ sym (ap (λ (b : Bool). cond b 1 0) (among_no-high low count i past)))
    (λ lt. bit_at_mask_inside low (low + count) i ge lt ∙ sym (ap (λ (b : Bool). cond b 1 0) (among_yes low count i ge lt))))
    (λ lt. bit_at_mask_below low (low + count) i lt ∙ sym (ap (λ (b : Bool). cond b 1 0) (among_no-low low count i lt)))

-- ---- two bits joined

or_test : (x y : ℕ) → x < 2 → y < 2 → (max x y == 1) ≡ not (not (x == 1) && not (y == 1))
or_test zero zero p q = refl
or_test zero (suc zero) p q = refl
or_test zero (suc (suc y)) p q = absurd (omega (arith, q))
or_test (suc zero) zero p q = refl
or_test (suc zero) (suc zero) p q = refl
or_test (suc zero) (suc (suc y)) p q = absurd (omega (arith, q))
or_test (suc (suc x)) y p q = absurd (omega (arith, p))

neither_test : (x y : ℕ) → x < 2 → y < 2 → (1 - max x y == 1) ≡ (not (x == 1) && not (y == 1))
neither_test zero zero p q = refl
neither_test zero (suc zero) p q = refl
neither_test zero (suc (suc y)) p q = absurd (omega (arith, q))
neither_test (suc zero) zero p q = refl
neither_test (suc zero) (suc zero) p q = refl
neither_test (suc zero) (suc (suc y)) p q = absurd (omega (arith, q))
neither_test (suc (suc x)) y p q = absurd (omega (arith, p))

zero_test : (x y : ℕ) → x < 2 → y < 2 → (max x y == 0) ≡ (not (x == 1) && not (y == 1))
zero_test zero zero p q = refl
zero_test zero (suc zero) p q = refl
zero_test zero (suc (suc y)) p q = absurd (omega (arith, q))
zero_test (suc zero) zero p q = refl
zero_test (suc zero) (suc zero) p q = refl
zero_test (suc zero) (suc (suc y)) p q = absurd (omega (arith, q))
zero_test (suc (suc x)) y p q = absurd (omega (arith, p))

set_test : (x : ℕ) (b : Bool) → x < 2 → (max x (cond b 1 0) == 1) ≡ cond b true (x == 1)
set_test zero true p = refl
set_test zero false p = refl
set_test (suc zero) true p = refl
set_test (suc zero) false p = refl
set_test (suc (suc x)) b p = absurd (omega (arith, p))

clear_test : (x : ℕ) (b : Bool) → x < 2 → (min x (1 - cond b 1 0) == 1) ≡ cond b false (x == 1)
clear_test zero true p = refl
clear_test zero false p = refl
clear_test (suc zero) true p = refl
clear_test (suc zero) false p = refl
clear_test (suc (suc x)) b p = absurd (omega (arith, p))

-- ---- a word with bits of it set or cleared

pub put_set : (word low count m i : ℕ) → m ≡ 2 ^ (low + count) - 2 ^ low → has_bit (bit_or word m) i ≡ cond (is_among low count i) true (has_bit word i)
put_set word low count m i is =
    let bit : bit_at m i ≡ cond (is_among low count i) 1 0 = ap (λ (n : ℕ). bit_at n i) is ∙ mask_bit low count i in
    ap (λ (n : ℕ). n == 1) (bit_at_or word m i ∙ ap (λ (n : ℕ). max (bit_at word i) n) bit)
    ∙ set_test (bit_at word i) (is_among low count i) (bit_at-lt word i)

mask_fits : (low count : ℕ) → low + count ≤ 64 → 2 ^ (low + count) - 2 ^ low < 2 ^ 64
mask_fits low count fits =
    let pos = pow_pos low in
    split 64 (low + count)
    (λ ge. (let all : low + count ≡ 64 = omega (arith, ge, fits) in let e = ap (λ (n : ℕ). 2 ^ n) all in omega (arith, e, pos)))
    (λ lt. (let less = pow_below (low + count) 64 lt in omega (arith, less, pos)))

pub put_clear : (word low count m i : ℕ) → m ≡ 2 ^ (low + count) - 2 ^ low → low + count ≤ 64 → i < 64
    → has_bit (bit_and word (2 ^ 64 - 1 - m)) i ≡ cond (is_among low count i) false (has_bit word i)
put_clear word low count m i is fits lt =
    let bit : bit_at m i ≡ cond (is_among low count i) 1 0 = ap (λ (n : ℕ). bit_at n i) is ∙ mask_bit low count i in
    let small : m < 2 ^ 64 = subst (λ (n : ℕ). n < 2 ^ 64) (sym is) (mask_fits low count fits) in
    ap (λ (n : ℕ). n == 1) (bit_at_and word (2 ^ 64 - 1 - m) i
    ∙ ap (λ (n : ℕ). min (bit_at word i) n) (bit_at_not w64 m i small lt ∙ ap (λ (n : ℕ). 1 - n) bit))
    ∙ clear_test (bit_at word i) (is_among low count i) (bit_at-lt word i)

-- ---- two words

pub held_bit : (a b i : ℕ) → has_bit (bit_or a b) i ≡ is_match false (has_bit a i) (has_bit b i)
held_bit a b i = ap (λ (n : ℕ). n == 1) (bit_at_or a b i) ∙ or_test (bit_at a i) (bit_at b i) (bit_at-lt a i) (bit_at-lt b i)

pub spare_bit : (a b i : ℕ) → a < 2 ^ 64 → b < 2 ^ 64 → i < 64 → has_bit (2 ^ 64 - 1 - bit_or a b) i ≡ is_match true (has_bit a i) (has_bit b i)
spare_bit a b i p q lt =
    ap (λ (n : ℕ). n == 1) (bit_at_not w64 (bit_or a b) i (or_lt 64 a b p q) lt ∙ ap (λ (n : ℕ). 1 - n) (bit_at_or a b i))
    ∙ neither_test (bit_at a i) (bit_at b i) (bit_at-lt a i) (bit_at-lt b i)

pub neither_bit : (a b i : ℕ) → (bit_at (bit_or a b) i == 0) ≡ (not (has_bit a i) && not (has_bit b i))
neither_bit a b i = ap (λ (n : ℕ). n == 0) (bit_at_or a b i) ∙ zero_test (bit_at a i) (bit_at b i) (bit_at-lt a i) (bit_at-lt b i)

pub match_yes : (spare a b : Bool) → is_match spare a b ≡ true → (not a && not b) ≡ spare
match_yes true a b h = h
match_yes false true b h = refl
match_yes false false true h = refl
match_yes false false false h = sym h

pub match_no : (spare a b : Bool) → is_match spare a b ≡ false → (not a && not b) ≡ not spare
match_no true a b h = h
match_no false true b h = sym h
match_no false false true h = sym h
match_no false false false h = refl

-- ---- the first set bit of a word from one on

bit_shr : (n r i : ℕ) → bit_at (n / 2 ^ r) i ≡ bit_at n (r + i)
bit_shr n r i = ap (λ (x : ℕ). x % 2) (shr-shr n r i)

pub none_set : (word r i : ℕ) → word / 2 ^ r ≡ 0 → has_bit word (r + i) ≡ false
none_set word r i none =
    ap (λ (n : ℕ). n == 1) (sym (bit_shr word r i) ∙ ap (λ (n : ℕ). bit_at n i) none ∙ bit_at-zero i)

pub record IsLowest (word r n : ℕ) : Type 0 where
  pub within : r + n < 64
  pub here : has_bit word (r + n) ≡ true
  pub before : (i : ℕ) → i < n → has_bit word (r + i) ≡ false

pub lowest_set : (word r : ℕ) → word < 2 ^ 64 → 0 < word / 2 ^ r → IsLowest word r (trailing_zeros w64 (word / 2 ^ r))
lowest_set word r fits some =
    let n = trailing_zeros w64 (word / 2 ^ r) in
    let less = shr_le word r in
    let small : word / 2 ^ r < 2 ^ 64 = omega (arith, less, fits) in
    let lowest = bit_at-trailing_zeros w64 (word / 2 ^ r) some small in
    let set : bit_at word (r + n) ≡ 1 = sym (bit_shr word r n) ∙ lowest.1 in
    record {
      within = split 64 (r + n) (λ past. absurd (let none = bit_at_above word 64 (r + n) fits past in omega (arith, none, set))) (λ lt. lt);
      here = ap (λ (x : ℕ). x == 1) set;
      before = λ i lt. ap (λ (x : ℕ). x == 1) (sym (bit_shr word r i) ∙ lowest.2 i lt);
    }
