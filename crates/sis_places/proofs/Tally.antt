-- How many numbers of a range pass a test.
use Rattle.std.proofs.Common.{◌≡◌, ℕ, zero, suc, ◌+◌, ◌*◌, ◌/◌, ◌%◌, ◌^◌, ◌<◌, ◌≤◌, Bool, true, false, not, cond, map, refl, ap, ap₂, sym, ◌∙◌, arith}
use Rattle.std.specs.Prelude.{◌==◌, count_by, count_ones}
use Rattle.std.specs.List.{range_with_len}
use Rattle.std.specs.Int.{bit_at}
use Rattle.std.specs.Int.Count.{ones_step}
use Rattle.std.proofs.lemmas.List.Sums.{sum_by-cons}
use Rattle.std.proofs.lemmas.Nat.{ones-le}
use Rattle.std.proofs.lemmas.Nat.Bits.{bit_at-suc, bit_at_lowest, bit_at-lt}
use Rattle.sis_places.specs.Inside.{has_bit}

abbrev pub tally : (ℕ → Bool) → ℕ → ℕ → ℕ
tally f a zero = 0
tally f a (suc n) = cond (f a) 1 0 + tally f (a + 1) n

pub count-tally : (f : ℕ → Bool) (a n : ℕ) → count_by (λ (b : Bool). b) (map f (range_with_len a n)) ≡ tally f a n
count-tally f a zero = refl
count-tally f a (suc n) =
    sum_by-cons (λ (b : Bool). cond b 1 0) (f a) (map f (range_with_len (a + 1) n))
    ∙ ap (λ (x : ℕ). cond (f a) 1 0 + x) (count-tally f (a + 1) n)

pub tally-same : (f g : ℕ → Bool) (a n : ℕ) → ((i : ℕ) → a ≤ i → i < a + n → f i ≡ g i) → tally f a n ≡ tally g a n
tally-same f g a zero h = refl
tally-same f g a (suc n) h =
    ap₂ (λ (b : Bool) (x : ℕ). cond b 1 0 + x) (h a (omega arith) (omega arith))
    (tally-same f g (a + 1) n (λ i ge lt. h i (omega (arith, ge)) (omega (arith, lt))))

pub tally-none : (f : ℕ → Bool) (a n : ℕ) → ((i : ℕ) → a ≤ i → f i ≡ false) → tally f a n ≡ 0
tally-none f a zero h = refl
tally-none f a (suc n) h =
    ap₂ (λ (b : Bool) (x : ℕ). cond b 1 0 + x) (h a (omega arith)) (tally-none f (a + 1) n (λ i ge. h i (omega (arith, ge))))

pub tally-all : (f : ℕ → Bool) (a n : ℕ) → ((i : ℕ) → a ≤ i → i < a + n → f i ≡ true) → tally f a n ≡ n
tally-all f a zero h = refl
tally-all f a (suc n) h =
    ap₂ (λ (b : Bool) (x : ℕ). cond b 1 0 + x) (h a (omega arith) (omega arith))
    (tally-all f (a + 1) n (λ i ge lt. h i (omega (arith, ge)) (omega (arith, lt)))) ∙ omega arith

-- a range in two parts
pub tally-split : (f : ℕ → Bool) (m n k a b : ℕ) → k ≡ m + n → b ≡ a + m → tally f a k ≡ tally f a m + tally f b n
tally-split f zero n k a b is at =
    let all : k ≡ n = omega (arith, is) in
    let here : b ≡ a = omega (arith, at) in
    let e : tally f a k ≡ tally f b n = ap (tally f a) all ∙ ap (λ (x : ℕ). tally f x n) (sym here) in
    omega (arith, e)
tally-split f (suc m) n zero a b is at = absurd (omega (arith, is))
tally-split f (suc m) n (suc k) a b is at =
    let rest = tally-split f m n k (a + 1) b (omega (arith, is)) (omega (arith, at)) in
    let e : cond (f a) 1 0 + tally f (a + 1) k ≡ cond (f a) 1 0 + tally f (a + 1) m + tally f b n = omega (arith, rest) in e

-- a test and its opposite
pub tally-not : (f : ℕ → Bool) (a n : ℕ) → tally f a n + tally (λ i. not (f i)) a n ≡ n
tally-not f a zero = refl
tally-not f a (suc n) = step (tally f (a + 1) n) (tally (λ i. not (f i)) (a + 1) n) (f a) (tally-not f (a + 1) n)
  where
    step : (x y : ℕ) (b : Bool) → x + y ≡ n → cond b 1 0 + x + (cond (not b) 1 0 + y) ≡ suc n
    step x y true h = omega (arith, h)
    step x y false h = omega (arith, h)

-- the bits of a word
bit_is : (x : ℕ) → x < 2 → cond (x == 1) 1 0 ≡ x
bit_is zero h = refl
bit_is (suc zero) h = refl
bit_is (suc (suc x)) h = absurd (omega (arith, h))

pub tally-ones : (f : ℕ → Bool) (a n w : ℕ) → w < 2 ^ n → ((i : ℕ) → i < n → f (a + i) ≡ has_bit w i) → tally f a n ≡ count_ones w
tally-ones f a zero w fits h =
    let none = ones-le 0 w fits in omega (arith, none)
tally-ones f a (suc n) w fits h =
    let half : w / 2 < 2 ^ n = omega (arith, fits) in
    let here : f a ≡ has_bit w 0 = ap f (omega arith) ∙ h 0 (omega arith) in
    let low : cond (f a) 1 0 ≡ w % 2 = ap (λ (b : Bool). cond b 1 0) here ∙ bit_is (bit_at w 0) (bit_at-lt w 0) ∙ bit_at_lowest w in
    let rest = tally-ones f (a + 1) n (w / 2) half
    (λ i lt. ap f (omega arith) ∙ h (suc i) (omega (arith, lt)) ∙ ap (λ (x : ℕ). x == 1) (bit_at-suc w i)) in
    ap₂ (λ (x y : ℕ). x + y) low rest ∙ sym (ones_step w)

-- one word of many is another: what the others add stays
pub record DiffersBy (before after v w : ℕ) : Type 0 where
  pub others : ℕ
  pub before_is : before ≡ others + count_ones v
  pub after_is : after ≡ others + count_ones w

pub record HasWord (f : ℕ → Bool) (k w len : ℕ) : Type 0 where
  pub fits : w < 2 ^ 64
  pub inside : (i : ℕ) → i < 64 → f (64 * k + i) ≡ has_bit w i
  pub past : (i : ℕ) → len ≤ i → f i ≡ false

in_parts : (f : ℕ → Bool) (len k w : ℕ) → HasWord f k w len → tally f 0 len ≡ tally f 0 (64 * k) + tally f (64 * k + 64) len + count_ones w
in_parts f len k w h =
    let all = tally-split f len (64 * k + 64) (64 * k + (64 + len)) 0 len (omega arith) (omega arith) in
    let none = tally-none f len (64 * k + 64) h.past in
    let front = tally-split f (64 * k) (64 + len) (64 * k + (64 + len)) 0 (64 * k) (omega arith) (omega arith) in
    let back = tally-split f 64 len (64 + len) (64 * k) (64 * k + 64) (omega arith) (omega arith) in
    let word = tally-ones f (64 * k) 64 w h.fits h.inside in
    omega (arith, all, none, front, back, word)

pub one_word : (f g : ℕ → Bool) (len k v w : ℕ) → HasWord f k v len → HasWord g k w len
    → ((i : ℕ) → i < 64 * k → f i ≡ g i) → ((i : ℕ) → 64 * k + 64 ≤ i → f i ≡ g i) → DiffersBy (tally f 0 len) (tally g 0 len) v w
one_word f g len k v w old new low high =
    let front = tally-same f g 0 (64 * k) (λ i ge lt. low i (omega (arith, lt))) in
    let back = tally-same f g (64 * k + 64) len (λ i ge lt. high i ge) in
    record {
      others = tally f 0 (64 * k) + tally f (64 * k + 64) len;
      before_is = in_parts f len k v old;
      after_is = omega (arith, in_parts g len k w new, front, back);
    }
