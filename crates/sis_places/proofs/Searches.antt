-- A search by words.
use Rattle.std.proofs.Common.{◌≡◌, ℕ, ◌+◌, ◌-◌, ◌/◌, ◌%◌, ◌^◌, ◌<◌, ◌≤◌, Bool, true, false, not, List, get_or, min, None, ap, ap₂, sym, ◌∙◌, arith}
use Rattle.std.proofs.lemmas.Bool.{true≢false}
use Rattle.std.specs.Int.{w64, trailing_zeros}
use Rattle.sis_places.specs.Places.{IsNextSet, FindsNextSet, spare_bits}
use Rattle.sis_places.specs.Inside.{IsFirst, bit_of, has_bit, is_match, is_neither, view_of}
use Rattle.sis_places.proofs.BitLemmas.{length-spare_bits, get_or-spare_bits, spare_bits-past}
use Rattle.sis_places.proofs.WordLemmas.{split, match_yes, match_no, lowest_set}

-- a word that has the bits of one kind
abbrev pub IsMatching : List ℕ → List ℕ → Bool → ℕ → ℕ → Type 0
IsMatching current committed value k word =
    (i : ℕ) → i < 64 → has_bit word i ≡ is_match value (has_bit (get_or current k 0) i) (has_bit (get_or committed k 0) i)

pub matching_is : (current committed : List ℕ) (value : Bool) (at a b word : ℕ) → a ≡ get_or current (at / 64) 0 → b ≡ get_or committed (at / 64) 0
    → ((i : ℕ) → i < 64 → has_bit word i ≡ is_match value (has_bit a i) (has_bit b i)) → IsMatching current committed value (at / 64) word
matching_is current committed value at a b word is_a is_b each i lt =
    each i lt ∙ ap₂ (λ (x y : ℕ). is_match value (has_bit x i) (has_bit y i)) is_a is_b

match_at : (current committed : List ℕ) (value : Bool) (at i word : ℕ) → at ≤ i → at % 64 + (i - at) < 64 → IsMatching current committed value (at / 64) word
    → is_match value (bit_of current i) (bit_of committed i) ≡ has_bit word (at % 64 + (i - at))
match_at current committed value at i word ge inside is =
    let same : i / 64 ≡ at / 64 = omega (arith, ge, inside) in
    let bit : i % 64 ≡ at % 64 + (i - at) = omega (arith, ge, inside) in
    let here = λ (words : List ℕ). ap₂ (λ (k b : ℕ). has_bit (get_or words k 0) b) same bit in
    ap₂ (λ (a b : Bool). is_match value a b) (here current) (here committed) ∙ sym (is (at % 64 + (i - at)) inside)

pub test_no : (current committed : List ℕ) (value : Bool) (at i word : ℕ) → at ≤ i → at % 64 + (i - at) < 64 → IsMatching current committed value (at / 64) word
    → has_bit word (at % 64 + (i - at)) ≡ false → is_neither current committed i ≡ not value
test_no current committed value at i word ge inside is none =
    match_no value (bit_of current i) (bit_of committed i) (match_at current committed value at i word ge inside is ∙ none)

pub test_yes : (current committed : List ℕ) (value : Bool) (at i word : ℕ) → at ≤ i → at % 64 + (i - at) < 64 → IsMatching current committed value (at / 64) word
    → has_bit word (at % 64 + (i - at)) ≡ true → is_neither current committed i ≡ value
test_yes current committed value at i word ge inside is some =
    match_yes value (bit_of current i) (bit_of committed i) (match_at current committed value at i word ge inside is ∙ some)

-- the word's lowest bit from one on, where it is before the range's end
pub first_of : (current committed : List ℕ) (value : Bool) (from below at word found : ℕ) → from ≤ at → at < below
    → ((i : ℕ) → from ≤ i → i < at → is_neither current committed i ≡ not value)
    → IsMatching current committed value (at / 64) word → word < 2 ^ 64 → 0 < word / 2 ^ (at % 64)
    → found ≡ min (trailing_zeros w64 (word / 2 ^ (at % 64))) (below - at) → IsFirst (is_neither current committed) value from below (at + found)
first_of current committed value from below at word found behind lt before is fits some found_is =
    let lowest = lowest_set word (at % 64) fits some in
    let inside = lowest.within in
    record {
      behind = omega (arith, behind);
      within = omega (arith, found_is, lt);
      before = λ i ge less. split at i
          (λ there.
          test_no current committed value at i word there (omega (arith, inside, found_is, less)) is
          (lowest.before (i - at) (omega (arith, found_is, less, there))))
          (λ low. before i ge low);
      here = λ less.
          let whole : at + found - at ≡ trailing_zeros w64 (word / 2 ^ (at % 64)) = omega (arith, found_is, less) in
          test_yes current committed value at (at + found) word (omega arith) (omega (arith, inside, whole)) is
          (ap (λ (n : ℕ). has_bit word (at % 64 + n)) whole ∙ lowest.here);
    }

-- ---- the next stretch

pub none_behind : (len : ℕ) (current committed : List ℕ) (from most : ℕ) → len ≤ from → FindsNextSet (spare_bits (view_of len current committed)) from most None
none_behind len current committed from most past i ge = spare_bits-past len current committed i (omega (arith, past, ge))

pub none_found : (len : ℕ) (current committed : List ℕ) (from most start : ℕ) → IsFirst (is_neither current committed) true from len start → start ≡ len
    → FindsNextSet (spare_bits (view_of len current committed)) from most None
none_found len current committed from most start first all i ge =
    split len i
    (λ past. spare_bits-past len current committed i past)
    (λ lt. get_or-spare_bits len current committed i lt ∙ first.before i ge (omega (arith, all, lt)))

pub next_found : (len : ℕ) (current committed : List ℕ) (from most start below end : ℕ) → 1 ≤ most
    → IsFirst (is_neither current committed) true from len start → (start ≡ len → ⊥) → below ≡ start + min most (len - start)
    → IsFirst (is_neither current committed) false start below end
    → IsNextSet (spare_bits (view_of len current committed)) from most (record { start = start; count = end - start })
next_found len current committed from most start below end some first not_all below_is last =
    let within = first.within in
    let behind = last.behind in
    let short = last.within in
    let start_lt : start < len = omega (arith, within, not_all) in
    let more : start < end = split end start
    (λ le. absurd (
    let same : end ≡ start = omega (arith, le, behind) in
    let lt : end < below = omega (arith, same, below_is, start_lt, some) in
    let one = first.here start_lt in
    let other : is_neither current committed start ≡ false = ap (is_neither current committed) (sym same) ∙ last.here lt in
    true≢false (sym one ∙ other)))
    (λ lt. lt) in
    let whole : start + (end - start) ≡ end = omega (arith, behind) in
    record {
      behind = first.behind;
      some = omega (arith, more);
      few = omega (arith, short, below_is);
      within = omega (arith, length-spare_bits len current committed, short, below_is, behind, within);
      before = λ i ge lt. get_or-spare_bits len current committed i (omega (arith, lt, within)) ∙ first.before i ge lt;
      each = λ i ge lt.
          get_or-spare_bits len current committed i (omega (arith, lt, whole, short, below_is, within)) ∙ last.before i ge (omega (arith, lt, whole));
      ends = λ few.
          ap (λ (n : ℕ). get_or (spare_bits (view_of len current committed)) n false) whole
          ∙ split len end
          (λ past. spare_bits-past len current committed end past)
          (λ lt. get_or-spare_bits len current committed end lt ∙ last.here (omega (arith, lt, few, below_is, behind)));
    }
