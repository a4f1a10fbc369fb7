-- Words of 64 bits as one list of bits, and ranges of it.
use Rattle.std.proofs.Common.{◌≡◌, ℕ, ◌+◌, ◌-◌, ◌*◌, ◌/◌, ◌%◌, ◌^◌, ◌<◌, ◌≤◌, ◌≢◌, Bool, false, not, cond, List, ◌++◌, length, take, drop, replicate, get_or, set, refl, ap, ap₂, sym, ◌∙◌, arith}
use Rattle.std.specs.Prelude.{◌&&◌, count_by, bit_or}
use Rattle.std.proofs.lemmas.List.{ext_get_or, get_or-take, get_or-drop, get_or_append_left, get_or-append_right, get_or-replicate, get_or_past, get_or-set_same, get_or-set_other, length-append, length-replicate, length-take-le, length-drop}
use Rattle.std.proofs.lemmas.List.FromFn.{get_or-map-range_with_len, length-map-range_with_len}
use Rattle.sis_places.specs.Places.{PlacesView, is_spare, spare, spare_bits, set_bits, with_bits}
use Rattle.sis_places.specs.Inside.{ArePacked, bit_of, bits_of, has_bit, is_among, is_match, is_neither, view_of}
use Rattle.sis_places.proofs.WordLemmas.{split, among_yes, among_no-low, among_no-high, held_bit}
use Rattle.sis_places.proofs.Tally.{tally, count-tally, tally-same, tally-not, HasWord}

abbrev pub with_current : List Bool → PlacesView → PlacesView
with_current bits p = record { current = bits; committed = p.committed }

-- ---- one bit

pub bit_of-word : (words : List ℕ) (k j i : ℕ) → i ≡ 64 * k + j → j < 64 → bit_of words i ≡ has_bit (get_or words k 0) j
bit_of-word words k j i is lt =
    let word : i / 64 ≡ k = omega (arith, is, lt) in
    let bit : i % 64 ≡ j = omega (arith, is, lt) in
    ap₂ (λ (a b : ℕ). has_bit (get_or words a 0) b) word bit

pub length-bits_of : (len : ℕ) (words : List ℕ) → length (bits_of len words) ≡ len
length-bits_of len words = length-map-range_with_len (bit_of words) 0 len

pub get_or-bits_of : (len : ℕ) (words : List ℕ) (i : ℕ) → i < len → get_or (bits_of len words) i false ≡ bit_of words i
get_or-bits_of len words i lt = get_or-map-range_with_len (bit_of words) 0 len i i false lt (omega arith)

pub word_below : (len : ℕ) (words : List ℕ) (i : ℕ) → len ≤ 64 * length words → i < len → i / 64 < length words
word_below len words i size lt = omega (arith, size, lt)

-- ---- a range of bits

pub length-set_bits : (start count : ℕ) (value : Bool) (bits : List Bool) → start + count ≤ length bits → length (set_bits start count value bits) ≡ length bits
length-set_bits start count value bits fits =
    let whole = length-append (take start bits ++ replicate count value) (drop (start + count) bits) in
    let front = length-append (take start bits) (replicate count value) in
    let first = length-take-le start bits (omega (arith, fits)) in
    let middle = length-replicate count value in
    let back = length-drop (start + count) bits in
    omega (arith, whole, front, first, middle, back, fits)

pub get_or-set_bits : (start count : ℕ) (value : Bool) (bits : List Bool) (i : ℕ) → start + count ≤ length bits
    → get_or (set_bits start count value bits) i false ≡ cond (is_among start count i) value (get_or bits i false)
get_or-set_bits start count value bits i fits =
    let first = length-take-le start bits (omega (arith, fits)) in
    let middle = length-replicate count value in
    let front : length (take start bits ++ replicate count value) ≡ start + count
    = length-append (take start bits) (replicate count value) ∙ omega (arith, first, middle) in
    let test = λ (b : Bool). cond b value (get_or bits i false) in
    split start i
    (λ ge. split (start + count) i
    (λ past.
    get_or-append_right (take start bits ++ replicate count value) (drop (start + count) bits) (start + count) i false front past
    ∙ get_or-drop (start + count) bits (i - (start + count)) false
    ∙ ap (λ (n : ℕ). get_or bits n false) (omega (arith, past))
    ∙ sym (ap test (among_no-high start count i past)))
    (λ lt.
    get_or_append_left (take start bits ++ replicate count value) (drop (start + count) bits) false i (omega (arith, front, lt))
    ∙ get_or-append_right (take start bits) (replicate count value) start i false first ge
    ∙ get_or-replicate count (i - start) value false (omega (arith, ge, lt))
    ∙ sym (ap test (among_yes start count i ge lt))))
    (λ lt.
    get_or_append_left (take start bits ++ replicate count value) (drop (start + count) bits) false i (omega (arith, front, lt))
    ∙ get_or_append_left (take start bits) (replicate count value) false i (omega (arith, first, lt))
    ∙ get_or-take start bits i false lt
    ∙ sym (ap test (among_no-low start count i lt)))

-- two ranges, one behind the other
among_both : (start m n i : ℕ) (value x : Bool)
    → cond (is_among (start + m) n i) value (cond (is_among start m i) value x) ≡ cond (is_among start (m + n) i) value x
among_both start m n i value x =
    let outer = λ (b : Bool). cond b value (cond (is_among start m i) value x) in
    let inner = λ (b : Bool). cond b value x in
    split start i
    (λ ge. split (start + m) i
    (λ past. split (start + m + n) i
    (λ high. ap outer (among_no-high (start + m) n i high) ∙ ap inner (among_no-high start m i past)
    ∙ sym (ap inner (among_no-high start (m + n) i (omega (arith, high)))))
    (λ lt. ap outer (among_yes (start + m) n i past lt) ∙ sym (ap inner (among_yes start (m + n) i ge (omega (arith, lt))))))
    (λ lt. ap outer (among_no-low (start + m) n i lt) ∙ ap inner (among_yes start m i ge lt)
    ∙ sym (ap inner (among_yes start (m + n) i ge (omega (arith, lt))))))
    (λ lt. ap outer (among_no-low (start + m) n i (omega (arith, lt))) ∙ ap inner (among_no-low start m i lt)
    ∙ sym (ap inner (among_no-low start (m + n) i lt)))

pub set_bits-set_bits : (start m n : ℕ) (value : Bool) (bits : List Bool) → start + m + n ≤ length bits
    → set_bits (start + m) n value (set_bits start m value bits) ≡ set_bits start (m + n) value bits
set_bits-set_bits start m n value bits fits =
    let inner = length-set_bits start m value bits (omega (arith, fits)) in
    let outer = length-set_bits (start + m) n value (set_bits start m value bits) (omega (arith, fits, inner)) in
    let whole = length-set_bits start (m + n) value bits (omega (arith, fits)) in
    ext_get_or false _ _ (outer ∙ inner ∙ sym whole)
    (λ i lt.
    get_or-set_bits (start + m) n value (set_bits start m value bits) i (omega (arith, fits, inner))
    ∙ ap (λ (x : Bool). cond (is_among (start + m) n i) value x) (get_or-set_bits start m value bits i (omega (arith, fits)))
    ∙ among_both start m n i value (get_or bits i false)
    ∙ sym (get_or-set_bits start (m + n) value bits i (omega (arith, fits))))

pub set_bits-none : (start : ℕ) (value : Bool) (bits : List Bool) → start ≤ length bits → set_bits start 0 value bits ≡ bits
set_bits-none start value bits fits =
    ext_get_or false _ _ (length-set_bits start 0 value bits (omega (arith, fits)))
    (λ i lt.
    get_or-set_bits start 0 value bits i (omega (arith, fits))
    ∙ ap (λ (b : Bool). cond b value (get_or bits i false))
    (split start i (λ ge. among_no-high start 0 i (omega (arith, ge))) (λ low. among_no-low start 0 i low)))

-- ---- one word is set

among_word : (start count i : ℕ) → i / 64 ≡ start / 64 → is_among (start % 64) count (i % 64) ≡ is_among start count i
among_word start count i same =
    split start i
    (λ ge. split (start + count) i
    (λ past. among_no-high (start % 64) count (i % 64) (omega (arith, same, past)) ∙ sym (among_no-high start count i past))
    (λ lt. among_yes (start % 64) count (i % 64) (omega (arith, same, ge)) (omega (arith, same, lt)) ∙ sym (among_yes start count i ge lt)))
    (λ lt. among_no-low (start % 64) count (i % 64) (omega (arith, same, lt)) ∙ sym (among_no-low start count i lt))

-- a word with neighbouring bits of it set or cleared
pub record IsPut (before start count : ℕ) (value : Bool) (after : ℕ) : Type 0 where
  pub some : 1 ≤ count
  pub inside : start % 64 + count ≤ 64
  pub fits : after < 2 ^ 64
  pub bits : (i : ℕ) → i < 64 → has_bit after i ≡ cond (is_among (start % 64) count i) value (has_bit before i)

pub bit_of-set : (words : List ℕ) (start count : ℕ) (value : Bool) (after : ℕ) → start / 64 < length words
    → IsPut (get_or words (start / 64) 0) start count value after
    → (i : ℕ) → bit_of (set words (start / 64) after) i ≡ cond (is_among start count i) value (bit_of words i)
bit_of-set words start count value after within put i =
    let k = start / 64 in
    let test = λ (b : Bool). cond b value (bit_of words i) in
    let other : i / 64 ≢ k → bit_of (set words k after) i ≡ bit_of words i
    = λ ne. ap (λ (w : ℕ). has_bit w (i % 64)) (get_or-set_other words k (i / 64) after 0 ne) in
    let inside = put.inside in
    split k (i / 64)
    (λ ge. split (i / 64) k
    (λ le.
    let same : i / 64 ≡ k = omega (arith, ge, le) in
    let word : get_or (set words k after) (i / 64) 0 ≡ after = ap (λ (n : ℕ). get_or (set words k after) n 0) same ∙ get_or-set_same words k after 0 within in
    let old : get_or words k 0 ≡ get_or words (i / 64) 0 = ap (λ (n : ℕ). get_or words n 0) (sym same) in
    ap (λ (w : ℕ). has_bit w (i % 64)) word
    ∙ put.bits (i % 64) (omega arith)
    ∙ ap₂ (λ (b : Bool) (w : ℕ). cond b value (has_bit w (i % 64))) (among_word start count i same) old)
    (λ lt. other (λ e. omega (arith, e, lt)) ∙ sym (ap test (among_no-high start count i (omega (arith, lt, inside))))))
    (λ lt. other (λ e. omega (arith, e, lt)) ∙ sym (ap test (among_no-low start count i (omega (arith, lt)))))

-- bits that change in one range alone
abbrev pub Sets : ℕ → ℕ → Bool → List ℕ → List ℕ → Type 0
Sets start count value old new = (i : ℕ) → bit_of new i ≡ cond (is_among start count i) value (bit_of old i)

pub bits_of-set : (len : ℕ) (old new : List ℕ) (start count : ℕ) (value : Bool) → start + count ≤ len → Sets start count value old new
    → bits_of len new ≡ set_bits start count value (bits_of len old)
bits_of-set len old new start count value fits sets =
    let size = length-bits_of len old in
    let new_size = length-bits_of len new in
    let range : start + count ≤ length (bits_of len old) = omega (arith, size, fits) in
    ext_get_or false _ _ (new_size ∙ sym size ∙ sym (length-set_bits start count value (bits_of len old) range))
    (λ i lt.
    let below : i < len = omega (arith, lt, new_size) in
    get_or-bits_of len new i below ∙ sets i
    ∙ ap (λ (x : Bool). cond (is_among start count i) value x) (sym (get_or-bits_of len old i below))
    ∙ sym (get_or-set_bits start count value (bits_of len old) i range))

pub ArePacked-set : (len : ℕ) (old new : List ℕ) (start count : ℕ) (value : Bool) → start + count ≤ len → length new ≡ length old
    → Sets start count value old new → ArePacked len old → ArePacked len new
ArePacked-set len old new start count value fits size sets packed =
    let had = packed.size in
    record {
      size = omega (arith, had, size);
      rest = λ i ge.
          sets i
          ∙ ap₂ (λ (b x : Bool). cond b value x) (among_no-high start count i (omega (arith, fits, ge))) (packed.rest i ge);
    }

-- ---- how many bits are set

pub used-tally : (len : ℕ) (words : List ℕ) → count_by (λ (b : Bool). b) (bits_of len words) ≡ tally (bit_of words) 0 len
used-tally len words = count-tally (bit_of words) 0 len

pub len_of_view : (len : ℕ) (current committed : List ℕ) (p : PlacesView) → view_of len current committed ≡ p → length p.current ≡ len
len_of_view len current committed p is = sym (ap (λ (v : PlacesView). length v.current) is) ∙ length-bits_of len current

pub is_spare-words : (len : ℕ) (current committed : List ℕ) (i : ℕ) → i < len → is_spare (view_of len current committed) i ≡ is_neither current committed i
is_spare-words len current committed i lt =
    ap₂ (λ (a b : Bool). not a && not b) (get_or-bits_of len current i lt) (get_or-bits_of len committed i lt)

pub spare-tally : (len : ℕ) (current committed : List ℕ) → spare (view_of len current committed) ≡ tally (is_neither current committed) 0 len
spare-tally len current committed =
    let v = view_of len current committed in
    count-tally (is_spare v) 0 (length (bits_of len current))
    ∙ ap (tally (is_spare v) 0) (length-bits_of len current)
    ∙ tally-same (is_spare v) (is_neither current committed) 0 len (λ i ge lt. is_spare-words len current committed i (omega (arith, lt)))

pub length-spare_bits : (len : ℕ) (current committed : List ℕ) → length (spare_bits (view_of len current committed)) ≡ len
length-spare_bits len current committed =
    length-map-range_with_len (is_spare (view_of len current committed)) 0 (length (bits_of len current)) ∙ length-bits_of len current

pub get_or-spare_bits : (len : ℕ) (current committed : List ℕ) (i : ℕ) → i < len → get_or (spare_bits (view_of len current committed)) i false ≡ is_neither current committed i
get_or-spare_bits len current committed i lt =
    get_or-map-range_with_len (is_spare (view_of len current committed)) 0 (length (bits_of len current)) i i false
    (omega (arith, length-bits_of len current, lt)) (omega arith)
    ∙ is_spare-words len current committed i lt

pub spare_bits-past : (len : ℕ) (current committed : List ℕ) (i : ℕ) → len ≤ i → get_or (spare_bits (view_of len current committed)) i false ≡ false
spare_bits-past len current committed i ge =
    get_or_past (spare_bits (view_of len current committed)) i false (omega (arith, length-spare_bits len current committed, ge))

abbrev pub is_held : List ℕ → List ℕ → ℕ → Bool
is_held current committed i = not (is_neither current committed i)

pub spare_and_held : (len : ℕ) (current committed : List ℕ) → spare (view_of len current committed) + tally (is_held current committed) 0 len ≡ len
spare_and_held len current committed =
    ap (λ (n : ℕ). n + tally (is_held current committed) 0 len) (spare-tally len current committed) ∙ tally-not (is_neither current committed) 0 len

-- ---- what a word adds

pub used_word : (len : ℕ) (words : List ℕ) (k w : ℕ) → ArePacked len words → get_or words k 0 ≡ w → w < 2 ^ 64 → HasWord (bit_of words) k w len
used_word len words k w packed is fits = record {
  fits = fits;
  inside = λ i lt. bit_of-word words k i (64 * k + i) refl lt ∙ ap (λ (n : ℕ). has_bit n i) is;
  past = packed.rest;
}

pub held_word : (len : ℕ) (current committed : List ℕ) (k a b : ℕ) → ArePacked len current → ArePacked len committed
    → get_or current k 0 ≡ a → get_or committed k 0 ≡ b → bit_or a b < 2 ^ 64 → HasWord (is_held current committed) k (bit_or a b) len
held_word len current committed k a b packed other is_a is_b fits = record {
  fits = fits;
  inside = λ i lt.
      ap₂ (λ (x y : Bool). is_match false x y)
      (bit_of-word current k i (64 * k + i) refl lt ∙ ap (λ (n : ℕ). has_bit n i) is_a)
      (bit_of-word committed k i (64 * k + i) refl lt ∙ ap (λ (n : ℕ). has_bit n i) is_b)
      ∙ sym (held_bit a b i);
  past = λ i ge. ap₂ (λ (x y : Bool). is_match false x y) (packed.rest i ge) (other.rest i ge);
}

-- ---- two ranges of the current table, one behind the other

pub with_bits-none : (p : PlacesView) (start : ℕ) (value : Bool) → start ≤ length p.current → with_bits start 0 value p ≡ p
with_bits-none p start value fits =
    ap (λ (bits : List Bool). with_current bits p) (set_bits-none start value p.current fits)

pub with_bits-with_bits : (p : PlacesView) (start m n : ℕ) (value : Bool) → start + m + n ≤ length p.current
    → with_bits (start + m) n value (with_bits start m value p) ≡ with_bits start (m + n) value p
with_bits-with_bits p start m n value fits =
    ap (λ (bits : List Bool). with_current bits p) (set_bits-set_bits start m n value p.current fits)
