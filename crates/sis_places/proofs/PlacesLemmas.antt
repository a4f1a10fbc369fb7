-- What the fields of `Places` keep: at first, after a word is written, and after a commit.
use Rattle.std.proofs.Common.{◌≡◌, ℕ, ◌+◌, ◌-◌, ◌*◌, ◌/◌, ◌%◌, ◌^◌, ◌<◌, ◌≤◌, Bool, true, false, not, cond, List, length, replicate, get_or, set, refl, ap, ap₂, sym, ◌∙◌, subst, arith}
use Rattle.std.specs.Prelude.{◌&&◌, ◌==◌, count_by, count_ones, bit_or}
use Rattle.std.proofs.lemmas.List.{ext_get_or, get_or-replicate, get_or_past, length-replicate, length-set, get_or-set_same}
use Rattle.std.proofs.lemmas.List.Sums.{count_by-le-length}
use Rattle.std.proofs.lemmas.Nat.{or_lt}
use Rattle.std.proofs.lemmas.Nat.Bits.{bit_at-zero}
use Rattle.sis_places.specs.Places.{spare, used, set_bits}
use Rattle.sis_places.specs.Inside.{ArePacked, ArePlaces, bit_of, bits_of, has_bit, is_among, is_neither, view_of}
use Rattle.sis_places.proofs.WordLemmas.{split, among_no-low, among_no-high}
use Rattle.sis_places.proofs.Tally.{tally, tally-same, tally-none, tally-not, DiffersBy, one_word}
use Rattle.sis_places.proofs.BitLemmas.{length-bits_of, get_or-bits_of, IsPut, Sets, bit_of-set, bits_of-set, ArePacked-set, is_held, used-tally, spare-tally, spare_and_held, used_word, held_word}

-- ---- no place is mapped

abbrev zeros : ℕ → List ℕ
zeros n = replicate n 0

zero_word : (n k : ℕ) → get_or (zeros n) k 0 ≡ 0
zero_word n k =
    let size : length (zeros n) ≡ n = length-replicate n 0 in
    split n k (λ past. get_or_past (zeros n) k 0 (omega (arith, size, past))) (λ lt. get_or-replicate n k 0 0 lt)

bit_of-zero : (n i : ℕ) → bit_of (replicate n 0) i ≡ false
bit_of-zero n i = ap (λ (w : ℕ). has_bit w (i % 64)) (zero_word n (i / 64)) ∙ ap (λ (x : ℕ). x == 1) (bit_at-zero (i % 64))

pub bits_of-zero : (len n : ℕ) → bits_of len (replicate n 0) ≡ replicate len false
bits_of-zero len n =
    let size = length-bits_of len (replicate n 0) in
    ext_get_or false _ _ (size ∙ sym (length-replicate len false))
    (λ i lt.
    get_or-bits_of len (replicate n 0) i (omega (arith, size, lt)) ∙ bit_of-zero n i
    ∙ sym (get_or-replicate len i false false (omega (arith, size, lt))))

pub ArePlaces-zero : (len n : ℕ) → len ≤ 64 * n → ArePlaces len (replicate n 0) (replicate n 0) 0 len
ArePlaces-zero len n fits =
    let size : length (zeros n) ≡ n = length-replicate n 0 in
    let packed : ArePacked len (replicate n 0) = record { size = omega (arith, size, fits); rest = λ i ge. bit_of-zero n i } in
    let none = tally-none (is_held (replicate n 0) (replicate n 0)) 0 len
    (λ i ge. ap₂ (λ (a b : Bool). not (not a && not b)) (bit_of-zero n i) (bit_of-zero n i)) in
    record {
      current_packed = packed;
      committed_packed = packed;
      same = refl;
      used_is = sym (used-tally len (replicate n 0) ∙ tally-none (bit_of (replicate n 0)) 0 len (λ i ge. bit_of-zero n i));
      spare_is = omega (arith, spare_and_held len (replicate n 0) (replicate n 0), none);
    }

-- ---- a commit

pub used_fits : (len : ℕ) (words : List ℕ) → count_by (λ (b : Bool). b) (bits_of len words) ≤ len
used_fits len words = omega (arith, count_by-le-length (λ (b : Bool). b) (bits_of len words), length-bits_of len words)

pub same_twice : (b : Bool) → (not b && not b) ≡ not b
same_twice true = refl
same_twice false = refl

pub ArePlaces-commit : (len : ℕ) (current committed : List ℕ) (used_count spare_count : ℕ) → ArePlaces len current committed used_count spare_count
    → ArePlaces len current current used_count (len - used_count)
ArePlaces-commit len current committed used_count spare_count h =
    let left = spare-tally len current current ∙ tally-same (is_neither current current) (λ i. not (bit_of current i)) 0 len (λ i ge lt. same_twice (bit_of current i)) in
    let all = tally-not (bit_of current) 0 len in
    let count = used-tally len current in
    let is = h.used_is in
    record {
      current_packed = h.current_packed;
      committed_packed = h.current_packed;
      same = refl;
      used_is = h.used_is;
      spare_is = omega (arith, left, all, count, is);
    }

-- ---- a word is written

-- the word of some neighbouring places before and after
pub record Putting (len : ℕ) (current committed : List ℕ) (used_count spare_count start count : ℕ) (value : Bool) (before other after : ℕ) : Type 0 where
  pub places : ArePlaces len current committed used_count spare_count
  pub range : start + count ≤ len
  pub before_is : before ≡ get_or current (start / 64) 0
  pub other_is : other ≡ get_or committed (start / 64) 0
  pub before_fits : before < 2 ^ 64
  pub other_fits : other < 2 ^ 64
  pub put : IsPut before start count value after

pub putting : (len : ℕ) (current committed : List ℕ) (used_count spare_count start count : ℕ) (value : Bool) (before other after : ℕ)
    → ArePlaces len current committed used_count spare_count
    → 1 ≤ count → start % 64 + count ≤ 64 → start + count ≤ len
    → before ≡ get_or current (start / 64) 0 → other ≡ get_or committed (start / 64) 0
    → before < 2 ^ 64 → other < 2 ^ 64 → after < 2 ^ 64
    → ((i : ℕ) → i < 64 → has_bit after i ≡ cond (is_among (start % 64) count i) value (has_bit before i))
    → Putting len current committed used_count spare_count start count value before other after
putting len current committed used_count spare_count start count value before other after places some inside range before_is other_is before_fits other_fits fits bits =
    record {
      places = places;
      range = range;
      before_is = before_is;
      other_is = other_is;
      before_fits = before_fits;
      other_fits = other_fits;
      put = record { some = some; inside = inside; fits = fits; bits = bits };
    }

-- how the two counts change
pub record Counted (len used_count spare_count before other after new_used new_spare : ℕ) : Type 0 where
  pub had : count_ones before ≤ used_count
  pub used_is : used_count + count_ones after ≡ new_used + count_ones before
  pub used_few : new_used ≤ len
  pub spare_is : spare_count + count_ones (bit_or before other) ≡ new_spare + count_ones (bit_or after other)
  pub spare_few : spare_count + count_ones (bit_or before other) ≤ len

module _ (len : ℕ) (current committed : List ℕ) (used_count spare_count start count : ℕ) (value : Bool) (before other after : ℕ)
    (h : Putting len current committed used_count spare_count start count value before other after) where
  pub word_within : start / 64 < length current
  word_within =
      let size = h.places.current_packed.size in
      let range = h.range in
      let some = h.put.some in
      omega (arith, size, range, some)

  pub sets : Sets start count value current (set current (start / 64) after)
  sets = bit_of-set current start count value after word_within (subst (λ (w : ℕ). IsPut w start count value after) h.before_is h.put)

  same-low : (i : ℕ) → i < 64 * (start / 64) → bit_of current i ≡ bit_of (set current (start / 64) after) i
  same-low i lt =
      sym (sets i ∙ ap (λ (b : Bool). cond b value (bit_of current i)) (among_no-low start count i (omega (arith, lt))))

  same-high : (i : ℕ) → 64 * (start / 64) + 64 ≤ i → bit_of current i ≡ bit_of (set current (start / 64) after) i
  same-high i ge =
      let inside = h.put.inside in
      sym (sets i ∙ ap (λ (b : Bool). cond b value (bit_of current i)) (among_no-high start count i (omega (arith, ge, inside))))

  pub new_packed : ArePacked len (set current (start / 64) after)
  new_packed = ArePacked-set len current (set current (start / 64) after) start count value h.range (length-set current (start / 64) after) sets h.places.current_packed

  new_word : get_or (set current (start / 64) after) (start / 64) 0 ≡ after
  new_word = get_or-set_same current (start / 64) after 0 word_within

  used_differs : DiffersBy (tally (bit_of current) 0 len) (tally (bit_of (set current (start / 64) after)) 0 len) before after
  used_differs =
      one_word (bit_of current) (bit_of (set current (start / 64) after)) len (start / 64) before after
      (used_word len current (start / 64) before h.places.current_packed (sym h.before_is) h.before_fits)
      (used_word len (set current (start / 64) after) (start / 64) after new_packed new_word h.put.fits)
      same-low same-high

  held_differs : DiffersBy (tally (is_held current committed) 0 len) (tally (is_held (set current (start / 64) after) committed) 0 len) (bit_or before other) (bit_or after other)
  held_differs =
      one_word (is_held current committed) (is_held (set current (start / 64) after) committed) len (start / 64) (bit_or before other) (bit_or after other)
      (held_word len current committed (start / 64) before other h.places.current_packed h.places.committed_packed (sym h.before_is) (sym h.other_is)
      (or_lt 64 before other h.before_fits h.other_fits))
      (held_word len (set current (start / 64) after) committed (start / 64) after other new_packed h.places.committed_packed new_word (sym h.other_is)
      (or_lt 64 after other h.put.fits h.other_fits))
      (λ i lt. ap (λ (b : Bool). not (not b && not (bit_of committed i))) (same-low i lt))
      (λ i ge. ap (λ (b : Bool). not (not b && not (bit_of committed i))) (same-high i ge))

  pub counted : Counted len used_count spare_count before other after
      (used (view_of len (set current (start / 64) after) committed)) (spare (view_of len (set current (start / 64) after) committed))
  counted =
      let used_is = h.places.used_is in
      let spare_is = h.places.spare_is in
      let was = used-tally len current in
      let now = used-tally len (set current (start / 64) after) in
      let before_is = used_differs.before_is in
      let after_is = used_differs.after_is in
      let both_before_is = held_differs.before_is in
      let both_after_is = held_differs.after_is in
      let all = spare_and_held len current committed in
      let new_all = spare_and_held len (set current (start / 64) after) committed in
      record {
        had = omega (arith, used_is, was, before_is);
        used_is = omega (arith, used_is, was, now, before_is, after_is);
        used_few = used_fits len (set current (start / 64) after);
        spare_is = omega (arith, spare_is, all, new_all, both_before_is, both_after_is);
        spare_few = omega (arith, spare_is, all, both_before_is);
      }

  pub ArePlaces-put : ArePlaces len (set current (start / 64) after) committed (used_count - count_ones before + count_ones after)
      (spare_count + count_ones (bit_or before other) - count_ones (bit_or after other))
  ArePlaces-put =
      let had = counted.had in
      let used_is = counted.used_is in
      let spare_is = counted.spare_is in
      record {
        current_packed = new_packed;
        committed_packed = h.places.committed_packed;
        same = length-set current (start / 64) after ∙ h.places.same;
        used_is = omega (arith, had, used_is);
        spare_is = omega (arith, spare_is);
      }

  pub bits_of-put : bits_of len (set current (start / 64) after) ≡ set_bits start count value (bits_of len current)
  bits_of-put = bits_of-set len current (set current (start / 64) after) start count value h.range sets
