-- What the crates above cite of backpointers.
use Rattle.std.proofs.Common.{◌≡◌, ℕ, ◌+◌, Bool, true, false, cond, ltb, eqb, ◌||◌, ◌&&◌, List, [], ◌∷◌, length, refl, ap, sym, ◌∙◌, arith}
use Rattle.std.specs.Prelude.{◌==◌, not}
use Rattle.std.specs.List.{list_any}
use Rattle.std.proofs.lemmas.Bool.{eqb-true, eq-eqb, ne_eqb, or_parts}
use Rattle.sis_backpointer.specs.declared.back.Back.{Back}
use Rattle.sis_backpointer.specs.Backs.{IsRising, has_index, has_pair, is_at, is_pair, with_back, without_back}
use Rattle.sis_backpointer.proofs.Rising.{Absent, Absent-greater, rising_head, rising_tail}
use Rattle.sis_backpointer.proofs.Edits.{without_back-absent, has_pair-absent, absent_from}
pub use Rattle.sis_backpointer.proofs.Rising.{rising_none}
pub use Rattle.sis_backpointer.proofs.Edits.{IsRising-with_back, IsRising-without_back, all-with_back, all-without_back}
pub use Rattle.sis_backpointer.proofs.Readings.{length-backs_text, spelled_is_read, read_is_spelled, one_spelling}

-- one more
pub length-with_back : (b : Back) (backs : List Back) → length (with_back b backs) ≡ length backs + 1
length-with_back b [] = refl
length-with_back b (x ∷ xs) =
    elim (ltb x.index b.index) as (λ t. length (cond t (x ∷ with_back b xs) (b ∷ x ∷ xs)) ≡ length (x ∷ xs) + 1) [
      | true ↦ omega (arith, length-with_back b xs)
      | false ↦ omega arith
    ]

-- one less, where it was there
pub length-without_back : (index : ℕ) (backs : List Back) → IsRising backs → has_index index backs ≡ true → length (without_back index backs) + 1 ≡ length backs
length-without_back index [] rising there = absurd cc
length-without_back index (x ∷ xs) rising there =
    elim (eqb x.index index) as (λ t. eqb x.index index ≡ t → (t || has_index index xs) ≡ true → length (cond (not t) (x ∷ without_back index xs) (without_back index xs)) + 1 ≡ length (x ∷ xs)) [
      | true ↦ λ is h.
          let same : x.index ≡ index = eqb-true x.index index is in
          let others : Absent x.index xs = Absent-greater x.index xs (rising_head x xs rising) in
          let kept : without_back index xs ≡ xs = ap (λ (n : ℕ). without_back n xs) (sym same) ∙ without_back-absent x.index xs others in
          omega (arith, ap length kept)
      | false ↦ λ is h. omega (arith, length-without_back index xs (rising_tail x xs rising) h)
    ] refl there

-- none less, where it wasn't
pub without_back-other : (index : ℕ) (backs : List Back) → has_index index backs ≡ false → without_back index backs ≡ backs
without_back-other index backs free = without_back-absent index backs (absent_from index backs free)

or_swap : (a b c : Bool) → (a || (b || c)) ≡ (b || (a || c))
or_swap true true c = refl
or_swap true false c = refl
or_swap false true c = refl
or_swap false false c = refl

-- what is there after one is added: what was there, and the new one
list_any-with_back : (test : Back → Bool) (b : Back) (backs : List Back) → list_any test (with_back b backs) ≡ (test b || list_any test backs)
list_any-with_back test b [] = refl
list_any-with_back test b (x ∷ xs) =
    elim (ltb x.index b.index) as (λ t. list_any test (cond t (x ∷ with_back b xs) (b ∷ x ∷ xs)) ≡ (test b || (test x || list_any test xs))) [
      | true ↦ ap (λ (t : Bool). test x || t) (list_any-with_back test b xs) ∙ or_swap (test x) (test b) (list_any test xs)
      | false ↦ refl
    ]

pub has_index-with_back : (index : ℕ) (b : Back) (backs : List Back) → has_index index (with_back b backs) ≡ ((b.index == index) || has_index index backs)
has_index-with_back index b backs = list_any-with_back (is_at index) b backs

pub has_pair-with_back : (index file : ℕ) (b : Back) (backs : List Back) → has_pair index file (with_back b backs) ≡ (((b.index == index) && (b.file == file)) || has_pair index file backs)
has_pair-with_back index file b backs = list_any-with_back (is_pair index file) b backs

-- the new one is there
pub has_index-added : (b : Back) (backs : List Back) → has_index b.index (with_back b backs) ≡ true
has_index-added b backs = has_index-with_back b.index b backs ∙ ap (λ (t : Bool). t || has_index b.index backs) (eq-eqb b.index b.index refl)

-- the one that was taken out isn't there, and each other index is where it was
pub has_index-dropped : (index : ℕ) (backs : List Back) → has_index index (without_back index backs) ≡ false
has_index-dropped index [] = refl
has_index-dropped index (x ∷ xs) =
    elim (eqb x.index index) as (λ t. eqb x.index index ≡ t → has_index index (cond (not t) (x ∷ without_back index xs) (without_back index xs)) ≡ false) [
      | true ↦ λ is. has_index-dropped index xs
      | false ↦ λ is. rw is (has_index-dropped index xs)
    ] refl

pub has_index-without_back : (index gone : ℕ) (backs : List Back) → (index ≡ gone → ⊥) → has_index index (without_back gone backs) ≡ has_index index backs
has_index-without_back index gone [] other = refl
has_index-without_back index gone (x ∷ xs) other =
    elim (eqb x.index gone) as (λ t. eqb x.index gone ≡ t → has_index index (cond (not t) (x ∷ without_back gone xs) (without_back gone xs)) ≡ has_index index (x ∷ xs)) [
      | true ↦ λ is.
          let same : x.index ≡ gone = eqb-true x.index gone is in
          has_index-without_back index gone xs other
          ∙ ap (λ (t : Bool). t || has_index index xs) (sym (ne_eqb x.index index (λ (e : x.index ≡ index). other (sym e ∙ same))))
      | false ↦ λ is. ap (λ (t : Bool). eqb x.index index || t) (has_index-without_back index gone xs other)
    ] refl

pub has_pair-dropped : (index file : ℕ) (backs : List Back) → has_pair index file (without_back index backs) ≡ false
has_pair-dropped index file backs = has_pair-absent index file (without_back index backs) (absent_from index (without_back index backs) (has_index-dropped index backs))

pub has_pair-without_back : (index file gone : ℕ) (backs : List Back) → (index ≡ gone → ⊥) → has_pair index file (without_back gone backs) ≡ has_pair index file backs
has_pair-without_back index file gone [] other = refl
has_pair-without_back index file gone (x ∷ xs) other =
    elim (eqb x.index gone) as (λ t. eqb x.index gone ≡ t → has_pair index file (cond (not t) (x ∷ without_back gone xs) (without_back gone xs)) ≡ has_pair index file (x ∷ xs)) [
      | true ↦ λ is.
          let same : x.index ≡ gone = eqb-true x.index gone is in
          has_pair-without_back index file gone xs other
          ∙ ap (λ (t : Bool). (t && eqb x.file file) || has_pair index file xs) (sym (ne_eqb x.index index (λ (e : x.index ≡ index). other (sym e ∙ same))))
      | false ↦ λ is. ap (λ (t : Bool). (eqb x.index index && eqb x.file file) || t) (has_pair-without_back index file gone xs other)
    ] refl

-- to take out what was added gives the list before
pub without_back-with_back : (b : Back) (backs : List Back) → has_index b.index backs ≡ false → without_back b.index (with_back b backs) ≡ backs
without_back-with_back b [] free = rw (eq-eqb b.index b.index refl) refl
without_back-with_back b (x ∷ xs) free =
    let apart = or_parts (eqb x.index b.index) (has_index b.index xs) free in
    elim (ltb x.index b.index) as (λ t. without_back b.index (cond t (x ∷ with_back b xs) (b ∷ x ∷ xs)) ≡ x ∷ xs) [
      | true ↦ rw apart.0 (ap (λ (l : List Back). x ∷ l) (without_back-with_back b xs apart.1))
      | false ↦ rw (eq-eqb b.index b.index refl) (without_back-other b.index (x ∷ xs) free)
    ]
