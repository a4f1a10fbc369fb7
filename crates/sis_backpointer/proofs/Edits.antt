-- What a look-up finds, and what an edit leaves.
use Rattle.std.proofs.Common.{◌≡◌, ℕ, suc, ◌<◌, ◌≤◌, Bool, true, false, cond, ltb, eqb, ◌||◌, List, [], ◌∷◌, ◌++◌, length, get_or, take, drop, Some, None, Result, Ok, Err, IfOk, IfErr, refl, sym, ap, subst, ◌∙◌, arith}
use Rattle.std.specs.Prelude.{not}
use Rattle.std.specs.List.{AllByRecursion, list_all, filter, insert, remove}
use Rattle.std.specs.List.Sorted.{IsSearchInRange, IsBinarySearchResult, IsNonDecreasingBy}
use Rattle.std.specs.Ordering.{nat_cmp, ordering_index}
use Rattle.std.proofs.Math.Seq.{drop-cons}
use Rattle.std.proofs.lemmas.Cmp.{ranked}
use Rattle.std.proofs.lemmas.List.{append-nil, take-append-drop}
use Rattle.std.proofs.lemmas.List.Sorted.{IsNonDecreasingBy-from_default}
use Rattle.std.proofs.lemmas.Bool.{lt-ltb, le-ltb, ltb-true, ltb-false, eq-eqb, ne_eqb, eqb-false, or_parts}
use Rattle.std.proofs.lemmas.Bool.Decides.{nat_tests}
use Rattle.sis_backpointer.specs.declared.back.Back.{Back}
use Rattle.sis_backpointer.specs.Backs.{IsRising, is_at, is_below, has_index, has_pair, file_of, with_back, without_back}
use Rattle.sis_backpointer.specs.Inside.{IsFound, IsGap}
use Rattle.sis_backpointer.proofs.Rising.{Lower, Greater, Absent, Absent-lower, Absent-greater, Greater-lower, all-append, around, at_le, take_all, drop_all, lower_from, rising_none, rising_head, rising_tail, rising_cons}

-- ---- the search

no_back : Back
no_back = record { index = 0; file = 0 }

ranks_rise : (a b index : ℕ) → a ≤ b → ordering_index (nat_cmp a index) ≤ ordering_index (nat_cmp b index)
ranks_rise a b index le = grind (arith, nat_tests)

comparisons_rise : (backs : List Back) (index : ℕ) → IsRising backs → IsNonDecreasingBy (λ b. ordering_index (nat_cmp b.index index)) backs
comparisons_rise backs index rising =
    IsNonDecreasingBy-from_default (λ b. ordering_index (nat_cmp b.index index)) backs no_back
    (λ i j le lt. ranks_rise (get_or backs i no_back).index (get_or backs j no_back).index index (at_le backs rising i j no_back le lt))

-- a binary search ends at the index, or at the gap for it
pub searched : (backs : List Back) → IsRising backs → (index : ℕ) (r : Result ℕ ℕ) → IsSearchInRange r (length backs) → IsBinarySearchResult (λ b. nat_cmp b.index index) backs r
    → record { found : IfOk r (IsFound index backs); absent : IfErr r (IsGap index backs) }
searched backs rising index (Ok at) in_range equal = record {
  found = record { within = in_range; has = λ b. ranked _ index _ (sym (equal b)) };
  absent = tt;
}
searched backs rising index (Err at) in_range parted =
    let parts = parted (comparisons_rise backs index rising) in
    record {
      found = tt;
      absent = record {
        within = in_range;
        lower = take_all (λ b. b.index < index) backs at in_range (λ j d lt. ranked _ index _ (sym (parts.0 j d (omega (arith, lt, in_range)) lt)));
        greater = drop_all (λ b. index < b.index) backs at (λ j d le lt. ranked _ index _ (sym (parts.1 j d le lt)));
      };
    }

-- ---- an index that isn't there

pub has_index-absent : (index : ℕ) (backs : List Back) → Absent index backs → has_index index backs ≡ false
has_index-absent index [] h = refl
has_index-absent index (x ∷ xs) h = rw (ne_eqb x.index index h.0) (has_index-absent index xs h.1)

pub has_pair-absent : (index file : ℕ) (backs : List Back) → Absent index backs → has_pair index file backs ≡ false
has_pair-absent index file [] h = refl
has_pair-absent index file (x ∷ xs) h = rw (ne_eqb x.index index h.0) (has_pair-absent index file xs h.1)

pub file_of-absent : (index : ℕ) (backs : List Back) → Absent index backs → file_of index backs ≡ None
file_of-absent index [] h = refl
file_of-absent index (x ∷ xs) h = rw (ne_eqb x.index index h.0) (file_of-absent index xs h.1)

pub without_back-absent : (index : ℕ) (backs : List Back) → Absent index backs → without_back index backs ≡ backs
without_back-absent index [] h = refl
without_back-absent index (x ∷ xs) h = rw (ne_eqb x.index index h.0) (ap (λ (l : List Back). x ∷ l) (without_back-absent index xs h.1))

pub absent_from : (index : ℕ) (backs : List Back) → has_index index backs ≡ false → Absent index backs
absent_from index [] h = tt
absent_from index (x ∷ xs) h =
    let parts = or_parts (eqb x.index index) (has_index index xs) h in
    (eqb-false x.index index parts.0, absent_from index xs parts.1)

pub gap_absent : (index : ℕ) (backs : List Back) (at : ℕ) → IsGap index backs at → Absent index backs
gap_absent index backs at gap =
    subst (Absent index) (take-append-drop at backs)
    (all-append (λ b. b.index ≡ index → ⊥) (take at backs) (drop at backs) (Absent-lower index (take at backs) gap.lower) (Absent-greater index (drop at backs) gap.greater))

-- ---- one that is there

or_false : (t : Bool) → (t || false) ≡ t
or_false true = refl
or_false false = refl

-- what one backpointer of a list is to others of it
pub record Sits (index : ℕ) (front : List Back) (x : Back) (back : List Back) : Type 0 where
  pub has : x.index ≡ index
  pub before : Absent index front
  pub behind : Absent index back

pub has_index-there : (index : ℕ) (front : List Back) (x : Back) (back : List Back) → Sits index front x back → has_index index (front ++ x ∷ back) ≡ true
has_index-there index [] x back sits = rw (eq-eqb x.index index sits.has) refl
has_index-there index (y ∷ ys) x back sits =
    rw (ne_eqb y.index index sits.before.0) (has_index-there index ys x back (record { has = sits.has; before = sits.before.1; behind = sits.behind }))

pub has_pair-there : (index file : ℕ) (front : List Back) (x : Back) (back : List Back) → Sits index front x back → has_pair index file (front ++ x ∷ back) ≡ eqb x.file file
has_pair-there index file [] x back sits =
    rw (eq-eqb x.index index sits.has) (ap (λ (t : Bool). eqb x.file file || t) (has_pair-absent index file back sits.behind) ∙ or_false (eqb x.file file))
has_pair-there index file (y ∷ ys) x back sits =
    rw (ne_eqb y.index index sits.before.0) (has_pair-there index file ys x back (record { has = sits.has; before = sits.before.1; behind = sits.behind }))

pub file_of-there : (index : ℕ) (front : List Back) (x : Back) (back : List Back) → Sits index front x back → file_of index (front ++ x ∷ back) ≡ Some x.file
file_of-there index [] x back sits = rw (eq-eqb x.index index sits.has) refl
file_of-there index (y ∷ ys) x back sits =
    rw (ne_eqb y.index index sits.before.0) (file_of-there index ys x back (record { has = sits.has; before = sits.before.1; behind = sits.behind }))

pub without_back-there : (index : ℕ) (front : List Back) (x : Back) (back : List Back) → Sits index front x back → without_back index (front ++ x ∷ back) ≡ front ++ back
without_back-there index [] x back sits = rw (eq-eqb x.index index sits.has) (without_back-absent index back sits.behind)
without_back-there index (y ∷ ys) x back sits =
    rw (ne_eqb y.index index sits.before.0)
    (ap (λ (l : List Back). y ∷ l) (without_back-there index ys x back (record { has = sits.has; before = sits.before.1; behind = sits.behind })))

parts : (backs : List Back) (at : ℕ) (d : Back) → at < length backs → take at backs ++ get_or backs at d ∷ drop (suc at) backs ≡ backs
parts backs at d lt = ap (λ (l : List Back). take at backs ++ l) (sym (drop-cons backs at d lt)) ∙ take-append-drop at backs

pub sits : (index : ℕ) (backs : List Back) (at : ℕ) (d : Back) → IsRising backs → IsFound index backs at → Sits index (take at backs) (get_or backs at d) (drop (suc at) backs)
sits index backs at d rising found =
    let x : Back = get_or backs at d in
    let ring = around (take at backs) x (drop (suc at) backs) (subst IsRising (sym (parts backs at d found.within)) rising) in
    let is : x.index ≡ index = found.has d in
    record {
      has = is;
      before = subst (λ (n : ℕ). Absent n (take at backs)) is (Absent-lower x.index (take at backs) ring.lower);
      behind = subst (λ (n : ℕ). Absent n (drop (suc at) backs)) is (Absent-greater x.index (drop (suc at) backs) ring.greater);
    }

pub has_index-found : (index : ℕ) (backs : List Back) (at : ℕ) → IsRising backs → IsFound index backs at → has_index index backs ≡ true
has_index-found index backs at rising found =
    subst (λ (l : List Back). has_index index l ≡ true) (parts backs at no_back found.within)
    (has_index-there index (take at backs) (get_or backs at no_back) (drop (suc at) backs) (sits index backs at no_back rising found))

pub has_pair-found : (index file : ℕ) (backs : List Back) (at : ℕ) (d : Back) → IsRising backs → IsFound index backs at → has_pair index file backs ≡ eqb (get_or backs at d).file file
has_pair-found index file backs at d rising found =
    subst (λ (l : List Back). has_pair index file l ≡ eqb (get_or backs at d).file file) (parts backs at d found.within)
    (has_pair-there index file (take at backs) (get_or backs at d) (drop (suc at) backs) (sits index backs at d rising found))

pub file_of-found : (index : ℕ) (backs : List Back) (at : ℕ) (d : Back) → IsRising backs → IsFound index backs at → file_of index backs ≡ Some (get_or backs at d).file
file_of-found index backs at d rising found =
    subst (λ (l : List Back). file_of index l ≡ Some (get_or backs at d).file) (parts backs at d found.within)
    (file_of-there index (take at backs) (get_or backs at d) (drop (suc at) backs) (sits index backs at d rising found))

pub without_back-found : (index : ℕ) (backs : List Back) (at : ℕ) → IsRising backs → IsFound index backs at → without_back index backs ≡ remove backs at
without_back-found index backs at rising found =
    subst (λ (l : List Back). without_back index l ≡ remove backs at) (parts backs at no_back found.within)
    (without_back-there index (take at backs) (get_or backs at no_back) (drop (suc at) backs) (sits index backs at no_back rising found))

-- ---- one more

with_back-between : (b : Back) (front back : List Back) → Lower b.index front → Greater b.index back → with_back b (front ++ back) ≡ front ++ b ∷ back
with_back-between b [] [] lower greater = refl
with_back-between b [] (y ∷ ys) lower greater =
    let above : b.index < y.index = greater.0 in
    rw (le-ltb y.index b.index (omega arith)) refl
with_back-between b (x ∷ xs) back lower greater =
    rw (lt-ltb x.index b.index lower.0) (ap (λ (l : List Back). x ∷ l) (with_back-between b xs back lower.1 greater))

pub with_back-gap : (b : Back) (backs : List Back) (at : ℕ) → IsGap b.index backs at → with_back b backs ≡ insert backs at b
with_back-gap b backs at gap =
    subst (λ (l : List Back). with_back b l ≡ insert backs at b) (take-append-drop at backs) (with_back-between b (take at backs) (drop at backs) gap.lower gap.greater)

pub with_back-above : (b : Back) (backs : List Back) → list_all (is_below b.index) backs ≡ true → with_back b backs ≡ backs ++ b ∷ []
with_back-above b backs above =
    subst (λ (l : List Back). with_back b l ≡ backs ++ b ∷ []) (append-nil backs) (with_back-between b backs [] (lower_from b.index backs above) tt)

pub has_index-above : (index : ℕ) (backs : List Back) → list_all (is_below index) backs ≡ true → has_index index backs ≡ false
has_index-above index backs above = has_index-absent index backs (Absent-lower index backs (lower_from index backs above))

-- ---- what edits keep

pub all-with_back : (P : Back → Type 0) (b : Back) (backs : List Back) → AllByRecursion P backs → P b → AllByRecursion P (with_back b backs)
all-with_back P b [] h one = (one, tt)
all-with_back P b (x ∷ xs) h one =
    elim (ltb x.index b.index) as (λ t. AllByRecursion P (cond t (x ∷ with_back b xs) (b ∷ x ∷ xs))) [
      | true ↦ (h.0, all-with_back P b xs h.1 one)
      | false ↦ (one, h)
    ]

all-filter : (P : Back → Type 0) (test : Back → Bool) (backs : List Back) → AllByRecursion P backs → AllByRecursion P (filter test backs)
all-filter P test [] h = tt
all-filter P test (x ∷ xs) h =
    elim (test x) as (λ t. AllByRecursion P (cond t (x ∷ filter test xs) (filter test xs))) [
      | true ↦ (h.0, all-filter P test xs h.1)
      | false ↦ all-filter P test xs h.1
    ]

pub all-without_back : (P : Back → Type 0) (index : ℕ) (backs : List Back) → AllByRecursion P backs → AllByRecursion P (without_back index backs)
all-without_back P index backs h = all-filter P (λ b. not (is_at index b)) backs h

pub IsRising-with_back : (b : Back) (backs : List Back) → IsRising backs → has_index b.index backs ≡ false → IsRising (with_back b backs)
IsRising-with_back b [] rising free = rising_cons b [] tt rising_none
IsRising-with_back b (x ∷ xs) rising free =
    let others = rising_tail x xs rising in
    let behind = rising_head x xs rising in
    let apart = or_parts (eqb x.index b.index) (has_index b.index xs) free in
    let differ : x.index ≡ b.index → ⊥ = eqb-false x.index b.index apart.0 in
    elim (ltb x.index b.index) as (λ t. ltb x.index b.index ≡ t → IsRising (cond t (x ∷ with_back b xs) (b ∷ x ∷ xs))) [
      | true ↦ λ is.
          rising_cons x (with_back b xs) (all-with_back (λ y. x.index < y.index) b xs behind (ltb-true x.index b.index is))
          (IsRising-with_back b xs others apart.1)
      | false ↦ λ is.
          let high : b.index ≤ x.index = ltb-false x.index b.index is in
          let above : b.index < x.index = omega (arith, differ) in
          rising_cons b (x ∷ xs) ((above, Greater-lower b.index x.index xs above behind)) rising
    ] refl

pub IsRising-without_back : (index : ℕ) (backs : List Back) → IsRising backs → IsRising (without_back index backs)
IsRising-without_back index [] rising = rising_none
IsRising-without_back index (x ∷ xs) rising =
    elim (not (is_at index x)) as (λ t. IsRising (cond t (x ∷ without_back index xs) (without_back index xs))) [
      | true ↦ rising_cons x (without_back index xs) (all-without_back (λ y. x.index < y.index) index xs (rising_head x xs rising)) (IsRising-without_back index xs (rising_tail x xs rising))
      | false ↦ IsRising-without_back index xs (rising_tail x xs rising)
    ]

-- ---- as the calls meet them: what a slice shows is what the vector has, and callers see

pub found_in : (index at : ℕ) (shown backs : List Back) → shown ≡ backs → IsFound index shown at → IsFound index backs at
found_in index at shown backs e found = subst (λ (l : List Back). IsFound index l at) e found

pub gap_in : (index at : ℕ) (shown backs : List Back) → shown ≡ backs → IsGap index shown at → IsGap index backs at
gap_in index at shown backs e gap = subst (λ (l : List Back). IsGap index l at) e gap

pub not_both : (index : ℕ) (backs now : List Back) → backs ≡ now → has_index index backs ≡ false → has_index index now ≡ true → ⊥
not_both index backs now e free there =
    let free_now : has_index index now ≡ false = subst (λ (l : List Back). has_index index l ≡ false) e free in
    absurd cc
