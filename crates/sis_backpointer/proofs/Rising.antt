-- Lists with rising indexes, one by one.
use Rattle.std.proofs.Common.{◌≡◌, ℕ, zero, suc, ◌-◌, ◌<◌, ◌≤◌, Bool, true, false, ltb, ◌&&◌, List, [], ◌∷◌, ◌++◌, map, length, get_or, take, drop, slice_get, Some, refl, sym, subst, ◌∙◌, arith}
use Rattle.std.specs.List.{AllByRecursion, list_all}
use Rattle.std.specs.List.Sorted.{IsStrictlySortedBy}
use Rattle.std.specs.Ordering.{nat_cmp}
use Rattle.std.specs.declared.cmp.Ordering.TheVariants.{Less}
use Rattle.std.proofs.lemmas.Cmp.{ranked}
use Rattle.std.proofs.lemmas.Bool.{lt-ltb, ltb-true, and_right, and_parts}
use Rattle.std.proofs.lemmas.Bool.Decides.{nat_tests}
use Rattle.sis_backpointer.specs.declared.back.Back.{Back}
use Rattle.sis_backpointer.specs.Backs.{IsRising, index_of, is_below}

-- each index is below this one, or above it, or another
abbrev pub Lower : ℕ → List Back → Type 0
Lower index backs = AllByRecursion (λ b. b.index < index) backs

abbrev pub Greater : ℕ → List Back → Type 0
Greater index backs = AllByRecursion (λ b. index < b.index) backs

abbrev pub Absent : ℕ → List Back → Type 0
Absent index backs = AllByRecursion (λ b. b.index ≡ index → ⊥) backs

pub Absent-lower : (index : ℕ) (backs : List Back) → Lower index backs → Absent index backs
Absent-lower index [] h = tt
Absent-lower index (x ∷ xs) h =
    let lower : x.index < index = h.0 in
    (λ e. omega (arith, e), Absent-lower index xs h.1)

pub Absent-greater : (index : ℕ) (backs : List Back) → Greater index backs → Absent index backs
Absent-greater index [] h = tt
Absent-greater index (x ∷ xs) h =
    let greater : index < x.index = h.0 in
    (λ e. omega (arith, e), Absent-greater index xs h.1)

pub all-append : (P : Back → Type 0) (front back : List Back) → AllByRecursion P front → AllByRecursion P back → AllByRecursion P (front ++ back)
all-append P [] back f b = b
all-append P (x ∷ xs) back f b = (f.0, all-append P xs back f.1 b)

pub all-middle : (P : Back → Type 0) (front : List Back) (x : Back) (back : List Back) → AllByRecursion P (front ++ x ∷ back) → P x
all-middle P [] x back h = h.0
all-middle P (y ∷ ys) x back h = all-middle P ys x back h.1

pub Greater-lower : (low index : ℕ) (backs : List Back) → low < index → Greater index backs → Greater low backs
Greater-lower low index [] lt h = tt
Greater-lower low index (x ∷ xs) lt h =
    let greater : index < x.index = h.0 in
    (omega (arith, lt), Greater-lower low index xs lt h.1)

-- ---- the first one, and the others

less : (a b : ℕ) → a < b → nat_cmp a b ≡ Less
less a b lt = grind (arith, nat_tests)

below : (a b : ℕ) → nat_cmp a b ≡ Less → a < b
below a b h = ranked a b Less (sym h)

greater_from : (index : ℕ) (backs : List Back) → AllByRecursion (λ y. nat_cmp index y ≡ Less) (map index_of backs) → Greater index backs
greater_from index [] h = tt
greater_from index (x ∷ xs) h = (below index x.index h.0, greater_from index xs h.1)

greater_to : (index : ℕ) (backs : List Back) → Greater index backs → AllByRecursion (λ y. nat_cmp index y ≡ Less) (map index_of backs)
greater_to index [] h = tt
greater_to index (x ∷ xs) h = (less index x.index h.0, greater_to index xs h.1)

pub rising_none : IsRising []
unfolding IsStrictlySortedBy
rising_none = tt

pub rising_head : (x : Back) (xs : List Back) → IsRising (x ∷ xs) → Greater x.index xs
unfolding IsStrictlySortedBy
rising_head x xs h = greater_from x.index xs h.0

pub rising_tail : (x : Back) (xs : List Back) → IsRising (x ∷ xs) → IsRising xs
unfolding IsStrictlySortedBy
rising_tail x xs h = h.1

pub rising_cons : (x : Back) (xs : List Back) → Greater x.index xs → IsRising xs → IsRising (x ∷ xs)
unfolding IsStrictlySortedBy
rising_cons x xs greater rising = (greater_to x.index xs greater, rising)

-- the parts of a rising list, around one of it
pub record Around (index : ℕ) (front back : List Back) : Type 0 where
  pub lower : Lower index front
  pub greater : Greater index back

pub around : (front : List Back) (x : Back) (back : List Back) → IsRising (front ++ x ∷ back) → Around x.index front back
around [] x back h = record { lower = tt; greater = rising_head x back h }
around (y ∷ ys) x back h =
    let others = around ys x back (rising_tail y (ys ++ x ∷ back) h) in
    let first : y.index < x.index = all-middle (λ b. y.index < b.index) ys x back (rising_head y (ys ++ x ∷ back) h) in
    record { lower = (first, others.lower); greater = others.greater }

-- ---- by places

all_at : (P : Back → Type 0) (backs : List Back) (j : ℕ) (d : Back) → AllByRecursion P backs → j < length backs → P (get_or backs j d)
all_at P [] j d h lt = absurd (omega (arith, lt))
all_at P (x ∷ xs) zero d h lt = h.0
all_at P (x ∷ xs) (suc j) d h lt = all_at P xs j d h.1 (omega (arith, lt))

pub at_le : (backs : List Back) → IsRising backs → (i j : ℕ) (d : Back) → i ≤ j → j < length backs → (get_or backs i d).index ≤ (get_or backs j d).index
at_le [] h i j d le lt = absurd (omega (arith, lt))
at_le (x ∷ xs) h zero zero d le lt = omega arith
at_le (x ∷ xs) h zero (suc j) d le lt =
    let greater : x.index < (get_or xs j d).index = all_at (λ b. x.index < b.index) xs j d (rising_head x xs h) (omega (arith, lt)) in
    omega arith
at_le (x ∷ xs) h (suc i) zero d le lt = absurd (omega (arith, le))
at_le (x ∷ xs) h (suc i) (suc j) d le lt = at_le xs (rising_tail x xs h) i j d (omega (arith, le)) (omega (arith, lt))

pub take_all : (P : Back → Type 0) (backs : List Back) (at : ℕ) → at ≤ length backs → ((j : ℕ) (d : Back) → j < at → P (get_or backs j d)) → AllByRecursion P (take at backs)
take_all P [] zero le h = tt
take_all P [] (suc at) le h = absurd (omega (arith, le))
take_all P (x ∷ xs) zero le h = tt
take_all P (x ∷ xs) (suc at) le h = (h zero x (omega arith), take_all P xs at (omega (arith, le)) (λ j d lt. h (suc j) d (omega (arith, lt))))

pub drop_all : (P : Back → Type 0) (backs : List Back) (at : ℕ) → ((j : ℕ) (d : Back) → at ≤ j → j < length backs → P (get_or backs j d)) → AllByRecursion P (drop at backs)
drop_all P [] zero h = tt
drop_all P [] (suc at) h = tt
drop_all P (x ∷ xs) zero h = (h zero x (omega arith) (omega arith), drop_all P xs zero (λ j d le lt. h (suc j) d (omega arith) (omega (arith, lt))))
drop_all P (x ∷ xs) (suc at) h = drop_all P xs at (λ j d le lt. h (suc j) d (omega (arith, le)) (omega (arith, lt)))

-- ---- the last one

-- a lower one in front doesn't count
pub below_first : (index : ℕ) (b c : Back) (cs : List Back) → b.index < c.index → list_all (is_below index) (b ∷ c ∷ cs) ≡ list_all (is_below index) (c ∷ cs)
below_first index b c cs lt =
    elim (ltb c.index index) as (λ t. ltb c.index index ≡ t → (ltb b.index index && (t && list_all (is_below index) cs)) ≡ (t && list_all (is_below index) cs)) [
      | true ↦ λ is.
          let high : c.index < index = ltb-true c.index index is in
          rw (lt-ltb b.index index (omega (arith, lt, high))) refl
      | false ↦ λ is. and_right (ltb b.index index) false refl
    ] refl

and_true : (t : Bool) → t ≡ (t && true)
and_true true = refl
and_true false = refl

pub last_below : (backs : List Back) (last : Back) (index at : ℕ) → IsRising backs → suc at ≡ length backs → slice_get backs at ≡ Some last → ltb last.index index ≡ list_all (is_below index) backs
last_below [] last index at h end is = absurd (omega (arith, end))
last_below (b ∷ []) last index zero h end is =
    let same : b ≡ last = cc in
    subst (λ (x : Back). ltb x.index index ≡ (ltb b.index index && true)) same (and_true (ltb b.index index))
last_below (b ∷ []) last index (suc at) h end is = absurd (omega (arith, end))
last_below (b ∷ c ∷ cs) last index zero h end is = absurd (omega (arith, end))
last_below (b ∷ c ∷ cs) last index (suc at) h end is =
    last_below (c ∷ cs) last index at (rising_tail b (c ∷ cs) h) (omega (arith, end)) is ∙ sym (below_first index b c cs (rising_head b (c ∷ cs) h).0)

-- the same, as a slice's last one is told
pub last_above : (backs : List Back) (last : Back) (index : ℕ) → IsRising backs → Some last ≡ slice_get backs (length backs - 1) → ltb last.index index ≡ list_all (is_below index) backs
last_above [] last index h is = absurd cc
last_above (b ∷ bs) last index h is =
    let end : length (b ∷ bs) - 1 ≡ length bs = omega arith in
    last_below (b ∷ bs) last index (length bs) h (omega arith) (sym (subst (λ (n : ℕ). Some last ≡ slice_get (b ∷ bs) n) end is))

pub lower_from : (index : ℕ) (backs : List Back) → list_all (is_below index) backs ≡ true → Lower index backs
lower_from index [] h = tt
lower_from index (x ∷ xs) h =
    let parts = and_parts (ltb x.index index) (list_all (is_below index) xs) h in
    (ltb-true x.index index parts.0, lower_from index xs parts.1)
