-- What some bytes are read as, and what is spelled.
use Rattle.std.proofs.Common.{◌≡◌, ℕ, zero, suc, ◌+◌, ◌-◌, ◌*◌, ◌/◌, ◌%◌, ◌<◌, ◌≤◌, true, false, cond, ltb, eqb, List, [], ◌∷◌, ◌++◌, length, take, drop, Option, Some, None, Ok, Err, refl, sym, ap, subst, ◌∙◌, append_assoc, length-append, arith}
use Rattle.std.specs.Prelude.{not}
use Rattle.std.specs.List.{AllByRecursion, All, list_all}
use Rattle.std.proofs.lemmas.List.{append-nil, take-append-drop, drop-drop, length-drop}
use Rattle.std.proofs.lemmas.List.Elements.{recursion_from_All}
use Rattle.std.proofs.lemmas.Bool.{lt-ltb, ltb-true, eq-eqb, eqb-true, eqb-false, not-false, not_from_true, and_parts}
use Rattle.byteorder.specs.Endian.{little_number, little_bytes}
use Rattle.byteorder.specs.Numbers.{little_number-reads_back, little_from-lt}
use Rattle.sis_reading.proofs.StepLemmas.{ok_is, guard_ok, guard_again}
use Rattle.sis_backpointer.specs.declared.back.Back.{Back}
use Rattle.sis_backpointer.specs.declared.fault.BackFault.TheVariants as faults
use Rattle.sis_backpointer.specs.Backs.{IsRising, IsBack, is_below, le8, back_text, backs_text, back_at, entries_at, first_fall, unless_fall, in_order, backs_at}
use Rattle.sis_backpointer.proofs.Bytes.{IsBytes, IsBytes-drop, bytes_again}
use Rattle.sis_backpointer.proofs.Rising.{Greater-lower, rising_none, rising_head, rising_tail, rising_cons, below_first}

-- ---- the first fall

pub no_fall : (at : ℕ) (backs : List Back) → IsRising backs → first_fall at backs ≡ None
no_fall at [] h = refl
no_fall at (b ∷ []) h = refl
no_fall at (b ∷ c ∷ cs) h =
    rw (lt-ltb b.index c.index (rising_head b (c ∷ cs) h).0) (no_fall (at + 16) (c ∷ cs) (rising_tail b (c ∷ cs) h))

pub falls : (at : ℕ) (front : List Back) (b : Back) (back : List Back) → IsRising front → list_all (is_below b.index) front ≡ false
    → first_fall at (front ++ b ∷ back) ≡ Some (at + 16 * length front)
falls at [] b back h high = absurd cc
falls at (x ∷ []) b back h high =
    elim (ltb x.index b.index) as (λ t. ltb x.index b.index ≡ t → cond t (first_fall (at + 16) (b ∷ back)) (Some (at + 16)) ≡ Some (at + 16 * 1)) [
      | true ↦ λ is. absurd (not_below x b is high)
      | false ↦ λ is. ap (λ (n : ℕ). Some n) (omega arith)
    ] refl
  where
    not_below : (x b : Back) → ltb x.index b.index ≡ true → list_all (is_below b.index) (x ∷ []) ≡ false → ⊥
    not_below x b is high = let no : true ≡ false = rw is at high in absurd cc
falls at (x ∷ y ∷ ys) b back h high =
    let rises : x.index < y.index = (rising_head x (y ∷ ys) h).0 in
    let count : at + 16 + 16 * length (y ∷ ys) ≡ at + 16 * length (x ∷ y ∷ ys) = omega arith in
    rw (lt-ltb x.index y.index rises)
    (falls (at + 16) (y ∷ ys) b back (rising_tail x (y ∷ ys) h) (sym (below_first b.index x y ys rises) ∙ high) ∙ ap (λ (n : ℕ). Some n) count)

pub rising_from : (at : ℕ) (backs : List Back) → first_fall at backs ≡ None → IsRising backs
rising_from at [] h = rising_none
rising_from at (b ∷ []) h = rising_cons b [] tt rising_none
rising_from at (b ∷ c ∷ cs) h =
    elim (ltb b.index c.index) as (λ t. ltb b.index c.index ≡ t → cond t (first_fall (at + 16) (c ∷ cs)) (Some (at + 16)) ≡ None → IsRising (b ∷ c ∷ cs)) [
      | true ↦ λ is none.
          let others = rising_from (at + 16) (c ∷ cs) none in
          let rises : b.index < c.index = ltb-true b.index c.index is in
          rising_cons b (c ∷ cs) ((rises, Greater-lower b.index c.index cs rises (rising_head c cs others))) others
      | false ↦ λ is none. absurd cc
    ] refl h

-- ---- the loop: what was read, and what is left

pub record Reads (bytes rest : List ℕ) (backs : List Back) : Type 0 where
  pub rising : IsRising backs
  pub whole : backs ++ entries_at (length rest / 16) rest ≡ entries_at (length bytes / 16) bytes
  pub even : length rest % 16 ≡ 0
  pub count : 16 * length backs + length rest ≡ length bytes

pub reads_none : (bytes : List ℕ) (backs : List Back) → backs ≡ [] → length bytes % 16 ≡ 0 → Reads bytes bytes backs
reads_none bytes backs none even =
    subst (Reads bytes bytes) (sym none) (record { rising = rising_none; whole = refl; even = even; count = omega arith })

-- the entries that begin with one more
one_more : (rest : List ℕ) → 16 ≤ length rest → entries_at (length rest / 16) rest ≡ back_at rest ∷ entries_at (length (drop 16 rest) / 16) (drop 16 rest)
one_more rest long =
    let count : length rest / 16 ≡ suc (length (drop 16 rest) / 16) = omega (arith, length-drop 16 rest) in
    ap (λ (n : ℕ). entries_at n rest) count

all_back : (P : Back → Type 0) (front : List Back) (b : Back) → AllByRecursion P front → P b → AllByRecursion P (front ++ b ∷ [])
all_back P [] b h one = (one, tt)
all_back P (x ∷ xs) b h one = (h.0, all_back P xs b h.1 one)

rising_push : (front : List Back) (b : Back) → IsRising front → list_all (is_below b.index) front ≡ true → IsRising (front ++ b ∷ [])
rising_push [] b h above = rising_cons b [] tt rising_none
rising_push (x ∷ xs) b h above =
    let parts = and_parts (ltb x.index b.index) (list_all (is_below b.index) xs) above in
    rising_cons x (xs ++ b ∷ []) (all_back (λ y. x.index < y.index) xs b (rising_head x xs h) (ltb-true x.index b.index parts.0)) (rising_push xs b (rising_tail x xs h) parts.1)

pub reads_one : (bytes rest after : List ℕ) (backs new : List Back) (b : Back) → Reads bytes rest backs → 16 ≤ length rest → b ≡ back_at rest → after ≡ drop 16 rest
    → list_all (is_below b.index) backs ≡ true → new ≡ backs ++ b ∷ [] → Reads bytes after new
reads_one bytes rest after backs new b reads long is end above pushed =
    let even = reads.even in
    let count = reads.count in
    let entries = entries_at (length (drop 16 rest) / 16) (drop 16 rest) in
    let step : (backs ++ b ∷ []) ++ entries ≡ entries_at (length bytes / 16) bytes =
    append_assoc backs (b ∷ []) entries ∙ ap (λ (x : Back). backs ++ x ∷ entries) is ∙ ap (λ (l : List Back). backs ++ l) (sym (one_more rest long)) ∙ reads.whole in
    let more : Reads bytes (drop 16 rest) (backs ++ b ∷ []) = record {
      rising = rising_push backs b reads.rising above;
      whole = step;
      even = omega (arith, length-drop 16 rest);
      count = omega (arith, length-drop 16 rest, length-append backs (b ∷ []));
    } in
    subst (λ (l : List Back). Reads bytes after l) (sym pushed) (subst (λ (l : List ℕ). Reads bytes l (backs ++ b ∷ [])) (sym end) more)

-- whole entries are left, where some bytes are
pub some_left : (bytes rest : List ℕ) (backs : List Back) → Reads bytes rest backs → eqb (length rest) 0 ≡ false → 16 ≤ length rest
some_left bytes rest backs reads some =
    let even = reads.even in
    let differ : length rest ≡ 0 → ⊥ = eqb-false (length rest) 0 some in
    omega (arith, even, differ)

whole_is : (n : ℕ) → n % 16 ≡ 0 → not (eqb (n % 16) 0) ≡ false
whole_is n even = not_from_true (eqb (n % 16) 0) (eq-eqb (n % 16) 0 even)

even_bytes : (bytes rest : List ℕ) (backs : List Back) → Reads bytes rest backs → length bytes % 16 ≡ 0
even_bytes bytes rest backs reads =
    let even = reads.even in
    let count = reads.count in
    omega (arith, even, count)

pub reads_all : (bytes rest : List ℕ) (backs : List Back) → Reads bytes rest backs → length rest ≡ 0 → backs_at bytes ≡ Ok backs
unfolding backs_at
reads_all bytes rest backs reads none =
    let left : length rest / 16 ≡ 0 = omega (arith, none) in
    let all : entries_at (length bytes / 16) bytes ≡ backs = sym reads.whole ∙ ap (λ (n : ℕ). backs ++ entries_at n rest) left ∙ append-nil backs in
    guard_again (faults.Length (length bytes)) _ _ _ _ (whole_is (length bytes) (even_bytes bytes rest backs reads))
    (ap in_order all ∙ ap (unless_fall backs) (no_fall 0 backs reads.rising))

pub reads_fall : (bytes rest : List ℕ) (backs : List Back) (b : Back) (at : ℕ) → Reads bytes rest backs → 16 ≤ length rest → b ≡ back_at rest → list_all (is_below b.index) backs ≡ false
    → at ≡ length bytes - length rest → backs_at bytes ≡ Err (faults.Order at)
unfolding backs_at
reads_fall bytes rest backs b at reads long is above place =
    let count = reads.count in
    let entries = entries_at (length (drop 16 rest) / 16) (drop 16 rest) in
    let all : entries_at (length bytes / 16) bytes ≡ backs ++ b ∷ entries =
    sym reads.whole ∙ ap (λ (l : List Back). backs ++ l) (one_more rest long) ∙ ap (λ (x : Back). backs ++ x ∷ entries) (sym is) in
    let here : 0 + 16 * length backs ≡ at = omega (arith, count, place) in
    guard_again (faults.Length (length bytes)) _ _ _ _ (whole_is (length bytes) (even_bytes bytes rest backs reads))
    (ap in_order all ∙ ap (unless_fall (backs ++ b ∷ entries)) (falls 0 backs b entries reads.rising above ∙ ap (λ (n : ℕ). Some n) here))

-- ---- spellings

length_back_text : (b : Back) → length (back_text b) ≡ 16
unfolding back_text le8
length_back_text b = refl

pub length-backs_text : (backs : List Back) → length (backs_text backs) ≡ 16 * length backs
length-backs_text [] = refl
length-backs_text (b ∷ bs) = omega (arith, length_back_text b, length-backs_text bs, length-append (back_text b) (backs_text bs))

back_again : (b : Back) (rest : List ℕ) → IsBack b → back_at (back_text b ++ rest) ≡ b
unfolding back_text le8
back_again b rest is =
    let first : little_number 8 (le8 b.index ++ (le8 b.file ++ rest)) ≡ b.index = little_number-reads_back 8 b.index (le8 b.file ++ rest) is.index in
    let second : little_number 8 (le8 b.file ++ rest) ≡ b.file = little_number-reads_back 8 b.file rest is.file in
    ap (λ (n : ℕ). record { index = n; file = little_number 8 (le8 b.file ++ rest) }) first
    ∙ ap (λ (n : ℕ). record { index = b.index; file = n }) second

behind_back : (b : Back) (rest : List ℕ) → drop 16 (back_text b ++ rest) ≡ rest
unfolding back_text le8
behind_back b rest = refl

entries_again : (backs : List Back) → AllByRecursion IsBack backs → entries_at (length backs) (backs_text backs) ≡ backs
entries_again [] h = refl
entries_again (b ∷ bs) h =
    ap (λ (x : Back). x ∷ entries_at (length bs) (drop 16 (back_text b ++ backs_text bs))) (back_again b (backs_text bs) h.0)
    ∙ ap (λ (l : List ℕ). b ∷ entries_at (length bs) l) (behind_back b (backs_text bs))
    ∙ ap (λ (l : List Back). b ∷ l) (entries_again bs h.1)

-- what is spelled so is read
pub spelled_is_read : (backs : List Back) → IsRising backs → AllByRecursion IsBack backs → backs_at (backs_text backs) ≡ Ok backs
unfolding backs_at
spelled_is_read backs rising are =
    let text = backs_text backs in
    let long = length-backs_text backs in
    let count : length text / 16 ≡ length backs = omega (arith, long) in
    guard_again (faults.Length (length text)) _ _ _ _ (whole_is (length text) (omega (arith, long)))
    (ap in_order (ap (λ (n : ℕ). entries_at n text) count ∙ entries_again backs are) ∙ ap (unless_fall backs) (no_fall 0 backs rising))

-- no two rising lists have one spelling
pub one_spelling : (a b : List Back) → IsRising a → AllByRecursion IsBack a → IsRising b → AllByRecursion IsBack b → backs_text a ≡ backs_text b → a ≡ b
one_spelling a b a_rises a_fits b_rises b_fits same =
    ok_is a b (sym (spelled_is_read a a_rises a_fits) ∙ ap backs_at same ∙ spelled_is_read b b_rises b_fits)

-- ---- what is read

IsBytes-All : (bytes : List ℕ) → AllByRecursion (λ b. b < 256) bytes → IsBytes bytes
IsBytes-All [] h i = omega arith
IsBytes-All (b ∷ bs) h zero = h.0
IsBytes-All (b ∷ bs) h (suc i) = IsBytes-All bs h.1 i

text_of_back : (bytes : List ℕ) → IsBytes bytes → 16 ≤ length bytes → back_text (back_at bytes) ++ drop 16 bytes ≡ bytes
unfolding back_text le8
text_of_back bytes fits long =
    let first : little_bytes 8 (little_number 8 bytes) ≡ take 8 bytes = bytes_again 8 bytes fits (omega (arith, long)) in
    let second : little_bytes 8 (little_number 8 (drop 8 bytes)) ≡ take 8 (drop 8 bytes) = bytes_again 8 (drop 8 bytes) (IsBytes-drop 8 bytes fits) (omega (arith, long, length-drop 8 bytes)) in
    let behind : take 8 (drop 8 bytes) ++ drop 16 bytes ≡ drop 8 bytes = ap (λ (l : List ℕ). take 8 (drop 8 bytes) ++ l) (sym (drop-drop 8 8 bytes)) ∙ take-append-drop 8 (drop 8 bytes) in
    append_assoc (little_bytes 8 (little_number 8 bytes)) (little_bytes 8 (little_number 8 (drop 8 bytes))) (drop 16 bytes)
    ∙ ap (λ (l : List ℕ). l ++ (little_bytes 8 (little_number 8 (drop 8 bytes)) ++ drop 16 bytes)) first
    ∙ ap (λ (l : List ℕ). take 8 bytes ++ (l ++ drop 16 bytes)) second
    ∙ ap (λ (l : List ℕ). take 8 bytes ++ l) behind
    ∙ take-append-drop 8 bytes

back_fits : (bytes : List ℕ) → IsBytes bytes → IsBack (back_at bytes)
back_fits bytes fits = record { index = little_from-lt 0 8 bytes fits; file = little_from-lt 0 8 (drop 8 bytes) (IsBytes-drop 8 bytes fits) }

entries_fit : (n : ℕ) (bytes : List ℕ) → IsBytes bytes → AllByRecursion IsBack (entries_at n bytes)
entries_fit zero bytes fits = tt
entries_fit (suc n) bytes fits = (back_fits bytes fits, entries_fit n (drop 16 bytes) (IsBytes-drop 16 bytes fits))

no_bytes : (bytes : List ℕ) → length bytes ≡ 0 → bytes ≡ []
no_bytes [] none = refl
no_bytes (b ∷ bs) none = absurd (omega (arith, none))

entries_text : (n : ℕ) (bytes : List ℕ) → IsBytes bytes → length bytes ≡ 16 * n → backs_text (entries_at n bytes) ≡ bytes
entries_text zero bytes fits long = sym (no_bytes bytes long)
entries_text (suc n) bytes fits long =
    ap (λ (l : List ℕ). back_text (back_at bytes) ++ l) (entries_text n (drop 16 bytes) (IsBytes-drop 16 bytes fits) (omega (arith, long, length-drop 16 bytes)))
    ∙ text_of_back bytes fits (omega (arith, long))

in_order_ok : (backs read : List Back) (o : Option ℕ) → unless_fall backs o ≡ Ok read → (o ≡ None) × (backs ≡ read)
in_order_ok backs read None e = (refl, ok_is backs read e)
in_order_ok backs read (Some at) e = absurd cc

-- what is read rises, and the bytes are its spelling
pub read_is_spelled : (bytes : List ℕ) (backs : List Back) → All (λ b. b < 256) bytes → backs_at bytes ≡ Ok backs
    → IsRising backs × AllByRecursion IsBack backs × (bytes ≡ backs_text backs)
unfolding backs_at
read_is_spelled bytes backs small e =
    let fits = IsBytes-All bytes (recursion_from_All (λ b. b < 256) bytes small) in
    let g = guard_ok (faults.Length (length bytes)) (not (eqb (length bytes % 16) 0)) (tt {0}) (λ a. in_order (entries_at (length bytes / 16) bytes)) backs e in
    let even : length bytes % 16 ≡ 0 = eqb-true (length bytes % 16) 0 (not-false (eqb (length bytes % 16) 0) g.0) in
    let entries = entries_at (length bytes / 16) bytes in
    let o = in_order_ok entries backs (first_fall 0 entries) g.1 in (
      subst IsRising o.1 (rising_from 0 entries o.0),
      subst (AllByRecursion IsBack) o.1 (entries_fit (length bytes / 16) bytes fits),
      sym (ap backs_text (sym o.1) ∙ entries_text (length bytes / 16) bytes fits (omega (arith, even))),
    )
