-- What a cut says of each entry.
use Rattle.std.proofs.Common.{◌≡◌, ℕ, zero, suc, ◌<◌, ◌≤◌, Bool, true, false, List, [], ◌∷◌, length, take, drop, refl, sym, subst, arith}
use Rattle.std.specs.Prelude.{nat_le, Some, slice_get}
use Rattle.std.specs.List.{AllByRecursion}
use Rattle.std.proofs.lemmas.Bool.Decides.{nat_tests}
use Rattle.std.proofs.Math.Seq.{take-append-add}
use Rattle.sis_model.specs.declared.history.Entry.{Entry}
use Rattle.sis_history.specs.Durable.{is_sure}
use Rattle.sis_history.specs.Stops.{decided_by, IsCut, NoneSure, AreInOrder, AreWithin}
use Rattle.sis_history.proofs.CountLemmas.{decided_bound}

pub cut_bound : (k p : ℕ) (es : List Entry) → IsCut k p es → p ≤ length es
cut_bound k p es cut = omega (arith, cut.decided, decided_bound k es)

sure_before : (k p : ℕ) (es : List Entry) (i : ℕ) (e : Entry) → NoneSure k (drop p es)
    → slice_get es i ≡ Some e → is_sure k e ≡ true → i < p
sure_before k p [] i e none is sure = absurd cc
sure_before k zero (d ∷ es) zero e none is sure =
    absurd (let same : d ≡ e = cc in let unsure : is_sure k d ≡ false = none.0 in cc)
sure_before k zero (d ∷ es) (suc i) e none is sure =
    absurd (omega (arith, sure_before k 0 es i e none.1 is sure))
sure_before k (suc p) (d ∷ es) zero e none is sure = omega arith
sure_before k (suc p) (d ∷ es) (suc i) e none is sure =
    omega (arith, sure_before k p es i e none is sure)

-- each entry that is sure lies before the cut
pub cut_has_sure : (k p : ℕ) (es : List Entry) (i : ℕ) (e : Entry) → IsCut k p es
    → slice_get es i ≡ Some e → is_sure k e ≡ true → i < p
cut_has_sure k p es i e cut is sure = sure_before k p es i e cut.none_lost is sure

-- a list up to which every entry that is sure lies has none behind it
pub none_sure_behind : (k p : ℕ) (es : List Entry)
    → ((i : ℕ) (e : Entry) → slice_get es i ≡ Some e → is_sure k e ≡ true → i < p)
    → NoneSure k (drop p es)
none_sure_behind k p [] before = none_of_none p
  where
    none_of_none : (n : ℕ) → NoneSure k (drop n [])
    none_of_none zero = tt
    none_of_none (suc n) = tt
none_sure_behind k zero (d ∷ es) before =
    let rest =
    none_sure_behind k 0 es (λ i e is sure. absurd (omega (arith, before (suc i) e is sure))) in
    (here (is_sure k d) refl, rest)
  where
    here : (b : Bool) → is_sure k d ≡ b → is_sure k d ≡ false
    here true sure = absurd (omega (arith, before 0 d refl sure))
    here false unsure = unsure
none_sure_behind k (suc p) (d ∷ es) before =
    none_sure_behind k p es (λ i e is sure. omega (arith, before (suc i) e is sure))

-- where one entry was not decided, no later one was
none_decided : (k n : ℕ) (es : List Entry) → k < n → AllByRecursion (λ e. n ≤ e.decided) es
    → decided_by k es ≡ 0
none_decided k n [] later all = refl
none_decided k n (e ∷ es) later all =
    let rest = none_decided k n es later all.1 in
    let here : nat_le e.decided k ≡ false =
    (let le : n ≤ e.decided = all.0 in grind (arith, nat_tests)) in
    rw here (omega arith)

-- the first entries are those that were decided
pub first_were_decided : (k : ℕ) (es : List Entry) → AreInOrder es
    → AreWithin k (take (decided_by k es) es)
first_were_decided k [] order = tt
first_were_decided k (e ∷ es) order =
    by_test (first_were_decided k es order.1) (nat_le e.decided k) refl
  where
    by_test : AreWithin k (take (decided_by k es) es) → (b : Bool) → nat_le e.decided k ≡ b
        → AreWithin k (take (decided_by k (e ∷ es)) (e ∷ es))
    by_test rest true is =
        let le : e.decided ≤ k = grind (arith, nat_tests) in
        let more = take-append-add (e ∷ []) es (decided_by k es) in
        rw is (subst (λ (ds : List Entry). AreWithin k ds) (sym more) (le, rest))
    by_test rest false is =
        rw (is, none_decided k e.decided es (grind (arith, nat_tests)) order.0) tt

all_take : (P : Entry → Type 0) (p n : ℕ) (es : List Entry) → p ≤ n → AllByRecursion P (take n es)
    → AllByRecursion P (take p es)
all_take P zero n es le all = tt
all_take P (suc p) zero es le all = absurd (omega arith)
all_take P (suc p) (suc n) [] le all = tt
all_take P (suc p) (suc n) (e ∷ es) le all = (all.0, all_take P p n es (omega arith) all.1)

-- each entry before the cut was decided
pub cut_was_decided : (k p : ℕ) (es : List Entry) → AreInOrder es → IsCut k p es
    → AreWithin k (take p es)
cut_was_decided k p es order cut =
    all_take (λ e. e.decided ≤ k) p (decided_by k es) es cut.decided (first_were_decided k es order)
