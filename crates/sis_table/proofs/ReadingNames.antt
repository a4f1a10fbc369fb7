-- Names that are read are names, and each name is read again.
use Rattle.std.proofs.Common.{◌≡◌, ℕ, zero, suc, ◌+◌, ◌*◌, ◌^◌, ◌<◌, ◌≤◌, Bool, true, false, not, cond, ltb, eqb, ◌||◌, List, [], ◌∷◌, ◌++◌, length, drop, Option, Some, None, is_some, Ok, refl, sym, ap, subst, ◌∙◌, arith}
use Rattle.std.specs.List.{flat_map, AllByRecursion, list_any, position, position_or_len}
use Rattle.std.specs.Option.{ok_or}
use Rattle.std.proofs.lemmas.Bool.{or_parts, or_from, le-ltb, ltb-false}
use Rattle.std.proofs.lemmas.Bool.Decides.{nat_tests}
use Rattle.std.proofs.lemmas.List.{take-append-drop, drop-drop, drop_at, length-append, length-drop}
use Rattle.byteorder.specs.Endian.{little_bytes, little_number}
use Rattle.byteorder.specs.Numbers.{little_number-reads_back}
use Rattle.sis_disk.specs.declared.layout.TableKind.TheVariants as kinds
use Rattle.sis_name.specs.declared.NameFault.{NameFault}
use Rattle.sis_name.specs.Name.{IsName, name_fault, unit_fault}
use Rattle.sis_name.specs.Units.{is_barred}
use Rattle.sis_table.specs.declared.node.Node.{Node}
use Rattle.sis_table.specs.declared.kind.NodeKind.{NodeKind}
use Rattle.sis_table.specs.declared.kind.NodeKind.TheVariants.{Plain}
use Rattle.sis_table.specs.Kinds.{is_fit, kind_byte, kind_of}
use Rattle.sis_table.specs.Volume.{has_name}
use Rattle.sis_table.specs.Spelling.{le2, name_text}
use Rattle.sis_table.specs.Reading.{units_of, units_at, is_bad_name, kind_at, named_at, here}
use Rattle.sis_table.proofs.Lengths.{length_units}
use Rattle.sis_table.proofs.ReadingSteps.{IsBytes, IsBytes-drop, Takes, Takes-then, bytes_again, number_step, number_back, one_byte}
use Rattle.sis_reading.specs.Steps.{◌>>=◌}
use Rattle.sis_reading.proofs.StepLemmas.{bind_ok, ok_is, guard_ok, bind_again, guard_again}

-- ---- units

length-units_of : (n : ℕ) (bytes : List ℕ) → length (units_of n bytes) ≡ n
length-units_of zero bytes = refl
length-units_of (suc n) bytes = ap suc (length-units_of n (drop 2 bytes))

twice : (n : ℕ) → 2 + 2 * n ≡ 2 * suc n
twice n = omega arith

units_take : (n : ℕ) (bytes : List ℕ) → IsBytes bytes → 2 * n ≤ length bytes → Takes bytes (flat_map le2 (units_of n bytes)) (drop (2 * n) bytes)
unfolding le2
units_take zero bytes fits long = record { parts = refl; rest_fits = fits }
units_take (suc n) bytes fits long =
    let two : 2 ≤ length bytes = omega arith in
    let others = units_take n (drop 2 bytes) (IsBytes-drop 2 bytes fits) (omega (arith, length-drop 2 bytes)) in
    let unit : Takes bytes (little_bytes 2 (little_number 2 bytes)) (drop 2 bytes) = record { parts = sym (take-append-drop 2 bytes) ∙ ap (λ (x : List ℕ). x ++ drop 2 bytes) (sym (bytes_again 2 bytes fits two)); rest_fits = IsBytes-drop 2 bytes fits } in
    let past : drop (2 * n) (drop 2 bytes) ≡ drop (2 * suc n) bytes = drop-drop (2 * n) 2 bytes ∙ ap (λ (k : ℕ). drop k bytes) (twice n) in
    subst (λ (r : List ℕ). Takes bytes (little_bytes 2 (little_number 2 bytes) ++ flat_map le2 (units_of n (drop 2 bytes))) r) past
    (Takes-then bytes (little_bytes 2 (little_number 2 bytes)) (drop 2 bytes) (flat_map le2 (units_of n (drop 2 bytes))) (drop (2 * n) (drop 2 bytes)) unit others)

abbrev IsUnit : ℕ → Type 0
IsUnit u = u < 65536

units_again : (us : List ℕ) (rest : List ℕ) → AllByRecursion IsUnit us → units_of (length us) (flat_map le2 us ++ rest) ≡ us
unfolding le2
units_again [] rest fits = refl
units_again (u ∷ us) rest fits =
    let text = flat_map le2 us ++ rest in
    let first : little_number 2 (little_bytes 2 u ++ text) ≡ u = little_number-reads_back 2 u text fits.0 in
    let others : units_of (length us) text ≡ us = units_again us rest fits.1 in
    rw (first, others) refl

units_takes : (total : ℕ) (bytes : List ℕ) (y : List ℕ × List ℕ) → IsBytes bytes → units_at total bytes ≡ Ok y → Takes bytes (name_text y.0) y.1
unfolding units_at le2
units_takes total bytes y fits e =
    let a = number_step 2 total bytes _ y fits e in
    let g = guard_ok (here total bytes kinds.Short) _ _ _ y a.3 in
    let long : 2 * a.0.0 ≤ length a.0.1 = ltb-false (length a.0.1) (2 * a.0.0) g.0 in
    let units = units_take a.0.0 a.0.1 a.1.rest_fits long in
    let both = Takes-then bytes (little_bytes 2 a.0.0) a.0.1 (flat_map le2 (units_of a.0.0 a.0.1)) (drop (2 * a.0.0) a.0.1) a.1 units in
    let whole : Takes bytes (name_text (units_of a.0.0 a.0.1)) (drop (2 * a.0.0) a.0.1) =
    subst (λ (k : ℕ). Takes bytes (little_bytes 2 k ++ flat_map le2 (units_of a.0.0 a.0.1)) (drop (2 * a.0.0) a.0.1)) (sym (length-units_of a.0.0 a.0.1)) both in
    subst (λ (x : List ℕ × List ℕ). Takes bytes (name_text x.0) x.1) (ok_is (units_of a.0.0 a.0.1, drop (2 * a.0.0) a.0.1) y g.1) whole

name_again : (total : ℕ) (units rest : List ℕ) → AllByRecursion IsUnit units → length units < 65536 → units_at total (name_text units ++ rest) ≡ Ok (units, rest)
unfolding units_at le2
name_again total units rest fits few =
    let text = flat_map le2 units ++ rest in
    let len : length (flat_map le2 units) ≡ 2 * length units = length_units units in
    let long : ltb (length text) (2 * length units) ≡ false = le-ltb _ _ (omega (arith, len, length-append (flat_map le2 units) rest)) in
    let again : units_of (length units) text ≡ units = units_again units rest fits in
    let past : drop (2 * length units) text ≡ rest = drop_at (flat_map le2 units) rest (2 * length units) len in
    number_back 2 total (length units) text _ _ few
    (guard_again (here total (little_bytes 2 (length units) ++ text) kinds.Short) _ _ _ _ long
    (rw (again, past) refl))

-- ---- what a name's units are

or_none : (b : Bool) (f : NameFault) (y : Option NameFault) → cond b (Some f) y ≡ None → (b ≡ false) × (y ≡ None)
or_none true f y h = cc
or_none false f y h = (refl, h)

unit_none : (p q : Option ℕ) → unit_fault p q ≡ None → p ≡ None
unit_none None q h = refl
unit_none (Some at) q h = cc

past_end : (b : Bool) (i : ℕ) → cond b (Some i) None ≡ None → b ≡ false
past_end true i h = cc
past_end false i h = refl

barred_first : (b : Bool) (n m : ℕ) → suc m ≤ cond (not b) (1 + n) 0 → (b ≡ false) × (m ≤ n)
barred_first true n m h = absurd (omega arith)
barred_first false n m h = (refl, omega arith)

unbarred : (u : ℕ) → is_barred u ≡ false → IsUnit u
unbarred u h = grind (arith, nat_tests)

are_units : (us : List ℕ) → length us ≤ position_or_len is_barred us → AllByRecursion IsUnit us
are_units [] h = tt
are_units (u ∷ us) h =
    let b = barred_first (is_barred u) (position_or_len is_barred us) (length us) h in
    (unbarred u b.0, are_units us b.1)

pub name_units : (units : List ℕ) → IsName units → AllByRecursion IsUnit units × (length units ≤ 255)
name_units units h =
    let a = or_none (eqb (length units) 0) _ _ h in
    let b = or_none (ltb 255 (length units)) _ _ a.1 in
    let c = past_end (ltb (position_or_len is_barred units) (length units)) _ (unit_none (position is_barred units) _ b.1) in
    (are_units units (ltb-false _ _ c), ltb-false _ _ b.0)

-- ---- a name and a kind

none_from : {A : Type 0} (o : Option A) → is_some o ≡ false → o ≡ None
none_from None h = refl
none_from (Some x) h = cc

pub record MayBeNamed (front : List Node) (kind : NodeKind) (name : List ℕ) : Type 0 where
  pub is_name : IsName name
  pub fit : is_fit kind name ≡ true
  pub unique : list_any (has_name name) front ≡ false

is_so : (b : Bool) → not b ≡ false → b ≡ true
is_so true h = refl
is_so false h = cc

may_be : (front : List Node) (kind : NodeKind) (name : List ℕ) → is_bad_name front kind name ≡ false → MayBeNamed front kind name
may_be front kind name h =
    let a = or_parts (is_some (name_fault name) || not (is_fit kind name)) (list_any (has_name name) front) h in
    let b = or_parts (is_some (name_fault name)) (not (is_fit kind name)) a.0 in
    record { is_name = none_from (name_fault name) b.0; fit = is_so (is_fit kind name) b.1; unique = a.1 }

not_bad : (front : List Node) (kind : NodeKind) (name : List ℕ) → MayBeNamed front kind name → is_bad_name front kind name ≡ false
not_bad front kind name h = or_from _ _ (or_from _ _ (ap is_some h.is_name) (ap not h.fit)) h.unique

-- the byte of a kind that was read, and a kind that is read again
byte_of : (n : ℕ) (kind : NodeKind) → kind_of n ≡ Some kind → kind_byte kind ≡ n
byte_of zero Plain e = refl
byte_of (suc n) Plain e = cc

of_byte : (kind : NodeKind) → kind_of (kind_byte kind) ≡ Some kind
of_byte Plain = refl

small_byte : (kind : NodeKind) → kind_byte kind < 256 ^ 1
small_byte Plain = omega arith

kind_given : {A E : Type 0} (o : Option A) (e : E) (x : A) → ok_or o e ≡ Ok x → o ≡ Some x
kind_given None e x h = cc
kind_given (Some y) e x h = cc

kind_takes : (total : ℕ) (bytes : List ℕ) (y : NodeKind × List ℕ) → IsBytes bytes → kind_at total bytes ≡ Ok y → Takes bytes (kind_byte y.0 ∷ []) y.1
unfolding kind_at
kind_takes total bytes y fits e =
    let k = number_step 1 total bytes _ y fits e in
    let b = bind_ok (ok_or (kind_of k.0.0) (here total bytes kinds.Kind)) _ y k.3 in
    let byte : kind_byte b.0 ≡ k.0.0 = byte_of k.0.0 b.0 (kind_given (kind_of k.0.0) (here total bytes kinds.Kind) b.0 b.1) in
    subst (λ (x : NodeKind × List ℕ). Takes bytes (kind_byte x.0 ∷ []) x.1) (ok_is (b.0, k.0.1) y b.2)
    (subst (λ (x : List ℕ). Takes bytes x k.0.1) (one_byte k.0.0 k.2 ∙ ap (λ (x : ℕ). x ∷ []) (sym byte)) k.1)

kind_again : (total : ℕ) (kind : NodeKind) (rest : List ℕ) → kind_at total (kind_byte kind ∷ rest) ≡ Ok (kind, rest)
unfolding kind_at
kind_again total kind rest =
    ap (λ (x : List ℕ). kind_at total (x ++ rest)) (sym (one_byte (kind_byte kind) (small_byte kind)))
    ∙ number_back 1 total (kind_byte kind) rest _ _ (small_byte kind)
    (ap (λ (o : Option NodeKind). ok_or o (here total (little_bytes 1 (kind_byte kind) ++ rest) kinds.Kind) >>= λ (k : NodeKind). Ok (k, rest)) (of_byte kind))

-- a name and a kind that were read, and where the name ends
pub record TakesNamed (front : List Node) (bytes : List ℕ) (y : List ℕ × NodeKind × List ℕ) : Type 0 where
  pub behind : List ℕ
  pub name : Takes bytes (name_text y.0) behind
  pub kind : Takes behind (kind_byte y.1 ∷ []) y.2
  pub may : MayBeNamed front y.1 y.0

pub named_takes : (total : ℕ) (front : List Node) (bytes : List ℕ) (y : List ℕ × NodeKind × List ℕ) → IsBytes bytes → named_at total front bytes ≡ Ok y → TakesNamed front bytes y
unfolding named_at
named_takes total front bytes y fits e =
    let a = bind_ok (units_at total bytes) _ y e in
    let t = units_takes total bytes a.0 fits a.1 in
    let k = bind_ok (kind_at total a.0.1) _ y a.2 in
    let gn = guard_ok (here total bytes kinds.Name) _ _ _ y k.2 in
    subst (TakesNamed front bytes) (ok_is (a.0.0, k.0.0, k.0.1) y gn.1)
    (record { behind = a.0.1; name = t; kind = kind_takes total a.0.1 k.0 t.rest_fits k.1; may = may_be front k.0.0 a.0.0 gn.0 })

pub named_again : (total : ℕ) (front : List Node) (kind : NodeKind) (name rest : List ℕ) → MayBeNamed front kind name
    → named_at total front (name_text name ++ kind_byte kind ∷ rest) ≡ Ok (name, kind, rest)
unfolding named_at
named_again total front kind name rest may =
    let units = name_units name may.is_name in
    let few : length name < 65536 = omega (arith, units.1) in
    bind_again (units_at total (name_text name ++ kind_byte kind ∷ rest)) (name, kind_byte kind ∷ rest) _ _ (name_again total name (kind_byte kind ∷ rest) units.0 few)
    (bind_again (kind_at total (kind_byte kind ∷ rest)) (kind, rest) _ _ (kind_again total kind rest)
    (guard_again (here total (name_text name ++ kind_byte kind ∷ rest) kinds.Name) _ _ _ _ (not_bad front kind name may) refl))
