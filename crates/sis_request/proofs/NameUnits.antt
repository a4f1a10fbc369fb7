-- The units of bytes, and the bytes of units.
use Rattle.std.proofs.Common.{◌≡◌, ℕ, zero, suc, ◌+◌, ◌-◌, ◌*◌, ◌<◌, ◌≤◌, ◌/◌, ◌%◌, true, false, List, [], ◌∷◌, ◌++◌, length, get_or, take, drop, Option, Some, None, refl, sym, ap, ◌∙◌, length-append, arith}
use Rattle.std.specs.List.{flat_map, position, position_from, All, AllByRecursion}
use Rattle.std.proofs.Math.Dec.{eqb-suc-zero}
use Rattle.std.proofs.lemmas.Bool.{eq-eqb, ne_eqb}
use Rattle.std.proofs.lemmas.Iterator.Adapters.{position_from-zero}
use Rattle.std.proofs.lemmas.List.{take-append-drop, length-drop, length-take-le, get_or-drop}
use Rattle.std.proofs.lemmas.List.Elements.{All-from_recursion, recursion_from_All}
use Rattle.byteorder.specs.Endian.{little_number}
use Rattle.sis_request.specs.Request.{units_of, le2, is_null, name_len, name_text}

-- each item is a byte
abbrev pub IsBytes : List ℕ → Type 0
IsBytes bytes = (i : ℕ) → get_or bytes i 0 < 256

pub length_le2 : (n : ℕ) → length (le2 n) ≡ 2
unfolding le2
length_le2 n = refl

-- a unit has the two bytes that it was made of
pub le2_unit : (b c : ℕ) → b < 256 → c < 256 → le2 (b + 256 * c) ≡ b ∷ c ∷ []
unfolding le2
le2_unit b c low high =
    let first : (b + 256 * c) % 256 ≡ b = omega arith in
    let second : (b + 256 * c) / 256 % 256 ≡ c = omega arith in
    rw (first, second) refl

pub length_units_of : (bytes : List ℕ) → length bytes % 2 ≡ 0 → 2 * length (units_of bytes) ≡ length bytes
length_units_of [] even = refl
length_units_of (b ∷ []) even = absurd (omega arith)
length_units_of (b ∷ c ∷ bytes) even = omega (arith, length_units_of bytes (omega arith))

-- the text of the units of bytes is those bytes
pub text_units_of : (bytes : List ℕ) → length bytes % 2 ≡ 0 → IsBytes bytes → flat_map le2 (units_of bytes) ≡ bytes
text_units_of [] even fits = refl
text_units_of (b ∷ []) even fits = absurd (omega arith)
text_units_of (b ∷ c ∷ bytes) even fits =
    rw (le2_unit b c (fits 0) (fits 1)) (ap (λ (t : List ℕ). b ∷ c ∷ t) (text_units_of bytes (omega arith) (λ i. fits (suc (suc i)))))

pub units_of-append : (front back : List ℕ) → length front % 2 ≡ 0 → units_of (front ++ back) ≡ units_of front ++ units_of back
units_of-append [] back even = refl
units_of-append (b ∷ []) back even = absurd (omega arith)
units_of-append (b ∷ c ∷ front) back even = ap (λ (t : List ℕ). (b + 256 * c) ∷ t) (units_of-append front back (omega arith))

-- the bytes that a name is lent as, and its null, spell its units
pub text_lent : (bytes : List ℕ) → length bytes % 2 ≡ 0 → IsBytes bytes → bytes ++ 0 ∷ 0 ∷ [] ≡ name_text (units_of bytes)
unfolding le2
text_lent bytes even fits = ap (λ (t : List ℕ). t ++ 0 ∷ 0 ∷ []) (sym (text_units_of bytes even fits))

pub name_len-units_of : (bytes : List ℕ) → length bytes % 2 ≡ 0 → name_len (units_of bytes) ≡ length bytes + 2
name_len-units_of bytes even = omega (arith, length_units_of bytes even)

pub length_texts : (units : List ℕ) → length (flat_map le2 units) ≡ 2 * length units
length_texts [] = refl
length_texts (u ∷ units) = omega (arith, length_texts units, length_le2 u, length-append (le2 u) (flat_map le2 units))

pub length_name_text : (name : List ℕ) → length (name_text name) ≡ name_len name
length_name_text name = omega (arith, length_texts name, length_le2 0, length-append (flat_map le2 name) (le2 0))

-- a unit read from its two bytes
unit_again : (u : ℕ) (rest : List ℕ) → u < 65536 → units_of (le2 u ++ rest) ≡ u ∷ units_of rest
unfolding le2
unit_again u rest fits =
    let whole : u % 256 + 256 * (u / 256 % 256) ≡ u = omega arith in
    ap (λ (v : ℕ). v ∷ units_of rest) whole

-- the units of a text are those that it was made of
units_again : (units : List ℕ) → AllByRecursion (λ u. u < 65536) units → units_of (flat_map le2 units) ≡ units
units_again [] fit = refl
units_again (u ∷ units) fit = unit_again u (flat_map le2 units) fit.0 ∙ ap (λ (t : List ℕ). u ∷ t) (units_again units fit.1)

-- and so with the null
pub units_of-name_text : (name : List ℕ) → AllByRecursion (λ u. u < 65536) name → units_of (name_text name) ≡ name ++ 0 ∷ []
unfolding le2
units_of-name_text name fit =
    let even : length (flat_map le2 name) % 2 ≡ 0 = omega (arith, length_texts name) in
    units_of-append (flat_map le2 name) (le2 0) even ∙ ap (λ (t : List ℕ). t ++ units_of (le2 0)) (units_again name fit)
    ∙ ap (λ (t : List ℕ). name ++ t) (unit_again 0 [] (omega arith))

-- ---- nulls

unit_of : (b c : ℕ) (rest : List ℕ) → little_number 2 (b ∷ c ∷ rest) ≡ b + 256 * c
unit_of b c rest = omega arith

pub at_null : (at : ℕ) (rest : List ℕ) (r : Option ℕ) → 2 ≤ length rest → little_number 2 rest ≡ 0 → position_from is_null at (units_of rest) ≡ r → Some at ≡ r
at_null at [] r long null so_far = absurd (omega arith)
at_null at (b ∷ []) r long null so_far = absurd (omega arith)
at_null at (b ∷ c ∷ rest) r long null so_far =
    let test : is_null (b + 256 * c) ≡ true = eq-eqb _ _ (sym (unit_of b c rest) ∙ null) in
    rw test at so_far

pub no_unit : (at : ℕ) (rest : List ℕ) (r : Option ℕ) → length rest < 2 → position_from is_null at (units_of rest) ≡ r → None ≡ r
no_unit at [] r short so_far = so_far
no_unit at (b ∷ []) r short so_far = so_far
no_unit at (b ∷ c ∷ rest) r short so_far = absurd (omega arith)

pub position-is : (units : List ℕ) → position is_null units ≡ position_from is_null 0 units
position-is units = position_from-zero is_null units

none_null : (at : ℕ) (units : List ℕ) → position_from is_null at units ≡ None → AllByRecursion (λ u. 0 < u) units
none_null at [] none = tt
none_null at (zero ∷ units) none = absurd cc
none_null at (suc u ∷ units) none =
    let test : is_null (suc u) ≡ false = eqb-suc-zero u in
    (omega arith, none_null (at + 1) units (rw test at none))

-- units without a null are above 0
pub no_nulls : (units : List ℕ) → position is_null units ≡ None → All (λ u. 0 < u) units
no_nulls units none = All-from_recursion (λ u. 0 < u) units (none_null 0 units (sym (position-is units) ∙ none))

one_unit : (bytes : List ℕ) → length bytes ≡ 2 → units_of bytes ≡ little_number 2 bytes ∷ []
one_unit [] two = absurd (omega arith)
one_unit (b ∷ []) two = absurd (omega arith)
one_unit (b ∷ c ∷ []) two = ap (λ (u : ℕ). u ∷ []) (sym (unit_of b c []))
one_unit (b ∷ c ∷ d ∷ bytes) two = absurd (omega arith)

-- the units of a name's field are those before its last two bytes, and one more
pub units_split : (bytes : List ℕ) → length bytes % 2 ≡ 0 → 2 ≤ length bytes → units_of bytes ≡ units_of (take (length bytes - 2) bytes) ++ little_number 2 (drop (length bytes - 2) bytes) ∷ []
units_split bytes even long =
    let n = length bytes - 2 in
    let front_even : length (take n bytes) % 2 ≡ 0 = omega (arith, length-take-le n bytes (omega arith)) in
    let back_two : length (drop n bytes) ≡ 2 = omega (arith, length-drop n bytes) in
    ap units_of (sym (take-append-drop n bytes)) ∙ units_of-append (take n bytes) (drop n bytes) front_even
    ∙ ap (λ (t : List ℕ). units_of (take n bytes) ++ t) (one_unit (drop n bytes) back_two)

-- ---- each unit

pub all_front : (P : ℕ → Type 0) (front back : List ℕ) → AllByRecursion P (front ++ back) → AllByRecursion P front
all_front P [] back h = tt
all_front P (u ∷ front) back h = (h.0, all_front P front back h.1)

pub all_both : (P Q : ℕ → Type 0) (units : List ℕ) → AllByRecursion P units → AllByRecursion Q units → AllByRecursion (λ u. P u × Q u) units
all_both P Q [] h k = tt
all_both P Q (u ∷ units) h k = ((h.0, k.0), all_both P Q units h.1 k.1)

pub all_first : (P Q : ℕ → Type 0) (units : List ℕ) → AllByRecursion (λ u. P u × Q u) units → AllByRecursion P units
all_first P Q [] h = tt
all_first P Q (u ∷ units) h = (h.0.0, all_first P Q units h.1)

pub all_second : (P Q : ℕ → Type 0) (units : List ℕ) → AllByRecursion (λ u. P u × Q u) units → AllByRecursion Q units
all_second P Q [] h = tt
all_second P Q (u ∷ units) h = (h.0.1, all_second P Q units h.1)

null_none : (at : ℕ) (units : List ℕ) → AllByRecursion (λ u. 0 < u) units → position_from is_null at units ≡ None
null_none at [] full = refl
null_none at (u ∷ units) full =
    let above : 0 < u = full.0 in
    let test : is_null u ≡ false = ne_eqb u 0 (λ e. omega arith) in
    rw test (null_none (at + 1) units full.1)

-- no unit above 0 is a null
pub no_null_in : (units : List ℕ) → AllByRecursion (λ u. 0 < u) units → position is_null units ≡ None
no_null_in units full = position-is units ∙ null_none 0 units full

pub units_fit : (bytes : List ℕ) → IsBytes bytes → AllByRecursion (λ u. u < 65536) (units_of bytes)
units_fit [] fits = tt
units_fit (b ∷ []) fits = tt
units_fit (b ∷ c ∷ bytes) fits =
    let low = fits 0 in
    let high = fits 1 in
    (omega arith, units_fit bytes (λ i. fits (suc (suc i))))

bytes_fit : (bytes : List ℕ) → AllByRecursion (λ b. b < 256) bytes → IsBytes bytes
bytes_fit [] h i = omega arith
bytes_fit (b ∷ bytes) h zero = h.0
bytes_fit (b ∷ bytes) h (suc i) = bytes_fit bytes h.1 i

pub IsBytes-All : (bytes : List ℕ) → All (λ b. b < 256) bytes → IsBytes bytes
IsBytes-All bytes h = bytes_fit bytes (recursion_from_All (λ b. b < 256) bytes h)

pub IsBytes-drop : (n : ℕ) (bytes : List ℕ) → IsBytes bytes → IsBytes (drop n bytes)
IsBytes-drop n bytes h i = rw get_or-drop (h (n + i))

pub IsBytes-take : (n : ℕ) (bytes : List ℕ) → IsBytes bytes → IsBytes (take n bytes)
IsBytes-take zero bytes h i = omega arith
IsBytes-take (suc n) [] h i = h i
IsBytes-take (suc n) (b ∷ bytes) h zero = h 0
IsBytes-take (suc n) (b ∷ bytes) h (suc i) = IsBytes-take n bytes (λ j. h (suc j)) i
