-- Reading the units of a name's field.
use Rattle.std.proofs.Common.{◌≡◌, ℕ, suc, ◌-◌, ◌≤◌, ◌%◌, Bool, true, false, not, List, [], ◌∷◌, ◌++◌, length, slice_index, take, drop, Option, Some, None, Result, Ok, Err, refl, sym, ap, ◌∙◌, length-append, arith}
use Rattle.std.specs.List.{position}
use Rattle.std.proofs.Math.Seq.{take-append_seam, split_at}
use Rattle.std.proofs.lemmas.Bool.{eq-eqb, ne_eqb, eqb-true}
use Rattle.std.proofs.lemmas.List.{length-drop, nil_from_length}
use Rattle.byteorder.specs.Endian.{little_number}
use Rattle.sis_request.specs.declared.fault.Field.{Field}
use Rattle.sis_request.specs.declared.fault.RequestFault.{RequestFault}
use Rattle.sis_request.specs.declared.fault.RequestFault.TheVariants as faults
use Rattle.sis_reading.specs.Steps.{◌>>=◌, guard}
use Rattle.sis_request.specs.Request.{no_early, is_null, but_last, units_of, name_of, IsLentName}
use Rattle.sis_request.proofs.NameUnits.{units_split, no_nulls}
use Rattle.sis_reading.proofs.StepLemmas.{bind_ok, ok_is, guard_ok}

not_false : (b : Bool) → not b ≡ false → b ≡ true
not_false true e = refl
not_false false e = absurd cc

short : (front : List ℕ) (u : ℕ) → length (front ++ u ∷ []) - 1 ≡ length front
short front u = omega (arith, length-append front (u ∷ []))

unit_behind : (front : List ℕ) (u : ℕ) → slice_index (front ++ u ∷ []) (length front) ≡ u
unit_behind [] u = refl
unit_behind (v ∷ front) u = unit_behind front u

last_unit : (front : List ℕ) (u : ℕ) → slice_index (front ++ u ∷ []) (length (front ++ u ∷ []) - 1) ≡ u
last_unit front u = ap (λ (i : ℕ). slice_index (front ++ u ∷ []) i) (short front u) ∙ unit_behind front u

front_units : (front : List ℕ) (u : ℕ) → but_last (front ++ u ∷ []) ≡ front
front_units front u = ap (λ (i : ℕ). take i (front ++ u ∷ [])) (short front u) ∙ take-append_seam front (u ∷ [])

-- what reading does with some units and a last one
abbrev pub judged : Field → List ℕ → ℕ → Result (List ℕ) RequestFault
judged field front u = guard (faults.NoNull field) (not (is_null u)) (tt {0}) >>= λ a. no_early field (position is_null front) >>= λ b. Ok front

pub name_of-judged : (field : Field) (front : List ℕ) (u : ℕ) → name_of field (front ++ u ∷ []) ≡ judged field front u
unfolding name_of
name_of-judged field front u = rw (last_unit front u, front_units front u) refl

module _ (field : Field) (bytes front : List ℕ) (u : ℕ) where
  pub no_null_read : units_of bytes ≡ front ++ u ∷ [] → (u ≡ 0 → ⊥) → name_of field (units_of bytes) ≡ Err (faults.NoNull field)
  no_null_read split full =
      let test : is_null u ≡ false = ne_eqb u 0 full in
      ap (name_of field) split ∙ name_of-judged field front u ∙ rw test refl

  pub early_read : (at : ℕ) → units_of bytes ≡ front ++ u ∷ [] → u ≡ 0 → position is_null front ≡ Some at → name_of field (units_of bytes) ≡ Err (faults.EarlyNull field at)
  early_read at split null found =
      let test : is_null u ≡ true = eq-eqb u 0 null in
      ap (name_of field) split ∙ name_of-judged field front u ∙ rw (test, found) refl

  pub name_read : units_of bytes ≡ front ++ u ∷ [] → u ≡ 0 → position is_null front ≡ None → name_of field (units_of bytes) ≡ Ok front
  name_read split null none =
      let test : is_null u ≡ true = eq-eqb u 0 null in
      ap (name_of field) split ∙ name_of-judged field front u ∙ rw (test, none) refl

-- what is left of a name's bytes without the null is lent
pub is_lent : (bytes name : List ℕ) → length bytes % 2 ≡ 0 → 4 ≤ length bytes → length bytes ≤ 65534 → length name ≡ length bytes - 2
    → position is_null (units_of name) ≡ None → IsLentName name
is_lent bytes name even low high shorter none = record {
  even = omega arith;
  low = omega arith;
  high = omega arith;
  units = no_nulls (units_of name) none;
}

-- a name's bytes, cut before the last two
pub units_cut : (bytes front back : List ℕ) (u : ℕ) → length bytes % 2 ≡ 0 → 4 ≤ length bytes → front ≡ take (length bytes - 2) bytes → back ≡ drop (length bytes - 2) bytes → u ≡ little_number 2 back
    → units_of bytes ≡ units_of front ++ u ∷ []
units_cut bytes front back u even low is_front is_back is_unit =
    let long : 2 ≤ length bytes = omega arith in
    rw (is_unit, is_back, is_front) (units_split bytes even long)

no_early_ok : (field : Field) (found : Option ℕ) (x : Unit {0}) → no_early field found ≡ Ok x → found ≡ None
no_early_ok field None x e = refl
no_early_ok field (Some at) x e = absurd cc

split_last : (units : List ℕ) → 1 ≤ length units → units ≡ but_last units ++ slice_index units (length units - 1) ∷ []
split_last units long =
    let n = length units - 1 in
    let nothing : drop (suc n) units ≡ [] = nil_from_length (drop (suc n) units) (omega (arith, length-drop (suc n) units)) in
    split_at units n 0 (omega arith) ∙ ap (λ (t : List ℕ). take n units ++ slice_index units n ∷ t) nothing

-- a name that was read has its null behind it, and no other
pub name_ok : (field : Field) (units name : List ℕ) → 1 ≤ length units → name_of field units ≡ Ok name → (units ≡ name ++ 0 ∷ []) × (position is_null name ≡ None)
unfolding name_of
name_ok field units name long e =
    let g = guard_ok (faults.NoNull field) _ _ _ name e in
    let b = bind_ok (no_early field (position is_null (but_last units))) _ name g.1 in
    let front : but_last units ≡ name = ok_is (but_last units) name b.2 in
    let null : slice_index units (length units - 1) ≡ 0 = eqb-true _ 0 (not_false _ g.0) in (
      split_last units long ∙ ap (λ (u : ℕ). but_last units ++ u ∷ []) null ∙ ap (λ (t : List ℕ). t ++ 0 ∷ []) front,
      ap (position is_null) (sym front) ∙ no_early_ok field (position is_null (but_last units)) b.0 b.1,
    )

pub name_again : (field : Field) (name : List ℕ) → position is_null name ≡ None → name_of field (name ++ 0 ∷ []) ≡ Ok name
name_again field name none = name_of-judged field name 0 ∙ rw none refl
