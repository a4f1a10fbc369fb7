-- Lengths of names: what reading one gave, and that it gives it again.
use Rattle.std.proofs.Common.{◌≡◌, ℕ, ◌≤◌, ◌%◌, Ok, refl, sym, arith}
use Rattle.std.proofs.lemmas.Bool.{ne_eqb, eqb-false, ltb-false, le-ltb, or_from, or_parts}
use Rattle.sis_request.specs.declared.fault.Field.{Field}
use Rattle.sis_request.specs.declared.fault.RequestFault.TheVariants as faults
use Rattle.sis_reading.proofs.StepLemmas.{ok_is, guard_ok, guard_again}
use Rattle.sis_request.specs.Request.{length_of}

-- a length that a name may have
pub record IsLength (n : ℕ) : Type 0 where
  pub even : n % 2 ≡ 0
  pub low : 4 ≤ n
  pub high : n ≤ 65534

pub length_ok : (field : Field) (value n : ℕ) → length_of field value ≡ Ok n → (n ≡ value) × IsLength value
unfolding length_of
length_ok field value n e =
    let odd = guard_ok (faults.OddLength field) _ _ _ n e in
    let range = guard_ok (faults.LengthRange field value) _ _ _ n odd.1 in
    let parts = or_parts _ _ range.0 in
    let not_one : value % 2 ≡ 1 → ⊥ = eqb-false (value % 2) 1 odd.0 in
    let low : 4 ≤ value = ltb-false value 4 parts.0 in
    let high : value ≤ 65534 = ltb-false 65534 value parts.1 in
    (ok_is n value (sym range.1), record { even = omega (arith, not_one); low = low; high = high })

pub length_again : (field : Field) (n : ℕ) → IsLength n → length_of field n ≡ Ok n
unfolding length_of
length_again field n is =
    let even = is.even in
    guard_again (faults.OddLength field) _ _ _ _ (ne_eqb (n % 2) 1 (λ e. omega arith))
    (guard_again (faults.LengthRange field n) _ _ _ _ (or_from _ _ (le-ltb n 4 is.low) (le-ltb 65534 n is.high)) refl)
