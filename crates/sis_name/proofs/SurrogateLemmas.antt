-- Lemmas on surrogates and their partners.
use Rattle.std.proofs.Common.{◌≡◌, ℕ, ◌+◌, ◌-◌, ◌≤◌, Bool, true, false, not, cond, List, [], ◌∷◌, length, take, drop, get_or, Option, None, Some, is_some, refl, ap, sym, ◌∙◌, arith, subst}
use Rattle.std.proofs.lemmas.List.{take_rest}
use Rattle.std.specs.List.{list_any}
use Rattle.std.specs.Char.Utf16.{utf16_chars, has_unpaired_surrogate, surrogate_pair_char}
use Rattle.sis_name.specs.Units.{is_surrogate, is_pair, is_pair_first, unpaired_from}

abbrev any_missing : List (Option ℕ) → Bool
any_missing os = list_any (λ o. not (is_some o)) os

-- where no surrogate lacks its partner, std finds none either
pub paired : (at : ℕ) (units : List ℕ) → unpaired_from at units ≡ None → has_unpaired_surrogate units ≡ false
unfolding utf16_chars
paired at [] h = refl
paired at (u ∷ []) h =
    elim (is_surrogate u) as (λ b. cond b (Some at) None ≡ None → any_missing (cond b None (Some u) ∷ []) ≡ false) [ true ↦ λ k. cc | false ↦ λ k. refl ] h
paired at (u ∷ v ∷ units) h =
    elim (is_pair u v) as (λ p. cond p (unpaired_from (at + 2) units) (cond (is_surrogate u) (Some at) (unpaired_from (at + 1) (v ∷ units))) ≡ None
    → any_missing (cond p (Some (surrogate_pair_char u v) ∷ utf16_chars units) (cond (is_surrogate u) None (Some u) ∷ utf16_chars (v ∷ units))) ≡ false) [
      | true ↦ λ k. paired (at + 2) units k
      | false ↦ elim (is_surrogate u) as (λ b. cond b (Some at) (unpaired_from (at + 1) (v ∷ units)) ≡ None → any_missing (cond b None (Some u) ∷ utf16_chars (v ∷ units)) ≡ false) [
        | true ↦ λ k. cc
        | false ↦ λ k. paired (at + 1) (v ∷ units) k
      ]
    ] h

-- the first unpaired surrogate of the rest is that of all the units
abbrev pub FoundFrom : List ℕ → List ℕ → Type 0
FoundFrom units rest = (length rest ≤ length units) × (unpaired_from (length units - length rest) rest ≡ unpaired_from 0 units)

-- so it stays past a pair
pub past_pair : (units rest : List ℕ) → is_pair_first rest ≡ true → FoundFrom units rest → FoundFrom units (take (length rest - 2) (drop 2 rest))
past_pair units [] pair found = cc
past_pair units (u ∷ []) pair found = cc
past_pair units (u ∷ v ∷ rest) pair found =
    let at : length units - length rest ≡ length units - length (u ∷ v ∷ rest) + 2 = omega (arith, found.0) in
    subst (FoundFrom units) (sym (take_rest (u ∷ v ∷ rest) 2)) (omega (arith, found.0), ap (λ k. unpaired_from k rest) at ∙ rw pair at found.1)

-- and past a unit that is no surrogate and begins no pair
pub past_plain : (units rest : List ℕ) → is_pair_first rest ≡ false → is_surrogate (get_or rest 0 0) ≡ false → FoundFrom units rest → FoundFrom units (take (length rest - 1) (drop 1 rest))
past_plain units [] single plain found = found
past_plain units (u ∷ []) single plain found = (omega (arith, found.0), rw plain at found.1)
past_plain units (u ∷ v ∷ rest) single plain found =
    let at : length units - length (v ∷ rest) ≡ length units - length (u ∷ v ∷ rest) + 1 = omega (arith, found.0) in
    subst (FoundFrom units) (sym (take_rest (u ∷ v ∷ rest) 1)) (omega (arith, found.0), ap (λ k. unpaired_from k (v ∷ rest)) at ∙ rw plain at (rw single at found.1))
