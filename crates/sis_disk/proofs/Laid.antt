-- Bytes laid over others.
use Rattle.std.proofs.Common.{◌≡◌, ℕ, ◌+◌, ◌-◌, ◌<◌, ◌≤◌, ◌⊎◌, inl, inr, Bool, true, false, List, ◌++◌, length, take, drop, refl, ap, ◌∙◌, arith, length-append, length-drop, slice_index}
use Rattle.std.specs.Prelude.{nat_le, nat_lt, ◌&&◌, ◌||◌}
use Rattle.std.proofs.lemmas.List.{length-take-le, get_or-take, get_or-drop, get_or-append_right}
use Rattle.std.proofs.Math.ListN.{get_or-append}
use Rattle.std.proofs.lemmas.Bool.Decides.{nat_tests}
use Rattle.sis_disk.specs.Record.{laid}

pub or_left : (a b : Bool) → (a || b) ≡ false → a ≡ false
or_left true b e = e
or_left false b e = refl

pub or_right : (a b : Bool) → (a || b) ≡ false → b ≡ false
or_right true b e = absurd cc
or_right false b e = e

pub length-laid : (at : ℕ) (bytes live : List ℕ) → at + length bytes ≤ length live → length (laid live at bytes) ≡ length live
length-laid at bytes live within = omega (arith, length-append (take at live ++ bytes) (drop (at + length bytes) live), length-append (take at live) bytes, length-take-le at live, length-drop (at + length bytes) live)

-- a position in the range or outside
pub outside : (at n i : ℕ) → (nat_le at i && nat_lt i (at + n)) ≡ false → (i < at) ⊎ (at + n ≤ i)
outside at n i out = grind (arith, nat_tests)

pub not_inside : (at n i : ℕ) → (i < at) ⊎ (at + n ≤ i) → (nat_le at i && nat_lt i (at + n)) ≡ false
not_inside at n i out = grind (arith, nat_tests)

pub laid_elsewhere : (at : ℕ) (bytes live : List ℕ) (i : ℕ) → at + length bytes ≤ length live → (nat_le at i && nat_lt i (at + length bytes)) ≡ false → slice_index (laid live at bytes) i ≡ slice_index live i
laid_elsewhere at bytes live i within out =
    let front : length (take at live) ≡ at = length-take-le at live (omega arith) in
    let both : length (take at live ++ bytes) ≡ at + length bytes = omega (arith, length-append (take at live) bytes) in
    elim (outside at (length bytes) i out) [
      | inl below ↦
          get_or-append (take at live ++ bytes) (drop (at + length bytes) live) 0 i (omega arith)
          ∙ get_or-append (take at live) bytes 0 i (omega arith)
          ∙ get_or-take at live i 0 below
      | inr above ↦
          get_or-append_right (take at live ++ bytes) (drop (at + length bytes) live) (at + length bytes) i 0 both above
          ∙ get_or-drop (at + length bytes) live (i - (at + length bytes)) 0
          ∙ (let e : at + length bytes + (i - (at + length bytes)) ≡ i = omega arith in ap (λ (j : ℕ). slice_index live j) e)
    ]

pub laid_at : (at : ℕ) (bytes live : List ℕ) (i : ℕ) → at + length bytes ≤ length live → i < length bytes → slice_index (laid live at bytes) (at + i) ≡ slice_index bytes i
laid_at at bytes live i within lt =
    let front : length (take at live) ≡ at = length-take-le at live (omega arith) in
    get_or-append (take at live ++ bytes) (drop (at + length bytes) live) 0 (at + i) (omega (arith, length-append (take at live) bytes))
    ∙ get_or-append_right (take at live) bytes at (at + i) 0 front (omega arith)
    ∙ (let e : at + i - at ≡ i = omega arith in ap (λ (j : ℕ). slice_index bytes j) e)
