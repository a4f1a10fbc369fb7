-- What a source in memory takes.
use Rattle.std.proofs.Common.{◌≡◌, ℕ, ◌<◌, List, [], ◌∷◌, ◌++◌, length, take, drop, min, Some, sym, ap, ◌∙◌, arith}
use Rattle.std.proofs.lemmas.List.{take-append-drop, take-append-le, length-take, take_all}
use Rattle.std.proofs.Math.Seq.{drop-nil}
use Rattle.sis_disk.specs.Streams.{Takes}

none_left : (rest : List ℕ) → length rest ≡ 0 → (n : ℕ) → drop n rest ≡ []
none_left [] e n = drop-nil n
none_left (x ∷ xs) e n = absurd (omega arith)

none_of : (rest into : List ℕ) (cut n : ℕ) → 0 < cut → 0 < length into → n ≡ min (min cut (length into)) (length rest)
    → length (take n rest) ≡ n → take n rest ≡ [] → length rest ≡ 0
none_of rest into cut n some room is size none =
    let empty : length (take n rest) ≡ 0 = ap (λ (xs : List ℕ). length xs) none in omega arith

-- a piece of the greatest length that is allowed is taken, and none only at the end
pub takes_front : (rest into : List ℕ) (cut n : ℕ) → 0 < cut → 0 < length into → n ≡ min (min cut (length into)) (length rest)
    → Takes (Some rest) (Some (drop n rest)) (take n (take n rest ++ drop n into))
takes_front rest into cut n some room is =
    let size : length (take n rest) ≡ n = omega (arith, length-take n rest) in
    let front : take n (take n rest ++ drop n into) ≡ take n rest =
    take-append-le n (take n rest) (drop n into) (omega arith) ∙ take_all n (take n rest) (omega arith) in (
      sym (ap (λ (xs : List ℕ). xs ++ drop n rest) front ∙ take-append-drop n rest),
      λ none. none_left rest (none_of rest into cut n some room is size (sym front ∙ none)) n,
    )
