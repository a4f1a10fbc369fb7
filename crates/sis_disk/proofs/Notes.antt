-- Notes and their row of bytes, with one more.
use Rattle.std.proofs.Common.{◌≡◌, ℕ, ◌+◌, ◌≤◌, List, [], ◌∷◌, ◌++◌, length, take, drop, ap, arith, length-drop}
use Rattle.std.proofs.lemmas.List.{take_all, take-append-le, drop-append-le}
use Rattle.sis_disk.specs.Record.{Call}
use Rattle.sis_disk.specs.Notes.{all_taken, taken, calls_of, call_of}
use Rattle.sis_disk.specs.declared.log.Noted.{Noted}

pub all_taken_push : (notes : List Noted) (n : Noted) → all_taken (notes ++ n ∷ []) ≡ all_taken notes + taken n
all_taken_push [] n = omega arith
all_taken_push (m ∷ ms) n = omega (arith, all_taken_push ms n)

pub calls_of_push : (notes : List Noted) (row : List ℕ) (n : Noted) (bytes : List ℕ) → all_taken notes ≡ length row → taken n ≡ length bytes
    → calls_of (notes ++ n ∷ []) (row ++ bytes) ≡ calls_of notes row ++ call_of n bytes ∷ []
calls_of_push [] [] n bytes whole size = ap (λ (b : List ℕ). call_of n b ∷ []) (take_all (taken n) bytes (omega arith))
calls_of_push [] (x ∷ row) n bytes whole size = absurd (omega arith)
calls_of_push (m ∷ ms) row n bytes whole size =
    let le : taken m ≤ length row = omega arith in
    let rest : all_taken ms ≡ length (drop (taken m) row) = omega (arith, length-drop (taken m) row) in
    rw (take-append-le (taken m) row bytes le, drop-append-le (taken m) row bytes le)
    (ap (λ (cs : List Call). call_of m (take (taken m) row) ∷ cs) (calls_of_push ms (drop (taken m) row) n bytes rest size))
