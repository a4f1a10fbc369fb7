-- Fields that are put into a buffer from left to right.
use Rattle.std.proofs.Common.{◌≡◌, ℕ, ◌+◌, List, ◌++◌, length, take, drop, take_at, drop_at, sym, ap, ◌∙◌, append_assoc, length-append, arith}

-- a field goes behind the front, in the place of as many bytes
pub put_behind : (at n : ℕ) (front pad field behind old : List ℕ) → old ≡ front ++ (pad ++ behind) → length front ≡ at → length pad ≡ n
    → take at old ++ field ++ drop (at + n) old ≡ front ++ field ++ behind
put_behind at n front pad field behind old has start room =
    let end : length (front ++ pad) ≡ at + n = omega (arith, length-append front pad) in
    let rest : drop (at + n) old ≡ behind = ap (drop (at + n)) (has ∙ sym (append_assoc front pad behind)) ∙ drop_at (front ++ pad) behind (at + n) end in
    let before : take at old ≡ front = ap (take at) has ∙ take_at front (pad ++ behind) at start in
    ap (λ (l : List ℕ). take at old ++ field ++ l) rest ∙ ap (λ (l : List ℕ). l ++ field ++ behind) before
