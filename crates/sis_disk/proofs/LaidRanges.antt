-- What a write leaves of ranges of bytes.
use Rattle.std.proofs.Common.{◌≡◌, ◌⊎◌, inl, inr, ℕ, ◌+◌, ◌-◌, ◌<◌, ◌≤◌, List, ◌++◌, length, take, drop, slice_index, refl, sym, ap, ap₂, ◌∙◌, arith, append_assoc, length-append}
use Rattle.std.specs.Prelude.{slice_range}
use Rattle.std.proofs.lemmas.List.{length-take-le, take_at, drop_at, take-append-le, take-take, drop-drop}
use Rattle.std.proofs.lemmas.Slice.{between_is}
use Rattle.sis_disk.specs.Record.{laid}
use Rattle.sis_disk.proofs.Laid.{laid_elsewhere, not_inside}

drop-laid_at : (live : List ℕ) (at : ℕ) (bytes : List ℕ) → at + length bytes ≤ length live → drop at (laid live at bytes) ≡ bytes ++ drop (at + length bytes) live
drop-laid_at live at bytes within =
    ap (drop at) (append_assoc (take at live) bytes (drop (at + length bytes) live))
    ∙ drop_at (take at live) (bytes ++ drop (at + length bytes) live) at (length-take-le at live (omega arith))

-- the bytes that were written
pub slice-laid_in : (live : List ℕ) (at : ℕ) (bytes : List ℕ) → at + length bytes ≤ length live → slice_range (laid live at bytes) at (at + length bytes) ≡ bytes
slice-laid_in live at bytes within =
    let len : at + length bytes - at ≡ length bytes = omega arith in
    ap₂ (λ (n : ℕ) (xs : List ℕ). take n xs) len (drop-laid_at live at bytes within)
    ∙ take_at bytes (drop (at + length bytes) live) (length bytes) refl

-- the bytes before a write
pub take-laid_below : (live : List ℕ) (at : ℕ) (bytes : List ℕ) (n : ℕ) → at + length bytes ≤ length live → n ≤ at → take n (laid live at bytes) ≡ take n live
take-laid_below live at bytes n within le =
    let front : length (take at live) ≡ at = length-take-le at live (omega arith) in
    ap (take n) (append_assoc (take at live) bytes (drop (at + length bytes) live))
    ∙ take-append-le n (take at live) (bytes ++ drop (at + length bytes) live) (omega arith)
    ∙ take-take n at live le

-- the bytes behind a write
pub drop-laid_above : (live : List ℕ) (at : ℕ) (bytes : List ℕ) (n : ℕ) → at + length bytes ≤ length live → at + length bytes ≤ n → drop n (laid live at bytes) ≡ drop n live
drop-laid_above live at bytes n within le =
    let front : length (take at live ++ bytes) ≡ at + length bytes = omega (arith, length-append (take at live) bytes, length-take-le at live) in
    let split : at + length bytes + (n - (at + length bytes)) ≡ n = omega arith in
    ap (λ (k : ℕ). drop k (laid live at bytes)) (sym split)
    ∙ sym (drop-drop (n - (at + length bytes)) (at + length bytes) (laid live at bytes))
    ∙ ap (drop (n - (at + length bytes))) (drop_at (take at live ++ bytes) (drop (at + length bytes) live) (at + length bytes) front)
    ∙ drop-drop (n - (at + length bytes)) (at + length bytes) live
    ∙ ap (λ (k : ℕ). drop k live) split

-- a range that the write did not touch
pub slice-laid_out : (live : List ℕ) (at : ℕ) (bytes : List ℕ) (from to : ℕ) → at + length bytes ≤ length live → (to ≤ at) ⊎ (at + length bytes ≤ from)
    → slice_range (laid live at bytes) from to ≡ slice_range live from to
slice-laid_out live at bytes from to within (inl below) =
    between_is (laid live at bytes) from to ∙ ap (drop from) (take-laid_below live at bytes to within below) ∙ sym (between_is live from to)
slice-laid_out live at bytes from to within (inr above) = ap (take (to - from)) (drop-laid_above live at bytes from within above)

-- the first block, where a write lies behind it
pub take-laid_first : (live : List ℕ) (at : ℕ) (bytes : List ℕ) → at + length bytes ≤ length live → 4096 ≤ at → take 4096 (laid live at bytes) ≡ take 4096 live
take-laid_first live at bytes within le = take-laid_below live at bytes 4096 within le

-- one byte that the write did not touch
pub index-laid_out : (live : List ℕ) (at : ℕ) (bytes : List ℕ) (i : ℕ) → at + length bytes ≤ length live → (i < at) ⊎ (at + length bytes ≤ i) → slice_index (laid live at bytes) i ≡ slice_index live i
index-laid_out live at bytes i within out = laid_elsewhere at bytes live i within (not_inside at (length bytes) i out)

-- two writes, the second where the first one ends, are one
pub laid-join : (live : List ℕ) (at : ℕ) (front back : List ℕ) → at + length front + length back ≤ length live → laid (laid live at front) (at + length front) back ≡ laid live at (front ++ back)
laid-join live at front back within =
    let start : length (take at live ++ front) ≡ at + length front = omega (arith, length-append (take at live) front, length-take-le at live) in
    let end : at + length front + length back ≡ at + length (front ++ back) = omega (arith, length-append front back) in
    ap₂ (λ (x y : List ℕ). x ++ back ++ y)
    (take_at (take at live ++ front) (drop (at + length front) live) (at + length front) start)
    (drop-laid_above live at front (at + length front + length back) (omega arith) (omega arith) ∙ ap (λ (n : ℕ). drop n live) end)
    ∙ ap (λ (x : List ℕ). x ++ drop (at + length (front ++ back)) live) (append_assoc (take at live) front back)
