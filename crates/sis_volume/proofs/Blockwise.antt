-- Bytes of blocks in order: which block has which byte.
use Rattle.std.proofs.Common.{◌≡◌, inl, inr, ℕ, zero, suc, ◌+◌, ◌-◌, ◌*◌, ◌/◌, ◌%◌, ◌<◌, ◌≤◌, List, length, take, drop, flat_map, get_or, replicate, refl, sym, ap, ap₂, ◌∙◌, arith, length-append, length-drop}
use Rattle.std.specs.Prelude.{slice_range}
use Rattle.std.specs.List.{range_with_len}
use Rattle.std.proofs.lemmas.Bool.{cases_lt}
use Rattle.std.proofs.lemmas.List.{ext_get_or, get_or-take, get_or-drop, get_or_append_left, get_or-append_right, get_or-replicate, length-take-le, length-replicate}

-- the blocks of a range are each of this length
abbrev pub AreBlocks : (ℕ → List ℕ) → ℕ → ℕ → Type 0
AreBlocks f k n = (b : ℕ) → k ≤ b → b < k + n → length (f b) ≡ 4096

pub length-blocks : (f : ℕ → List ℕ) (k n : ℕ) → AreBlocks f k n → length (flat_map f (range_with_len k n)) ≡ 4096 * n
length-blocks f k zero are = refl
length-blocks f k (suc n) are =
    omega (
      arith,
      length-append (f k) (flat_map f (range_with_len (k + 1) n)),
      are k (omega arith) (omega arith),
      length-blocks f (k + 1) n (λ b ge lt. are b (omega arith) (omega arith)),
    )

-- a byte is that of its block
pub byte-blocks : (f : ℕ → List ℕ) (k n i : ℕ) → AreBlocks f k n → i < 4096 * n
    → get_or (flat_map f (range_with_len k n)) i 0 ≡ get_or (f (k + i / 4096)) (i % 4096) 0
byte-blocks f k zero i are lt = absurd (omega arith)
byte-blocks f k (suc n) i are lt =
    let len : length (f k) ≡ 4096 = are k (omega arith) (omega arith) in
    elim (cases_lt i 4096) [
      | inl first ↦
          (let here : k ≡ k + i / 4096 = omega arith in
          let there : i ≡ i % 4096 = omega arith in
          get_or_append_left (f k) (flat_map f (range_with_len (k + 1) n)) 0 i (omega arith)
          ∙ ap₂ (λ (b j : ℕ). get_or (f b) j 0) here there)
      | inr later ↦
          (let block : k + 1 + (i - 4096) / 4096 ≡ k + i / 4096 = omega arith in
          let there : (i - 4096) % 4096 ≡ i % 4096 = omega arith in
          get_or-append_right (f k) (flat_map f (range_with_len (k + 1) n)) 4096 i 0 len later
          ∙ byte-blocks f (k + 1) n (i - 4096) (λ b ge lt'. are b (omega arith) (omega arith)) (omega arith)
          ∙ ap₂ (λ (b j : ℕ). get_or (f b) j 0) block there)
    ]

index_range : (xs : List ℕ) (a b i : ℕ) → i < b - a → get_or (slice_range xs a b) i 0 ≡ get_or xs (a + i) 0
index_range xs a b i lt = get_or-take (b - a) (drop a xs) i 0 lt ∙ get_or-drop a xs i 0

length_range : (xs : List ℕ) (a b : ℕ) → b ≤ length xs → length (slice_range xs a b) ≡ b - a
length_range xs a b le = let n = length-drop a xs in length-take-le (b - a) (drop a xs) (omega arith)

-- bytes within one block, of the first so many bytes of all
pub range-block : (f : ℕ → List ℕ) (n size at len : ℕ) → AreBlocks f 0 n → size ≤ 4096 * n
    → at + len ≤ size → at % 4096 + len ≤ 4096 → 1 ≤ len
    → slice_range (take size (flat_map f (range_with_len 0 n))) at (at + len)
    ≡ slice_range (f (at / 4096)) (at % 4096) (at % 4096 + len)
range-block f n size at len are within ends inside some =
    let all = length-blocks f 0 n are in
    let cut : length (take size (flat_map f (range_with_len 0 n))) ≡ size = length-take-le size (flat_map f (range_with_len 0 n)) (omega arith) in
    let block : length (f (at / 4096)) ≡ 4096 = are (at / 4096) (omega arith) (omega arith) in
    let left = length_range (take size (flat_map f (range_with_len 0 n))) at (at + len) (omega arith) in
    let right = length_range (f (at / 4096)) (at % 4096) (at % 4096 + len) (omega arith) in
    ext_get_or 0 _ _ (omega arith) (λ i lt.
    (let few : i < len = omega arith in
    let b : 0 + (at + i) / 4096 ≡ at / 4096 = omega arith in
    let j : (at + i) % 4096 ≡ at % 4096 + i = omega arith in
    index_range (take size (flat_map f (range_with_len 0 n))) at (at + len) i (omega arith)
    ∙ get_or-take size (flat_map f (range_with_len 0 n)) (at + i) 0 (omega arith)
    ∙ byte-blocks f 0 n (at + i) are (omega arith)
    ∙ ap₂ (λ (x y : ℕ). get_or (f x) y 0) b j
    ∙ sym (index_range (f (at / 4096)) (at % 4096) (at % 4096 + len) i (omega arith))))

-- zeros, where each of the blocks has none but zeros
pub range-zeros : (f : ℕ → List ℕ) (n size at len : ℕ) → AreBlocks f 0 n → size ≤ 4096 * n
    → at + len ≤ size → ((b : ℕ) → at / 4096 ≤ b → 4096 * b < at + len → f b ≡ replicate 4096 0)
    → slice_range (take size (flat_map f (range_with_len 0 n))) at (at + len) ≡ replicate len 0
range-zeros f n size at len are within ends zeros =
    let all = length-blocks f 0 n are in
    let cut : length (take size (flat_map f (range_with_len 0 n))) ≡ size = length-take-le size (flat_map f (range_with_len 0 n)) (omega arith) in
    let left = length_range (take size (flat_map f (range_with_len 0 n))) at (at + len) (omega arith) in
    let right = length-replicate {A = ℕ} len 0 in
    ext_get_or 0 _ _ (omega arith) (λ i lt.
    (let few : i < len = omega arith in
    let block : 0 + (at + i) / 4096 ≡ (at + i) / 4096 = omega arith in
    index_range (take size (flat_map f (range_with_len 0 n))) at (at + len) i (omega arith)
    ∙ get_or-take size (flat_map f (range_with_len 0 n)) (at + i) 0 (omega arith)
    ∙ byte-blocks f 0 n (at + i) are (omega arith)
    ∙ ap (λ (b : ℕ). get_or (f b) ((at + i) % 4096) 0) block
    ∙ ap (λ (xs : List ℕ). get_or xs ((at + i) % 4096) 0) (zeros ((at + i) / 4096) (omega arith) (omega arith))
    ∙ get_or-replicate 4096 ((at + i) % 4096) 0 0 (omega arith)
    ∙ sym (get_or-replicate len i 0 0 few)))
