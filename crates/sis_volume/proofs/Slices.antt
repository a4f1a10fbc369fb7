-- Equal bytes at equal positions.
use Rattle.std.proofs.Common.{◌≡◌, inl, inr, ℕ, ◌+◌, ◌-◌, ◌<◌, ◌≤◌, List, length, take, drop, slice_index, sym, ◌∙◌, arith, length-drop}
use Rattle.std.specs.Prelude.{slice_range}
use Rattle.std.proofs.lemmas.Bool.{cases_lt}
use Rattle.std.proofs.lemmas.List.{ext_get_or, get_or-take, get_or-drop, length-take-le, take_all}

index_slice : (xs : List ℕ) (a b i : ℕ) → b ≤ length xs → i < b - a → slice_index (slice_range xs a b) i ≡ slice_index xs (a + i)
index_slice xs a b i le lt = get_or-take (b - a) (drop a xs) i 0 lt ∙ get_or-drop a xs i 0

length_slice : (xs : List ℕ) (a b : ℕ) → b ≤ length xs → length (slice_range xs a b) ≡ b - a
length_slice xs a b le = let n = length-drop a xs in length-take-le (b - a) (drop a xs) (omega arith)

pub slice_same : (old new : List ℕ) (a b : ℕ) → length new ≡ length old → b ≤ length old
    → ((i : ℕ) → a ≤ i → i < b → slice_index new i ≡ slice_index old i) → slice_range new a b ≡ slice_range old a b
slice_same old new a b size le same =
    let old_len = length_slice old a b le in
    let new_len = length_slice new a b (omega arith) in
    ext_get_or 0 (slice_range new a b) (slice_range old a b) (omega arith) (λ i lt.
    let here : i < b - a = omega arith in
    index_slice new a b i (omega arith) here ∙ same (a + i) (omega arith) (omega arith) ∙ sym (index_slice old a b i le here))

pub take_same : (old new : List ℕ) (n : ℕ) → length new ≡ length old → n ≤ length old
    → ((i : ℕ) → i < n → slice_index new i ≡ slice_index old i) → take n new ≡ take n old
take_same old new n size le same =
    let old_len = length-take-le n old le in
    let new_len = length-take-le n new (omega arith) in
    ext_get_or 0 (take n new) (take n old) (omega arith) (λ i lt.
    let here : i < n = omega arith in
    get_or-take n new i 0 here ∙ same i here ∙ sym (get_or-take n old i 0 here))

-- the same where the first n bytes may be all
pub take_below : (old new : List ℕ) (n : ℕ) → length new ≡ length old
    → ((i : ℕ) → i < length old → i < n → slice_index new i ≡ slice_index old i) → take n new ≡ take n old
take_below old new n size same = elim (cases_lt (length old) n) [
  | inl all ↦ (
      let both : new ≡ old = ext_get_or 0 new old size (λ i lt. same i (omega arith) (omega arith)) in
      take_all n new (omega arith) ∙ both ∙ sym (take_all n old (omega arith)))
  | inr le ↦ take_same old new n size le (λ i lt. same i (omega arith) lt)
]

-- the same of a slice that may end behind all
pub slice_below : (old new : List ℕ) (a b : ℕ) → length new ≡ length old
    → ((i : ℕ) → i < length old → a ≤ i → i < b → slice_index new i ≡ slice_index old i) → slice_range new a b ≡ slice_range old a b
slice_below old new a b size same =
    let old_len = length-drop a old in
    let new_len = length-drop a new in
    take_below (drop a old) (drop a new) (b - a) (omega arith) (λ i lt below.
    get_or-drop a new i 0 ∙ same (a + i) (omega arith) (omega arith) (omega arith) ∙ sym (get_or-drop a old i 0))
