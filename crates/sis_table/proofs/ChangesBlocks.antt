-- Which blocks a write or a new size maps anew.
use Rattle.std.proofs.Common.{◌≡◌, ℕ, zero, suc, ◌+◌, ◌-◌, ◌/◌, ◌%◌, ◌<◌, ◌≤◌, Bool, true, false, cond, not, ◌&&◌, ◌||◌, List, [], ◌∷◌, length, None, Some, refl, ap, ◌∙◌, subst, inl, inr, arith}
use Rattle.std.specs.Prelude.{◌==◌, nat_lt, max}
use Rattle.std.specs.List.{range_with_len}
use Rattle.std.proofs.lemmas.Bool.{and_parts, or_left, or_right, or_from, eqb-false, eq-eqb, ne_eqb, ltb-true, cases_Bool}
use Rattle.std.proofs.lemmas.Bool.Decides.{nat_tests}
use Rattle.sis_table.specs.declared.node.Node.{Node}
use Rattle.sis_table.specs.Good.{is_among}
use Rattle.sis_table.specs.Volume.{blocks_of}
use Rattle.sis_table.specs.Changes.{IsChangeOf, Resize, maps, rewrites_end, resize_to, size_of, touched_blocks, with_end, write_of}
use Rattle.sis_ranges.proofs.PlaceLemmas.{AreDistinct}
use Rattle.sis_table.proofs.ChangesNodes.{not_some, some_is}
use Rattle.sis_table.proofs.ChangesMaps.{AreBelow}

-- The blocks lie inside the new size, each once, and among them is the one at the old end where
-- bytes appear behind that end.
pub record IsResize (n : Node) (r : Resize) : Type 0 where
  pub below : AreBelow (blocks_of r.size) r.blocks
  pub once : AreDistinct r.blocks
  pub end : n.size < r.size → 0 < n.size % 4096 → maps n (n.size / 4096) ≡ true → is_among r.blocks (n.size / 4096) ≡ true

-- ---- stretches of blocks

pub below_range : (end first count : ℕ) → first + count ≤ end → AreBelow end (range_with_len first count)
below_range end first zero le = tt
below_range end first (suc n) le = (omega arith, below_range end (first + 1) n (omega arith))

low_out : (first count q : ℕ) → q < first → is_among (range_with_len first count) q ≡ false
low_out first zero q lt = refl
low_out first (suc n) q lt = or_from (first == q) (is_among (range_with_len (first + 1) n) q) (ne_eqb first q (λ e. omega arith)) (low_out (first + 1) n q (omega arith))

pub once_range : (first count : ℕ) → AreDistinct (range_with_len first count)
once_range first zero = tt
once_range first (suc n) = (low_out (first + 1) n first (omega arith), once_range (first + 1) n)

pub range_has : (first count q : ℕ) → first ≤ q → q < first + count → is_among (range_with_len first count) q ≡ true
range_has first zero q low high = absurd (omega arith)
range_has first (suc n) q low high = elim (cases_Bool (first == q)) [
  | inl here ↦ or_left (first == q) (is_among (range_with_len (first + 1) n) q) here
  | inr other ↦ or_right (first == q) (is_among (range_with_len (first + 1) n) q) (range_has (first + 1) n q (later first q low other) (omega arith))
]
  where
    later : (first q : ℕ) → first ≤ q → (first == q) ≡ false → first + 1 ≤ q
    later first q low other = grind (arith, nat_tests, low, other)

-- ---- with the block at the old end

module _ (n : Node) (size : ℕ) (blocks : List ℕ) where
  end_below : n.size < size → n.size / 4096 < blocks_of size
  end_below lt = omega arith

  grows : rewrites_end n size blocks ≡ true → (n.size < size) × (is_among blocks (n.size / 4096) ≡ false)
  grows h =
      let last = and_parts (nat_lt n.size size && not (n.size % 4096 == 0) && maps n (n.size / 4096)) (not (is_among blocks (n.size / 4096))) h in
      let first = and_parts (nat_lt n.size size && not (n.size % 4096 == 0)) (maps n (n.size / 4096)) last.0 in
      let grown = and_parts (nat_lt n.size size) (not (n.size % 4096 == 0)) first.0 in
      (ltb-true n.size size grown.0, turned (is_among blocks (n.size / 4096)) last.1)
    where
      turned : (b : Bool) → not b ≡ true → b ≡ false
      turned true e = absurd cc
      turned false e = refl

  rewrites : n.size < size → 0 < n.size % 4096 → maps n (n.size / 4096) ≡ true → is_among blocks (n.size / 4096) ≡ false → rewrites_end n size blocks ≡ true
  rewrites lt part mapped other = all (n.size % 4096) (maps n (n.size / 4096)) (is_among blocks (n.size / 4096)) lt part mapped other
    where
      all : (rest : ℕ) (m t : Bool) → n.size < size → 0 < rest → m ≡ true → t ≡ false → (nat_lt n.size size && not (rest == 0) && m && not t) ≡ true
      all rest m t lt part is off = grind (arith, nat_tests, lt, part, is, off)

  pub resize_to-is : AreBelow (blocks_of size) blocks → AreDistinct blocks → IsResize n (resize_to n size blocks)
  resize_to-is below once = record {
    below = elim (rewrites_end n size blocks) as (λ t. rewrites_end n size blocks ≡ t → AreBelow (blocks_of size) (cond t (n.size / 4096 ∷ blocks) blocks)) [
      | true ↦ λ e. (end_below (grows e).0, below)
      | false ↦ λ e. below
    ] refl;
    once = elim (rewrites_end n size blocks) as (λ t. rewrites_end n size blocks ≡ t → AreDistinct (cond t (n.size / 4096 ∷ blocks) blocks)) [
      | true ↦ λ e. ((grows e).1, once)
      | false ↦ λ e. once
    ] refl;
    end = λ lt part mapped. elim (is_among blocks (n.size / 4096)) as (λ t. is_among blocks (n.size / 4096) ≡ t → is_among (with_end n size blocks) (n.size / 4096) ≡ true) [
      | true ↦ λ e. among e
      | false ↦ λ e. ap (λ (t : Bool). is_among (cond t (n.size / 4096 ∷ blocks) blocks) (n.size / 4096)) (rewrites lt part mapped e)
          ∙ or_left (n.size / 4096 == n.size / 4096) (is_among blocks (n.size / 4096)) (eq-eqb (n.size / 4096) (n.size / 4096) refl)
    ] refl;
  }
    where
      among : is_among blocks (n.size / 4096) ≡ true → is_among (with_end n size blocks) (n.size / 4096) ≡ true
      among e = elim (rewrites_end n size blocks) as (λ t. is_among (cond t (n.size / 4096 ∷ blocks) blocks) (n.size / 4096) ≡ true) [
        | true ↦ or_right (n.size / 4096 == n.size / 4096) (is_among blocks (n.size / 4096)) e
        | false ↦ e
      ]

-- a block that isn't among these isn't among those without the one at the old end
pub not_with_end : (n : Node) (size : ℕ) (blocks : List ℕ) (q : ℕ) → is_among (with_end n size blocks) q ≡ false → is_among blocks q ≡ false
not_with_end n size blocks q = elim (rewrites_end n size blocks) as (λ t. is_among (cond t (n.size / 4096 ∷ blocks) blocks) q ≡ false → is_among blocks q ≡ false) [
  | true ↦ λ h. second (n.size / 4096 == q) (is_among blocks q) h
  | false ↦ λ h. h
]
  where
    second : (a b : Bool) → (a || b) ≡ false → b ≡ false
    second true b h = absurd cc
    second false b h = h

-- how many there are
pub length-with_end : (n : Node) (size : ℕ) (blocks : List ℕ) → length (with_end n size blocks) ≡ cond (rewrites_end n size blocks) 1 0 + length blocks
length-with_end n size blocks = elim (rewrites_end n size blocks) as (λ t. length (cond t (n.size / 4096 ∷ blocks) blocks) ≡ cond t 1 0 + length blocks) [
  | true ↦ omega arith
  | false ↦ omega arith
]

-- ---- writes and sizes

-- a write
pub record IsWriteResize (n : Node) (at count : ℕ) (r : Resize) : Type 0 where
  pub some : 0 < count
  pub size : r.size ≡ max n.size (at + count)
  pub blocks : r.blocks ≡ with_end n r.size (touched_blocks at count)
  pub is : IsResize n r

touched_end : (at count : ℕ) → 0 < count → at / 4096 + (blocks_of (at + count) - at / 4096) ≡ blocks_of (at + count)
touched_end at count some = omega arith

pub write_of-is : (n : Node) (at count : ℕ) (r : Resize) → write_of n at count ≡ Some r → IsWriteResize n at count r
write_of-is n at count r is =
    elim (count == 0) as (λ t. (count == 0) ≡ t → cond t None (Some (resize_to n (max n.size (at + count)) (touched_blocks at count))) ≡ Some r → IsWriteResize n at count r) [
      | true ↦ λ e h. absurd (not_some r h)
      | false ↦ λ e h. subst (λ (s : Resize). IsWriteResize n at count s) (some_is (resize_to n (max n.size (at + count)) (touched_blocks at count)) r h) (made (above count e))
    ] refl is
  where
    above : (count : ℕ) → (count == 0) ≡ false → 0 < count
    above count e = grind (arith, nat_tests, e)

    made : 0 < count → IsWriteResize n at count (resize_to n (max n.size (at + count)) (touched_blocks at count))
    made some = record {
      some = some;
      size = refl;
      blocks = refl;
      is = resize_to-is n (max n.size (at + count)) (touched_blocks at count)
          (below_range (blocks_of (max n.size (at + count))) (at / 4096) (blocks_of (at + count) - at / 4096) (inside some))
          (once_range (at / 4096) (blocks_of (at + count) - at / 4096));
    }
      where
        inside : 0 < count → at / 4096 + (blocks_of (at + count) - at / 4096) ≤ blocks_of (max n.size (at + count))
        inside some = omega arith

-- a new size
pub record IsSizeResize (n : Node) (len : ℕ) (r : Resize) : Type 0 where
  pub other : len ≡ n.size → ⊥
  pub size : r.size ≡ len
  pub is : IsResize n r

pub size_of-is : (n : Node) (len : ℕ) (r : Resize) → size_of n len ≡ Some r → IsSizeResize n len r
size_of-is n len r is =
    elim (len == n.size) as (λ t. (len == n.size) ≡ t → cond t None (Some (resize_to n len [])) ≡ Some r → IsSizeResize n len r) [
      | true ↦ λ e h. absurd (not_some r h)
      | false ↦ λ e h. subst (λ (s : Resize). IsSizeResize n len s) (some_is (resize_to n len []) r h)
          (record { other = eqb-false len n.size e; size = refl; is = resize_to-is n len [] tt tt })
    ] refl is

-- either of them
pub resize_is : (n : Node) (r : Resize) → IsChangeOf n r → IsResize n r
resize_is n r h = elim h [
  | inl write ↦ (write_of-is n write.0 write.1 r write.2).is
  | inr size ↦ (size_of-is n size.0 r size.1).is
]
