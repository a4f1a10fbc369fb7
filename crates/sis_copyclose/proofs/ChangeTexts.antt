-- The texts of the blocks that a change of a file writes.
use Rattle.std.proofs.Common.{◌≡◌, ◌⊎◌, inl, inr, ℕ, ◌+◌, ◌-◌, ◌*◌, ◌/◌, ◌%◌, ◌<◌, ◌≤◌, Bool, true, false, not, List, [], ◌∷◌, ◌++◌, length, drop, flat_map, replicate, refl, sym, ap, ap₂, ◌∙◌, arith}
use Rattle.std.specs.Prelude.{◌==◌, ◌&&◌, ◌≢◌, max, nat_lt, if◌then◌else◌}
use Rattle.std.specs.List.{range_with_len}
use Rattle.std.proofs.lemmas.Bool.{and_parts, ltb-true, not-true}
use Rattle.std.proofs.lemmas.List.{take_all, take-append-le}
use Rattle.sis_model.specs.World.{overwritten, resized}
use Rattle.sis_table.specs.Changes.{block_text, maps, rewrites_end, touched_blocks}
use Rattle.sis_table.specs.Good.{is_among}
use Rattle.sis_table.specs.Volume.{blocks_of}
use Rattle.sis_table.specs.declared.node.Node.{Node}
use Rattle.sis_table.proofs.ChangesBytes.{length-overwritten}
use Rattle.sis_table.proofs.ChangesRuns.{end_text-size, end_text-write, touched_texts}
use Rattle.sis_copyclose.specs.Inside.{IsChange, IsPlan, before_text, behind_text, changed_bytes, resize_by}
use Rattle.sis_copyclose.specs.declared.plan.Plan.{Plan}

-- bytes that have the size already
pub resized_same : (len : ℕ) (bytes : List ℕ) → length bytes ≡ len → resized len bytes ≡ bytes
resized_same len bytes is =
    take-append-le len bytes (replicate len 0) (omega (arith, is)) ∙ take_all len bytes (omega (arith, is))

no_bytes : (xs : List ℕ) → length xs ≡ 0 → xs ≡ []
no_bytes [] is = refl
no_bytes (x ∷ xs) is = absurd (omega (arith, is))

-- nothing is written at 0
pub overwritten_none : (more bytes : List ℕ) → length more ≡ 0 → overwritten 0 more bytes ≡ bytes
overwritten_none more bytes is =
    ap (λ (xs : List ℕ). overwritten 0 xs bytes) (no_bytes more is) ∙ refl

-- ---- which blocks

pub grows : (n : Node) (size : ℕ) (blocks : List ℕ) → rewrites_end n size blocks ≡ true
    → (n.size < size) × (is_among blocks (n.size / 4096) ≡ false)
grows n size blocks is =
    let all = and_parts (nat_lt n.size size && not (n.size % 4096 == 0) && maps n (n.size / 4096)) (not (is_among blocks (n.size / 4096))) is in
    let three = and_parts (nat_lt n.size size && not (n.size % 4096 == 0)) (maps n (n.size / 4096)) all.0 in
    let two = and_parts (nat_lt n.size size) (not (n.size % 4096 == 0)) three.0 in
    (ltb-true n.size size two.0, not-true (is_among blocks (n.size / 4096)) all.1)

-- the block at the old end, if it is written, and the blocks that are touched
pub plan_blocks : (n : Node) (size at count : ℕ) (p : Plan) → IsPlan n size at count p
    → range_with_len (p.old_size / 4096) p.ends ++ range_with_len p.first p.count
    ≡ (resize_by n size at count).blocks
plan_blocks n size at count p is =
    ap₂ (λ (xs ys : List ℕ). xs ++ ys)
    (ap₂ (λ (old ends : ℕ). range_with_len (old / 4096) ends) is.size_is is.ends)
    (ap₂ range_with_len is.first is.count_is)
    ∙ by (rewrites_end n size (touched_blocks at count))
  where
    by : (b : Bool) → range_with_len (n.size / 4096) (if b then 1 else 0) ++ touched_blocks at count
        ≡ (if b then n.size / 4096 ∷ touched_blocks at count else touched_blocks at count)
    by true = refl
    by false = refl

-- ---- which bytes

module _ (n : Node) (size at : ℕ) (more old : List ℕ) (change : IsChange n size at (length more)) (whole : length old ≡ n.size) where
  -- with new bytes, the file has just these
  written_bytes : 1 ≤ length more → size ≡ max n.size (at + length more)
      → changed_bytes size at more old ≡ overwritten at more old
  written_bytes some is =
      resized_same size (overwritten at more old)
      (length-overwritten at more old ∙ ap (λ (k : ℕ). max k (at + length more)) whole ∙ sym is)

  -- without, it has its old ones in another size
  sized_bytes : length more ≡ 0 → at ≡ 0 → changed_bytes size at more old ≡ resized size old
  sized_bytes none start =
      ap (λ (k : ℕ). resized size (overwritten k more old)) start
      ∙ ap (resized size) (overwritten_none more old none)

  -- the block at the old end has its old bytes
  end_bytes : (block : ℕ) → n.size < size → is_among (touched_blocks at (length more)) block ≡ false
      → block_text (changed_bytes size at more old) block ≡ resized 4096 (drop (4096 * block) old)
  end_bytes block grown out = by change.way
    where
      by : ((1 ≤ length more) × (size ≡ max n.size (at + length more)))
          ⊎ ((length more ≡ 0) × (at ≡ 0) × (size ≢ n.size))
          → block_text (changed_bytes size at more old) block
          ≡ resized 4096 (drop (4096 * block) old)
      by (inl way) =
          ap (λ (bytes : List ℕ). block_text bytes block) (written_bytes way.0 way.1)
          ∙ end_text-write at more old block out
      by (inr way) =
          ap (λ (bytes : List ℕ). block_text bytes block) (sized_bytes way.0 way.1)
          ∙ end_text-size size old block (omega (arith, whole, grown))

  -- the touched blocks have the new bytes, and old ones around them
  touched_bytes : flat_map (block_text (changed_bytes size at more old)) (touched_blocks at (length more))
      ≡ before_text at old ++ more ++ behind_text (at + length more) old
  touched_bytes = by change.way
    where
      by : ((1 ≤ length more) × (size ≡ max n.size (at + length more)))
          ⊎ ((length more ≡ 0) × (at ≡ 0) × (size ≢ n.size))
          → flat_map (block_text (changed_bytes size at more old)) (touched_blocks at (length more))
          ≡ before_text at old ++ more ++ behind_text (at + length more) old
      by (inl way) =
          let some = way.0 in
          let ends : at / 4096 + (blocks_of (at + length more) - at / 4096) ≡ blocks_of (at + length more) = omega arith in
          ap (λ (bytes : List ℕ). flat_map (block_text bytes) (touched_blocks at (length more))) (written_bytes some way.1)
          ∙ touched_texts at more old some
          ∙ ap (λ (k : ℕ). before_text at old ++ more ++ resized (4096 * k - (at + length more)) (drop (at + length more) old)) ends
      by (inr way) =
          let start = way.1 in
          let nothing : more ≡ [] = no_bytes more way.0 in
          ap₂ (λ (k : ℕ) (xs : List ℕ). flat_map (block_text (changed_bytes size at more old)) (touched_blocks k (length xs))) start nothing
          ∙ sym (ap₂ (λ (k : ℕ) (xs : List ℕ). before_text k old ++ xs ++ behind_text (k + length xs) old) start nothing)

  -- all blocks that are mapped anew
  pub changed_texts : (p : Plan) → IsPlan n size at (length more) p
      → flat_map (block_text (changed_bytes size at more old)) (resize_by n size at (length more)).blocks
      ≡ resized (4096 * p.ends) (drop (4096 * (n.size / 4096)) old)
      ++ (before_text at old ++ more ++ behind_text (at + length more) old)
  changed_texts p is =
      by (rewrites_end n size (touched_blocks at (length more))) refl
      ∙ ap (λ (k : ℕ). resized (4096 * k) (drop (4096 * (n.size / 4096)) old) ++ (before_text at old ++ more ++ behind_text (at + length more) old)) (sym is.ends)
    where
      by : (b : Bool) → rewrites_end n size (touched_blocks at (length more)) ≡ b
          → flat_map (block_text (changed_bytes size at more old))
          (if b then n.size / 4096 ∷ touched_blocks at (length more) else touched_blocks at (length more))
          ≡ resized (4096 * (if b then 1 else 0)) (drop (4096 * (n.size / 4096)) old)
          ++ (before_text at old ++ more ++ behind_text (at + length more) old)
      by true rewrites =
          let grown = grows n size (touched_blocks at (length more)) rewrites in
          ap₂ (λ (xs ys : List ℕ). xs ++ ys) (end_bytes (n.size / 4096) grown.0 grown.1) touched_bytes
      by false rewrites = touched_bytes
