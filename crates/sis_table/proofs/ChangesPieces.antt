-- The pieces of a file's bytes that lie in one block, and the zeros between mapped blocks.
use Rattle.std.proofs.Common.{◌≡◌, ℕ, ◌+◌, ◌-◌, ◌*◌, ◌/◌, ◌%◌, ◌<◌, ◌≤◌, List, length, drop, Option, None, Some, sym, ap, ap₂, ◌∙◌, arith, length-take, length-drop}
use Rattle.std.specs.Prelude.{slice_range, replicate}
use Rattle.std.specs.FinMap.{get}
use Rattle.std.proofs.lemmas.List.{ext_get_or, get_or-drop, get_or-take, length-replicate}
use Rattle.sis_table.specs.declared.node.Node.{Node}
use Rattle.sis_table.specs.Content.{block_at, content_of, mapped_block, own_content}
use Rattle.sis_table.specs.Volume.{VolumeTable, IsNode}
use Rattle.sis_table.proofs.ContentLemmas.{content_of-plain, length-mapped_block}
use Rattle.sis_table.proofs.ChangesNodes.{some_is}
use Rattle.sis_table.proofs.ChangesBytes.{byte, byte-own, length-own, zero_byte}

length-slice : (bytes : List ℕ) (from len : ℕ) → from + len ≤ length bytes → length (slice_range bytes from (from + len)) ≡ len
length-slice bytes from len le = omega (arith, le, length-take (from + len - from) (drop from bytes), length-drop from bytes)

byte-slice : (bytes : List ℕ) (from len i : ℕ) → i < len → byte (slice_range bytes from (from + len)) i ≡ byte bytes (from + i)
byte-slice bytes from len i lt = get_or-take (from + len - from) (drop from bytes) i 0 (omega (arith, lt)) ∙ get_or-drop from bytes i 0

module _ (v : VolumeTable) (n : Node) (live : List ℕ) (at len : ℕ) (h : IsNode v.layout n) (whole : length live ≡ 4096 * v.layout.total) (inside : at + len ≤ n.size) where
  length-piece : length (slice_range (own_content live n) at (at + len)) ≡ len
  length-piece = length-slice (own_content live n) at len (omega (arith, inside, length-own v.layout n live h whole))

  byte-piece : (i : ℕ) → i < len → byte (slice_range (own_content live n) at (at + len)) i ≡ byte (mapped_block live (get n.map ((at + i) / 4096))) ((at + i) % 4096)
  byte-piece i lt = byte-slice (own_content live n) at len i lt ∙ byte-own v.layout n live h whole (at + i) (omega (arith, lt, inside))

  -- Bytes that lie in one block are those of the block at its place.
  pub piece-mapped : (place : ℕ) → get n.map (at / 4096) ≡ Some place → at % 4096 + len ≤ 4096
      → slice_range (content_of v live n) at (at + len) ≡ slice_range (block_at live place) (at % 4096) (at % 4096 + len)
  piece-mapped place lies one =
      ap (λ (bytes : List ℕ). slice_range bytes at (at + len)) (content_of-plain v live n)
      ∙ ext_get_or 0 (slice_range (own_content live n) at (at + len)) (slice_range (block_at live place) (at % 4096) (at % 4096 + len)) (length-piece ∙ sym long) (λ i lt. each i (omega (arith, lt, length-piece)))
    where
      block_long : length (block_at live place) ≡ 4096
      block_long = length-mapped_block live v.layout.total (Some place) whole (λ p is. let same = some_is place p is in omega (arith, same, (h.placed (at / 4096) place lies).high))

      long : length (slice_range (block_at live place) (at % 4096) (at % 4096 + len)) ≡ len
      long = length-slice (block_at live place) (at % 4096) len (omega (arith, one, block_long))

      each : (i : ℕ) → i < len → byte (slice_range (own_content live n) at (at + len)) i ≡ byte (slice_range (block_at live place) (at % 4096) (at % 4096 + len)) i
      each i lt =
          let block : (at + i) / 4096 ≡ at / 4096 = omega (arith, lt, one) in
          let rest : (at + i) % 4096 ≡ at % 4096 + i = omega (arith, lt, one) in
          byte-piece i lt
          ∙ ap₂ (λ (b j : ℕ). byte (mapped_block live (get n.map b)) j) block rest
          ∙ ap (λ (o : Option ℕ). byte (mapped_block live o) (at % 4096 + i)) lies
          ∙ sym (byte-slice (block_at live place) (at % 4096) len i lt)

  -- Bytes of blocks that aren't mapped are zeros.
  pub piece-unmapped : ((block : ℕ) → at / 4096 ≤ block → 4096 * block < at + len → get n.map block ≡ None) → slice_range (content_of v live n) at (at + len) ≡ replicate len 0
  piece-unmapped gap =
      ap (λ (bytes : List ℕ). slice_range bytes at (at + len)) (content_of-plain v live n)
      ∙ ext_get_or 0 (slice_range (own_content live n) at (at + len)) (replicate len 0) (length-piece ∙ sym (length-replicate {A = ℕ} len 0)) (λ i lt. each i (omega (arith, lt, length-piece)))
    where
      each : (i : ℕ) → i < len → byte (slice_range (own_content live n) at (at + len)) i ≡ byte (replicate len 0) i
      each i lt =
          byte-piece i lt
          ∙ ap (λ (o : Option ℕ). byte (mapped_block live o) ((at + i) % 4096)) (gap ((at + i) / 4096) (omega arith) (omega (arith, lt)))
          ∙ zero_byte 4096 ((at + i) % 4096)
          ∙ sym (zero_byte len i)
