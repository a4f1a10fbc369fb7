-- The bytes of files after a change.
use Rattle.std.proofs.Common.{◌≡◌, ℕ, ◌+◌, ◌-◌, ◌*◌, ◌/◌, ◌%◌, ◌<◌, ◌≤◌, Bool, true, false, List, [], ◌∷◌, length, map, Option, None, Some, refl, sym, ap, ◌∙◌, inl, inr, arith}
use Rattle.std.specs.Prelude.{nat_lt, max, is_some}
use Rattle.std.specs.List.{range_with_len}
use Rattle.std.specs.FinMap.{get, empty}
use Rattle.std.proofs.lemmas.List.{get_or_past}
use Rattle.std.proofs.lemmas.Bool.{cases_lt, cond-true}
use Rattle.sis_ranges.proofs.CutLemmas.{lt_yes}
use Rattle.sis_ranges.proofs.MapLemmas.{get-front}
use Rattle.sis_model.specs.World.{overwritten, resized}
use Rattle.sis_table.specs.declared.node.Node.{Node}
use Rattle.sis_table.specs.declared.kind.NodeKind.TheVariants.{Plain}
use Rattle.sis_table.specs.Edits.{MayMake}
use Rattle.sis_table.specs.Good.{is_among}
use Rattle.sis_table.specs.Content.{block_at, content_of, mapped_block, own_content}
use Rattle.sis_table.specs.Volume.{VolumeTable, IsNode, IsTable, blocks_of, greatest_size, node_with}
use Rattle.sis_table.specs.Changes.{AreFreePlaces, AreWritten, KeepsUsed, MayResize, Resize, WritesBlocks, block_text, made_file, maps, resized_node, size_of, touched_blocks, with_end, with_file, with_places, with_resize, write_of}
use Rattle.sis_table.proofs.ChangesMaps.{IsPlace, length-range, with_places-in, with_places-out}
use Rattle.sis_table.proofs.ChangesNodes.{changed-there, last_there, there_limits}
use Rattle.sis_table.proofs.ChangesUses.{there_used}
use Rattle.sis_table.proofs.ContentLemmas.{content-same, content_of-plain}
use Rattle.sis_ranges.proofs.PlaceLemmas.{found-at}
use Rattle.sis_table.proofs.ChangesBlocks.{not_with_end, range_has, resize_is, size_of-is, write_of-is}
use Rattle.sis_table.proofs.ChangesTable.{IsTable-make, IsTable-resize}
use Rattle.sis_table.proofs.ChangesBytes.{byte, byte-block_text, byte-own, byte-resized, byte-unwritten, length-overwritten, length-own, length-resized, own_content-is, zero_byte}

-- a block that was written lies at its place
pub text_at : (live bytes blocks places : List ℕ) (q p : ℕ) → AreWritten live blocks places bytes → IsPlace blocks places q p → block_at live p ≡ block_text bytes q
text_at live bytes [] places q p written is = absurd is
text_at live bytes (b ∷ bs) [] q p written is = absurd is
text_at live bytes (b ∷ bs) (x ∷ xs) q p written is =
    let first : block_at live x ≡ block_text bytes b = cc in
    let rest : map (block_at live) xs ≡ map (block_text bytes) bs = cc in
    elim is [
      | inl here ↦ ap (block_at live) (sym here.1) ∙ first ∙ ap (block_text bytes) here.0
      | inr later ↦ text_at live bytes bs xs q p rest later
    ]

block_byte : (i : ℕ) → 4096 * (i / 4096) + i % 4096 ≡ i
block_byte i = omega arith

rest_below : (i : ℕ) → i % 4096 < 4096
rest_below i = omega arith

mapped_same : (old new : List ℕ) (o : Option ℕ) → ((place : ℕ) → o ≡ Some place → block_at new place ≡ block_at old place) → mapped_block new o ≡ mapped_block old o
mapped_same old new None h = refl
mapped_same old new (Some place) h = h place refl

-- a file's blocks have the same bytes where the used places have
blocks_kept : (v : VolumeTable) (old new : List ℕ) (n : Node) (block : ℕ) → node_with v n.id ≡ Some n → KeepsUsed v old new → mapped_block new (get n.map block) ≡ mapped_block old (get n.map block)
blocks_kept v old new n block is keeps = mapped_same old new (get n.map block) (λ place lies. keeps place (there_used v n.id n block place is lies))

-- A file of the table has the same bytes still, in any table.
pub content_of-kept : (v w : VolumeTable) (old new : List ℕ) (id : ℕ) (n : Node) → node_with v id ≡ Some n → KeepsUsed v old new → content_of w new n ≡ content_of v old n
content_of-kept v w old new id n is keeps =
    content_of-plain w new n
    ∙ content-same n old new (λ place maps. let there = found-at n.map place maps in keeps place (there_used v id n there.0 place is there.1))
    ∙ sym (content_of-plain v old n)

-- ---- another size

module _ (v : VolumeTable) (n : Node) (r : Resize) (places old new bytes : List ℕ) (t : IsTable v) (may : MayResize v n r) (free : AreFreePlaces v (length r.blocks) places)
    (image : WritesBlocks v r.blocks places old new bytes) where
  abbrev after : Node
  after = resized_node r.size r.blocks places n

  before_limits : IsNode v.layout n
  before_limits = there_limits v n.id n t may.there

  after_limits : IsNode v.layout after
  after_limits =
      there_limits (with_resize n (Some r) places v) n.id after (IsTable-resize v n r places t may.there may.limit may.version (resize_is n r may.change).below free)
      (changed-there v n.id (resized_node r.size r.blocks places) n (λ m. refl) may.there)

  -- where a block of the file lies afterwards
  after_get : (b : ℕ) → b < blocks_of r.size → get after.map b ≡ get (with_places r.blocks places n.map) b
  after_get b lt = get-front (with_places r.blocks places n.map) (blocks_of r.size) b ∙ cond-true (nat_lt b (blocks_of r.size)) (get (with_places r.blocks places n.map) b) None (lt_yes b (blocks_of r.size) lt)

  -- a written block has the new bytes
  written_byte : (i : ℕ) → i / 4096 < blocks_of r.size → is_among r.blocks (i / 4096) ≡ true → byte (mapped_block new (get after.map (i / 4096))) (i % 4096) ≡ byte bytes i
  written_byte i lt among =
      let found = with_places-in r.blocks places n.map (i / 4096) free.size among in
      ap (λ (o : Option ℕ). byte (mapped_block new o) (i % 4096)) (after_get (i / 4096) lt ∙ found.1)
      ∙ ap (λ (text : List ℕ). byte text (i % 4096)) (text_at new bytes r.blocks places (i / 4096) found.0 image.written found.2)
      ∙ byte-block_text bytes (i / 4096) (i % 4096) (rest_below i)
      ∙ ap (byte bytes) (block_byte i)

  -- another block has what it had
  kept_byte : (i : ℕ) → i / 4096 < blocks_of r.size → is_among r.blocks (i / 4096) ≡ false → byte (mapped_block new (get after.map (i / 4096))) (i % 4096) ≡ byte (mapped_block old (get n.map (i / 4096))) (i % 4096)
  kept_byte i lt other =
      ap (λ (o : Option ℕ). byte (mapped_block new o) (i % 4096)) (after_get (i / 4096) lt ∙ with_places-out r.blocks places n.map (i / 4096) other)
      ∙ ap (λ (text : List ℕ). byte text (i % 4096)) (blocks_kept v old new n (i / 4096) may.there image.kept)

  -- which is zeros behind the old end
  past_byte : (i : ℕ) → i < r.size → n.size ≤ i → is_among r.blocks (i / 4096) ≡ false → byte (mapped_block old (get n.map (i / 4096))) (i % 4096) ≡ 0
  past_byte i lt ge other = from (get n.map (i / 4096)) refl
    where
      from : (o : Option ℕ) → get n.map (i / 4096) ≡ o → byte (mapped_block old o) (i % 4096) ≡ 0
      from None e = zero_byte 4096 (i % 4096)
      from (Some place) e =
          let inside : i / 4096 < blocks_of n.size = (before_limits.placed (i / 4096) place e).inside in
          let last : i / 4096 ≡ n.size / 4096 = omega (arith, inside, ge) in
          let part : 0 < n.size % 4096 = omega (arith, inside, ge) in
          let mapped : maps n (n.size / 4096) ≡ true = ap (λ (b : ℕ). is_some (get n.map b)) (sym last) ∙ ap (λ (o : Option ℕ). is_some o) e in
          let among : is_among r.blocks (i / 4096) ≡ true = ap (is_among r.blocks) last ∙ (resize_is n r may.change).end (omega (arith, lt, ge)) part mapped in
          absurd (cc)

  -- The file has the new bytes, where those of other blocks are the old ones.
  pub own_content-resized : length bytes ≡ r.size → ((i : ℕ) → i < r.size → is_among r.blocks (i / 4096) ≡ false → byte bytes i ≡ byte (own_content old n) i) → own_content new after ≡ bytes
  own_content-resized size kept = own_content-is v.layout after new after_limits image.new_size bytes size (λ i lt. at i lt (omega (arith, lt)) (is_among r.blocks (i / 4096)) refl)
    where
      at : (i : ℕ) → i < r.size → i / 4096 < blocks_of r.size → (t : Bool) → is_among r.blocks (i / 4096) ≡ t → byte (mapped_block new (get after.map (i / 4096))) (i % 4096) ≡ byte bytes i
      at i lt block true e = written_byte i block e
      at i lt block false e = kept_byte i block e ∙ old_byte i lt e ∙ sym (kept i lt e)
        where
          old_byte : (i : ℕ) → i < r.size → is_among r.blocks (i / 4096) ≡ false → byte (mapped_block old (get n.map (i / 4096))) (i % 4096) ≡ byte (own_content old n) i
          old_byte i lt e = elim (cases_lt i n.size) [
            | inl inside ↦ sym (byte-own v.layout n old before_limits image.old_size i inside)
            | inr past ↦ past_byte i lt past e ∙ sym (get_or_past (own_content old n) i 0 (omega (arith, past, length-own v.layout n old before_limits image.old_size)))
          ]

-- ---- a write, a new size and a new file

-- the file has the written bytes
pub content_of-write : (v w : VolumeTable) (n : Node) (at : ℕ) (more : List ℕ) (r : Resize) (places old new : List ℕ) → IsTable v → MayResize v n r → AreFreePlaces v (length r.blocks) places
    → write_of n at (length more) ≡ Some r → WritesBlocks v r.blocks places old new (overwritten at more (content_of v old n))
    → content_of w new (resized_node r.size r.blocks places n) ≡ overwritten at more (content_of v old n)
content_of-write v w n at more r places old new t may free is image =
    let facts = write_of-is n at (length more) r is in
    let plain : content_of v old n ≡ own_content old n = content_of-plain v old n in
    let long : length (own_content old n) ≡ n.size = length-own v.layout n old (there_limits v n.id n t may.there) image.old_size in
    let size : length (overwritten at more (content_of v old n)) ≡ r.size =
    length-overwritten at more (content_of v old n) ∙ ap (λ (xs : List ℕ). max (length xs) (at + length more)) plain ∙ ap (λ (k : ℕ). max k (at + length more)) long ∙ sym facts.size in
    content_of-plain w new (resized_node r.size r.blocks places n)
    ∙ own_content-resized v n r places old new (overwritten at more (content_of v old n)) t may free image size (λ i lt other.
    byte-unwritten at more (content_of v old n) i (λ low high. untouched i low high (sym (ap (λ (bs : List ℕ). is_among bs (i / 4096)) facts.blocks) ∙ other))
    ∙ ap (λ (xs : List ℕ). byte xs i) plain)
  where
    untouched : (i : ℕ) → at ≤ i → i < at + length more → is_among (with_end n r.size (touched_blocks at (length more))) (i / 4096) ≡ false → ⊥
    untouched i low high out =
        let touched : is_among (touched_blocks at (length more)) (i / 4096) ≡ true = range_has (at / 4096) (blocks_of (at + length more) - at / 4096) (i / 4096) (omega (arith, low)) (omega (arith, low, high)) in
        let other : is_among (touched_blocks at (length more)) (i / 4096) ≡ false = not_with_end n r.size (touched_blocks at (length more)) (i / 4096) out in
        absurd (cc)

-- it has been cut, or has zeros behind its old end
pub content_of-size : (v w : VolumeTable) (n : Node) (len : ℕ) (r : Resize) (places old new : List ℕ) → IsTable v → MayResize v n r → AreFreePlaces v (length r.blocks) places
    → size_of n len ≡ Some r → WritesBlocks v r.blocks places old new (resized len (content_of v old n))
    → content_of w new (resized_node r.size r.blocks places n) ≡ resized len (content_of v old n)
content_of-size v w n len r places old new t may free is image =
    let facts = size_of-is n len r is in
    content_of-plain w new (resized_node r.size r.blocks places n)
    ∙ own_content-resized v n r places old new (resized len (content_of v old n)) t may free image (length-resized len (content_of v old n) ∙ sym facts.size) (λ i lt other.
    byte-resized len (content_of v old n) i (omega (arith, lt, facts.size)) ∙ ap (λ (xs : List ℕ). byte xs i) (content_of-plain v old n))

-- a new file has the bytes with which it was made
pub content_of-made : (v w : VolumeTable) (name places old new bytes : List ℕ) → IsTable v → MayMake v v.next_id Plain name → length bytes ≤ greatest_size → AreFreePlaces v (blocks_of (length bytes)) places
    → WritesBlocks v (range_with_len 0 (blocks_of (length bytes))) places old new bytes → content_of w new (made_file v.next_id name (length bytes) places) ≡ bytes
content_of-made v w name places old new bytes t may limit free image =
    content_of-plain w new file ∙ own_content-is v.layout file new limits image.new_size bytes refl (λ i lt. at i (omega (arith, lt)))
  where
    file : Node
    file = made_file v.next_id name (length bytes) places

    limits : IsNode v.layout file
    limits = there_limits (with_file name (length bytes) places v) v.next_id file (IsTable-make v name (length bytes) places t may limit free) (last_there v file t refl)

    at : (i : ℕ) → i / 4096 < blocks_of (length bytes) → byte (mapped_block new (get (with_places (range_with_len 0 (blocks_of (length bytes))) places empty) (i / 4096))) (i % 4096) ≡ byte bytes i
    at i lt =
        let found = with_places-in (range_with_len 0 (blocks_of (length bytes))) places empty (i / 4096) (free.size ∙ sym (length-range 0 (blocks_of (length bytes)))) (range_has 0 (blocks_of (length bytes)) (i / 4096) (omega arith) (omega (arith, lt))) in
        ap (λ (o : Option ℕ). byte (mapped_block new o) (i % 4096)) found.1
        ∙ ap (λ (text : List ℕ). byte text (i % 4096)) (text_at new bytes (range_with_len 0 (blocks_of (length bytes))) places (i / 4096) found.0 image.written found.2)
        ∙ byte-block_text bytes (i / 4096) (i % 4096) (rest_below i)
        ∙ ap (byte bytes) (block_byte i)
