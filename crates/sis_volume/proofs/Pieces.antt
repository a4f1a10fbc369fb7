-- The bytes of a piece of a file.
use Rattle.std.proofs.Common.{◌≡◌, ℕ, ◌+◌, ◌-◌, ◌*◌, ◌/◌, ◌%◌, ◌<◌, Bool, true, false, cond, List, [], ◌∷◌, length, drop, Option, None, Some, refl, sym, ap, ◌∙◌, subst, arith, length-drop}
use Rattle.std.specs.List.{AllByRecursion}
use Rattle.std.specs.Prelude.{◌==◌, ◌≢◌, IsSome, find, is_some, slice_range}
use Rattle.std.specs.FinMap.{FinMap, get}
use Rattle.std.specs.Ordering.{nat_cmp}
use Rattle.std.proofs.lemmas.Bool.{true≢false}
use Rattle.std.proofs.lemmas.List.{length-take-le, length-replicate}
use Rattle.sis_disk.specs.declared.layout.Layout.{Layout}
use Rattle.sis_ranges.specs.Extents.{IsLeast, is_mapped}
use Rattle.sis_table.specs.Content.{block_at, content_by, content_of, mapped_block, own_content}
use Rattle.sis_table.specs.Edits.{IfThere}
use Rattle.sis_table.specs.Kinds.{is_plain, plain_node}
use Rattle.sis_table.proofs.CallerLemmas.{all_nodes}
use Rattle.sis_table.specs.Volume.{VolumeTable, IsNode, IsTable, blocks_of, node_with}
use Rattle.sis_table.specs.declared.kind.NodeKind.{NodeKind}
use Rattle.sis_table.specs.declared.kind.NodeKind.TheVariants.{Plain}
use Rattle.sis_table.specs.declared.node.Node.{Node}
use Rattle.sis_view.specs.declared.piece.Piece.{Piece}
use Rattle.sis_view.specs.declared.piece.Piece.TheVariants as piece
use Rattle.sis_volume.specs.Lending.{AreBytes, AreZeros, HasShape, IsNextPart, IsPiece, IsStored, IsWithinDisk, Lends, piece_bytes, piece_len}
use Rattle.sis_volume.specs.declared.lending.Part.{Part}
use Rattle.sis_volume.specs.declared.lending.Part.TheVariants as part
use Rattle.sis_volume.proofs.Blockwise.{AreBlocks, range-block, range-zeros}

-- ---- zeros

unmapped : (m : FinMap nat_cmp ℕ) (b : ℕ) → is_mapped m b ≡ false → get m b ≡ None
unmapped m b is = by (get m b) is
  where
    by : (o : Option ℕ) → is_some o ≡ false → o ≡ None
    by None e = refl
    by (Some p) e = absurd (true≢false e)

-- the next mapped block, or the end of the file
pub zeros_next : (n : Node) (at next : ℕ) → at < n.size → get n.map (at / 4096) ≡ None
    → IsLeast (is_mapped n.map) (at / 4096) (blocks_of n.size) (Some next)
    → (at < 4096 * next) × AreZeros n at (4096 * next - at)
zeros_next n at next lt none least =
    let ge = least.0 in
    let below = least.1 in
    let other : at / 4096 ≢ next = λ same. true≢false (sym least.2 ∙ ap (λ (b : ℕ). is_some (get n.map b)) (sym same) ∙ ap is_some none) in
    let later : at < 4096 * next = omega arith in
    let there : (at + (4096 * next - at)) / 4096 ≡ next = omega arith in (
      later,
      record {
        some = omega arith;
        within = omega arith;
        unmapped = λ b low high. unmapped n.map b (least.3 b low (omega arith));
        ends = λ more. (omega arith, ap (λ (b : ℕ). is_some (get n.map b)) there ∙ least.2);
      },
    )

pub zeros_last : (n : Node) (at : ℕ) → at < n.size
    → IsLeast (is_mapped n.map) (at / 4096) (blocks_of n.size) None
    → AreZeros n at (n.size - at)
zeros_last n at lt none = record {
  some = omega arith;
  within = omega arith;
  unmapped = λ b low high. unmapped n.map b (none b low (omega arith));
  ends = λ more. absurd (omega arith);
}

-- ---- parts

-- a block of a file is one
block_len : (l : Layout) (live : List ℕ) (o : Option ℕ) → length live ≡ 4096 * l.total
    → ((place : ℕ) → o ≡ Some place → place < l.total) → length (mapped_block live o) ≡ 4096
block_len l live None len within = length-replicate {A = ℕ} 4096 0
block_len l live (Some place) len within =
    let lt = within place refl in
    let left = length-drop (4096 * place) live in
    length-take-le (4096 * place + 4096 - 4096 * place) (drop (4096 * place) live) (omega arith) ∙ omega arith

-- a part of a block is mapped
stored_mapped : (n : Node) (at : ℕ) (p : Part) → IsNextPart n at p → IsStored p
    → IsSome (get n.map (at / 4096))
stored_mapped n at (part.Stored place from len) has stored = has.2.mapped
stored_mapped n at (part.Zeros len) has stored = absurd stored

module _ (l : Layout) (n : Node) (is : IsNode l n) where
  pub blocks_are : (live : List ℕ) → length live ≡ 4096 * l.total
      → AreBlocks (λ b. mapped_block live (get n.map b)) 0 (blocks_of n.size)
  blocks_are live len b ge lt =
      block_len l live (get n.map b) len (λ place at. (is.placed b place at).high)

  -- a part lies within the disk
  pub part_within : (size at : ℕ) (p : Part) → size ≡ 4096 * l.total → IsNextPart n at p
      → IsWithinDisk size p
  part_within size at (part.Stored place from len) whole has =
      let high = (is.placed (at / 4096) place has.0).high in
      let ends = has.2.ends in
      let here = has.1 in
      (omega arith, omega arith)
  part_within size at (part.Zeros len) whole has = tt

  -- what is lent of a part is a piece
  pub piece_is : (at : ℕ) (p : Part) (lent : Piece) → IsNextPart n at p → HasShape p lent
      → IsPiece n at lent
  piece_is at (part.Stored place from len) (piece.Bytes bytes) has shape =
      subst (λ (k : ℕ). AreBytes n at k) (sym shape) has.2
  piece_is at (part.Stored place from len) (piece.Zeros count) has shape = absurd shape
  piece_is at (part.Zeros len) (piece.Bytes bytes) has shape = absurd shape
  piece_is at (part.Zeros len) (piece.Zeros count) has shape =
      subst (λ (k : ℕ). AreZeros n at k) (sym shape) has

  -- and has the bytes of the file's own blocks
  pub own_bytes : (live : List ℕ) (at : ℕ) (p : Part) (lent : Piece)
      → length live ≡ 4096 * l.total → at < n.size → IsNextPart n at p → HasShape p lent
      → Lends live p lent
      → piece_bytes lent ≡ slice_range (own_content live n) at (at + piece_len lent)
  own_bytes live at (part.Stored place from len) (piece.Bytes bytes) whole lt has shape lent =
      let ends = has.2.ends in
      let some = has.2.some in
      let here = has.1 in
      lent
      ∙ ap (λ (k : ℕ). slice_range (block_at live place) k (k + len)) here
      ∙ ap (λ (o : Option ℕ). slice_range (mapped_block live o) (at % 4096) (at % 4096 + len)) (sym has.0)
      ∙ sym (range-block (λ b. mapped_block live (get n.map b)) (blocks_of n.size) n.size at len (blocks_are live whole)
      (omega arith) (omega arith) (omega arith) some)
      ∙ ap (λ (k : ℕ). slice_range (own_content live n) at (at + k)) (sym shape)
  own_bytes live at (part.Stored place from len) (piece.Zeros count) whole lt has shape lent = absurd shape
  own_bytes live at (part.Zeros len) (piece.Bytes bytes) whole lt has shape lent = absurd shape
  own_bytes live at (part.Zeros len) (piece.Zeros count) whole lt has shape lent =
      let within = has.within in
      sym (range-zeros (λ b. mapped_block live (get n.map b)) (blocks_of n.size) n.size at count (blocks_are live whole)
      (omega arith) (omega arith) (λ b ge below. ap (mapped_block live) (has.unmapped b ge (omega arith))))

-- those of a plain file are its own
pub own-plain : (v : VolumeTable) (live : List ℕ) (n : Node) → plain_node n ≡ true
    → content_of v live n ≡ own_content live n
own-plain v live n plain = by n.kind plain
  where
    by : (k : NodeKind) → is_plain k ≡ true → content_by k v live n ≡ own_content live n
    by Plain e = refl

-- ---- the file with an id

found_is : (l : Layout) (test : Node → Bool) (nodes : List Node) (n : Node)
    → AllByRecursion (IsNode l) nodes → find test nodes ≡ Some n → IsNode l n
found_is l test [] n all is = absurd cc
found_is l test (m ∷ ms) n all is = by (test m) (λ e. found_is l test ms n all.1 e) is
  where
    by : (b : Bool) → (find test ms ≡ Some n → IsNode l n)
        → cond b (Some m) (find test ms) ≡ Some n → IsNode l n
    by true later e = let same : m ≡ n = cc in subst (IsNode l) same all.0
    by false later e = later e

pub node_is : (v : VolumeTable) (id : ℕ) (n : Node) → IsTable v → node_with v id ≡ Some n
    → IsNode v.layout n
node_is v id n table is =
    found_is v.layout (λ m. m.id == id) v.nodes n (all_nodes v.layout v.next_id [] v.nodes table.nodes) is

there_is : (o : Option Node) (P : Node → Type 0) → IfThere o P → (n : Node) × (o ≡ Some n) × P n
there_is None P h = absurd h
there_is (Some n) P h = (n, refl, h)

-- what holds of the file that is there
there_by : (o : Option Node) (n : Node) (P : Node → Type 0) → o ≡ Some n → P n → IfThere o P
there_by o n P is h = subst (λ (x : Option Node). IfThere x P) (sym is) h

if_there : (o : Option Node) (n : Node) (P : Node → Type 0) → o ≡ Some n → IfThere o P → P n
if_there o n P is h = subst (λ (x : Option Node). IfThere x P) is h

module _ (v : VolumeTable) (file at : ℕ) (p : Part) (table : IsTable v) (there : IfThere (node_with v file) (λ n. at < n.size)) (has : IfThere (node_with v file) (λ n. IsNextPart n at p)) where
  pub within_there : (size : ℕ) → size ≡ 4096 * v.layout.total → IsWithinDisk size p
  within_there size whole =
      let n = there_is (node_with v file) (λ n. IsNextPart n at p) has in
      part_within v.layout n.0 (node_is v file n.0 table n.1) size at p whole n.2

  pub piece_there : (lent : Piece) → HasShape p lent
      → IfThere (node_with v file) (λ n. IsPiece n at lent)
  piece_there lent shape =
      let n = there_is (node_with v file) (λ n. IsNextPart n at p) has in
      there_by (node_with v file) n.0 (λ n. IsPiece n at lent) n.1
      (piece_is v.layout n.0 (node_is v file n.0 table n.1) at p lent n.2 shape)

  pub mapped_there : IsStored p → IfThere (node_with v file) (λ n. IsSome (get n.map (at / 4096)))
  mapped_there stored =
      let n = there_is (node_with v file) (λ n. IsNextPart n at p) has in
      there_by (node_with v file) n.0 (λ n. IsSome (get n.map (at / 4096))) n.1
      (stored_mapped n.0 at p n.2 stored)

  pub own_there : (live : List ℕ) (lent : Piece) → length live ≡ 4096 * v.layout.total
      → HasShape p lent → Lends live p lent
      → IfThere (node_with v file) (λ n. piece_bytes lent ≡ slice_range (own_content live n) at (at + piece_len lent))
  own_there live lent whole shape lends =
      let n = there_is (node_with v file) (λ n. IsNextPart n at p) has in
      there_by (node_with v file) n.0 (λ n. piece_bytes lent ≡ slice_range (own_content live n) at (at + piece_len lent)) n.1
      (own_bytes v.layout n.0 (node_is v file n.0 table n.1) live at p lent whole
      (if_there (node_with v file) n.0 (λ n. at < n.size) n.1 there) n.2 shape lends)

  pub content_there : (live : List ℕ) (lent : Piece) → length live ≡ 4096 * v.layout.total
      → HasShape p lent → Lends live p lent
      → IfThere (node_with v file) (λ n. plain_node n ≡ true → piece_bytes lent ≡ slice_range (content_of v live n) at (at + piece_len lent))
  content_there live lent whole shape lends =
      let n = there_is (node_with v file) (λ n. IsNextPart n at p) has in
      there_by (node_with v file) n.0 (λ n. plain_node n ≡ true → piece_bytes lent ≡ slice_range (content_of v live n) at (at + piece_len lent)) n.1
      (λ plain.
      own_bytes v.layout n.0 (node_is v file n.0 table n.1) live at p lent whole
      (if_there (node_with v file) n.0 (λ n. at < n.size) n.1 there) n.2 shape lends
      ∙ ap (λ (xs : List ℕ). slice_range xs at (at + piece_len lent)) (sym (own-plain v live n.0 plain)))
