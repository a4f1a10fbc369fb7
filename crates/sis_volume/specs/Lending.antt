-- What of a file is lent, and what lending leaves.
use Rattle.std.specs.Prelude.{◌≡◌, ℕ, ◌+◌, ◌*◌, ◌/◌, ◌%◌, ◌<◌, ◌≤◌, min, List, length, replicate, None, Some, IsSome, Result, Ok, Err, slice_range, ⊤}
use Rattle.std.specs.FinMap.{get}
use Rattle.sis_table.specs.Content.{block_at}
use Rattle.sis_table.specs.declared.node.Node.{Node}
use Rattle.sis_view.specs.Reading.{Fetched}
use Rattle.sis_view.specs.declared.piece.Piece.{Piece}
use Rattle.sis_view.specs.declared.piece.Piece.TheVariants as piece
use Rattle.sis_volume.specs.View.{VolumeView}
use Rattle.sis_volume.specs.declared.lending.Part.{Part}
use Rattle.sis_volume.specs.declared.lending.Part.TheVariants as part

-- how many bytes a piece has, and which
abbrev pub piece_len : Piece → ℕ
piece_len (piece.Bytes bytes) = length bytes.now
piece_len (piece.Zeros count) = count

abbrev pub piece_bytes : Piece → List ℕ
piece_bytes (piece.Bytes bytes) = bytes.now
piece_bytes (piece.Zeros count) = replicate count 0

-- So many bytes of a file, from byte `at` on, lie in one block that is mapped, and end with that
-- block or with the file.
pub record AreBytes (n : Node) (at len : ℕ) : Type 0 where
  pub some : 1 ≤ len
  pub mapped : IsSome (get n.map (at / 4096))
  pub ends : at + len ≡ min (4096 * (at / 4096 + 1)) n.size

-- So many bytes of a file, from byte `at` on, lie in blocks that aren't mapped, and end with the
-- file or where a block begins that is mapped.
pub record AreZeros (n : Node) (at len : ℕ) : Type 0 where
  pub some : 1 ≤ len
  pub within : at + len ≤ n.size
  pub unmapped : (block : ℕ) → at / 4096 ≤ block → 4096 * block < at + len
      → get n.map block ≡ None
  pub ends : at + len < n.size
      → ((at + len) % 4096 ≡ 0) × IsSome (get n.map ((at + len) / 4096))

-- what goes on at byte `at` of a file
abbrev pub IsPiece : Node → ℕ → Piece → Type 0
IsPiece n at (piece.Bytes bytes) = AreBytes n at (length bytes.now)
IsPiece n at (piece.Zeros count) = AreZeros n at count

-- how many calls the answer takes at most: none where it is zeros
abbrev pub calls_of_piece : {E : Type 0} → Result Piece E → ℕ
calls_of_piece (Ok (piece.Bytes bytes)) = 1
calls_of_piece (Ok (piece.Zeros count)) = 0
calls_of_piece (Err fault) = 1

-- At most so many calls of the disk went by, all of them reads, and the volume is as it was. Where
-- the number is 0, none was refused either. Where the call failed, the count of faults rose.
pub record Looks {T E : Type 0} (most : ℕ) (result : Result T E) (old new : VolumeView)
    : Type 0 where
  pub same : new ≡ record old { seen = new.seen }
  pub fetched : Fetched most result old.seen new.seen
  pub idle : most ≡ 0 → new.seen ≡ old.seen

-- ---- parts, which only private functions cite

-- what goes on there, and where it stands
abbrev pub IsNextPart : Node → ℕ → Part → Type 0
IsNextPart n at (part.Stored place from len) =
    (get n.map (at / 4096) ≡ Some place) × (from ≡ at % 4096) × AreBytes n at len
IsNextPart n at (part.Zeros len) = AreZeros n at len

-- the part lies within a block of a disk of this size
abbrev pub IsWithinDisk : ℕ → Part → Type 0
IsWithinDisk size (part.Stored place from len) = (4096 * place + 4096 ≤ size) × (from + len ≤ 4096)
IsWithinDisk size (part.Zeros len) = ⊤

-- the part is one of a block
abbrev pub IsStored : Part → Type 0
IsStored (part.Stored place from len) = ⊤
IsStored (part.Zeros len) = ⊥

-- the piece is one of bytes or of zeros as the part, and has as many
abbrev pub HasShape : Part → Piece → Type 0
HasShape (part.Stored place from len) (piece.Bytes bytes) = length bytes.now ≡ len
HasShape (part.Stored place from len) (piece.Zeros count) = ⊥
HasShape (part.Zeros len) (piece.Bytes bytes) = ⊥
HasShape (part.Zeros len) (piece.Zeros count) = count ≡ len

-- the piece has the bytes of the part
abbrev pub Lends : List ℕ → Part → Piece → Type 0
Lends live (part.Stored place from len) (piece.Bytes bytes) =
    bytes.now ≡ slice_range (block_at live place) from (from + len)
Lends live (part.Stored place from len) (piece.Zeros count) = ⊥
Lends live (part.Zeros len) (piece.Bytes bytes) = ⊥
Lends live (part.Zeros len) (piece.Zeros count) = ⊤
