-- The first block of an image: how it is spelled and read.
use Rattle.std.specs.Prelude.{ℕ, ◌+◌, ◌*◌, ◌==◌, ◌||◌, not, nat_lt, nat_le, nat_eq, List, ◌++◌, take, drop, position, replicate, codes, Option, None, Some, Result, Ok, Err}
use Rattle.std.specs.Cmp.Lexicographic.{pointwise}
use Rattle.byteorder.specs.Endian.{little_bytes, little_number}
use Rattle.sis_reading.specs.Steps.{◌>>=◌, guard}
use Rattle.sis_disk.specs.declared.layout.Layout.{Layout}
use Rattle.sis_disk.specs.declared.layout.ImageKind.{ImageKind}
use Rattle.sis_disk.specs.declared.layout.ImageKind.TheVariants as kind

-- where a field is whose rule fails, and the rule
abbrev pub ImageFault : Type 0
ImageFault = ℕ × ImageKind

abbrev pub magic : List ℕ
magic = codes "SISIMAGE"

-- text, version, letter, numbers of blocks of the image, an area and a log, and zeros
unfoldable pub superblock : Layout → List ℕ
superblock l =
    magic ++ little_bytes 4 1 ++ little_bytes 4 l.letter ++ little_bytes 8 l.total
    ++ little_bytes 8 l.area ++ little_bytes 8 l.log ++ replicate 4056 0

-- the number of n bytes at this offset
abbrev pub field : ℕ → ℕ → List ℕ → ℕ
field n at bytes = little_number n (drop at bytes)

-- the first byte behind the fields that isn't zero
abbrev pub zero_fault : Option ℕ → Result (Unit {0}) ImageFault
zero_fault None = Ok (tt {0})
zero_fault (Some at) = Err (40 + at, kind.Zero)

-- Reads the first block of an image of so many bytes. A log isn't read yet, so its length has to
-- be 0.
unfoldable pub superblock_at : ℕ → List ℕ → Result Layout ImageFault
superblock_at size bytes = do
  a ← guard (0, kind.Length) (nat_lt size 4096) (tt {0})
  b ← guard (0, kind.Magic) (not (pointwise nat_eq (take 8 bytes) magic)) (tt {0})
  c ← guard (8, kind.Version) (not (field 4 8 bytes == 1)) (tt {0})
  d ← guard (12, kind.Letter) (nat_lt (field 4 12 bytes) 65 || nat_lt 90 (field 4 12 bytes))
      (tt {0})
  e ← guard (16, kind.Total)
      (nat_lt (field 8 16 bytes) 16 || nat_lt 1048576 (field 8 16 bytes)) (tt {0})
  f ← guard (16, kind.Length) (not (size == 4096 * field 8 16 bytes)) (tt {0})
  g ← guard (24, kind.Area) (nat_lt (field 8 24 bytes) 1 || nat_lt 16384 (field 8 24 bytes)
      || nat_le (field 8 16 bytes) (2 + 2 * field 8 24 bytes)) (tt {0})
  h ← guard (32, kind.Log) (not (field 8 32 bytes == 0)) (tt {0})
  i ← zero_fault (position (λ b. not (b == 0)) (drop 40 bytes))
  Ok (record {
    total = field 8 16 bytes;
    area = field 8 24 bytes;
    log = field 8 32 bytes;
    letter = field 4 12 bytes;
  })
