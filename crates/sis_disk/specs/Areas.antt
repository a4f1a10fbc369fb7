-- The areas of an image, one of which keeps its text.
use Rattle.std.specs.Prelude.{ℕ, ◌+◌, ◌*◌, ◌==◌, nat_lt, Bool, if◌then◌else◌, List, ◌++◌, length, take, drop, slice_index, slice_range, Result, Ok, Err}
use Rattle.byteorder.specs.Endian.{little_bytes, little_number}
use Rattle.sis_disk.specs.declared.layout.ImageKind.TheVariants as kind
use Rattle.sis_disk.specs.declared.layout.Layout.{Layout}
use Rattle.sis_disk.specs.declared.layout.TableKind.{TableKind}
use Rattle.sis_disk.specs.Layout.{table_cap}
use Rattle.sis_disk.specs.Superblock.{superblock_at, ImageFault}
use Rattle.sis_reading.specs.Steps.{◌>>=◌, guard}

-- where an area begins: area A behind the selector's block, area B behind area A and its log
abbrev pub area_start : Layout → Bool → ℕ
area_start l second = if second then 4096 * (2 + l.area + l.log) else 8192

-- where the selected area begins: area B where the selector's byte is 1, else area A
abbrev pub selected_at : Layout → List ℕ → ℕ
selected_at l m = area_start l (slice_index m 4096 == 1)

-- the length that the selected area says its text has
abbrev pub stated_len : Layout → List ℕ → ℕ
stated_len l m = little_number 8 (drop (selected_at l m) m)

-- so many bytes of the selected area, behind that length
abbrev pub text_bytes : Layout → List ℕ → List ℕ
text_bytes l m = slice_range m (selected_at l m + 8) (selected_at l m + 8 + stated_len l m)

-- an area's bytes: the text's length, and the text
unfoldable pub area_bytes : List ℕ → List ℕ
area_bytes text = little_bytes 8 (length text) ++ text

-- where a text is wrong, from its first byte on, and how
abbrev pub TextFault : Type 0
TextFault = ℕ × TableKind

-- a text's fault, where the text begins at this offset of the image
abbrev pub shifted : {V : Type 0} → ℕ → Result V TextFault → Result V ImageFault
shifted at (Ok v) = Ok v
shifted at (Err fault) = Err (at + fault.0, kind.Table fault.1)

-- the selected area's text, where the area has room for one of the length that it says
abbrev pub text_at : Layout → List ℕ → Result (List ℕ) ImageFault
text_at l m =
    guard (selected_at l m, kind.TableLength) (nat_lt (table_cap l) (stated_len l m))
    (text_bytes l m)

-- reads an image: superblock, selector, and the selected area's text as `read` reads it
unfoldable pub read_by : {V : Type 0} → (Layout → List ℕ → Result V TextFault) → List ℕ
    → Result V ImageFault
read_by read m = do
  layout ← superblock_at (length m) (take 4096 m)
  text ← text_at layout m
  shifted (selected_at layout m + 8) (read layout text)
