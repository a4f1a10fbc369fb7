-- What changes of plain files make of a table, and the edits that make them. Places for blocks are
-- handed in.
use Rattle.std.specs.Prelude.{◌≡◌, ◌<◌, ◌≤◌, ◌⊎◌, ℕ, ◌+◌, ◌-◌, ◌*◌, ◌/◌, ◌%◌, ◌==◌, ◌&&◌, not, max, nat_le, nat_lt, Bool, true, if◌then◌else◌, List, [], ◌∷◌, ◌++◌, length, take, drop, map, flat_map, replicate, Option, None, Some}
use Rattle.std.specs.List.{AllByRecursion, range_with_len}
use Rattle.std.specs.FinMap.{FinMap, empty, insert, retain_keys}
use Rattle.std.specs.Ordering.{nat_cmp}
use Rattle.sis_disk.specs.Layout.{first_place}
use Rattle.sis_ranges.specs.Extents.{is_mapped, run_places}
use Rattle.sis_ranges.specs.declared.run.Run.{Run}
use Rattle.sis_table.specs.declared.node.Node.{Node}
use Rattle.sis_table.specs.declared.kind.NodeKind.TheVariants.{Plain}
use Rattle.sis_table.specs.declared.edit.Edit.{Edit}
use Rattle.sis_table.specs.declared.edit.Edit.TheVariants as edit
use Rattle.sis_table.specs.Content.{block_at}
use Rattle.sis_table.specs.Edits.{map_edit, with_name, with_node, without_node}
use Rattle.sis_table.specs.Good.{is_among}
use Rattle.sis_table.specs.Kinds.{plain_node}
use Rattle.sis_table.specs.Volume.{VolumeTable, blocks_of, greatest_number, greatest_size, is_used, node_with}

-- ---- blocks

-- the file maps the block
abbrev pub maps : Node → ℕ → Bool
maps n block = is_mapped n.map block

-- the blocks that so many bytes from an offset on touch
abbrev pub touched_blocks : ℕ → ℕ → List ℕ
touched_blocks at count = range_with_len (at / 4096) (blocks_of (at + count) - at / 4096)

-- The file grows, and its block at the old end is mapped, has room behind that end, and isn't among
-- these.
abbrev pub rewrites_end : Node → ℕ → List ℕ → Bool
rewrites_end n size blocks =
    nat_lt n.size size && not (n.size % 4096 == 0) && maps n (n.size / 4096)
    && not (is_among blocks (n.size / 4096))

-- these blocks, and before them the one at the old end where it has to be rewritten
abbrev pub with_end : Node → ℕ → List ℕ → List ℕ
with_end n size blocks = if rewrites_end n size blocks then n.size / 4096 ∷ blocks else blocks

-- a new size, and the blocks that are mapped anew
pub record Resize : Type 0 where
  pub size : ℕ
  pub blocks : List ℕ

abbrev pub resize_to : Node → ℕ → List ℕ → Resize
resize_to n size blocks = record { size = size; blocks = with_end n size blocks }

-- how a write of so many bytes at an offset changes the file, and how a new size does, if at all
abbrev pub write_of : Node → ℕ → ℕ → Option Resize
write_of n at count =
    if count == 0 then None
    else Some (resize_to n (max n.size (at + count)) (touched_blocks at count))

abbrev pub size_of : Node → ℕ → Option Resize
size_of n len = if len == n.size then None else Some (resize_to n len [])

-- a block of a file with these bytes, with zeros behind their end
abbrev pub block_text : List ℕ → ℕ → List ℕ
block_text bytes block = take 4096 (drop (4096 * block) bytes ++ replicate 4096 0)

-- ---- places

-- the place of a data block that no file maps
abbrev pub is_free : VolumeTable → ℕ → Bool
is_free v place =
    nat_le (first_place v.layout) place && nat_lt place v.layout.total && not (is_used v place)

-- each of the places is one, and stands there once
abbrev pub are_free : VolumeTable → List ℕ → Bool
are_free v [] = true
are_free v (place ∷ places) =
    is_free v place && not (is_among places place) && are_free v places

-- so many free places
pub record AreFreePlaces (v : VolumeTable) (count : ℕ) (places : List ℕ) : Type 0 where
  pub size : length places ≡ count
  pub free : are_free v places ≡ true

-- the blocks of a file with these bytes lie at the places
abbrev pub AreWritten : List ℕ → List ℕ → List ℕ → List ℕ → Type 0
AreWritten live blocks places bytes = map (block_at live) places ≡ map (block_text bytes) blocks

-- each place that the table maps has the same bytes in both images
abbrev pub KeepsUsed : VolumeTable → List ℕ → List ℕ → Type 0
KeepsUsed v old new =
    (place : ℕ) → is_used v place ≡ true → block_at new place ≡ block_at old place

-- a map with these blocks at these places, one after the other
abbrev pub with_places : List ℕ → List ℕ → FinMap nat_cmp ℕ → FinMap nat_cmp ℕ
with_places [] places m = m
with_places (block ∷ blocks) [] m = m
with_places (block ∷ blocks) (place ∷ places) m = with_places blocks places (insert m block place)

-- ---- tables

-- another size, these blocks at new places, none past the end, and a version more
abbrev pub resized_node : ℕ → List ℕ → List ℕ → Node → Node
resized_node size blocks places n = record n {
  size = size;
  version = n.version + 1;
  map = retain_keys (with_places blocks places n.map) (λ block. nat_lt block (blocks_of size));
}

-- the table where the file was changed so
abbrev pub with_resize : Node → Option Resize → List ℕ → VolumeTable → VolumeTable
with_resize n None places v = v
with_resize n (Some r) places v =
    record v { nodes = with_node n.id (resized_node r.size r.blocks places) v.nodes }

-- a new plain file, and the table with one
abbrev pub made_file : ℕ → List ℕ → ℕ → List ℕ → Node
made_file id name size places = record {
  id = id;
  name = name;
  kind = Plain;
  size = size;
  version = 1;
  map = with_places (range_with_len 0 (blocks_of size)) places empty;
}

abbrev pub with_file : List ℕ → ℕ → List ℕ → VolumeTable → VolumeTable
with_file name size places v = record v {
  next_id = v.next_id + 1;
  nodes = v.nodes ++ made_file v.next_id name size places ∷ [];
}

-- the table without a file, and with one under another name
abbrev pub without_file : ℕ → VolumeTable → VolumeTable
without_file id v = record v { nodes = without_node id v.nodes }

abbrev pub renamed : ℕ → List ℕ → VolumeTable → VolumeTable
renamed id name v = record v { nodes = with_node id (with_name name) v.nodes }

-- ---- edits

-- the blocks of runs, and their places, both in order
abbrev pub run_blocks : Run → List ℕ
run_blocks r = range_with_len r.first r.count

abbrev pub blocks_by : List Run → List ℕ
blocks_by runs = flat_map run_blocks runs

abbrev pub places_by : List Run → List ℕ
places_by runs = flat_map run_places runs

-- runs with these blocks in order at free places, none of them empty
pub record AreFreeRuns (v : VolumeTable) (blocks : List ℕ) (runs : List Run) : Type 0 where
  pub some : AllByRecursion (λ r. 1 ≤ r.count) runs
  pub order : blocks_by runs ≡ blocks
  pub free : are_free v (places_by runs) ≡ true

-- what a cut takes out of the map
abbrev pub cut_edits : Node → ℕ → List Edit
cut_edits n size =
    if nat_lt size n.size
    then edit.Unmap n.id (blocks_of size) (blocks_of n.size - blocks_of size) ∷ []
    else []

abbrev pub size_edits : Node → ℕ → List Edit
size_edits n size = if size == n.size then [] else edit.Size n.id size ∷ []

-- the edits of such a change, which map the blocks by these runs
abbrev pub resize_edits : Node → Option Resize → List Run → List Edit
resize_edits n None runs = []
resize_edits n (Some r) runs =
    cut_edits n r.size ++ size_edits n r.size
    ++ edit.Version n.id (n.version + 1) ∷ map (map_edit n.id) runs

-- the edits of a new file
abbrev pub make_edits : ℕ → List ℕ → ℕ → List Run → List Edit
make_edits id name size runs =
    edit.Make id Plain name ∷ edit.Size id size ∷ map (map_edit id) runs

-- ---- what a change is given

-- the change is one of a write, or of a new size
abbrev pub IsChangeOf : Node → Resize → Type 0
IsChangeOf n r =
    ((at : ℕ) × (count : ℕ) × (write_of n at count ≡ Some r))
    ⊎ ((len : ℕ) × (size_of n len ≡ Some r))

-- A plain file of the table may be changed so.
pub record MayResize (v : VolumeTable) (n : Node) (r : Resize) : Type 0 where
  pub there : node_with v n.id ≡ Some n
  pub plain : plain_node n ≡ true
  pub change : IsChangeOf n r
  pub limit : r.size ≤ greatest_size
  pub version : n.version < greatest_number

-- The image of the table before and after blocks of a file with these bytes were written to places.
pub record WritesBlocks (v : VolumeTable) (blocks places old new bytes : List ℕ) : Type 0 where
  pub old_size : length old ≡ 4096 * v.layout.total
  pub new_size : length new ≡ 4096 * v.layout.total
  pub kept : KeepsUsed v old new
  pub written : AreWritten new blocks places bytes
