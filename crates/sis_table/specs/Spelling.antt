-- The one spelling of a table. Numbers have their lowest byte first.
use Rattle.std.specs.Prelude.{◌≡◌, ℕ, ◌+◌, ◌*◌, ◌≤◌, List, [], ◌∷◌, ◌++◌, length, flat_map}
use Rattle.byteorder.specs.Endian.{little_bytes}
use Rattle.sis_ranges.specs.declared.run.Run.{Run}
use Rattle.sis_ranges.specs.Extents.{runs_of}
use Rattle.sis_table.specs.Kinds.{kind_byte}
use Rattle.sis_table.specs.Volume.{VolumeTable, IsTable}
use Rattle.sis_table.specs.declared.node.Node.{Node}

-- numbers of two, four and eight bytes
unfoldable pub le2 : ℕ → List ℕ
le2 n = little_bytes 2 n

unfoldable pub le4 : ℕ → List ℕ
le4 n = little_bytes 4 n

unfoldable pub le8 : ℕ → List ℕ
le8 n = little_bytes 8 n

-- the number of units, and the units
abbrev pub name_text : List ℕ → List ℕ
name_text units = le2 (length units) ++ flat_map le2 units

-- first block, count and place
unfoldable pub run_text : Run → List ℕ
run_text r = le8 r.first ++ le8 r.count ++ le8 r.place

-- the number of runs, and the runs
abbrev pub runs_text : List Run → List ℕ
runs_text runs = le4 (length runs) ++ flat_map run_text runs

-- id, name, kind, size, version and the maximal runs of the map
unfoldable pub node_text : Node → List ℕ
node_text n =
    le8 n.id ++ name_text n.name ++ kind_byte n.kind ∷ [] ++ le8 n.size ++ le8 n.version
    ++ runs_text (runs_of n.map)

-- next id, greatest index, number of files, and the files by rising id
unfoldable pub spelling : VolumeTable → List ℕ
spelling v = le8 v.next_id ++ le8 v.greatest ++ le4 (length v.nodes) ++ flat_map node_text v.nodes

-- how long a file's text is
abbrev pub node_len : Node → ℕ
node_len n = 31 + 2 * length n.name + 24 * length (runs_of n.map)

-- the counts of its units and runs keep their limits
pub record IsShort (n : Node) : Type 0 where
  pub name : length n.name ≤ 255
  pub runs : length (runs_of n.map) ≤ 16777216

-- a table, and the length of its spelling
pub record IsMeasured (v : VolumeTable) (len : ℕ) : Type 0 where
  pub table : IsTable v
  pub measure : len ≡ length (spelling v)
