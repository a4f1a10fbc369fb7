-- Reading a table from left to right, with the first fault that is met. `total` is how many bytes
-- there are in all, so that a fault's place is counted from the first one.
use Rattle.std.specs.Prelude.{ℕ, zero, suc, ◌+◌, ◌-◌, ◌*◌, ◌≤◌, Bool, false, not, ◌||◌, List, [], ◌∷◌, ◌++◌, length, drop, Option, Some, None, is_some, Result, Ok, nat_lt, nat_le, ◌==◌, ⊤}
use Rattle.std.specs.List.{list_any}
use Rattle.std.specs.Option.{ok_or}
use Rattle.std.specs.FinMap.{FinMap}
use Rattle.std.specs.Ordering.{nat_cmp}
use Rattle.byteorder.specs.Endian.{little_number}
use Rattle.sis_disk.specs.Layout.{first_place}
use Rattle.sis_disk.specs.declared.layout.Layout.{Layout}
use Rattle.sis_disk.specs.declared.layout.TableKind.{TableKind}
use Rattle.sis_disk.specs.declared.layout.TableKind.TheVariants as kinds
use Rattle.sis_name.specs.Name.{name_fault}
use Rattle.sis_reading.specs.Steps.{◌>>=◌, guard}
use Rattle.sis_ranges.specs.declared.run.Run.{Run}
use Rattle.sis_ranges.specs.Extents.{block_end, can_join, map_of}
use Rattle.sis_table.specs.Kinds.{is_fit, kind_of}
use Rattle.sis_table.specs.Volume.{VolumeTable, last_id, has_name, blocks_of, greatest_number, greatest_size, most_nodes}
use Rattle.sis_table.specs.declared.node.Node.{Node}
use Rattle.sis_table.specs.declared.kind.NodeKind.{NodeKind}
use Rattle.sis_table.specs.declared.fault.TableFault.{TableFault}
use Rattle.sis_table.specs.declared.fault.TableFault.TheVariants as faults

-- where it is, and what
abbrev pub Fault : Type 0
Fault = ℕ × TableKind

-- the fault of the reading that an error names; none where memory ran out
abbrev pub named : TableFault → Option Fault
named faults.Memory = None
named (faults.At at kind) = Some (at, kind)

-- a fault isn't behind so many bytes
abbrev pub IsWithin : ℕ → TableFault → Type 0
IsWithin n faults.Memory = ⊤
IsWithin n (faults.At at _) = at ≤ n

-- a fault of the field that begins with these bytes, which end what is read
abbrev pub here : ℕ → List ℕ → TableKind → Fault
here total bytes kind = (total - length bytes, kind)

-- a number of so many bytes, and the bytes behind it
unfoldable pub number_at : ℕ → ℕ → List ℕ → Result (ℕ × List ℕ) Fault
number_at n total bytes =
    guard (here total bytes kinds.Short) (nat_lt (length bytes) n)
    (little_number n bytes, drop n bytes)

-- so many units
abbrev pub units_of : ℕ → List ℕ → List ℕ
units_of zero bytes = []
units_of (suc n) bytes = little_number 2 bytes ∷ units_of n (drop 2 bytes)

-- A name is one field: where it is cut off, it is Short at its first byte. It isn't judged yet.
unfoldable pub units_at : ℕ → List ℕ → Result (List ℕ × List ℕ) Fault
units_at total bytes = do
  count ← number_at 2 total bytes
  a ← guard (here total bytes kinds.Short) (nat_lt (length count.1) (2 * count.0)) (tt {0})
  Ok (units_of count.0 count.1, drop (2 * count.0) count.1)

-- no name, one that isn't fit for the kind, or one that an earlier file has
abbrev pub is_bad_name : List Node → NodeKind → List ℕ → Bool
is_bad_name front kind units =
    is_some (name_fault units) || not (is_fit kind units) || list_any (has_name units) front

-- a kind
unfoldable pub kind_at : ℕ → List ℕ → Result (NodeKind × List ℕ) Fault
kind_at total bytes = do
  byte ← number_at 1 total bytes
  kind ← ok_or (kind_of byte.0) (here total bytes kinds.Kind)
  Ok (kind, byte.1)

-- a name and a kind: the name is judged once the kind is read
unfoldable pub named_at : ℕ → List Node → List ℕ → Result (List ℕ × NodeKind × List ℕ) Fault
named_at total front bytes = do
  name ← units_at total bytes
  kind ← kind_at total name.1
  a ← guard (here total bytes kinds.Name) (is_bad_name front kind.0 name.0) (tt {0})
  Ok (name.0, kind.0, kind.1)

-- the run before this one could be joined with it
abbrev pub joins : Option Run → Run → Bool
joins None r = false
joins (Some before) r = can_join before r

abbrev pub end_before : Option Run → ℕ
end_before None = 0
end_before (Some before) = block_end before

-- a run of a file of so many blocks, behind another
unfoldable pub run_at : ℕ → Layout → ℕ → Option Run → List ℕ → Result (Run × List ℕ) Fault
run_at total layout blocks before bytes = do
  first ← number_at 8 total bytes
  a ← guard (here total bytes kinds.Run)
      (nat_lt first.0 (end_before before) || nat_le blocks first.0) (tt {0})
  count ← number_at 8 total first.1
  b ← guard (here total first.1 kinds.Run)
      ((count.0 == 0) || nat_lt (blocks - first.0) count.0) (tt {0})
  place ← number_at 8 total count.1
  c ← guard (here total count.1 kinds.Run)
      (joins before (record { first = first.0; count = count.0; place = place.0 })
      || nat_lt place.0 (first_place layout) || nat_lt layout.total (place.0 + count.0)) (tt {0})
  Ok (record { first = first.0; count = count.0; place = place.0 }, place.1)

unfoldable pub runs_at : ℕ → Layout → ℕ → Option Run → ℕ → List ℕ → Result (List Run × List ℕ) Fault
runs_at total layout blocks before zero bytes = Ok ([], bytes)
runs_at total layout blocks before (suc n) bytes = do
  first ← run_at total layout blocks before bytes
  others ← runs_at total layout blocks (Some first.0) n first.1
  Ok (first.0 ∷ others.0, others.1)

-- so many runs, and the map for which they stand
unfoldable pub map_at : ℕ → Layout → ℕ → ℕ → List ℕ → Result (FinMap nat_cmp ℕ × List ℕ) Fault
map_at total layout blocks count bytes = do
  runs ← runs_at total layout blocks None count bytes
  Ok (map_of runs.0, runs.1)

-- a file behind those of `front`
unfoldable pub node_at : ℕ → Layout → ℕ → List Node → List ℕ → Result (Node × List ℕ) Fault
node_at total layout next front bytes = do
  id ← number_at 8 total bytes
  a ← guard (here total bytes kinds.Id) (nat_le id.0 (last_id front) || nat_le next id.0) (tt {0})
  name ← named_at total front id.1
  size ← number_at 8 total name.2
  b ← guard (here total name.2 kinds.Size) (nat_lt greatest_size size.0) (tt {0})
  version ← number_at 8 total size.1
  c ← guard (here total size.1 kinds.NodeVersion)
      ((version.0 == 0) || nat_lt greatest_number version.0) (tt {0})
  count ← number_at 4 total version.1
  blocks ← map_at total layout (blocks_of size.0) count.0 count.1
  Ok (
    record {
      id = id.0;
      name = name.0;
      kind = name.1;
      size = size.0;
      version = version.0;
      map = blocks.0;
    },
    blocks.1,
  )

unfoldable pub nodes_at : ℕ → Layout → ℕ → List Node → ℕ → List ℕ
    → Result (List Node × List ℕ) Fault
nodes_at total layout next front zero bytes = Ok ([], bytes)
nodes_at total layout next front (suc n) bytes = do
  first ← node_at total layout next front bytes
  others ← nodes_at total layout next (front ++ first.0 ∷ []) n first.1
  Ok (first.0 ∷ others.0, others.1)

-- next id, greatest index and count
unfoldable pub head_at : ℕ → List ℕ → Result (ℕ × ℕ × ℕ × List ℕ) Fault
head_at total bytes = do
  next ← number_at 8 total bytes
  a ← guard (here total bytes kinds.Next) ((next.0 == 0) || nat_lt greatest_number next.0) (tt {0})
  greatest ← number_at 8 total next.1
  b ← guard (here total next.1 kinds.Greatest) (nat_lt greatest_number greatest.0) (tt {0})
  count ← number_at 4 total greatest.1
  c ← guard (here total greatest.1 kinds.Count) (nat_lt most_nodes count.0) (tt {0})
  Ok (next.0, greatest.0, count.0, count.1)

-- a table, and nothing behind it
unfoldable pub table_at : Layout → List ℕ → Result VolumeTable Fault
table_at layout bytes = do
  head ← head_at (length bytes) bytes
  nodes ← nodes_at (length bytes) layout head.0 [] head.2 head.3
  a ← guard (here (length bytes) nodes.1 kinds.Trailing) (nat_lt 0 (length nodes.1)) (tt {0})
  Ok (record { layout = layout; next_id = head.0; greatest = head.1; nodes = nodes.0 })
