-- What a `Table` shows, and which values are tables.
use Rattle.std.specs.Prelude.{◌≡◌, ℕ, ◌+◌, ◌/◌, ◌^◌, ◌<◌, ◌≤◌, ◌==◌, Bool, true, false, List, [], ◌∷◌, ◌++◌, length, map, filter, find, count_by, Option, None, Some, IsSome}
use Rattle.std.specs.List.{list_any, range_with_len}
use Rattle.std.specs.FinMap.{FinMap, from_entries, get, keys, values}
use Rattle.sis_disk.specs.declared.layout.Layout.{Layout}
use Rattle.sis_disk.specs.Layout.{IsLayout, first_place, data_blocks}
use Rattle.sis_name.specs.Name.{IsName}
use Rattle.sis_name.specs.Files.{same_name}
use Rattle.sis_name.specs.Units.{name_cmp, is_after}
use Rattle.sis_table.specs.declared.node.Node.{Node}
use Rattle.sis_table.specs.Kinds.{is_fit, user_node}

-- the layout, the next id, the greatest link index that was given, and the files by rising id
pub record VolumeTable : Type 0 where
  pub layout : Layout
  pub next_id : ℕ
  pub greatest : ℕ
  pub nodes : List Node

-- the greatest id and the greatest index
abbrev pub greatest_number : ℕ
greatest_number = 9223372036854775807

abbrev pub greatest_size : ℕ
greatest_size = 2 ^ 36

abbrev pub most_nodes : ℕ
most_nodes = 65536

-- how many blocks so many bytes take
abbrev pub blocks_of : ℕ → ℕ
blocks_of size = (size + 4095) / 4096

abbrev pub has_name : List ℕ → Node → Bool
has_name name n = same_name n.name name

abbrev pub id_of : Node → ℕ
id_of n = n.id

-- the file of this name, and the file with this id
abbrev pub node_named : VolumeTable → List ℕ → Option Node
node_named v name = find (has_name name) v.nodes

abbrev pub node_with : VolumeTable → ℕ → Option Node
node_with v id = find (λ n. n.id == id) v.nodes

-- the least id of a file that is greater than this one, where there is one
abbrev pub IsNextNode : VolumeTable → ℕ → Option ℕ → Type 0
IsNextNode v after None = (id : ℕ) → after < id → node_with v id ≡ None
IsNextNode v after (Some next) =
    (after < next) × IsSome (node_with v next)
    × ((id : ℕ) → after < id → id < next → node_with v id ≡ None)

-- the files of users, and their ids under their names
abbrev pub user_nodes : VolumeTable → List Node
user_nodes v = filter user_node v.nodes

abbrev pub ids_of : VolumeTable → FinMap name_cmp ℕ
ids_of v = from_entries (map (λ n. (n.name, n.id)) (user_nodes v))

-- the names of users' files that are greater than this one, in order; all names, without one
abbrev pub names_after : VolumeTable → Option (List ℕ) → List (List ℕ)
names_after v after = filter (is_after after) (keys (ids_of v))

-- the user's file with the first of these names, and the names behind it
abbrev pub IsNextFile : VolumeTable → Option (List ℕ) → Option ℕ → Type 0
IsNextFile v after None = names_after v after ≡ []
IsNextFile v after (Some id) =
    (n : Node) × (node_with v id ≡ Some n)
    × (names_after v after ≡ n.name ∷ names_after v (Some n.name))

-- where a block of a file lies, if the file is there
abbrev pub place_by : Option Node → ℕ → Option ℕ
place_by None block = None
place_by (Some n) block = get n.map block

abbrev pub place_in : VolumeTable → ℕ → ℕ → Option ℕ
place_in v id block = place_by (node_with v id) block

-- the places of a file's blocks, by rising blocks
abbrev pub places_of : Node → List ℕ
places_of n = values n.map

-- a block of the file lies at the place
abbrev pub maps_place : ℕ → Node → Bool
maps_place place n = list_any (λ p. p == place) (places_of n)

-- a block of one of the files does
abbrev pub is_used : VolumeTable → ℕ → Bool
is_used v place = list_any (maps_place place) v.nodes

-- the places of the data blocks
abbrev pub data_places : Layout → List ℕ
data_places l = range_with_len (first_place l) (data_blocks l)

-- which data blocks are mapped, in order
abbrev pub used_places : VolumeTable → List Bool
used_places v = map (is_used v) (data_places v.layout)

-- how many data blocks are mapped
abbrev pub used : VolumeTable → ℕ
used v = count_by (λ b. b) (used_places v)

-- a block inside a file of so many blocks, at the place of a data block
pub record IsPlaced (l : Layout) (blocks block place : ℕ) : Type 0 where
  pub inside : block < blocks
  pub low : first_place l ≤ place
  pub high : place < l.total

-- a file whose numbers keep their limits
pub record IsNode (l : Layout) (n : Node) : Type 0 where
  pub name : IsName n.name
  pub fit : is_fit n.kind n.name ≡ true
  pub size : n.size ≤ greatest_size
  pub version_low : 1 ≤ n.version
  pub version_high : n.version ≤ greatest_number
  pub placed : (block place : ℕ) → get n.map block ≡ Some place
      → IsPlaced l (blocks_of n.size) block place

-- the id of the last file, 0 where there is none
abbrev pub last_id : List Node → ℕ
last_id [] = 0
last_id (n ∷ []) = n.id
last_id (n ∷ m ∷ ns) = last_id (m ∷ ns)

-- Behind the files of `front` these go on: their ids rise and are below the next one, and no name
-- stands twice.
abbrev pub AreNodes : Layout → ℕ → List Node → List Node → Type 0
AreNodes l next front [] = Unit {0}
AreNodes l next front (n ∷ ns) =
    (last_id front < n.id) × (n.id < next) × (list_any (has_name n.name) front ≡ false)
    × IsNode l n × AreNodes l next (front ++ n ∷ []) ns

-- a table whose numbers keep their limits
pub record IsTable (v : VolumeTable) : Type 0 where
  pub layout : IsLayout v.layout
  pub next_low : 1 ≤ v.next_id
  pub next_high : v.next_id ≤ greatest_number
  pub greatest : v.greatest ≤ greatest_number
  pub few : length v.nodes ≤ most_nodes
  pub nodes : AreNodes v.layout v.next_id [] v.nodes

-- the table of a new image
abbrev pub empty_table : Layout → VolumeTable
empty_table l = record { layout = l; next_id = 1; greatest = 0; nodes = [] }
