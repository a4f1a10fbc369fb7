-- What an edit does to a table, and when it may be made.
use Rattle.std.specs.Prelude.{◌≡◌, ℕ, ◌+◌, ◌<◌, ◌≤◌, ◌==◌, true, false, not, if◌then◌else◌, List, [], ◌∷◌, ◌++◌, length, Option, None, Some, ⊤}
use Rattle.std.specs.List.{list_any}
use Rattle.std.specs.FinMap.{empty, get, retain_keys}
use Rattle.sis_disk.specs.declared.layout.Layout.{Layout}
use Rattle.sis_disk.specs.Layout.{first_place}
use Rattle.sis_name.specs.Name.{IsName}
use Rattle.sis_name.specs.Units.{is_store_name}
use Rattle.sis_ranges.specs.declared.run.Run.{Run}
use Rattle.sis_ranges.specs.Extents.{block_end, place_end, in_stretch, with_blocks}
use Rattle.sis_table.specs.declared.node.Node.{Node}
use Rattle.sis_table.specs.declared.kind.NodeKind.{NodeKind}
use Rattle.sis_table.specs.declared.edit.Edit.{Edit}
use Rattle.sis_table.specs.declared.edit.Edit.TheVariants as edit
use Rattle.sis_table.specs.declared.fault.EditsFault.{EditsFault}
use Rattle.sis_table.specs.declared.fault.EditsFault.TheVariants as fault
use Rattle.sis_table.specs.Kinds.{is_fit, user_node}
use Rattle.sis_table.specs.Volume.{VolumeTable, node_with, has_name, blocks_of, greatest_number, greatest_size, most_nodes}

-- a new file
abbrev pub made : ℕ → NodeKind → List ℕ → Node
made id kind name =
    record { id = id; name = name; kind = kind; size = 0; version = 1; map = empty }

-- a file with one thing changed
abbrev pub with_name : List ℕ → Node → Node
with_name name n = record n { name = name }

abbrev pub with_size : ℕ → Node → Node
with_size size n = record n { size = size }

abbrev pub with_map : Run → Node → Node
with_map r n = record n { map = with_blocks n.map r }

abbrev pub without_map : ℕ → ℕ → Node → Node
without_map first count n =
    record n { map = retain_keys n.map (λ block. not (in_stretch first count block)) }

abbrev pub with_version : ℕ → Node → Node
with_version version n = record n { version = version }

-- the files, where the one with this id is changed so
abbrev pub with_node : ℕ → (Node → Node) → List Node → List Node
with_node id change [] = []
with_node id change (n ∷ ns) =
    if n.id == id then change n ∷ ns else n ∷ with_node id change ns

-- the files without the one with this id
abbrev pub without_node : ℕ → List Node → List Node
without_node id [] = []
without_node id (n ∷ ns) = if n.id == id then ns else n ∷ without_node id ns

-- so many blocks at neighbouring places
abbrev pub stretch : ℕ → ℕ → ℕ → Run
stretch first count place = record { first = first; count = count; place = place }

-- the table after an edit
abbrev pub edited : VolumeTable → Edit → VolumeTable
edited v (edit.Make id kind name) =
    record v { next_id = id + 1; nodes = v.nodes ++ made id kind name ∷ [] }
edited v (edit.Drop id) = record v { nodes = without_node id v.nodes }
edited v (edit.Rename id name) = record v { nodes = with_node id (with_name name) v.nodes }
edited v (edit.Size id size) = record v { nodes = with_node id (with_size size) v.nodes }
edited v (edit.Map id first count place) =
    record v { nodes = with_node id (with_map (stretch first count place)) v.nodes }
edited v (edit.Unmap id first count) =
    record v { nodes = with_node id (without_map first count) v.nodes }
edited v (edit.Version id version) =
    record v { nodes = with_node id (with_version version) v.nodes }

-- a new file's id, and a name that is free and fit for its kind
pub record MayMake (v : VolumeTable) (id : ℕ) (kind : NodeKind) (name : List ℕ) : Type 0 where
  pub fresh : v.next_id ≤ id
  pub below : id < greatest_number
  pub few : length v.nodes < most_nodes
  pub is_name : IsName name
  pub fit : is_fit kind name ≡ true
  pub free : list_any (has_name name) v.nodes ≡ false

-- a user's file, and a name that is free and none of the common store
pub record MayRename (v : VolumeTable) (n : Node) (name : List ℕ) : Type 0 where
  pub user : user_node n ≡ true
  pub is_name : IsName name
  pub store : is_store_name name ≡ false
  pub free : list_any (has_name name) v.nodes ≡ false

-- no block behind the new size is mapped
pub record MaySize (n : Node) (size : ℕ) : Type 0 where
  pub limit : size ≤ greatest_size
  pub mapped : (block : ℕ) → blocks_of size ≤ block → get n.map block ≡ None

-- blocks inside the size, at the places of data blocks
pub record MayMap (l : Layout) (n : Node) (r : Run) : Type 0 where
  pub some : 1 ≤ r.count
  pub inside : block_end r ≤ blocks_of n.size
  pub low : first_place l ≤ r.place
  pub high : place_end r ≤ l.total

-- a greater version
pub record MayVersion (n : Node) (version : ℕ) : Type 0 where
  pub above : n.version < version
  pub limit : version ≤ greatest_number

-- the file is there, and meets this
abbrev pub IfThere : Option Node → (Node → Type 0) → Type 0
IfThere None P = ⊥
IfThere (Some n) P = P n

-- the edit's condition
abbrev pub MayEdit : VolumeTable → Edit → Type 0
MayEdit v (edit.Make id kind name) = MayMake v id kind name
MayEdit v (edit.Drop id) = IfThere (node_with v id) (λ n. ⊤)
MayEdit v (edit.Rename id name) = IfThere (node_with v id) (λ n. MayRename v n name)
MayEdit v (edit.Size id size) = IfThere (node_with v id) (λ n. MaySize n size)
MayEdit v (edit.Map id first count place) =
    IfThere (node_with v id) (λ n. MayMap v.layout n (stretch first count place))
MayEdit v (edit.Unmap id first count) = IfThere (node_with v id) (λ n. ⊤)
MayEdit v (edit.Version id version) = IfThere (node_with v id) (λ n. MayVersion n version)

-- the table after edits, and the condition of each of them where its turn comes
abbrev pub edited_by : VolumeTable → List Edit → VolumeTable
edited_by v [] = v
edited_by v (e ∷ es) = edited_by (edited v e) es

abbrev pub MayEditBy : VolumeTable → List Edit → Type 0
MayEditBy v [] = Unit {0}
MayEditBy v (e ∷ es) = MayEdit v e × MayEditBy (edited v e) es

-- the edit that maps a run's blocks
abbrev pub map_edit : ℕ → Run → Edit
map_edit id r = edit.Map id r.first r.count r.place

-- why edits that lead to a spelling of so many bytes are refused, where so many are allowed
abbrev pub RefusesEdits : ℕ → ℕ → EditsFault → Type 0
RefusesEdits len most (fault.TooLong needed) = (needed ≡ len) × (most < len)
RefusesEdits len most fault.Memory = ⊤
