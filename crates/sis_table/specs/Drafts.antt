-- For which files a draft of changes stands.
use Rattle.std.specs.Prelude.{◌≡◌, ℕ, ◌+◌, ◌==◌, false, List, [], ◌∷◌, Option, Some, find, sum_by}
use Rattle.std.specs.List.{AllByRecursion, list_any}
use Rattle.std.specs.Option.{option_map}
use Rattle.std.specs.Ordering.{nat_cmp}
use Rattle.sis_name.specs.Units.{name_cmp}
use Rattle.sis_table.specs.declared.draft.Draft.{Draft}
use Rattle.sis_table.specs.declared.node.Node.{Node}
use Rattle.sis_table.specs.declared.trees.Changes.{Changes}
use Rattle.sis_table.specs.Index.{AreRising}
use Rattle.sis_table.specs.Spelling.{IsShort, node_len}
use Rattle.sis_table.specs.Trees.{Leads, put_at}
use Rattle.sis_table.specs.Volume.{VolumeTable, IsTable, has_name, id_of}

-- files by id
abbrev pub FileMap : Type 0
FileMap = ℕ → Option Node

-- the file with this id
abbrev pub file_at : List Node → ℕ → Option Node
file_at nodes id = find (λ n. n.id == id) nodes

-- the id of the file of this name
abbrev pub owner_of : List Node → List ℕ → Option ℕ
owner_of nodes name = option_map id_of (find (has_name name) nodes)

-- no two of the files have one name
abbrev pub HaveOwnNames : List Node → Type 0
HaveOwnNames [] = Unit {0}
HaveOwnNames (n ∷ ns) = (list_any (has_name n.name) ns ≡ false) × HaveOwnNames ns

-- changes of files under their ids, and of ids under names, lead from the first files to others
pub record LeadsTo (base : List Node) (by_id : Changes ℕ Node) (by_name : Changes (List ℕ) ℕ)
    (nodes : List Node) : Type 0 where
  pub files : Leads nat_cmp by_id (file_at base) (file_at nodes)
  pub owners : Leads name_cmp by_name (owner_of base) (owner_of nodes)

-- The draft of changes of the first files stands for the second ones. A spelling has 20 bytes in
-- front of its files.
pub record Stands (base : List Node) (d : Draft) (nodes : List Node) : Type 0 where
  pub rising : AreRising nodes
  pub short : AllByRecursion IsShort nodes
  pub leads : LeadsTo base d.nodes d.names nodes
  pub len : d.text_len ≡ 20 + sum_by node_len nodes

-- the same, where this file was taken out of the draft
pub record Lacks (base : List Node) (d : Draft) (nodes : List Node) (n : Node) : Type 0 where
  pub there : file_at nodes n.id ≡ Some n
  pub rising : AreRising nodes
  pub short : AllByRecursion IsShort nodes
  pub files : Leads nat_cmp d.nodes (file_at base)
      (put_at nat_cmp n.id (file_at base n.id) (file_at nodes))
  pub owners : Leads name_cmp d.names (owner_of base) (owner_of nodes)
  pub len : d.text_len + node_len n ≡ 20 + sum_by node_len nodes

-- the same, where the file that was taken out has this id and this name
pub record LacksNamed (base : List Node) (d : Draft) (nodes : List Node) (id : ℕ) (name : List ℕ)
    : Type 0 where
  pub node : Node
  pub id_is : node.id ≡ id
  pub name_is : node.name ≡ name
  pub lacks : Lacks base d nodes node

-- a change of a file keeps its id and its name
pub record KeepsPlace (change : Node → Node) : Type 0 where
  pub id : (n : Node) → (change n).id ≡ n.id
  pub name : (n : Node) → (change n).name ≡ n.name

-- the draft of changes of the first table stands for the second one
pub record Drafts (v : VolumeTable) (d : Draft) (now : VolumeTable) : Type 0 where
  pub table : IsTable now
  pub layout : now.layout ≡ v.layout
  pub greatest : now.greatest ≡ v.greatest
  pub next : d.next_id ≡ now.next_id
  pub stands : Stands v.nodes d now.nodes
