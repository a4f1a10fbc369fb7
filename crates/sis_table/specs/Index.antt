-- An index of the names of files, and what files with one keep.
use Rattle.std.specs.Prelude.{◌≡◌, ℕ, ◌<◌, ◌≤◌, ◌==◌, List, map, find, Option, None, Some}
use Rattle.std.specs.List.{AllByRecursion}
use Rattle.std.specs.List.Sorted.{IsStrictlySortedBy}
use Rattle.std.specs.Option.{option_map}
use Rattle.std.specs.Ordering.{nat_cmp}
use Rattle.std.specs.BTreeMap.{BTreeMap, get, values}
use Rattle.sis_name.specs.Units.{name_cmp}
use Rattle.sis_table.specs.declared.node.Node.{Node}
use Rattle.sis_table.specs.Volume.{has_name, id_of}

-- under each name the id of the first of these files that has it
abbrev pub IsIndex : BTreeMap (List ℕ) ℕ → List Node → Type 0
IsIndex names nodes =
    (name : List ℕ) → get name_cmp names name ≡ option_map id_of (find (has_name name) nodes)

-- the ids of the files rise
abbrev pub AreRising : List Node → Type 0
AreRising nodes = IsStrictlySortedBy nat_cmp (map id_of nodes)

-- files by rising ids with an index of their names
pub record AreIndexed (nodes : List Node) (names : BTreeMap (List ℕ) ℕ) : Type 0 where
  pub rising : AreRising nodes
  pub index : IsIndex names nodes

-- a file under its id
abbrev pub with_id : Node → ℕ × Node
with_id n = (n.id, n)

-- each file under its id, with an index of the names
pub record AreKept (nodes : BTreeMap ℕ Node) (names : BTreeMap (List ℕ) ℕ) : Type 0 where
  pub keyed : nodes.entries ≡ map with_id (values nodes)
  pub indexed : AreIndexed (values nodes) names

-- the file with the least id that is greater than this one; none, where no id is greater
abbrev pub IsNextIn : List Node → ℕ → Option Node → Type 0
IsNextIn nodes after None = AllByRecursion (λ n. n.id ≤ after) nodes
IsNextIn nodes after (Some next) =
    (after < next.id) × (find (λ n. n.id == next.id) nodes ≡ Some next)
    × AllByRecursion (λ n. after < n.id → next.id ≤ n.id) nodes
