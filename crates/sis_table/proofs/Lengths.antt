-- How long the texts of a table are.
use Rattle.std.proofs.Common.{◌≡◌, ℕ, ◌+◌, ◌*◌, ◌≤◌, List, [], ◌∷◌, ◌++◌, length, flat_map, sum_by, refl, arith, length-append}
use Rattle.std.specs.List.{AllByRecursion}
use Rattle.std.proofs.lemmas.Bool.Decides.{nat_tests}
use Rattle.std.proofs.lemmas.List.Sums.{sum_by-cons}
use Rattle.sis_disk.specs.declared.layout.Layout.{Layout}
use Rattle.sis_name.specs.Name.{IsName}
use Rattle.sis_table.specs.Spelling.{le2, le4, le8, run_text, name_text, runs_text, node_text, node_len, spelling, IsShort}
use Rattle.sis_ranges.specs.declared.run.Run.{Run}
use Rattle.sis_ranges.specs.Extents.{runs_of}
use Rattle.sis_table.specs.Kinds.{kind_byte}
use Rattle.sis_table.specs.Volume.{VolumeTable, IsNode, AreNodes, blocks_of, greatest_size}
use Rattle.sis_table.proofs.MapLemmas.{length-runs_of}
use Rattle.sis_table.specs.declared.node.Node.{Node}

pub length_le2 : (n : ℕ) → length (le2 n) ≡ 2
unfolding le2
length_le2 n = refl

pub length_le4 : (n : ℕ) → length (le4 n) ≡ 4
unfolding le4
length_le4 n = refl

pub length_le8 : (n : ℕ) → length (le8 n) ≡ 8
unfolding le8
length_le8 n = refl

pub length_run_text : (r : Run) → length (run_text r) ≡ 24
unfolding run_text
length_run_text r = omega (
  arith,
  length_le8 r.first,
  length_le8 r.count,
  length_le8 r.place,
  length-append (le8 r.first ++ le8 r.count) (le8 r.place),
  length-append (le8 r.first) (le8 r.count),
)

pub length_units : (units : List ℕ) → length (flat_map le2 units) ≡ 2 * length units
length_units [] = refl
length_units (u ∷ us) = omega (arith, length_units us, length_le2 u, length-append (le2 u) (flat_map le2 us))

pub length_name_text : (units : List ℕ) → length (name_text units) ≡ 2 + 2 * length units
length_name_text units =
    omega (arith, length_units units, length_le2 (length units), length-append (le2 (length units)) (flat_map le2 units))

length_run_texts : (runs : List Run) → length (flat_map run_text runs) ≡ 24 * length runs
length_run_texts [] = refl
length_run_texts (r ∷ rs) =
    omega (arith, length_run_texts rs, length_run_text r, length-append (run_text r) (flat_map run_text rs))

pub length_runs_text : (runs : List Run) → length (runs_text runs) ≡ 4 + 24 * length runs
length_runs_text runs =
    omega (arith, length_run_texts runs, length_le4 (length runs), length-append (le4 (length runs)) (flat_map run_text runs))

pub length_node_text : (n : Node) → length (node_text n) ≡ node_len n
unfolding node_text
length_node_text n =
    let a = le8 n.id in
    let b = name_text n.name in
    let c : List ℕ = kind_byte n.kind ∷ [] in
    let d = le8 n.size in
    let e = le8 n.version in
    let f = runs_text (runs_of n.map) in
    omega (
      arith,
      length_le8 n.id,
      length_name_text n.name,
      length_le8 n.size,
      length_le8 n.version,
      length_runs_text (runs_of n.map),
      length-append a b,
      length-append (a ++ b) c,
      length-append (a ++ b ++ c) d,
      length-append (a ++ b ++ c ++ d) e,
      length-append (a ++ b ++ c ++ d ++ e) f,
    )

length_node_texts : (nodes : List Node) → length (flat_map node_text nodes) ≡ sum_by node_len nodes
length_node_texts [] = refl
length_node_texts (n ∷ ns) =
    omega (arith, length_node_texts ns, length_node_text n, length-append (node_text n) (flat_map node_text ns), sum_by-cons node_len n ns)

-- how long a table's text is
pub length-spelling : (v : VolumeTable) → length (spelling v) ≡ 20 + sum_by node_len v.nodes
unfolding spelling
length-spelling v =
    let a = le8 v.next_id in
    let b = le8 v.greatest in
    let c = le4 (length v.nodes) in
    omega (
      arith,
      length_le8 v.next_id,
      length_le8 v.greatest,
      length_le4 (length v.nodes),
      length_node_texts v.nodes,
      length-append a b,
      length-append (a ++ b) c,
      length-append (a ++ b ++ c) (flat_map node_text v.nodes),
    )

pub blocks_limit : (size : ℕ) → size ≤ greatest_size → blocks_of size ≤ 16777216
blocks_limit size h = omega arith

pub length_name : (name : List ℕ) → IsName name → length name ≤ 255
length_name name h = grind (arith, nat_tests)

pub IsShort-IsNode : (l : Layout) (n : Node) → IsNode l n → IsShort n
IsShort-IsNode l n h = record {
  name = length_name n.name h.name;
  runs = omega (arith, length-runs_of l (blocks_of n.size) n.map h.placed, blocks_limit n.size h.size);
}

pub all_short : (l : Layout) (next : ℕ) (front nodes : List Node) → AreNodes l next front nodes → AllByRecursion IsShort nodes
all_short l next front [] h = tt
all_short l next front (n ∷ ns) h = (IsShort-IsNode l n h.3, all_short l next (front ++ n ∷ []) ns h.4)

pub ruleset lengths = (length-spelling)
