-- How long a table's spelling is after an edit.
use Rattle.std.proofs.Common.{◌≡◌, ℕ, ◌+◌, ◌*◌, ◌≤◌, List, [], ◌∷◌, ◌++◌, length, sum_by, Some, ap, arith}
use Rattle.std.specs.FinMap.{empty}
use Rattle.std.specs.Ordering.{nat_cmp}
use Rattle.std.proofs.lemmas.List.Sums.{sum_by_push}
use Rattle.sis_ranges.specs.Extents.{runs_of}
use Rattle.sis_ranges.proofs.CallerLemmas.{length-with_blocks, length-without_stretch, runs_of-map_of}
use Rattle.sis_table.specs.declared.edit.Edit.TheVariants as edit
use Rattle.sis_table.specs.declared.kind.NodeKind.{NodeKind}
use Rattle.sis_table.specs.declared.node.Node.{Node}
use Rattle.sis_table.specs.Edits.{edited, made, stretch, with_map, with_name, with_node, with_size, with_version, without_map}
use Rattle.sis_table.specs.Spelling.{node_len, spelling}
use Rattle.sis_table.specs.Volume.{VolumeTable, node_with}
use Rattle.sis_table.proofs.ChangeLemmas.{sum_without}
use Rattle.sis_table.proofs.FileLemmas.{sum-with_node}
use Rattle.sis_table.proofs.Lengths.{length-spelling}

no_runs : length (runs_of (empty {X = ℕ} {R = nat_cmp})) ≡ 0
no_runs = ap (λ rs. length rs) (runs_of-map_of [] tt)

-- a new file
pub length-make : (v : VolumeTable) (id : ℕ) (kind : NodeKind) (name : List ℕ) → length (spelling (edited v (edit.Make id kind name))) ≡ length (spelling v) + (31 + 2 * length name)
length-make v id kind name =
    let longer : sum_by node_len (v.nodes ++ made id kind name ∷ []) ≡ sum_by node_len v.nodes + node_len (made id kind name) = sum_by_push node_len v.nodes (made id kind name) in
    omega (arith, length-spelling v, length-spelling (edited v (edit.Make id kind name)), longer, no_runs)

module _ (v : VolumeTable) (id : ℕ) (n : Node) (there : node_with v id ≡ Some n) where
  -- a file less
  pub length-drop : length (spelling (edited v (edit.Drop id))) + node_len n ≡ length (spelling v)
  length-drop = omega (arith, length-spelling v, length-spelling (edited v (edit.Drop id)), sum_without id v.nodes n there)

  -- a file changed
  pub length-changed : (change : Node → Node) → length (spelling (record v { nodes = with_node id change v.nodes })) + node_len n ≡ length (spelling v) + node_len (change n)
  length-changed change =
      omega (arith, length-spelling v, length-spelling (record v { nodes = with_node id change v.nodes }), sum-with_node id change v.nodes n there)

  pub length-rename : (name : List ℕ) → length (spelling (edited v (edit.Rename id name))) + 2 * length n.name ≡ length (spelling v) + 2 * length name
  length-rename name = omega (arith, length-changed (with_name name))

  pub length-size : (size : ℕ) → length (spelling (edited v (edit.Size id size))) ≡ length (spelling v)
  length-size size = omega (arith, length-changed (with_size size))

  pub length-version : (version : ℕ) → length (spelling (edited v (edit.Version id version))) ≡ length (spelling v)
  length-version version = omega (arith, length-changed (with_version version))

  -- two runs more at most
  pub length-map : (first count place : ℕ) → length (spelling (edited v (edit.Map id first count place))) ≤ length (spelling v) + 48
  length-map first count place = omega (arith, length-changed (with_map (stretch first count place)), length-with_blocks n.map (stretch first count place))

  -- one run more at most
  pub length-unmap : (first count : ℕ) → length (spelling (edited v (edit.Unmap id first count))) ≤ length (spelling v) + 24
  length-unmap first count = omega (arith, length-changed (without_map first count), length-without_stretch n.map first count)
