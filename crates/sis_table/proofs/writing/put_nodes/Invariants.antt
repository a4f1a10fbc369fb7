use Rattle.std.proofs.Common.{◌≡◌, ◌+◌, ◌≤◌, ◌++◌, length, vec_capacity, flat_map, sum_by}
use Rattle.std.specs.List.{AllByRecursion}
use Rattle.sis_table.specs.Spelling.{node_text, node_len, IsShort}
use Rattle.sis_table.proofs.writing.put_nodes.Given as goal

abbrev pub invariant-loop-node : goal.invariant-loop-node
invariant-loop-node l = record {
  short : AllByRecursion IsShort l.node-iterator;
  items : l.out.items ++ flat_map node_text l.node-iterator ≡ l.fn.out.items ++ flat_map node_text l.files;
  size : length l.out.items + sum_by node_len l.node-iterator ≡ length l.fn.out.items + sum_by node_len l.files;
  room : vec_capacity l.fn.out ≤ vec_capacity l.out;
}
