use Rattle.std.proofs.Common.{◌≡◌, ◌++◌}
use Rattle.sis_table.proofs.table.Table.copy.Given as goal

abbrev pub invariant-loop-node : goal.invariant-loop-node
invariant-loop-node l = l.files ++ l.node-iterator ≡ l.self-inside.files
