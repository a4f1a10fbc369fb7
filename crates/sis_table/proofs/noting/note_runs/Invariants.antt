use Rattle.std.proofs.Common.{◌≡◌, ◌++◌, map, take}
use Rattle.sis_table.specs.Inside.{freed}
use Rattle.sis_table.proofs.noting.note_runs.Given as goal

abbrev pub invariant-loop-run : goal.invariant-loop-run
invariant-loop-run l = l.uses.items ≡ l.fn.uses.items ++ map freed (take l.run-index l.runs)
