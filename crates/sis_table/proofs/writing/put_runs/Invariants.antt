use Rattle.std.proofs.Common.{◌≡◌, ◌+◌, ◌*◌, ◌≤◌, ◌++◌, length, vec_capacity, flat_map, drop}
use Rattle.sis_table.specs.Spelling.{run_text, runs_text}
use Rattle.sis_table.proofs.writing.put_runs.Given as goal

abbrev pub invariant-loop-run : goal.invariant-loop-run
invariant-loop-run l =
    (l.out.items ++ flat_map run_text (drop l.run-index l.runs) ≡ l.fn.out.items ++ runs_text l.runs)
    × (length l.out.items ≡ length l.fn.out.items + (4 + 24 * l.run-index))
    × (vec_capacity l.fn.out ≤ vec_capacity l.out)
