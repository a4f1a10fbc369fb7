use Rattle.std.proofs.Common.{◌≡◌, ◌+◌}
use Rattle.std.specs.Prelude.{drop}
use Rattle.sis_ranges.specs.Inside.{blocks_in}
use Rattle.sis_ranges.proofs.cutting.total.Given as goal

abbrev pub invariant-loop-run : goal.invariant-loop-run
invariant-loop-run l = l.total + blocks_in (drop l.run-index l.runs) ≡ blocks_in l.runs
