use Rattle.std.proofs.Common.{ℕ, ◌-◌, ◌≤◌}
use Rattle.std.specs.Prelude.{length}
use Rattle.sis_ranges.specs.Inside.{passed_by}
use Rattle.sis_ranges.proofs.cutting.passed.Given as goal

pub record Between (low high count len : ℕ) : Type 0 where
  pub low_by : low ≤ count
  pub high_by : count ≤ high
  pub bound : high ≤ len

abbrev pub invariant-loop-low : goal.invariant-loop-low
invariant-loop-low l = Between l.low l.high (passed_by l.block l.runs) (length l.runs)

abbrev pub decreases-loop-low : goal.decreases-loop-low
decreases-loop-low l = l.high - l.low
