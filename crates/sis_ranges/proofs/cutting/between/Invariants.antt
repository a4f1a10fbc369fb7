use Rattle.std.proofs.Common.{ℕ, ◌≡◌, ◌+◌, List}
use Rattle.std.specs.Prelude.{drop}
use Rattle.sis_ranges.specs.declared.run.Run.{Run}
use Rattle.sis_ranges.specs.Inside.{AreExtents, blocks_between}
use Rattle.sis_ranges.proofs.cutting.between.Given as goal

pub record Counted (runs rest : List Run) (first end total : ℕ) : Type 0 where
  pub sum : total + blocks_between first end rest ≡ blocks_between first end runs
  pub extents : AreExtents rest

abbrev pub invariant-loop-run : goal.invariant-loop-run
invariant-loop-run l = Counted l.runs (drop l.run-index l.run-items) l.first l.end l.total
