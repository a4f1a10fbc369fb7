use Rattle.std.proofs.Common.{◌∙◌, sym, arith}
use Rattle.sis_ranges.proofs.CutLemmas.{passed-bound, passed-true, passed-false}
use Rattle.sis_ranges.proofs.cutting.passed.Goals as goal

pub loop-low-init : goal.loop-low-init
loop-low-init c = record { low_by = omega arith; high_by = passed-bound c.args.runs.now c.args.block; bound = omega arith }

pub loop-low-preserved-then-ends_by-2 : goal.loop-low-preserved-then-ends_by-2
loop-low-preserved-then-ends_by-2 c = record {
  low_by = omega (arith, passed-true c.args.runs.now c.args.block _ _ c.requires (omega (arith, c.loop-low-test.true, c.loop-low.invariant.bound)) (sym c.ends_by-in-loop-low.ensures ∙ c.if-ends_by-2.true));
  high_by = c.loop-low.invariant.high_by;
  bound = c.loop-low.invariant.bound;
}

pub loop-low-preserved : goal.loop-low-preserved
loop-low-preserved c = record {
  low_by = c.loop-low.invariant.low_by;
  high_by = passed-false c.args.runs.now c.args.block _ _ (omega (arith, c.loop-low-test.true, c.loop-low.invariant.bound)) (sym c.ends_by-in-loop-low.ensures ∙ c.if-ends_by-2.false);
  bound = omega (arith, c.loop-low-test.true, c.loop-low.invariant.bound);
}

pub returns-then-ends_by-clause-count : goal.returns-then-ends_by-clause-count
returns-then-ends_by-clause-count c =
    let more = passed-true c.args.runs.now c.args.block _ _ c.requires (omega (arith, c.if-high-gt0.true)) (sym c.ends_by.ensures ∙ c.if-ends_by.true) in
    omega (arith, more, passed-bound c.args.runs.now c.args.block, c.if-high-gt0.true)
