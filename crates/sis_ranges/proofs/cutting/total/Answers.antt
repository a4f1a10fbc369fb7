use Rattle.std.proofs.Common.{arith, ap}
use Rattle.sis_ranges.specs.Inside.{blocks_in}
use Rattle.sis_ranges.proofs.CutLemmas.{drop_next}
use Rattle.sis_ranges.proofs.MapLemmas.{blocks_bound}
use Rattle.sis_ranges.proofs.cutting.total.Goals as goal

pub overflow_add-total : goal.overflow_add-total
overflow_add-total c =
    let next = ap blocks_in (drop_next c.args.runs.now c.loop-run.run-index (record { first = 0; count = 0; place = 0 }) c.loop-run-test.true) in
    omega (arith, next, c.loop-run.invariant, blocks_bound c.args.runs.now c.requires)
