use Rattle.std.proofs.Common.{◌≡◌, ℕ, ◌-◌, List, length, take, drop, arith, sym, ap, subst, ◌∙◌}
use Rattle.std.proofs.lemmas.List.{take_rest}
use Rattle.sis_ranges.specs.declared.run.Run.{Run}
use Rattle.sis_ranges.specs.Inside.{AreExtents, blocks_between}
use Rattle.sis_ranges.proofs.PartLemmas.{AreExtents-drop, between-next, between-passed, between-stop, between-total}
use Rattle.sis_ranges.proofs.cutting.between.Goals as goal

pub loop-run-init : goal.loop-run-init
loop-run-init c =
    let whole : blocks_between c.args.first c.args.end (take (length c.args.runs.now - c.passed.result) (drop c.passed.result c.args.runs.now)) ≡ blocks_between c.args.first c.args.end c.args.runs.now =
    ap (λ (l : List Run). blocks_between c.args.first c.args.end l) (take_rest c.args.runs.now c.passed.result)
    ∙ ap (λ (n : ℕ). blocks_between c.args.first c.args.end (drop n c.args.runs.now)) c.passed.ensures.count
    ∙ between-passed c.args.runs.now c.args.first c.args.end in
    record {
      sum = omega (arith, whole);
      extents = subst AreExtents (sym (take_rest c.args.runs.now c.passed.result)) (AreExtents-drop c.args.runs.now c.passed.result c.requires);
    }

pub overflow_add-total : goal.overflow_add-total
overflow_add-total c =
    omega (
      arith,
      between-next _ c.args.first c.args.end c.loop-run.run-index (record { first = 0; count = 0; place = 0 }) c.loop-run-test.true,
      c.loop-run.invariant.sum,
      between-total c.args.runs.now c.args.first c.args.end c.requires,
      c.saturating_sub-total.ensures,
      c.min.ensures,
      c.max.ensures,
    )

pub returns-then-end-run : goal.returns-then-end-run
returns-then-end-run c =
    omega (
      arith,
      c.loop-run.invariant.sum,
      between-stop _ c.args.first c.args.end c.loop-run.run-index _ c.loop-run.invariant.extents c.loop-run-test.true c.if-end-run.true,
    )
