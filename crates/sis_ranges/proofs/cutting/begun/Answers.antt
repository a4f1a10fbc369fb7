use Rattle.std.proofs.Common.{arith, sym}
use Rattle.sis_ranges.proofs.CutLemmas.{begun-in, begun-out}
use Rattle.sis_ranges.proofs.cutting.begun.Goals as goal
use Rattle.sis_ranges.proofs.cutting.begun.Goals.{else-at-runs-via-then-at-runs+else-runs-at, else-at-runs-via-else-at-runs}

pub returns-then-runs-at-clause-count : goal.returns-then-runs-at-clause-count
returns-then-runs-at-clause-count c =
    omega (arith, begun-in c.args.runs.now c.args.block c.passed-at.result _ c.passed-at.ensures.count c.if-at-runs.true c.if-runs-at.true)

pub returns-else-at-runs-clause-count : goal.returns-else-at-runs-clause-count
returns-else-at-runs-clause-count c = elim c.else-at-runs.branch [
  | else-at-runs-via-then-at-runs+else-runs-at w ↦
      sym (begun-out c.args.runs.now c.args.block c.passed-at.result _ c.passed-at.ensures.count (λ lt. w.if-runs-at.false))
  | else-at-runs-via-else-at-runs w ↦
      sym (begun-out c.args.runs.now c.args.block c.passed-at.result (record { first = 0; count = 0; place = 0 }) c.passed-at.ensures.count
      (λ lt. absurd (omega (arith, lt, w.if-at-runs.false))))
]
