use Rattle.std.proofs.Common.{Some, arith, sym, ap, ◌∙◌}
use Rattle.sis_ranges.specs.declared.run.Run.{Run}
use Rattle.sis_ranges.specs.Inside.{first_of}
use Rattle.sis_ranges.proofs.CutLemmas.{next_at, first-from, from-none, there_at}
use Rattle.sis_ranges.proofs.cutting.first_from.Goals as goal

pub from_block-requires-clause-ends : goal.from_block-requires-clause-ends
from_block-requires-clause-ends c = (next_at c.args.runs.now c.args.block _ _ c.requires.maximal c.requires.within c.passed-at.ensures.count c.if-at-runs.true).later

pub returns-then-at-runs : goal.returns-then-at-runs
returns-then-at-runs c =
    ap (λ (r : Run). Some r) c.from_block.ensures
    ∙ sym (first-from c.args.runs.now c.args.block c.passed-at.result _ c.passed-at.ensures.count c.if-at-runs.true
    (there_at c.args.runs.now c.passed-at.result (record { first = 0; count = 0; place = 0 }) c.if-at-runs.true))

pub returns-else-at-runs : goal.returns-else-at-runs
returns-else-at-runs c = sym (ap first_of (from-none c.args.runs.now c.args.block (omega (arith, c.if-at-runs.false, c.passed-at.ensures.count))))
