use Rattle.sis_ranges.proofs.CutLemmas.{next_at, none_next}
use Rattle.sis_ranges.proofs.cutting.next_run.Goals as goal

pub returns-then-at-runs : goal.returns-then-at-runs
returns-then-at-runs c = next_at c.args.runs.now c.args.block _ _ c.requires.maximal c.requires.within c.passed-at.ensures.count c.if-at-runs.true

pub returns-else-at-runs : goal.returns-else-at-runs
returns-else-at-runs c q ge = none_next c.args.runs.now c.args.block c.passed-at.result q c.passed-at.ensures.count c.if-at-runs.false ge
