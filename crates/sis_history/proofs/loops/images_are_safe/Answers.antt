use Rattle.sis_history.proofs.LoopLemmas.{safe_after, safe_at, safe_before}
use Rattle.sis_history.proofs.loops.images_are_safe.Goals as goal

pub returns-clause-after : goal.returns-clause-after
returns-clause-after c = safe_after

pub returns-clause-files : goal.returns-clause-files
returns-clause-files c = safe_at

pub returns-clause-before : goal.returns-clause-before
returns-clause-before c = safe_before
