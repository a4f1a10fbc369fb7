use Rattle.sis_history.proofs.RunLemmas.{run_begun, run_extended}
use Rattle.sis_history.proofs.runs.run_is_extended.Goals as goal

pub returns-clause-begins : goal.returns-clause-begins
returns-clause-begins c = run_begun

pub returns-clause-more : goal.returns-clause-more
returns-clause-more c = run_extended
