use Rattle.sis_history.proofs.DownLemmas.{entry_left, run_left}
use Rattle.sis_history.proofs.runs.disk_is_left_alone.Goals as goal

pub returns-clause-uncalled : goal.returns-clause-uncalled
returns-clause-uncalled c = entry_left

pub returns-clause-down : goal.returns-clause-down
returns-clause-down c = run_left
