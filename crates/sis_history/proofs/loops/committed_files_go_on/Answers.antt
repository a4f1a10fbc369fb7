use Rattle.sis_history.proofs.LoopLemmas.{committed_now, committed_push}
use Rattle.sis_history.proofs.loops.committed_files_go_on.Goals as goal

pub returns-clause-now : goal.returns-clause-now
returns-clause-now c = committed_now

pub returns-clause-entry : goal.returns-clause-entry
returns-clause-entry c = committed_push
