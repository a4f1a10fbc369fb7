use Rattle.sis_history.proofs.DownLemmas.{calls_rise, run_falls, run_tells}
use Rattle.sis_history.proofs.FaultLemmas.{faults_rise}
use Rattle.sis_history.proofs.runs.down_is_told.Goals as goal

pub returns-clause-told : goal.returns-clause-told
returns-clause-told c = run_tells

pub returns-clause-rose : goal.returns-clause-rose
returns-clause-rose c = run_falls

pub returns-clause-faults : goal.returns-clause-faults
returns-clause-faults c = faults_rise

pub returns-clause-calls : goal.returns-clause-calls
returns-clause-calls c = calls_rise
