use Rattle.sis_history.proofs.DownLemmas.{fault_answered}
use Rattle.sis_history.proofs.answers.faults_are_answered.Goals as goal

pub returns : goal.returns
returns c = fault_answered
