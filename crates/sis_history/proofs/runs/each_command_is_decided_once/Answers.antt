use Rattle.sis_history.proofs.CallLemmas.{run_calls}
use Rattle.sis_history.proofs.runs.each_command_is_decided_once.Goals as goal

pub returns : goal.returns
returns c = run_calls
