use Rattle.sis_history.proofs.RunLemmas.{run_order}
use Rattle.sis_history.proofs.runs.run_is_in_order.Goals as goal

pub returns-clause-order : goal.returns-clause-order
returns-clause-order c s t rows run' = (run_order s t rows run').0

pub returns-clause-within : goal.returns-clause-within
returns-clause-within c s t rows run' = (run_order s t rows run').1
