use Rattle.sis_history.proofs.RunLemmas.{row_world}
use Rattle.sis_history.proofs.runs.rows_leave_the_world.Goals as goal

pub returns : goal.returns
returns c = row_world
