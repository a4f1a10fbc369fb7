use Rattle.sis_history.proofs.RowStopLemmas.{row_commits, row_survives}
use Rattle.sis_history.proofs.runs.row_survives_stops.Goals as goal

pub returns-clause-stops : goal.returns-clause-stops
returns-clause-stops c = row_survives

pub returns-clause-committed : goal.returns-clause-committed
returns-clause-committed c = row_commits
