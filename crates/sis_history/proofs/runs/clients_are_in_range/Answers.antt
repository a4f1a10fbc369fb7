use Rattle.sis_history.proofs.ClientLemmas.{run_clients, run_entries}
use Rattle.sis_history.proofs.runs.clients_are_in_range.Goals as goal

pub returns-clause-begins : goal.returns-clause-begins
returns-clause-begins c w v seen client j is = absurd cc

pub returns-clause-jobs : goal.returns-clause-jobs
returns-clause-jobs c = run_clients

pub returns-clause-entries : goal.returns-clause-entries
returns-clause-entries c = run_entries
