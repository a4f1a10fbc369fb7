use Rattle.sis_history.proofs.RunLemmas.{run_after, run_appears, run_legal, run_world}
use Rattle.sis_history.proofs.runs.run_is_legal.Goals as goal

pub returns-clause-legal : goal.returns-clause-legal
returns-clause-legal c = run_legal

pub returns-clause-appears : goal.returns-clause-appears
returns-clause-appears c = run_appears

pub returns-clause-world : goal.returns-clause-world
returns-clause-world c = run_after

pub returns-clause-opens : goal.returns-clause-opens
returns-clause-opens c = run_world
