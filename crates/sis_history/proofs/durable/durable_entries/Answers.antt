use Rattle.sis_history.proofs.CountLemmas.{durable_command, durable_done, not_done_not_durable}
use Rattle.sis_history.proofs.durable.durable_entries.Goals as goal

pub returns-clause-only : goal.returns-clause-only
returns-clause-only c e durable = durable_command e.command e.reply durable

pub returns-clause-done : goal.returns-clause-done
returns-clause-done c = durable_done

pub returns-clause-others : goal.returns-clause-others
returns-clause-others c = not_done_not_durable
