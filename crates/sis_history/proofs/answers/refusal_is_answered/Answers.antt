use Rattle.sis_history.proofs.ExactLemmas.{entry_refused}
use Rattle.sis_history.proofs.answers.refusal_is_answered.Goals as goal

pub returns : goal.returns
returns c = entry_refused
