use Rattle.sis_history.proofs.ExactLemmas.{entry_hindered}
use Rattle.sis_history.proofs.answers.hindrance_is_answered.Goals as goal

pub returns : goal.returns
returns c = entry_hindered
