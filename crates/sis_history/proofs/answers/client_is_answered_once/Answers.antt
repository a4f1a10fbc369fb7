use Rattle.sis_history.proofs.AnswerLemmas.{answered_once}
use Rattle.sis_history.proofs.answers.client_is_answered_once.Goals as goal

pub returns : goal.returns
returns c = answered_once
