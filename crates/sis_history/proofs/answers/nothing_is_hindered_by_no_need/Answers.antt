use Rattle.sis_history.proofs.ExactLemmas.{no_need_free}
use Rattle.sis_history.proofs.answers.nothing_is_hindered_by_no_need.Goals as goal

pub returns : goal.returns
returns c = no_need_free
