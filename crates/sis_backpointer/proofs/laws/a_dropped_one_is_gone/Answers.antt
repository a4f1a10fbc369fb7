use Rattle.sis_backpointer.proofs.CallerLemmas.{IsRising-without_back, length-without_back}
use Rattle.sis_backpointer.proofs.laws.a_dropped_one_is_gone.Goals as goal

pub returns : goal.returns
returns c = record { rising = IsRising-without_back; len = length-without_back }
