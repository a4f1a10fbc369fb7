use Rattle.sis_backpointer.proofs.CallerLemmas.{IsRising-with_back, length-with_back}
use Rattle.sis_backpointer.proofs.laws.an_added_one_rises.Goals as goal

pub returns : goal.returns
returns c = record { rising = IsRising-with_back; len = length-with_back }
