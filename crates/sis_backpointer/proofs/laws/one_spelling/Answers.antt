use Rattle.sis_backpointer.proofs.Readings.{one_spelling}
use Rattle.sis_backpointer.proofs.laws.one_spelling.Goals as goal

pub returns : goal.returns
returns c = one_spelling
