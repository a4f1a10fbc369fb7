use Rattle.sis_backpointer.proofs.Readings.{read_is_spelled}
use Rattle.sis_backpointer.proofs.laws.read_is_spelled.Goals as goal

pub returns : goal.returns
returns c = read_is_spelled
