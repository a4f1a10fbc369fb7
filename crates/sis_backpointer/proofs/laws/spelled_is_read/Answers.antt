use Rattle.sis_backpointer.proofs.Readings.{spelled_is_read}
use Rattle.sis_backpointer.proofs.laws.spelled_is_read.Goals as goal

pub returns : goal.returns
returns c = spelled_is_read
