use Rattle.sis_journal.proofs.ReadCalls.{one_read}
use Rattle.sis_journal.proofs.opening.read_at.Goals as goal

pub returns-clause-reads : goal.returns-clause-reads
returns-clause-reads g c = one_read _ _ _ _ _ c.read.ensures.call
