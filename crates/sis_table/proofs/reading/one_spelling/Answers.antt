use Rattle.sis_table.proofs.ReadingLaws.{one_table}
use Rattle.sis_table.proofs.reading.one_spelling.Goals as goal

pub returns : goal.returns
returns c = one_table
