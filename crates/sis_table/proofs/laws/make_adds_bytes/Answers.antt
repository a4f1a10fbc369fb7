use Rattle.sis_table.proofs.ChangesLaws.{make_files}
use Rattle.sis_table.proofs.laws.make_adds_bytes.Goals as goal

pub returns : goal.returns
returns c = make_files
