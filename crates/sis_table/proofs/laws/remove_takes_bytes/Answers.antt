use Rattle.sis_table.proofs.ChangesFiles.{files_of-removed}
use Rattle.sis_table.proofs.laws.remove_takes_bytes.Goals as goal

pub returns : goal.returns
returns c = files_of-removed
