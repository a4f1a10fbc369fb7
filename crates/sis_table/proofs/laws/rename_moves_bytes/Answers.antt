use Rattle.sis_table.proofs.ChangesFiles.{files_of-renamed}
use Rattle.sis_table.proofs.laws.rename_moves_bytes.Goals as goal

pub returns : goal.returns
returns c = files_of-renamed
