use Rattle.sis_table.proofs.ChangesLaws.{size_bytes, size_files}
use Rattle.sis_table.proofs.laws.size_changes_bytes.Goals as goal

pub returns-clause-bytes : goal.returns-clause-bytes
returns-clause-bytes c = size_bytes

pub returns-clause-files : goal.returns-clause-files
returns-clause-files c = size_files
