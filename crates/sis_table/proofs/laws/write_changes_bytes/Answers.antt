use Rattle.sis_table.proofs.ChangesLaws.{write_bytes, write_files}
use Rattle.sis_table.proofs.laws.write_changes_bytes.Goals as goal

pub returns-clause-bytes : goal.returns-clause-bytes
returns-clause-bytes c = write_bytes

pub returns-clause-files : goal.returns-clause-files
returns-clause-files c = write_files
