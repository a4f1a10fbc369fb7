use Rattle.sis_disk.proofs.Appends.{AppendedFront-none}
use Rattle.sis_script.proofs.printing.print_entry.Goals as goal

pub returns-in_default-clause-err : goal.returns-in_default-clause-err
returns-in_default-clause-err g c = AppendedFront-none _ _
