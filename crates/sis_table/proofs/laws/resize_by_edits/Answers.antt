use Rattle.sis_table.proofs.ChangesLaws.{resize_by_edits, resize_fresh, resize_may}
use Rattle.sis_table.proofs.laws.resize_by_edits.Goals as goal

pub returns-clause-made : goal.returns-clause-made
returns-clause-made c = λ v n r runs t may free. resize_by_edits v n r t may runs free

pub returns-clause-may : goal.returns-clause-may
returns-clause-may c = λ v n r runs t may free. resize_may v n r t may runs free

pub returns-clause-fresh : goal.returns-clause-fresh
returns-clause-fresh c = λ v n r runs t may free. resize_fresh v n r t may runs free
