use Rattle.sis_table.proofs.ChangesLaws.{resize_good, resize_others, resize_table, resize_there, resize_used, resize_used_grown}
use Rattle.sis_table.proofs.laws.resize_keeps_table.Goals as goal

pub returns-clause-table : goal.returns-clause-table
returns-clause-table c = resize_table

pub returns-clause-good : goal.returns-clause-good
returns-clause-good c = resize_good

pub returns-clause-there : goal.returns-clause-there
returns-clause-there c = resize_there

pub returns-clause-others : goal.returns-clause-others
returns-clause-others c = resize_others

pub returns-clause-used : goal.returns-clause-used
returns-clause-used c = resize_used

pub returns-clause-grown : goal.returns-clause-grown
returns-clause-grown c = resize_used_grown
