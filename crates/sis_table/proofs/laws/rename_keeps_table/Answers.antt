use Rattle.sis_table.proofs.ChangesLaws.{rename_others, rename_there}
use Rattle.sis_table.proofs.ChangesTable.{IsGood-rename, IsTable-rename}
use Rattle.sis_table.proofs.ChangesUsed.{used-rename}
use Rattle.sis_table.proofs.laws.rename_keeps_table.Goals as goal

pub returns-clause-table : goal.returns-clause-table
returns-clause-table c = IsTable-rename

pub returns-clause-good : goal.returns-clause-good
returns-clause-good c = IsGood-rename

pub returns-clause-used : goal.returns-clause-used
returns-clause-used c = used-rename

pub returns-clause-there : goal.returns-clause-there
returns-clause-there c = rename_there

pub returns-clause-others : goal.returns-clause-others
returns-clause-others c = rename_others
