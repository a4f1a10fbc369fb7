use Rattle.sis_table.proofs.ChangesLaws.{remove_others, remove_there}
use Rattle.sis_table.proofs.ChangesTable.{IsGood-remove, IsTable-remove}
use Rattle.sis_table.proofs.ChangesUsed.{used-remove}
use Rattle.sis_table.proofs.laws.remove_keeps_table.Goals as goal

pub returns-clause-table : goal.returns-clause-table
returns-clause-table c = IsTable-remove

pub returns-clause-good : goal.returns-clause-good
returns-clause-good c = IsGood-remove

pub returns-clause-used : goal.returns-clause-used
returns-clause-used c = used-remove

pub returns-clause-there : goal.returns-clause-there
returns-clause-there c = remove_there

pub returns-clause-others : goal.returns-clause-others
returns-clause-others c = remove_others
