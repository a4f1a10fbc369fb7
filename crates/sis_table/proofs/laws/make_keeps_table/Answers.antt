use Rattle.sis_table.proofs.ChangesLaws.{make_others, make_there}
use Rattle.sis_table.proofs.ChangesTable.{IsGood-make, IsTable-make}
use Rattle.sis_table.proofs.ChangesUsed.{used-make}
use Rattle.sis_table.proofs.laws.make_keeps_table.Goals as goal

pub returns-clause-table : goal.returns-clause-table
returns-clause-table c = IsTable-make

pub returns-clause-good : goal.returns-clause-good
returns-clause-good c = IsGood-make

pub returns-clause-used : goal.returns-clause-used
returns-clause-used c = used-make

pub returns-clause-there : goal.returns-clause-there
returns-clause-there c = make_there

pub returns-clause-others : goal.returns-clause-others
returns-clause-others c = make_others
