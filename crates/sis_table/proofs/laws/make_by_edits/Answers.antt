use Rattle.sis_table.proofs.ChangesLaws.{make_by_edits, make_fresh, make_may}
use Rattle.sis_table.proofs.laws.make_by_edits.Goals as goal

pub returns-clause-made : goal.returns-clause-made
returns-clause-made c = make_by_edits

pub returns-clause-may : goal.returns-clause-may
returns-clause-may c = make_may

pub returns-clause-fresh : goal.returns-clause-fresh
returns-clause-fresh c = make_fresh
