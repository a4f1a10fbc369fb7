use Rattle.std.proofs.Common.{refl}
use Rattle.sis_history.proofs.CaseLemmas.{mapped, unmapped}
use Rattle.sis_history.proofs.row_cases.case_of_a_hole.Goals as goal

pub returns-clause-hole : goal.returns-clause-hole
returns-clause-hole c = rw unmapped refl

pub returns-clause-block : goal.returns-clause-block
returns-clause-block c = rw (mapped, unmapped) refl

pub returns-clause-few : goal.returns-clause-few
returns-clause-few c = rw (mapped, unmapped) refl
