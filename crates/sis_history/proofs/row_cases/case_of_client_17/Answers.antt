use Rattle.std.proofs.Common.{◌≤◌, arith}
use Rattle.sis_history.proofs.row_cases.case_of_client_17.Goals as goal

pub returns : goal.returns
returns c s t command r = absurd (let high : 17 ≤ 16 = r.may.high in omega (arith, high))
