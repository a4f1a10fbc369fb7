use Rattle.std.proofs.Common.{subst}
use Rattle.sis_history.specs.Replies.{IsServed}
use Rattle.sis_history.proofs.row_cases.case_of_an_unserved_command.Goals as goal

pub returns : goal.returns
returns c s t e fresh name is r = absurd (subst IsServed is r.may.served)
