use Rattle.std.proofs.Common.{◌≡◌}
use Rattle.std.specs.Prelude.{None}
use Rattle.sis_history.specs.RowCases.{job_on, put_abc}
use Rattle.sis_history.proofs.row_cases.case_of_a_second_command.Goals as goal

pub returns : goal.returns
returns c t command r = absurd (let none : job_on put_abc ≡ None = r.may.idle in cc)
