use Rattle.std.proofs.Common.{◌++◌, arith}
use Rattle.std.proofs.lemmas.Grind.{common_steps}
use Rattle.sis_core.proofs.OpensIndex.{writers-le}
use Rattle.sis_core.proofs.opens.index.leave_file.Goals as goal

pub returns-else-left-gt0 : goal.returns-else-left-gt0
returns-else-left-gt0 c = λ front rest counts file.
    grind (
      arith,
      common_steps,
      counts file,
      counts c.args.this.now.file,
      writers-le file (front ++ rest),
    )
