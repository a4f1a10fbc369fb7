use Rattle.std.proofs.Common.{arith}
use Rattle.std.proofs.lemmas.Grind.{common_steps}
use Rattle.sis_core.specs.Opens.{is_in, writes_in}
use Rattle.sis_core.proofs.OpensIndex.{count-le}
use Rattle.sis_core.proofs.opens.index.enter_file.Goals as goal

pub overflow_add-file : goal.overflow_add-file
overflow_add-file c =
    let file = c.args.this.now.file in
    grind (arith, common_steps, c.requires.1 file, count-le (is_in file) c.requires.0)

pub overflow_add-file-then-this : goal.overflow_add-file-then-this
overflow_add-file-then-this c =
    let file = c.args.this.now.file in
    grind (arith, common_steps, c.requires.1 file, count-le (writes_in file) c.requires.0)
