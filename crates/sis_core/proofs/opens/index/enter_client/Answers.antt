use Rattle.std.proofs.Common.{arith}
use Rattle.std.proofs.lemmas.Grind.{common_steps}
use Rattle.sis_core.specs.Opens.{is_of}
use Rattle.sis_core.proofs.OpensIndex.{count-le}
use Rattle.sis_core.proofs.opens.index.enter_client.Goals as goal

pub overflow_add-clients : goal.overflow_add-clients
overflow_add-clients c =
    let client = c.args.this.now.client in
    grind (arith, common_steps, c.requires.1 client, count-le (is_of client) c.requires.0)
