use Rattle.sis_core.proofs.OpensIndex.{left}
use Rattle.sis_core.proofs.opens.index.Index.leave.Goals as goal

pub returns : goal.returns
returns c = λ front rest is.
    left front rest c.args.this.now c.args.self.now _ is c.remove.ensures.updates
    (c.leave_client.ensures front rest is.clients) (c.leave_file.ensures front rest is.files)
