use Rattle.std.proofs.Common.{arith}
use Rattle.sis_journal.proofs.opening.value_of.Goals as goal

pub returns-in-Ok-clause-spelled : goal.returns-in-Ok-clause-spelled
returns-in-Ok-clause-spelled g c =
    g.met.K.Kept.spelled c.args.layout c.args.text.now c.in-Ok.value c.requires.layout
    (λ i. omega (arith, c.type_inv.text i)) c.in-Ok.ensures.value
