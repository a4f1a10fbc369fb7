use Rattle.std.proofs.Common.{arith, false}
use Rattle.std.proofs.lemmas.Bool.Decides.{nat_tests}
use Rattle.sis_core.specs.declared.opens.Open.{Open}
use Rattle.sis_core.proofs.OpensIndex.{goes, stays}
use Rattle.sis_core.proofs.opens.index.Index.leave_all.Goals as goal
use Rattle.sis_core.proofs.opens.index.Index.leave_all.Goals.{then-open-client, else-open-client}

default : Open
default = record { client = 0; number = 0; file = 0; writes = false }

pub loop-open-preserved : goal.loop-open-preserved
unfolding default
loop-open-preserved c = elim c.if-open-client.branch [
  | then-open-client w ↦ λ all.
      rw w.self-is (goes c.args.client c.loop-open.open-index c.args.opens.now default
      c.loop-open.self w.leave.new.self c.loop-open-test.true (grind (arith, nat_tests))
      w.leave.ensures (c.loop-open.invariant all))
  | else-open-client w ↦ λ all.
      rw w.self-is (stays c.args.client c.loop-open.open-index c.args.opens.now default
      c.loop-open.self c.loop-open-test.true (grind (arith, nat_tests))
      (c.loop-open.invariant all))
]
