use Rattle.std.proofs.Common.{arith}
use Rattle.sis_view.proofs.CallerLemmas.{reads_then}
use Rattle.sis_view.proofs.calls.read_two.Goals as goal

pub returns-clause-reads : goal.returns-clause-reads
returns-clause-reads g c = reads_then 1 1 2 _ _ _ (omega arith)
    c.read_block.ensures.reads c.read_block-2.ensures.reads
