use Rattle.sis_view.proofs.ReadLemmas.{write_live}
use Rattle.sis_view.proofs.calls.write_block.Goals as goal

pub returns-clause-live : goal.returns-clause-live
returns-clause-live g c =
    rw (← c.start_of-at.ensures) (write_live _ _ _ _ _ c.in_ok-write.ensures.call)
