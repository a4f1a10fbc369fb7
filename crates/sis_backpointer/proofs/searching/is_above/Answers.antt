use Rattle.sis_backpointer.proofs.Rising.{last_above}
use Rattle.sis_backpointer.proofs.searching.is_above.Goals as goal

pub returns-in-Some : goal.returns-in-Some
returns-in-Some c = last_above c.args.backs.now c.in-Some.last.now c.args.index c.requires c.in-Some.ensures.value
