use Rattle.std.proofs.Common.{sym, subst}
use Rattle.sis_backpointer.specs.Backs.{IsRising}
use Rattle.sis_backpointer.proofs.Rising.{rising_none}
use Rattle.sis_backpointer.proofs.backpointers.Backpointers.new.Goals as goal

pub invariant_of-result : goal.invariant_of-result
invariant_of-result c = subst IsRising (sym c.new.ensures.items) rising_none
