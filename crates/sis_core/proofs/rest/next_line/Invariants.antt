use Rattle.std.proofs.Common.{◌≡◌, drop, ◌-◌, length}
use Rattle.sis_model.specs.Order.{commands_of}
use Rattle.sis_core.proofs.rest.next_line.Given as goal

abbrev pub invariant-loop-at : goal.invariant-loop-at
invariant-loop-at l =
    commands_of l.client (drop l.at l.lines) ≡ commands_of l.client (drop l.from l.lines)

abbrev pub decreases-loop-at : goal.decreases-loop-at
decreases-loop-at l = length l.lines - l.at
