use Rattle.std.proofs.Common.{ℕ, ◌+◌, ◌-◌, ◌++◌, length, take}
use Rattle.sis_model.specs.Order.{exec_order, rounds}
use Rattle.sis_core.specs.Sound.{IsSound}
use Rattle.sis_core.specs.Turns.{HadTurns}
use Rattle.sis_core.proofs.sessions.Core.replay.Given as goal

abbrev pub invariant-loop-client : goal.invariant-loop-client
invariant-loop-client g l = record {
  turns : HadTurns l.fn.self l.self (exec_order l.fn.lines.items) l.rest
      (take l.client-index l.schedule);
  sound : IsSound l.self;
}

abbrev pub invariant-loop : goal.invariant-loop
invariant-loop g l = record {
  turns : (n : ℕ)
      × HadTurns l.fn.self l.self (exec_order l.fn.lines.items) l.rest (l.schedule ++ rounds n);
  sound : IsSound l.self;
}

-- how many entries are still to come
abbrev pub decreases-loop : goal.decreases-loop
decreases-loop g l =
    length l.fn.self.entries + length (exec_order l.fn.lines.items) - length l.self.entries
