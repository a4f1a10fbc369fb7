use Rattle.std.proofs.Common.{◌≡◌, ℕ, ◌-◌, ◌<◌, ◌≤◌, List, [], true, false, length}
use Rattle.sis_model.specs.Order.{up_to_client}
use Rattle.sis_model.specs.declared.history.Line.{Line}
use Rattle.sis_core.specs.Rest.{IsReady, left}
use Rattle.sis_core.specs.Sound.{IsSound}
use Rattle.sis_core.specs.Turns.{HadTurns}
use Rattle.sis_core.proofs.sessions.Core.round.Given as goal

abbrev pub invariant-loop-client : goal.invariant-loop-client
invariant-loop-client g l = record {
  ready : (lines : List Line) × IsReady l.self l.rest lines;
  turns : (lines : List Line) → IsReady l.fn.self l.fn.rest lines
      → HadTurns l.fn.self l.self lines l.rest (up_to_client (l.client - 1));
  longer : l.went ≡ true → length l.fn.self.entries < length l.self.entries;
  most : length l.fn.self.entries ≤ length l.self.entries;
  done : l.went ≡ false → (c : ℕ) → 1 ≤ c → c < l.client → left l.rest c ≡ [];
  low : 1 ≤ l.client;
  sound : IsSound l.fn.self → IsSound l.self;
}
