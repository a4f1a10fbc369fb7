use Rattle.std.proofs.Common.{◌≡◌, ◌≤◌, [], length}
use Rattle.std.specs.Prelude.{All, reverse}
use Rattle.sis_history.specs.Replies.{IsServed}
use Rattle.sis_model.specs.Order.{exec_order}
use Rattle.sis_core.specs.Jobs.{AreIdle, IsClient}
use Rattle.sis_core.specs.Sound.{IsSound}
use Rattle.sis_core.specs.Steps.{IsSaved}
use Rattle.sis_core.specs.View.{opening_of}
use Rattle.sis_core.proofs.ExecLemmas.{RanFront}
use Rattle.sis_core.proofs.LineLemmas.{AreCounted}
use Rattle.sis_core.proofs.sessions.Core.exec.Given as goal

-- what ran and what is left are the lines in order, and there is room for their entries
abbrev pub invariant-loop-client : goal.invariant-loop-client
invariant-loop-client g l = record {
  clients : All (λ x. IsClient x.client) l.rest.items;
  served : All (λ x. IsServed x.command) l.rest.items;
  counted : AreCounted l.left (reverse l.rest.items);
  size : length l.left ≡ 17;
  room : length (exec_order (reverse l.rest.items)) ≤ l.self.spare;
  idle : AreIdle l.self.jobs;
  ran : RanFront l.fn.self.entries l.self.entries l.rest.items (exec_order l.fn.lines.items);
  opening : opening_of l.self ≡ opening_of l.fn.self;
  saved : l.rest.items ≡ [] → IsSaved l.fn.self → IsSaved l.self;
  sound : IsSound l.self;
}

abbrev pub decreases-loop-client : goal.decreases-loop-client
decreases-loop-client g l = length l.rest.items
