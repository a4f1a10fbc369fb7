use Rattle.std.proofs.Common.{◌≡◌, length}
use Rattle.std.specs.List.{All, slice_split}
use Rattle.sis_script.specs.Fields.{is_space}
use Rattle.sis_script.specs.Script.{IsClient, clients_of, turns_at}
use Rattle.sis_script.proofs.TurnLemmas.{behind}
use Rattle.sis_script.proofs.commands.turns.Given as goal

-- the clients so far, and those of the rest, are those of the line
abbrev pub invariant-loop-word : goal.invariant-loop-word
invariant-loop-word l = record {
  read : behind l.clients.items (clients_of (slice_split is_space l.rest)) ≡ turns_at l.text;
  allowed : All IsClient l.clients.items;
}

abbrev pub decreases-loop-word : goal.decreases-loop-word
decreases-loop-word l = length l.rest
