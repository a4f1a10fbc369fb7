-- What turns of clients do.
use Rattle.std.specs.Prelude.{◌≡◌, ℕ, true, ⊤, List, [], ◌∷◌, ◌++◌, map}
use Rattle.sis_model.specs.Order.{IsTurnOrder, TakeOneTurn, calls_of, commands_of, exec_order, expected_calls, is_end, line_of, remaining, taken, without_ends}
use Rattle.sis_model.specs.declared.command.Command.{Command}
use Rattle.sis_model.specs.declared.history.Entry.{Entry}
use Rattle.sis_model.specs.declared.history.Line.{Line}
use Rattle.sis_core.specs.Rest.{IsReady, RestView}
use Rattle.sis_core.specs.Steps.{IsSaved}
use Rattle.sis_core.specs.View.{CoreView, opening_of}

-- Behind the entries of before stand those of these lines, in this order.
pub record AddsLines (old new : List Entry) (order : List Line) : Type 0 where
  pub more : List Entry
  pub kept : new ≡ old ++ more
  pub lines : map line_of more ≡ order

-- Behind the entries of before stand those of these lines, run by turns of a schedule. Each client
-- has its calls, and all stand in the order of the turns: each command takes one turn so far, an
-- end too. Without the ends the lines stand in the order of their own turns, where each takes one.
pub record AddsTurns (old new : List Entry) (lines : List Line) (schedule : List ℕ)
    : Type 0 where
  pub more : List Entry
  pub kept : new ≡ old ++ more
  pub calls : (client : ℕ) → calls_of more client ≡ expected_calls lines client
  pub order : IsTurnOrder (exec_order lines) schedule (map line_of more)
  pub own_order : TakeOneTurn lines
      → IsTurnOrder lines schedule (without_ends (map line_of more))

-- the last of the commands, if there is one, is an end
abbrev pub LastIsEnd : List Command → Type 0
LastIsEnd [] = ⊤
LastIsEnd (c ∷ []) = is_end c ≡ true
LastIsEnd (c ∷ d ∷ cs) = LastIsEnd (d ∷ cs)

-- each client's last line is its end
abbrev pub EachEnds : List Line → Type 0
EachEnds lines = (client : ℕ) → LastIsEnd (commands_of client lines)

-- These clients had turns, and took their next lines. When none is left, all is saved.
pub record HadTurns (old new : CoreView) (lines : List Line) (rest : RestView) (turns : List ℕ)
    : Type 0 where
  pub entries : AddsLines old.entries new.entries (taken lines turns)
  pub ready : IsReady new rest (remaining lines turns)
  pub opening : opening_of new ≡ opening_of old
  pub saved : EachEnds lines → remaining lines turns ≡ [] → (lines ≡ [] → IsSaved old)
      → IsSaved new
