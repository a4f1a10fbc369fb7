-- A client's own part of the order of a run.
use Rattle.std.proofs.Common.{◌≡◌, ℕ, ◌==◌, Bool, true, false, cond, ◌||◌, List, [], ◌∷◌, ◌++◌, refl, ap, arith}
use Rattle.std.specs.List.{list_any}
use Rattle.sis_model.specs.declared.command.Command.TheVariants as command
use Rattle.sis_model.specs.declared.history.Line.{Line}
use Rattle.sis_model.specs.Order.{commands_of, with_end, expected_calls, end_of, exec_order}

abbrev pub has : ℕ → List Line → Bool
has client ls = list_any (λ m. m.client == client) ls

has_none : (client : ℕ) (ls : List Line) → has client ls ≡ false → commands_of client ls ≡ []
has_none client [] h = refl
has_none client (l ∷ ls) h = elim (l.client == client) as (λ b. (b || has client ls) ≡ false → cond b (l.command ∷ commands_of client ls) (commands_of client ls) ≡ []) [
  | true ↦ λ k. cc
  | false ↦ λ k. has_none client ls k
] h

has_some : (client : ℕ) (ls : List Line) → has client ls ≡ true → with_end (commands_of client ls) ≡ commands_of client ls ++ command.End ∷ []
has_some client [] h = cc
has_some client (l ∷ ls) h = elim (l.client == client) as (λ b. (b || has client ls) ≡ true → with_end (cond b (l.command ∷ commands_of client ls) (commands_of client ls)) ≡ cond b (l.command ∷ commands_of client ls) (commands_of client ls) ++ command.End ∷ []) [
  | true ↦ λ k. refl
  | false ↦ λ k. has_some client ls k
] h

-- in that order each client makes its own commands, and then its end
pub commands-exec_order : (client : ℕ) (ls : List Line) → commands_of client (exec_order ls) ≡ expected_calls ls client
commands-exec_order client [] = refl
commands-exec_order client (l ∷ ls) = grind (arith, has_none client ls, has_some client ls, commands-exec_order client ls)

-- a line whose client has more lines goes by itself
pub exec_order-more : (l : Line) (ls : List Line) → has l.client ls ≡ true → exec_order (l ∷ ls) ≡ l ∷ exec_order ls
exec_order-more l ls more = ap (λ b. cond b (l ∷ exec_order ls) (l ∷ end_of l.client ∷ exec_order ls)) more

-- the last one of its client goes with the end
pub exec_order-last : (l : Line) (ls : List Line) → has l.client ls ≡ false → exec_order (l ∷ ls) ≡ l ∷ end_of l.client ∷ exec_order ls
exec_order-last l ls last = ap (λ b. cond b (l ∷ exec_order ls) (l ∷ end_of l.client ∷ exec_order ls)) last
