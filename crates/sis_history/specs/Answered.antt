-- When the client of an entry is answered.
use Rattle.std.specs.Prelude.{ℕ, ◌-◌, ◌^◌, ◌==◌, ◌&&◌, not, Bool, if◌then◌else◌, List, [], ◌∷◌, map}
use Rattle.sis_model.specs.declared.history.Entry.{Entry}
use Rattle.sis_model.specs.declared.stale.Stale.{Stale}
use Rattle.sis_history.specs.Durable.{is_durable}

-- the number of calls that an entry has while its client isn't answered
abbrev pub unanswered : ℕ
unanswered = 2 ^ 64 - 1

-- by which call a command is answered that is decided by call `calls` and has still to tidy these
abbrev pub answered_after : List Stale → ℕ → ℕ
answered_after [] calls = calls
answered_after (stale ∷ stales) calls = unanswered

-- An entry of the client that isn't answered yet. A durable one is answered where it is decided.
abbrev pub is_waiting : ℕ → Entry → Bool
is_waiting client e = (e.client == client) && not (is_durable e) && (e.answered == unanswered)

abbrev pub answer_one : ℕ → ℕ → Entry → Entry
answer_one client calls e = if is_waiting client e then record e { answered = calls } else e

-- the client is answered by call `calls`, if it waits for that
abbrev pub answer_client : ℕ → ℕ → List Entry → List Entry
answer_client client calls entries = map (answer_one client calls) entries
