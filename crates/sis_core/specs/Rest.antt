-- What a script still has to begin.
use Rattle.std.specs.Prelude.{◌≡◌, ℕ, ◌<◌, ◌≤◌, Bool, false, if◌then◌else◌, List, [], ◌∷◌, ◌++◌, All, drop, length, slice_index_or}
use Rattle.sis_history.specs.Replies.{IsServed}
use Rattle.sis_model.specs.Order.{commands_of}
use Rattle.sis_model.specs.declared.command.Command.{Command}
use Rattle.sis_model.specs.declared.command.Command.TheVariants as command
use Rattle.sis_model.specs.declared.history.Line.{Line}
use Rattle.sis_core.specs.Jobs.{AreIdle, IsClient}
use Rattle.sis_core.specs.View.{CoreView}

-- lines, where each client goes on in them, and whether its end is still to come
pub record RestView : Type 0 where
  pub lines : List Line
  pub next : List ℕ
  pub ends : List Bool

-- the end, where it is still to come
abbrev pub end_if : Bool → List Command
end_if b = if b then command.End ∷ [] else []

-- the commands that a client has left
abbrev pub left : RestView → ℕ → List Command
left r client =
    commands_of client (drop (slice_index_or r.next client 0) r.lines)
    ++ end_if (slice_index_or r.ends client false)

-- Nobody has a command in hand, and each client has its commands of these lines left. They are
-- carried out, and there is room for their entries.
pub record IsReady (c : CoreView) (r : RestView) (lines : List Line) : Type 0 where
  pub idle : AreIdle c.jobs
  pub left : (client : ℕ) → client < 17 → left r client ≡ commands_of client lines
  pub clients : All (λ l. IsClient l.client) lines
  pub served : All (λ l. IsServed l.command) lines
  pub room : length lines ≤ c.spare
