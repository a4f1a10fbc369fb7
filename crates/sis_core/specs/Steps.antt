-- What a step of a client's job does.
use Rattle.std.specs.Prelude.{◌≡◌, ℕ, ◌+◌, ◌≤◌, true, false, List, [], ◌∷◌, ◌++◌, None, Some, slice_set}
use Rattle.sis_history.specs.Entries.{entries_of}
use Rattle.sis_history.specs.Rows.{Row}
use Rattle.sis_history.specs.Runs.{HasStepped}
use Rattle.sis_history.specs.Stage.{Stage}
use Rattle.sis_model.specs.Answer.{world_with}
use Rattle.sis_model.specs.Order.{is_end}
use Rattle.sis_model.specs.World.{World}
use Rattle.sis_model.specs.declared.command.Command.{Command}
use Rattle.sis_model.specs.declared.history.Entry.{Entry}
use Rattle.sis_model.specs.declared.reply.Reply.{Reply}
use Rattle.sis_core.specs.declared.job.Job.TheVariants as job
use Rattle.sis_core.specs.declared.turn.Turn.{Turn}
use Rattle.sis_core.specs.declared.turn.Turn.TheVariants as turn
use Rattle.sis_core.specs.Costs.{CallsFor}
use Rattle.sis_core.specs.Session.{ShowsWorld}
use Rattle.sis_core.specs.View.{CoreView, job_of, opening_of, session_of, stage_in}

-- the entry of a command that is decided and answered when the disk has made so many calls
abbrev pub entry_of : ℕ → Command → Reply → ℕ → Entry
entry_of client c r calls = record {
  client = client;
  command = c;
  reply = r;
  decided = calls;
  answered = calls;
}

-- all that was done is committed, unless a commit failed
abbrev pub IsSaved : CoreView → Type 0
IsSaved c = c.volume.down ≡ None → c.volume.is_changed ≡ false

-- rows of a client's step lead from one stage to another, and have this one entry
pub record HasEntered (s : Stage) (client : ℕ) (e : Entry) (t : Stage) : Type 0 where
  pub rows : List Row
  pub stepped : HasStepped client s t rows
  pub entry : entries_of rows ≡ e ∷ []

-- The client's command was decided, and is answered.
pub record StepEnters (old : CoreView) (client : ℕ) (r : Reply) (new : CoreView) : Type 0 where
  pub command : Command
  pub has : job_of old.jobs client ≡ Some (job.Begun command)
  pub rows : (w : World) → ShowsWorld w (session_of old)
      → HasEntered (stage_in w old) client (entry_of client command r new.volume.seen.calls)
      (stage_in (world_with w client command r) new)
  pub shows : (w : World) → ShowsWorld w (session_of old)
      → ShowsWorld (world_with w client command r) (session_of new)
  pub entries : new.entries
      ≡ old.entries ++ entry_of client command r new.volume.seen.calls ∷ []
  pub jobs : new.jobs ≡ slice_set old.jobs client None
  pub spare : old.spare ≤ new.spare + 1
  pub opening : opening_of new ≡ opening_of old
  pub saved : is_end command ≡ true → IsSaved new
  pub calls : (w : World) → ShowsWorld w (session_of old)
      → CallsFor (stage_in w old) old.volume new.volume client command

-- What a step does, by what it answers. So far each command is decided and answered in one step.
abbrev pub Steps : CoreView → ℕ → Turn → CoreView → Type 0
Steps old client turn.More new = ⊥
Steps old client (turn.Answered r) new = StepEnters old client r new
