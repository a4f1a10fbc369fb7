-- What it means that a session decides a command.
use Rattle.std.specs.Prelude.{◌≡◌, ◌⊎◌, ℕ, true, false, [], map, None, Some, IfSome}
use Rattle.sis_disk.specs.Causes.{GoesDown, StaysUp}
use Rattle.sis_disk.specs.Layout.{first_byte}
use Rattle.sis_disk.specs.Stops.{Elapses}
use Rattle.sis_history.specs.Appearing.{MayAppear}
use Rattle.sis_history.specs.Causes.{edits_table}
use Rattle.sis_history.specs.Changed.{Fresh, table_as}
use Rattle.sis_history.specs.Durable.{makes_durable}
use Rattle.sis_history.specs.Entering.{MayCommit, is_down, may_have_called}
use Rattle.sis_history.specs.Replies.{Fits}
use Rattle.sis_history.specs.Stage.{Job}
use Rattle.sis_model.specs.Answer.{IsDone, MayReply, kind_of, world_with}
use Rattle.sis_model.specs.World.{World}
use Rattle.sis_model.specs.declared.command.Command.{Command}
use Rattle.sis_model.specs.declared.reply.Hindrance.TheVariants as hindrance
use Rattle.sis_model.specs.declared.reply.Reply.{Reply}
use Rattle.sis_model.specs.declared.reply.Reply.TheVariants as reply
use Rattle.sis_table.specs.Content.{files_in}
use Rattle.sis_volume.specs.Stopping.{OpensTable}
use Rattle.sis_volume.specs.View.{VolumeView}
use Rattle.sis_core.specs.Costs.{CallsFor}
use Rattle.sis_core.specs.Session.{AreThere, FitsArea, Jobs, SessionView, open_in, stage_of}

-- a command of which nothing was done so far
abbrev pub plain_job : Command → Job
plain_job c = record { command = c; notes = []; looks = 0; detached = false; grovel = None }

-- whether the table was edited since the last commit, after a command with this reply
pub record Edits (w : World) (old new : VolumeView) (client : ℕ) (c : Command) (r : Reply)
    : Type 0 where
  pub durable : makes_durable c r ≡ true → new.is_changed ≡ false
  pub only : (jobs : Jobs) → new.is_changed ≡ true → (old.is_changed ≡ true)
      ⊎ ((kind_of r ≡ IsDone) × (edits_table (stage_of w old jobs) client c ≡ true))

-- The command was decided while no commit has failed, and took what was free. `jobs` and `later` are
-- the clients' jobs before and after, and `next` is the world after, of which nothing is said here.
-- That the table fits its area is the volume's to say.
pub record Answered (w : World) (old new : VolumeView) (client : ℕ) (c : Command) (r : Reply)
    (fresh : Fresh) : Type 0 where
  pub was_up : old.down ≡ None
  pub up : new.down ≡ None
  pub not_down : is_down r ≡ false
  pub may : MayAppear w client c r
  pub told : IfSome new.seen.told (λ record'. MayReply w client c r)
  pub fits : FitsArea new.table → (jobs later : Jobs) (next : World)
      → Fits (stage_of w old jobs) fresh (stage_of next new later) client (plain_job c) r
  pub uncalled : (jobs : Jobs) → may_have_called (stage_of w old jobs) client c r ≡ false
      → new.seen ≡ old.seen
  pub quiet : kind_of r ≡ IsDone → new.seen.faults ≡ old.seen.faults
  pub table : (jobs : Jobs)
      → new.table ≡ table_as (stage_of w old jobs) client c fresh (kind_of r)
  pub edits : Edits w old new client c r
  pub needed : (jobs : Jobs) → CallsFor (stage_of w old jobs) old new client c
  pub calls : StaysUp (first_byte old.table.layout) old.seen new.seen
  pub elapses : Elapses old.seen new.seen

-- a commit failed by call `at` of the disk, and that is answered
pub record CommitFails (w : World) (old new : VolumeView) (client : ℕ) (c : Command) (r : Reply)
    (at : ℕ) : Type 0 where
  pub was_up : old.down ≡ None
  pub down : new.down ≡ Some at
  pub replied : r ≡ reply.Hindered (hindrance.Down at)
  pub may : (jobs : Jobs) → MayCommit (stage_of w old jobs) client (plain_job c)
  pub table : new.table ≡ old.table
  pub changed : new.is_changed ≡ old.is_changed
  pub needed : (jobs : Jobs) → CallsFor (stage_of w old jobs) old new client c
  pub calls : GoesDown (first_byte old.table.layout) at old.seen new.seen
  pub elapses : Elapses old.seen new.seen

-- a commit has failed before, and nothing is done
pub record WasDown (old new : VolumeView) (r : Reply) (at : ℕ) : Type 0 where
  pub down : old.down ≡ Some at
  pub replied : r ≡ reply.Hindered (hindrance.Down at)
  pub same : new ≡ old

abbrev pub Decided : World → VolumeView → VolumeView → ℕ → Command → Reply → Type 0
Decided w old new client c r =
    ((fresh : Fresh) × Answered w old new client c r fresh)
    ⊎ ((at : ℕ) × CommitFails w old new client c r at)
    ⊎ ((at : ℕ) × WasDown old new r at)

-- A client's command was decided, and the session shows the next world.
pub record DecidesFor (w : World) (old new : SessionView) (client : ℕ) (c : Command) (r : Reply)
    : Type 0 where
  pub decided : Decided w old.volume new.volume client c r
  pub stands : IfSome (files_in new.volume.table new.volume.seen)
      (λ files. files ≡ (world_with w client c r).files)
  pub opens : (world_with w client c r).opens ≡ map (open_in new.volume.table) new.opens
  pub there : AreThere new.volume.table new.opens

-- where the reply says that all is durable, each image of now opens as the table's files
abbrev pub IsDurable : VolumeView → Command → Reply → Type 0
IsDurable v c r = makes_durable c r ≡ true → OpensTable v.table v.seen
