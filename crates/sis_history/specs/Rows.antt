-- The rows of a run, and what each makes of the stage before it.
use Rattle.std.specs.Prelude.{ℕ, ◌==◌, false, if◌then◌else◌, List, [], Option, None, Some}
use Rattle.std.specs.Option.{option_map}
use Rattle.sis_model.specs.Answer.{kind_of, world_with}
use Rattle.sis_model.specs.World.{World}
use Rattle.sis_model.specs.declared.command.Command.{Command}
use Rattle.sis_model.specs.declared.history.Entry.{Entry}
use Rattle.sis_model.specs.declared.stale.Stale.{Stale}
use Rattle.sis_table.specs.Volume.{VolumeTable}
use Rattle.sis_history.specs.Changed.{Fresh, table_as}
use Rattle.sis_history.specs.Stage.{Job, Stage}

pub data Row : Type 0 where
  -- a client without a job takes a command
  Begins : (client : ℕ) (command : Command) → Row
  -- a client's command is decided, and took what was free
  Enters : (entry : Entry) (fresh : Fresh) → Row
  -- a commit fails by this call of the disk, in a step of a client's command that works on this
  -- file, or on none
  Fails : (client : ℕ) (file : Option ℕ) (at : ℕ) → Row

-- whose job it is
abbrev pub client_of : Row → ℕ
client_of (Begins client command) = client
client_of (Enters entry fresh) = entry.client
client_of (Fails client file at) = client

-- ---- what becomes of the parts of a stage

abbrev pub world_by : World → Row → World
world_by w (Begins client command) = w
world_by w (Enters entry fresh) = world_with w entry.client entry.command entry.reply
world_by w (Fails client file at) = w

abbrev pub table_by : Stage → Row → VolumeTable
table_by s (Begins client command) = s.table
table_by s (Enters entry fresh) = table_as s entry.client entry.command fresh (kind_of entry.reply)
table_by s (Fails client file at) = s.table

abbrev pub down_by : Option ℕ → Row → Option ℕ
down_by down (Begins client command) = down
down_by down (Enters entry fresh) = down
down_by down (Fails client file at) = Some at

-- a command of which nothing was done
abbrev pub new_job : Stage → Command → Job
new_job s c = record { command = c; notes = []; looks = 0; detached = false; grovel = None }

-- a job after a row that was more than a look
abbrev pub without_looks : Job → Job
without_looks j = record j { looks = 0 }

-- the job of the row's client, and that of another one
abbrev pub own_job : Stage → Row → Option Job → Option Job
own_job s (Begins client command) job = Some (new_job s command)
own_job s (Enters entry fresh) job = None
own_job s (Fails client file at) job = option_map without_looks job

abbrev pub other_job : Stage → Row → Option Job → Option Job
other_job s (Begins client command) job = option_map without_looks job
other_job s (Enters entry fresh) job = option_map without_looks job
other_job s (Fails client file at) job = option_map without_looks job

abbrev pub jobs_by : Stage → Row → ℕ → Option Job
jobs_by s row client =
    if client == client_of row then own_job s row (s.jobs client)
    else other_job s row (s.jobs client)

-- What the row's client has still to tidy. No command leaves anything, since there are no links.
abbrev pub own_stales : Stage → Row → List Stale → List Stale
own_stales s (Begins client command) stales = stales
own_stales s (Enters entry fresh) stales = []
own_stales s (Fails client file at) stales = stales

abbrev pub stales_by : Stage → Row → ℕ → List Stale
stales_by s row client =
    if client == client_of row then own_stales s row (s.stales client) else s.stales client
