-- The commands that clients have in hand.
use Rattle.std.specs.Prelude.{◌≡◌, ℕ, ◌+◌, ◌≤◌, if◌then◌else◌, List, [], ◌∷◌, length, is_some, replicate, Option, None, Some}
use Rattle.sis_history.specs.Replies.{IsServed}
use Rattle.sis_model.specs.Order.{most_clients}
use Rattle.sis_model.specs.declared.command.Command.{Command}
use Rattle.sis_model.specs.declared.history.Line.{Line}
use Rattle.sis_core.specs.declared.job.Job.{Job}
use Rattle.sis_core.specs.declared.job.Job.TheVariants as job
use Rattle.sis_core.specs.View.{job_of}

-- a client's number
abbrev pub IsClient : ℕ → Type 0
IsClient client = (1 ≤ client) × (client ≤ most_clients)

-- nobody has a command in hand
abbrev pub AreIdle : List (Option Job) → Type 0
AreIdle jobs = jobs ≡ replicate 17 None

-- how many clients have one
abbrev pub count_jobs : List (Option Job) → ℕ
count_jobs [] = 0
count_jobs (j ∷ js) = (if is_some j then 1 else 0) + count_jobs js

-- the line whose entry is still to come
abbrev pub owed : ℕ → Option Job → List Line
owed client None = []
owed client (Some (job.Begun c)) = record { client = client; command = c } ∷ []

-- Clients 1 to 16 may have one that is carried out.
pub record HasJobs (jobs : List (Option Job)) : Type 0 where
  pub size : length jobs ≡ 17
  pub nobody : job_of jobs 0 ≡ None
  pub served : (client : ℕ) (c : Command) → job_of jobs client ≡ Some (job.Begun c) → IsServed c
