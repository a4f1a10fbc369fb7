-- What a `Core` shows.
use Rattle.std.specs.Prelude.{ℕ, List, slice_index_or, take, Option, None, Some}
use Rattle.std.specs.Option.{option_map}
use Rattle.sis_disk.specs.Record.{DiskRecord, Seen}
use Rattle.sis_history.specs.Stage as history
use Rattle.sis_history.specs.Stage.{Stage}
use Rattle.sis_model.specs.Recorded.{Recorded}
use Rattle.sis_model.specs.World.{World}
use Rattle.sis_model.specs.declared.history.Entry.{Entry}
use Rattle.sis_volume.specs.View.{VolumeView}
use Rattle.sis_core.specs.declared.job.Job.{Job}
use Rattle.sis_core.specs.declared.job.Job.TheVariants as job
use Rattle.sis_core.specs.declared.opens.Open.{Open}
use Rattle.sis_core.specs.declared.start.CoreStart.{CoreStart}
use Rattle.sis_core.specs.Deciding.{plain_job}
use Rattle.sis_core.specs.Session.{Jobs, SessionView, session, stage_of}

-- The volume, who has which file open, the entries, for how many more there is room, each client's
-- job (the first of them is nobody's), and where the run started: which call of the disk opening's
-- sync was, and what the disk had counted when the opening had ended.
pub record CoreView : Type 0 where
  pub volume : VolumeView
  pub opens : List Open
  pub entries : List Entry
  pub spare : ℕ
  pub jobs : List (Option Job)
  pub synced : ℕ
  pub start : CoreStart

abbrev pub core_view : VolumeView → List Open → Recorded → List (Option Job) → ℕ → CoreStart
    → CoreView
core_view v opens h jobs synced start = record {
  volume = v;
  opens = opens;
  entries = h.entries;
  spare = h.spare;
  jobs = jobs;
  synced = synced;
  start = start;
}

-- the volume and its opens
abbrev pub session_of : CoreView → SessionView
session_of c = session c.volume c.opens

-- the job of a client
abbrev pub job_of : List (Option Job) → ℕ → Option Job
job_of jobs client = slice_index_or jobs client None

-- what a run notes of a job
abbrev pub noted : Option Job → Option history.Job
noted None = None
noted (Some (job.Begun command)) = Some (plain_job command)

abbrev pub jobs_in : List (Option Job) → Jobs
jobs_in jobs client = noted (job_of jobs client)

-- the stage of a run at which a core is, in a world
abbrev pub stage_in : World → CoreView → Stage
stage_in w c = stage_of w c.volume (jobs_in c.jobs)

-- the record up to some call
abbrev pub up_to : ℕ → DiskRecord → DiskRecord
up_to n r = record { opening = r.opening; calls = take n r.calls }

-- what no call of a core changes: what was seen of the disk when the opening had ended, and which
-- call opening's sync was
pub record Opening : Type 0 where
  pub synced : ℕ
  pub seen : Seen

abbrev pub opening_of : CoreView → Opening
opening_of c = record {
  synced = c.synced;
  seen = record {
    size = c.volume.seen.size;
    calls = c.start.calls;
    faults = c.start.faults;
    told = option_map (up_to c.start.calls) c.volume.seen.told;
  };
}
