-- What a core keeps between any two calls.
use Rattle.std.specs.Prelude.{◌≡◌, ◌≤◌, ℕ, ◌+◌, List, None}
use Rattle.sis_disk.specs.Record.{IsCounted}
use Rattle.sis_history.specs.Loop.{AreCommitted}
use Rattle.sis_history.specs.Runs.{HasRun}
use Rattle.sis_history.specs.Stops.{Survives}
use Rattle.sis_model.specs.History.{world_after}
use Rattle.sis_model.specs.World.{World}
use Rattle.sis_model.specs.declared.history.Entry.{Entry}
use Rattle.sis_name.specs.Files.{Files}
use Rattle.sis_table.specs.Good.{IsGood}
use Rattle.sis_table.specs.Volume.{IsTable, VolumeTable}
use Rattle.sis_volume.specs.Stopping.{OpensNow}
use Rattle.sis_volume.specs.View.{VolumeView}
use Rattle.sis_core.specs.Jobs.{HasJobs, count_jobs}
use Rattle.sis_core.specs.Opening.{RunBegins}
use Rattle.sis_core.specs.Session.{ShowsWorld}
use Rattle.sis_core.specs.View.{CoreView, opening_of, session_of, stage_in}

-- What a run keeps between two steps: each stop since call `first` is survived, and unless a commit
-- failed each image of now opens as files that are committed.
pub record IsSurvived (first : ℕ) (w : World) (entries : List Entry) (v : VolumeView) : Type 0 where
  pub survives : Survives first w entries v.seen
  pub committed : v.down ≡ None
      → (files : Files) × AreCommitted w entries files × OpensNow files v.seen

-- A run of rows leads from the opening to now. The session shows the world after the entries, and
-- each stop since opening's sync is survived.
pub record IsSound (c : CoreView) : Type 0 where
  pub world : World
  pub opened : VolumeTable
  pub begins : RunBegins (opening_of c) world opened
  pub run : HasRun world opened (opening_of c).seen c.entries
      (stage_in (world_after world c.entries) c)
  pub shows : ShowsWorld (world_after world c.entries) (session_of c)
  pub survived : IsSurvived (c.synced + 1) world c.entries c.volume
  pub table : IsTable c.volume.table
  pub good : IsGood c.volume.table
  pub counted : IsCounted c.volume.seen
  pub jobs : HasJobs c.jobs
  pub room : count_jobs c.jobs ≤ c.spare
  pub elapsed : c.start.calls ≤ c.volume.seen.calls
