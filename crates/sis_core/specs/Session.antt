-- What a session shows of a world.
use Rattle.std.specs.Prelude.{◌≡◌, ◌≤◌, ℕ, true, List, [], length, map, is_some, Option, None, Some, IfSome}
use Rattle.std.specs.List.{AllByRecursion}
use Rattle.sis_history.specs.Shown.{ShowsFiles}
use Rattle.sis_history.specs.Stage.{Job, Stage}
use Rattle.sis_model.specs.Opens.{IsWorld}
use Rattle.sis_model.specs.World.{OpenFile, World}
use Rattle.sis_disk.specs.Layout.{table_cap}
use Rattle.sis_table.specs.Content.{files_in}
use Rattle.sis_table.specs.Spelling.{spelling}
use Rattle.sis_table.specs.Volume.{VolumeTable, node_with}
use Rattle.sis_table.specs.declared.node.Node.{Node}
use Rattle.sis_volume.specs.View.{VolumeView}
use Rattle.sis_core.specs.declared.opens.Open.{Open}

-- a volume, and which of its files are open
pub record SessionView : Type 0 where
  pub volume : VolumeView
  pub opens : List Open

abbrev pub session : VolumeView → List Open → SessionView
session v opens = record { volume = v; opens = opens }

-- the name of a file, if it is there
abbrev pub name_by : Option Node → List ℕ
name_by None = []
name_by (Some n) = n.name

-- an open with the name that its file has
abbrev pub open_in : VolumeTable → Open → OpenFile
open_in v o = record {
  client = o.client;
  number = o.number;
  name = name_by (node_with v o.file);
  writes = o.writes;
}

-- each of the files that are open is there
abbrev pub AreThere : VolumeTable → List Open → Type 0
AreThere v opens = AllByRecursion (λ o. is_some (node_with v o.file) ≡ true) opens

-- The volume's names and sizes are those of the world's files, and where its disk tells its bytes,
-- it stands for the files. The same files are open, under the same numbers.
pub record ShowsWorld (w : World) (s : SessionView) : Type 0 where
  pub world : IsWorld w
  pub files : ShowsFiles w s.volume.table
  pub stands : IfSome (files_in s.volume.table s.volume.seen) (λ files. files ≡ w.files)
  pub opens : w.opens ≡ map (open_in s.volume.table) s.opens
  pub there : AreThere s.volume.table s.opens

-- the table fits its area
abbrev pub FitsArea : VolumeTable → Type 0
FitsArea v = length (spelling v) ≤ table_cap v.layout

-- the jobs of the clients
abbrev pub Jobs : Type 0
Jobs = ℕ → Option Job

-- the stage of a run at which the files are those of a world, and are kept in a volume
abbrev pub stage_of : World → VolumeView → Jobs → Stage
stage_of w v jobs = record {
  world = w;
  table = v.table;
  is_changed = v.is_changed;
  seen = v.seen;
  down = v.down;
  jobs = jobs;
  stales = λ client. [];
}
