-- With which files and which table a run starts.
use Rattle.std.specs.Prelude.{◌≡◌, ℕ, ◌*◌, [], false, None, Some, IfSome, Option, List, Result, Ok, Err}
use Rattle.sis_disk.specs.Record.{Seen, live_of}
use Rattle.sis_disk.specs.Superblock.{ImageFault}
use Rattle.sis_disk.specs.declared.layout.Layout.{Layout}
use Rattle.sis_history.specs.Shown.{ShowsFiles}
use Rattle.sis_journal.specs.Opening.{SyncThenReads, IsSynced}
use Rattle.sis_model.specs.World.{World, unopened}
use Rattle.sis_table.specs.Content.{files_of}
use Rattle.sis_table.specs.Good.{IsGood}
use Rattle.sis_table.specs.Image.{image_at}
use Rattle.sis_table.specs.Volume.{IsTable, VolumeTable, empty_table}
use Rattle.sis_core.specs.Jobs.{AreIdle}
use Rattle.sis_core.specs.View.{CoreView, Opening, opening_of}

-- the layout of the least image
abbrev pub least_layout : Layout
least_layout = record { total = 16; area = 1; log = 0; letter = 65 }

-- the table that is read, and the one without files where none is
abbrev pub table_or : Result VolumeTable ImageFault → VolumeTable
table_or (Ok v) = v
table_or (Err fault) = empty_table least_layout

-- the table that an image holds, and the files for which both stand, none of them open
abbrev pub table_in : List ℕ → VolumeTable
table_in m = table_or (image_at m)

abbrev pub world_in : List ℕ → World
world_in m = unopened (table_in m).layout.letter (files_of (table_in m) m)

-- A run starts with the files for which the image stands. Where the disk doesn't tell its bytes,
-- these are some files with the names and the sizes that the opened table has.
abbrev pub Starts : Option (List ℕ) → World → VolumeTable → Type 0
Starts None w v = ShowsFiles w v × (w.opens ≡ [])
Starts (Some m) w v = (w ≡ world_in m) × (v ≡ table_in m)

-- These are the files, the table and the disk with which the run of a core began.
pub record RunBegins (o : Opening) (w : World) (v : VolumeTable) : Type 0 where
  pub starts : Starts (live_of o.seen) w v
  pub table : IsTable v
  pub good : IsGood v
  pub size : o.seen.size ≡ 4096 * v.layout.total

-- The core was opened on a disk that was so before: by a sync that succeeded and at most four reads.
pub record IsOpenedFrom (old : Seen) (c : CoreView) : Type 0 where
  pub reads : SyncThenReads 4 old c.volume.seen
  pub is_synced : IsSynced old c.volume.seen
  pub synced : c.synced ≡ old.calls
  pub calls : c.start.calls ≡ c.volume.seen.calls
  pub faults : c.start.faults ≡ c.volume.seen.faults
  pub quiet : c.start.faults ≡ old.faults
  pub entries : c.entries ≡ []
  pub opens : c.opens ≡ []
  pub jobs : AreIdle c.jobs
  pub clean : c.volume.is_changed ≡ false
  pub up : c.volume.down ≡ None
  pub image : IfSome (live_of old) (λ live. image_at live ≡ Ok c.volume.table)
  pub told : live_of (opening_of c).seen ≡ live_of old
