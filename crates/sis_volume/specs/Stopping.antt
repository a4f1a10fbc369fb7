-- What a stop may leave while the calls of a volume go by.
use Rattle.std.specs.Prelude.{◌≡◌, ◌⊎◌, true, false, is_some, None, Some, IfSome}
use Rattle.sis_disk.specs.Record.{DiskRecord, Seen, live_bytes}
use Rattle.sis_disk.specs.Stops.{Leaves, Now, Shows}
use Rattle.sis_table.specs.Content.{files_in, files_of}
use Rattle.sis_name.specs.Files.{Files}
use Rattle.sis_table.specs.Opens.{OpensAs}
use Rattle.sis_table.specs.Volume.{VolumeTable, used_places}
use Rattle.sis_volume.specs.View.{VolumeView}

-- each image that a stop may leave now opens as these files
abbrev pub OpensNow : Files → Seen → Type 0
OpensNow files seen = Now (Shows (OpensAs files)) seen

-- the same for the files that the table has now
abbrev pub OpensTable : VolumeTable → Seen → Type 0
OpensTable v seen =
    (r : DiskRecord) → seen.told ≡ Some r → OpensNow (files_of v (live_bytes r)) seen

-- whatever the images opened as, they do so at every moment from old to new
abbrev pub OnlyOpens : Seen → Seen → Type 0
OnlyOpens old new = (files : Files) → OpensNow files old → Leaves (OpensAs files) old new

-- at every moment from old to new they open as before, or as the files that the table had
abbrev pub MayCommit : VolumeTable → Seen → Seen → Type 0
MayCommit v old new =
    (files : Files) → OpensNow files old → (r : DiskRecord) → old.told ≡ Some r
    → Leaves (λ m. OpensAs files m ⊎ OpensAs (files_of v (live_bytes r)) m) old new

-- the table is the committed one, and nothing else changed
pub record IsCommitted (old new : VolumeView) : Type 0 where
  pub same : new ≡ record old {
    seen = new.seen;
    committed = used_places old.table;
    is_changed = false;
  }
  pub up : new.down ≡ None
  pub opens : OpensTable new.table new.seen

-- ---- what the calls of a step leave

-- the table's files are the current ones, and each image of now opens as the committed ones
pub record HasFiles (committed current : Files) (v : VolumeView) : Type 0 where
  pub stands : IfSome (files_in v.table v.seen) (λ files. files ≡ current)
  pub opens : OpensNow committed v.seen

-- At each moment from old to new a stop leaves the committed files or the current ones, and at the
-- end the same whatever it leaves, unless a commit failed.
pub record OpensEither (committed current : Files) (old new : VolumeView) : Type 0 where
  pub images : Leaves (λ m. OpensAs committed m ⊎ OpensAs current m) old.seen new.seen
  pub last : new.down ≡ None → OpensNow committed new.seen ⊎ OpensNow current new.seen

-- What the calls of a step leave to a stop. Once a commit failed there are none.
pub record StopsWell (old new : VolumeView) : Type 0 where
  pub up : old.down ≡ None → (committed current : Files) → HasFiles committed current old
      → OpensEither committed current old new
  pub down : is_some old.down ≡ true → new.seen ≡ old.seen
