-- What an operation leaves.
use Rattle.std.specs.Prelude.{◌≡◌, ◌⊎◌, ℕ, ◌+◌, ◌≤◌, true, false, List, length, None, Some, IfSome, Result, Err, IfErr, OnErr, OnOk}
use Rattle.std.specs.Option.{option_map}
use Rattle.sis_disk.specs.Causes.{GoesDown, StaysUp}
use Rattle.sis_disk.specs.Layout.{first_byte}
use Rattle.sis_disk.specs.Record.{live_of}
use Rattle.sis_disk.specs.Stops.{Elapses}
use Rattle.sis_history.specs.Needs.{Need, hindrance_of}
use Rattle.sis_journal.specs.Committing.{Both}
use Rattle.sis_model.specs.declared.reply.Hindrance.{Hindrance}
use Rattle.sis_model.specs.declared.reply.Hindrance.TheVariants as hindrance
use Rattle.sis_name.specs.Files.{Files}
use Rattle.sis_table.specs.Changes.{KeepsUsed}
use Rattle.sis_table.specs.Content.{content_of, files_in}
use Rattle.sis_table.specs.Volume.{VolumeTable, node_with, used_places}
use Rattle.sis_table.specs.declared.node.Node.{Node}
use Rattle.sis_volume.specs.Stopping.{OnlyOpens, StopsWell}
use Rattle.sis_volume.specs.View.{VolumeView, spare}
use Rattle.sis_copyclose.specs.Calls.{most_calls}
use Rattle.sis_copyclose.specs.Hindering.{Hinders, LacksRoom}

-- The image is as long as it was, and each place that the table maps has the bytes that it had.
pub record KeepsPlaces (v : VolumeTable) (old new : List ℕ) : Type 0 where
  pub size : length new ≡ length old
  pub used : KeepsUsed v old new

-- A file whose id and version stay keeps its bytes.
abbrev pub KeepsVersions : VolumeTable → VolumeTable → List ℕ → List ℕ → Type 0
KeepsVersions v w old new =
    (id : ℕ) (n m : Node) → node_with v id ≡ Some n → node_with w id ≡ Some m
    → m.version ≡ n.version → content_of w new m ≡ content_of v old n

-- The table of before was committed, since room was lacking, and nothing else changed.
pub record MadeRoom (need : Need) (old new : VolumeView) : Type 0 where
  pub lacked : LacksRoom need old
  pub same : new ≡ record old {
    seen = new.seen;
    committed = used_places old.table;
    is_changed = false;
  }

-- no commit has failed, neither before nor by these calls
pub record StillUp (old new : VolumeView) : Type 0 where
  pub down : new.down ≡ None
  pub calls : StaysUp (first_byte old.table.layout) old.seen new.seen

-- a commit failed by these calls
pub record FellDown (at : ℕ) (old new : VolumeView) : Type 0 where
  pub down : new.down ≡ Some at
  pub calls : GoesDown (first_byte old.table.layout) at old.seen new.seen

-- whether a commit failed, by the answer
abbrev pub EndsBy : VolumeView → VolumeView → Hindrance → Type 0
EndsBy old new (hindrance.Down at) = FellDown at old new
EndsBy old new (hindrance.Limit kind) = StillUp old new
EndsBy old new (hindrance.Full needed used total) = StillUp old new
EndsBy old new hindrance.Disk = StillUp old new
EndsBy old new (hindrance.TableFull needed cap) = StillUp old new
EndsBy old new hindrance.Memory = StillUp old new

-- What an operation leaves that needs this, leads to one of these tables, changes the files so, and
-- reads at most so many blocks.
pub record Operates {T : Type 0} (need : Need) (MayLead : VolumeTable → Type 0)
    (change : Files → Files) (reads : ℕ) (result : Result T Hindrance)
    (old new : VolumeView) : Type 0 where
  -- the table, and the files where the disk tells its bytes
  pub ok : OnOk result (MayLead new.table)
  pub err : OnErr result (new.table ≡ old.table)
  pub files : OnOk result (files_in new.table new.seen
      ≡ option_map change (files_in old.table old.seen))
  pub kept : OnErr result (files_in new.table new.seen ≡ files_in old.table old.seen)
  pub versions : Both (KeepsVersions old.table new.table) (live_of old.seen) (live_of new.seen)
  -- which places the committed table maps, and whether the table was edited since
  pub books : OnErr result ((new ≡ record old { seen = new.seen; down = new.down })
      ⊎ MadeRoom need old new)
  pub changed : OnOk result ((new ≡ old) ⊎ (new.is_changed ≡ true))
  pub held : OnOk result ((new.committed ≡ old.committed)
      ⊎ (LacksRoom need old × (new.committed ≡ used_places old.table)))
  -- why it fails
  pub cause : old.down ≡ None → IfErr result (Hinders need MayLead old new)
  pub needed : result ≡ Err hindrance.Disk → 1 ≤ need.blocks + reads
  pub limit : old.down ≡ None → (by : Hindrance) → hindrance_of old.table need ≡ Some by
      → (result ≡ Err by) ⊎ (result ≡ Err hindrance.Memory)
  pub down : IfSome old.down (λ at. (result ≡ Err (hindrance.Down at)) × (new ≡ old))
  -- what its calls leave: where enough places are spare, no commit, so a stop leaves what it left
  pub places : Both (KeepsPlaces old.table) (live_of old.seen) (live_of new.seen)
  pub stops : StopsWell old new
  pub still : need.blocks ≤ spare old → OnlyOpens old.seen new.seen
  pub up : OnOk result (StillUp old new)
  pub goes : old.down ≡ None → IfErr result (EndsBy old new)
  pub elapses : Elapses old.seen new.seen
  pub calls : new.seen.calls ≤ old.seen.calls + most_calls need reads old
  -- where it may make none, none was refused either; behind Ok none failed
  pub idle : need.blocks + reads ≡ 0 → new.seen ≡ old.seen
  pub quiet : OnOk result (new.seen.faults ≡ old.seen.faults)
