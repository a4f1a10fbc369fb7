-- Why making room may fail.
use Rattle.std.specs.Prelude.{◌≡◌, ℕ, ◌+◌, ◌<◌, true, Some}
use Rattle.sis_disk.specs.Causes.{GoesDown}
use Rattle.sis_disk.specs.Layout.{data_blocks, first_byte}
use Rattle.sis_model.specs.declared.reply.Hindrance.{Hindrance}
use Rattle.sis_model.specs.declared.reply.Hindrance.TheVariants as hindrance
use Rattle.sis_table.specs.Volume.{used}
use Rattle.sis_volume.specs.View.{VolumeView}

-- A commit of what was edited failed by this call, one of its four, and nothing else changed.
pub record WentDown (at : ℕ) (old new : VolumeView) : Type 0 where
  pub edited : old.is_changed ≡ true
  pub soon : at < old.seen.calls + 4
  pub down : new.down ≡ Some at
  pub failed : GoesDown (first_byte old.table.layout) at old.seen new.seen
  pub same : new ≡ record old { seen = new.seen; down = new.down }

-- the table maps too many places for so many more, and nothing changed
pub record IsFull (needed mapped total : ℕ) (old new : VolumeView) : Type 0 where
  pub mapped_now : mapped ≡ used old.table
  pub total_now : total ≡ data_blocks old.table.layout
  pub cause : total < mapped + needed
  pub same : new ≡ old

-- why making room for so many blocks may fail
abbrev pub HindersRoom : ℕ → VolumeView → VolumeView → Hindrance → Type 0
HindersRoom needed old new (hindrance.Full want mapped total) =
    (want ≡ needed) × IsFull needed mapped total old new
HindersRoom needed old new (hindrance.Down at) = WentDown at old new
HindersRoom needed old new hindrance.Memory = ⊥
HindersRoom needed old new hindrance.Disk = ⊥
HindersRoom needed old new (hindrance.Limit kind) = ⊥
HindersRoom needed old new (hindrance.TableFull len cap) = ⊥
