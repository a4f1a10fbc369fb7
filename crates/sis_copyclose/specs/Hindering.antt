-- Why an operation is hindered.
use Rattle.std.specs.Prelude.{◌≡◌, ◌+◌, ◌<◌, ◌≤◌, Some}
use Rattle.sis_disk.specs.Record.{Rose}
use Rattle.sis_history.specs.Needs.{IsTooLong, IsUnhindered, Need, hindrance_of}
use Rattle.sis_model.specs.declared.reply.Hindrance.{Hindrance}
use Rattle.sis_model.specs.declared.reply.Hindrance.TheVariants as hindrance
use Rattle.sis_table.specs.Volume.{VolumeTable}
use Rattle.sis_volume.specs.Room.{WentDown}
use Rattle.sis_volume.specs.View.{VolumeView, spare}

-- fewer places are spare than blocks are needed, so a commit has to make room
abbrev pub LacksRoom : Need → VolumeView → Type 0
LacksRoom need v = spare v < need.blocks

-- Why an operation that needs this, and leads to one of these tables, is hindered on a volume that
-- is up. A limit and want of room are what the numbers say, and change nothing. Down is a commit
-- that had to make room, and Disk one fault of another call. Where the table is full or memory is
-- short no call failed; want of memory is free besides.
abbrev pub Hinders : Need → (VolumeTable → Type 0) → VolumeView → VolumeView → Hindrance → Type 0
Hinders need MayLead old new (hindrance.Limit kind) =
    (hindrance_of old.table need ≡ Some (hindrance.Limit kind)) × (new ≡ old)
Hinders need MayLead old new (hindrance.Full needed used total) =
    (hindrance_of old.table need ≡ Some (hindrance.Full needed used total)) × (new ≡ old)
Hinders need MayLead old new (hindrance.Down at) =
    IsUnhindered old.table need × LacksRoom need old × WentDown at old new
Hinders need MayLead old new hindrance.Disk =
    IsUnhindered old.table need × Rose old.seen.faults new.seen.faults
    × (new.seen.faults ≤ old.seen.faults + 1)
Hinders need MayLead old new (hindrance.TableFull needed cap) =
    IsUnhindered old.table need × (new.seen.faults ≡ old.seen.faults)
    × ((next : VolumeTable) × MayLead next × IsTooLong old.table next needed cap)
Hinders need MayLead old new hindrance.Memory = new.seen.faults ≡ old.seen.faults
