-- Why a disk isn't opened.
use Rattle.std.specs.Prelude.{◌≡◌, Some, Result, Ok, Err, ⊤}
use Rattle.sis_disk.specs.Superblock.{ImageFault}
use Rattle.sis_journal.specs.declared.fault.OpenFault.{OpenFault}
use Rattle.sis_journal.specs.declared.fault.OpenFault.TheVariants as faults
use Rattle.sis_table.specs.Good.{first_defect}
use Rattle.sis_table.specs.Volume.{VolumeTable}

-- The fault is the one that reading gives, or the first defect of the table that is read, unless
-- the disk failed or memory ran out.
abbrev pub FailsAs : OpenFault → Result VolumeTable ImageFault → Type 0
FailsAs faults.Disk read = ⊤
FailsAs faults.Memory read = ⊤
FailsAs (faults.Image at kind) read = read ≡ Err (at, kind)
FailsAs (faults.Bad kind file index) read =
    (v : VolumeTable) × (read ≡ Ok v) × (first_defect v ≡ Some (kind, file, index))
