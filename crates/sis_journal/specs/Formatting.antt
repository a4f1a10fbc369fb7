-- What a new image has, and why formatting may fail.
use Rattle.std.specs.Prelude.{◌≡◌, ◌≢◌, ℕ, ◌-◌, ◌*◌, true, List, [], ◌∷◌, ◌++◌, length, replicate, ⊤}
use Rattle.std.specs.Int.{next_multiple_of}
use Rattle.sis_disk.specs.declared.layout.Layout.{Layout}
use Rattle.sis_disk.specs.Areas.{area_bytes}
use Rattle.sis_disk.specs.Record.{Call, Syncs, DiskRecord, Seen, Rose}
use Rattle.sis_disk.specs.Superblock.{superblock}
use Rattle.sis_journal.specs.declared.fault.FormatFault.{FormatFault}
use Rattle.sis_journal.specs.declared.fault.FormatFault.TheVariants as faults

-- the last call is a sync that succeeded
abbrev pub EndsInSync : DiskRecord → Type 0
EndsInSync r = (cs : List Call) × (r.calls ≡ cs ++ Syncs true ∷ [])

-- why formatting may fail: the disk's count of faults rose, or its length isn't the layout's
abbrev pub CausedFormat : FormatFault → Layout → Seen → Seen → Type 0
CausedFormat faults.Disk layout old new = Rose old.faults new.faults
CausedFormat (faults.Length have need) layout old new =
    (have ≡ old.size) × (need ≡ 4096 * layout.total) × (have ≢ need)
CausedFormat faults.Memory layout old new = ⊤

-- bytes, and zeros up to the end of a block
abbrev pub padded : List ℕ → List ℕ
padded bytes = bytes ++ replicate (next_multiple_of (length bytes) 4096 - length bytes) 0

-- the first blocks of a new image: superblock, a selector of zeros, and those of area A's text
abbrev pub new_blocks : Layout → List ℕ → List ℕ
new_blocks l text = superblock l ++ replicate 4096 0 ++ padded (area_bytes text)
