-- The tables that operations lead to, and what becomes of the files. Which free places are taken is
-- left open.
use Rattle.std.specs.Prelude.{◌≡◌, ℕ, List, [], unwrap_or, Option}
use Rattle.std.specs.FinMap.{get, insert, remove}
use Rattle.sis_history.specs.Needs.{resize_need}
use Rattle.sis_name.specs.Files.{Files}
use Rattle.sis_table.specs.Changes.{AreFreePlaces, Resize, renamed, with_file, with_resize, without_file}
use Rattle.sis_table.specs.Volume.{VolumeTable, blocks_of}
use Rattle.sis_table.specs.declared.node.Node.{Node}

-- ---- tables

-- the table with a new file of this name and size
abbrev pub IsWithFile : VolumeTable → List ℕ → ℕ → VolumeTable → Type 0
IsWithFile v name size new =
    (places : List ℕ) × AreFreePlaces v (blocks_of size) places
    × (new ≡ with_file name size places v)

-- the table where the file was changed so
abbrev pub IsWithResize : VolumeTable → Node → Option Resize → VolumeTable → Type 0
IsWithResize v n change new =
    (places : List ℕ) × AreFreePlaces v (resize_need n change).blocks places
    × (new ≡ with_resize n change places v)

-- the table without the file, and with it under another name
abbrev pub IsWithoutFile : VolumeTable → ℕ → VolumeTable → Type 0
IsWithoutFile v id new = new ≡ without_file id v

abbrev pub IsRenamed : VolumeTable → ℕ → List ℕ → VolumeTable → Type 0
IsRenamed v id name new = new ≡ renamed id name v

-- ---- files

-- the bytes of a file, no bytes where there is none
abbrev pub bytes_in : Files → List ℕ → List ℕ
bytes_in files name = unwrap_or (get files name) []

-- the files where the bytes of one are changed so
abbrev pub with_bytes : List ℕ → (List ℕ → List ℕ) → Files → Files
with_bytes name change files = insert files name (change (bytes_in files name))

-- the files where one has another name
abbrev pub with_new_name : List ℕ → List ℕ → Files → Files
with_new_name old new files = insert (remove files old) new (bytes_in files old)
