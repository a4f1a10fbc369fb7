-- What an image holds.
use Rattle.std.specs.Prelude.{◌≡◌, ℕ, ◌+◌, ◌*◌, ◌≤◌, List, length, take, slice_range, Result}
use Rattle.sis_disk.specs.Areas.{area_bytes, read_by, selected_at}
use Rattle.sis_disk.specs.Layout.{table_cap}
use Rattle.sis_disk.specs.Superblock.{superblock, ImageFault}
use Rattle.sis_table.specs.Reading.{table_at}
use Rattle.sis_table.specs.Volume.{VolumeTable, IsTable}
use Rattle.sis_table.specs.Spelling.{spelling}

-- an area's bytes: the table's length, and its spelling
abbrev pub area_text : VolumeTable → List ℕ
area_text v = area_bytes (spelling v)

-- the image holds this table
pub record Holds (m : List ℕ) (v : VolumeTable) : Type 0 where
  pub table : IsTable v
  pub size : length m ≡ 4096 * v.layout.total
  pub superblock : take 4096 m ≡ superblock v.layout
  pub fits : length (spelling v) ≤ table_cap v.layout
  pub area : slice_range m (selected_at v.layout m)
      (selected_at v.layout m + length (area_text v)) ≡ area_text v

-- reads an image: superblock, selector, selected area
abbrev pub image_at : List ℕ → Result VolumeTable ImageFault
image_at m = read_by table_at m
