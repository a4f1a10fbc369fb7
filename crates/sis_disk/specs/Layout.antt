-- How an image is divided.
use Rattle.std.specs.Prelude.{ℕ, ◌+◌, ◌-◌, ◌*◌, ◌<◌, ◌≤◌}
use Rattle.sis_disk.specs.declared.layout.Layout.{Layout}

-- the place of the first data block: behind superblock, selector, areas and logs
abbrev pub first_place : Layout → ℕ
first_place l = 2 + 2 * (l.area + l.log)

-- where the data blocks begin, in bytes: what lies before is written by commits alone
abbrev pub first_byte : Layout → ℕ
first_byte l = 4096 * first_place l

-- how many data blocks there are
abbrev pub data_blocks : Layout → ℕ
data_blocks l = l.total - first_place l

-- the greatest length of a table: its area less the length field
abbrev pub table_cap : Layout → ℕ
table_cap l = 4096 * l.area - 8

-- the numbers keep their limits, and leave a data block
pub record IsLayout (l : Layout) : Type 0 where
  pub total_low : 16 ≤ l.total
  pub total_high : l.total ≤ 1048576
  pub area_low : 1 ≤ l.area
  pub area_high : l.area ≤ 16384
  pub log_high : l.log ≤ 4096
  pub letter_low : 65 ≤ l.letter
  pub letter_high : l.letter ≤ 90
  pub has_data : first_place l < l.total
