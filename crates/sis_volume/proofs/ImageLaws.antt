-- The table that an image holds is the one that is read.
use Rattle.std.proofs.Common.{◌≡◌, ℕ, List}
use Rattle.std.specs.Prelude.{Ok}
use Rattle.sis_table.specs.Image.{Holds, image_at}
use Rattle.sis_table.specs.Volume.{VolumeTable}
use Rattle.sis_volume.proofs.Fronts.{text-read}

pub image_is_read : (m : List ℕ) (v : VolumeTable) → Holds m v → v.layout.log ≡ 0 → image_at m ≡ Ok v
image_is_read m v h log = text-read v m h.table log (record { size = h.size; superblock = h.superblock; fits = h.fits; area = h.area })
