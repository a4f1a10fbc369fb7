-- For which files an image opens.
use Rattle.std.specs.Prelude.{◌≡◌, ℕ, List, Ok}
use Rattle.sis_table.specs.Content.{StandsFor}
use Rattle.sis_name.specs.Files.{Files}
use Rattle.sis_table.specs.Good.{IsGood}
use Rattle.sis_table.specs.Image.{image_at}
use Rattle.sis_table.specs.Volume.{VolumeTable}

-- the image is read as a table whose files go together, and stands for these files
pub record OpensAs (files : Files) (m : List ℕ) : Type 0 where
  pub table : VolumeTable
  pub read : image_at m ≡ Ok table
  pub good : IsGood table
  pub stands : StandsFor table m files
