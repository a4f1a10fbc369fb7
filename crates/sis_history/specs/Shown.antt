-- What a table shows of a world's files.
use Rattle.std.specs.Prelude.{◌≡◌, ℕ, List, length}
use Rattle.std.specs.Option.{option_map}
use Rattle.sis_model.specs.World.{World, bytes_of}
use Rattle.sis_table.specs.Volume.{VolumeTable, node_named}

-- the table is of the world's volume, and has its files' names and sizes
pub record ShowsFiles (w : World) (v : VolumeTable) : Type 0 where
  pub letter : w.letter ≡ v.layout.letter
  pub sizes : (name : List ℕ)
      → option_map length (bytes_of w name) ≡ option_map (λ n. n.size) (node_named v name)
