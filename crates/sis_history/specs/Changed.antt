-- The table after a command that was carried out.
use Rattle.std.specs.Prelude.{ℕ, List, length, unwrap_or}
use Rattle.std.specs.Option.{option_map}
use Rattle.sis_model.specs.Answer.{Kind, IsDone, IsRefused, IsHindered}
use Rattle.sis_model.specs.declared.command.Command.{Command}
use Rattle.sis_model.specs.declared.command.Command.TheVariants as command
use Rattle.sis_table.specs.Changes.{renamed, size_of, with_file, with_resize, without_file, write_of}
use Rattle.sis_table.specs.Volume.{VolumeTable, node_named}
use Rattle.sis_history.specs.Stage.{Stage, node_opened}

-- what a command takes that was free: a place for each block that is mapped anew
pub record Fresh : Type 0 where
  pub places : List ℕ

abbrev pub changed_table : Stage → ℕ → Command → Fresh → VolumeTable
changed_table s client (command.Put name bytes) fresh =
    with_file name (length bytes) fresh.places s.table
changed_table s client (command.Open name write) fresh = s.table
changed_table s client (command.Read number at len) fresh = s.table
changed_table s client (command.Write number at bytes) fresh =
    unwrap_or (option_map
    (λ n. with_resize n (write_of n at (length bytes)) fresh.places s.table)
    (node_opened s client number)) s.table
changed_table s client (command.Size number len) fresh =
    unwrap_or (option_map (λ n. with_resize n (size_of n len) fresh.places s.table)
    (node_opened s client number)) s.table
changed_table s client (command.Close number) fresh = s.table
changed_table s client (command.Remove name) fresh =
    unwrap_or (option_map (λ n. without_file n.id s.table) (node_named s.table name)) s.table
changed_table s client (command.Rename old new) fresh =
    unwrap_or (option_map (λ n. renamed n.id new s.table) (node_named s.table old)) s.table
changed_table s client (command.Stat name) fresh = s.table
changed_table s client (command.List after) fresh = s.table
changed_table s client (command.Tell name) fresh = s.table
changed_table s client command.Space fresh = s.table
changed_table s client (command.Fsctl code bytes) fresh = s.table
changed_table s client command.Sync fresh = s.table
changed_table s client command.Grovel fresh = s.table
changed_table s client command.End fresh = s.table

-- a command that is refused or hindered leaves it
abbrev pub table_as : Stage → ℕ → Command → Fresh → Kind → VolumeTable
table_as s client c fresh IsDone = changed_table s client c fresh
table_as s client c fresh IsRefused = s.table
table_as s client c fresh (IsHindered first) = s.table
