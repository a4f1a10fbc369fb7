-- What an operation needs, and which limit it meets first.
use Rattle.std.specs.Prelude.{◌≡◌, ◌<◌, ℕ, ◌+◌, ◌-◌, ◌==◌, count_by, min, nat_lt, length, if◌then◌else◌, unwrap_or, Option, None, Some}
use Rattle.std.specs.Option.{option_map}
use Rattle.sis_disk.specs.Layout.{data_blocks, table_cap}
use Rattle.sis_model.specs.declared.command.Command.{Command}
use Rattle.sis_model.specs.declared.command.Command.TheVariants as command
use Rattle.sis_model.specs.declared.range.ByteRange.{ByteRange}
use Rattle.sis_model.specs.declared.reply.Hindrance.{Hindrance}
use Rattle.sis_model.specs.declared.reply.Hindrance.TheVariants as hindrance
use Rattle.sis_model.specs.declared.reply.LimitKind.TheVariants as limit
use Rattle.sis_ranges.specs.Extents.{is_mapped}
use Rattle.sis_table.specs.Changes.{Resize, size_of, touched_blocks, write_of}
use Rattle.sis_table.specs.Spelling.{spelling}
use Rattle.sis_table.specs.Volume.{VolumeTable, blocks_of, greatest_number, most_nodes, used}
use Rattle.sis_table.specs.declared.node.Node.{Node}
use Rattle.sis_history.specs.Stage.{Stage, node_opened}

-- How many files are made, how many ids and link indexes are drawn, how many blocks are mapped
-- anew, and the version that is raised, 0 where none is.
pub record Need : Type 0 where
  pub nodes : ℕ
  pub ids : ℕ
  pub indexes : ℕ
  pub blocks : ℕ
  pub version : ℕ

abbrev pub no_need : Need
no_need = record { nodes = 0; ids = 0; indexes = 0; blocks = 0; version = 0 }

-- a new file of so many bytes
abbrev pub put_need : ℕ → Need
put_need size =
    record { nodes = 1; ids = 1; indexes = 0; blocks = blocks_of size; version = 0 }

-- a change of a file's bytes or size, if there is one
abbrev pub resize_need : Node → Option Resize → Need
resize_need n None = no_need
resize_need n (Some r) =
    record { nodes = 0; ids = 0; indexes = 0; blocks = length r.blocks; version = n.version }

-- the first limit that would be passed, and else want of blocks
abbrev pub hindrance_of : VolumeTable → Need → Option Hindrance
hindrance_of v need =
    if nat_lt most_nodes (length v.nodes + need.nodes) then Some (hindrance.Limit limit.Files)
    else if nat_lt greatest_number (v.next_id + need.ids) then Some (hindrance.Limit limit.Ids)
    else if nat_lt greatest_number (v.greatest + need.indexes)
    then Some (hindrance.Limit limit.Indexes)
    else if need.version == greatest_number then Some (hindrance.Limit limit.Versions)
    else if nat_lt (data_blocks v.layout) (used v + need.blocks)
    then Some (hindrance.Full need.blocks (used v) (data_blocks v.layout))
    else None

-- no limit is met, and there is room
abbrev pub IsUnhindered : VolumeTable → Need → Type 0
IsUnhindered v need = hindrance_of v need ≡ None

-- the new table has this length, which is above the greatest one of the area
pub record IsTooLong (v new : VolumeTable) (needed cap : ℕ) : Type 0 where
  pub size : needed ≡ length (spelling new)
  pub most : cap ≡ table_cap v.layout
  pub above : cap < needed

-- what a command needs
abbrev pub need_of : Stage → ℕ → Command → Need
need_of s client (command.Put name bytes) = put_need (length bytes)
need_of s client (command.Open name write) = no_need
need_of s client (command.Read number at len) = no_need
need_of s client (command.Write number at bytes) =
    unwrap_or (option_map (λ n. resize_need n (write_of n at (length bytes)))
    (node_opened s client number)) no_need
need_of s client (command.Size number len) =
    unwrap_or (option_map (λ n. resize_need n (size_of n len))
    (node_opened s client number)) no_need
need_of s client (command.Close number) = no_need
need_of s client (command.Remove name) = no_need
need_of s client (command.Rename old new) = no_need
need_of s client (command.Stat name) = no_need
need_of s client (command.List after) = no_need
need_of s client (command.Tell name) = no_need
need_of s client command.Space = no_need
need_of s client (command.Fsctl code bytes) = no_need
need_of s client command.Sync = no_need
need_of s client command.Grovel = no_need
need_of s client command.End = no_need

-- ---- blocks that are read

-- where the range ends in the file
abbrev pub read_end : Node → ByteRange → ℕ
read_end n range = min (range.at + range.len) n.size

-- how many blocks of the file that are mapped have a byte from one up to before another
abbrev pub reads_between : Node → ℕ → ℕ → ℕ
reads_between n at end =
    if nat_lt at end then count_by (is_mapped n.map) (touched_blocks at (end - at)) else 0

-- how many of those that the range touches
abbrev pub reads_in : ByteRange → Node → ℕ
reads_in range n = reads_between n range.at (read_end n range)

-- how many of the client's open file
abbrev pub reads_of : Stage → ℕ → ℕ → ByteRange → ℕ
reads_of s client number range =
    unwrap_or (option_map (reads_in range) (node_opened s client number)) 0
