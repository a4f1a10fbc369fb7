-- What a run of a volume has between two of its rows.
use Rattle.std.specs.Prelude.{ℕ, ◌&&◌, not, Bool, List, Option}
use Rattle.std.specs.List.{list_any}
use Rattle.sis_disk.specs.Record.{Seen}
use Rattle.sis_model.specs.Answer.{name_at}
use Rattle.sis_model.specs.World.{World, OpenFile, is_open_as, open_of}
use Rattle.sis_model.specs.declared.command.Command.{Command}
use Rattle.sis_model.specs.declared.reply.Hindrance.{Hindrance}
use Rattle.sis_model.specs.declared.stale.Stale.{Stale}
use Rattle.sis_name.specs.Files.{same_name}
use Rattle.sis_table.specs.Volume.{VolumeTable, node_named}
use Rattle.sis_table.specs.declared.node.Node.{Node}

-- a hindrance that a job met on the file with this id
pub record Note : Type 0 where
  pub file : ℕ
  pub by : Hindrance

-- What a grovel notes: how many files it considers, once it has counted them; how many it made
-- share; and the ids of files that were open, made or changed since it began.
pub record Grovel : Type 0 where
  pub counted : Option ℕ
  pub merged : ℕ
  pub touched : List ℕ

-- A command in hand. `looks` counts the steps since the last row that only looked at files;
-- `detached` says that this job, a close, made its file plain; `grovel` is what a grovel notes.
pub record Job : Type 0 where
  pub command : Command
  pub notes : List Note
  pub looks : ℕ
  pub detached : Bool
  pub grovel : Option Grovel

-- The files and who has them open, how they are kept, whether that was edited since the last commit
-- or the opening, what is seen of the disk, and the number of the disk's call by which a commit
-- failed. For each client the command in hand, and what its call has still to tidy before it is
-- answered.
pub record Stage : Type 0 where
  pub world : World
  pub table : VolumeTable
  pub is_changed : Bool
  pub seen : Seen
  pub down : Option ℕ
  pub jobs : ℕ → Option Job
  pub stales : ℕ → List Stale

-- the file that a client has open under a number
abbrev pub node_opened : Stage → ℕ → ℕ → Option Node
node_opened s client number = node_named s.table (name_at (open_of s.world client number))

-- another open than this one may write its file
abbrev pub has_other_writer : World → OpenFile → Bool
has_other_writer w o =
    list_any (λ p. same_name p.name o.name && p.writes && not (is_open_as o.client o.number p))
    w.opens
