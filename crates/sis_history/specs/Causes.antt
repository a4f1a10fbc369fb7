-- Why a command is hindered, at the stage before its entry and by the disk's calls up to it.
use Rattle.std.specs.Prelude.{◌≡◌, ◌≤◌, ℕ, ◌+◌, ◌&&◌, ◌||◌, is_some, nat_lt, Bool, true, false, length, Some, ⊤}
use Rattle.std.specs.Option.{option_and_then}
use Rattle.sis_disk.specs.Causes.{StaysUp}
use Rattle.sis_disk.specs.Layout.{first_byte, table_cap}
use Rattle.sis_disk.specs.Record.{Rose, Seen}
use Rattle.sis_model.specs.declared.command.Command.{Command}
use Rattle.sis_model.specs.declared.command.Command.TheVariants as command
use Rattle.sis_model.specs.declared.reply.Hindrance.{Hindrance}
use Rattle.sis_model.specs.declared.reply.Hindrance.TheVariants as hindrance
use Rattle.sis_model.specs.declared.reply.LimitKind.TheVariants as limit
use Rattle.sis_table.specs.Changes.{AreFreePlaces, size_of, write_of}
use Rattle.sis_table.specs.Spelling.{spelling}
use Rattle.sis_history.specs.Changed.{Fresh, changed_table}
use Rattle.sis_history.specs.Needs.{IsTooLong, IsUnhindered, hindrance_of, need_of, reads_of}
use Rattle.sis_history.specs.Stage.{Stage, node_opened}

-- ---- what commands do

-- the command reads or writes data blocks here
abbrev pub moves_data : Stage → ℕ → Command → Bool
moves_data s client (command.Put name bytes) =
    nat_lt 0 (need_of s client (command.Put name bytes)).blocks
moves_data s client (command.Read number at len) =
    nat_lt 0 (reads_of s client number (record { at = at; len = len }))
moves_data s client (command.Write number at bytes) =
    nat_lt 0 (need_of s client (command.Write number at bytes)).blocks
moves_data s client (command.Size number len) =
    nat_lt 0 (need_of s client (command.Size number len)).blocks
moves_data s client _ = false

-- Carried out here, the command changes the table: not a write without bytes, nor a size that the
-- file has.
abbrev pub edits_table : Stage → ℕ → Command → Bool
edits_table s client (command.Put name bytes) = true
edits_table s client (command.Write number at bytes) =
    is_some (option_and_then (λ n. write_of n at (length bytes)) (node_opened s client number))
edits_table s client (command.Size number len) =
    is_some (option_and_then (λ n. size_of n len) (node_opened s client number))
edits_table s client (command.Remove name) = true
edits_table s client (command.Rename old new) = true
edits_table s client _ = false

-- the commands that take memory
abbrev pub takes_memory : Command → Bool
takes_memory (command.Put name bytes) = true
takes_memory (command.Open name write) = true
takes_memory (command.Read number at len) = true
takes_memory (command.Write number at bytes) = true
takes_memory (command.Size number len) = true
takes_memory (command.Remove name) = true
takes_memory (command.Rename old new) = true
takes_memory (command.List after) = true
takes_memory _ = false

-- the commands that commit all that was done before they are decided
abbrev pub commits : Command → Bool
commits (command.Close number) = true
commits command.Sync = true
commits command.End = true
commits _ = false

-- The command calls the disk here: it moves data, or commits what was edited. Any other makes no
-- call.
abbrev pub needs_disk : Stage → ℕ → Command → Bool
needs_disk s client c = moves_data s client c || (commits c && s.is_changed)

-- ---- causes

-- The command meets no limit and finds room, and takes a free place for each block that it maps
-- anew.
pub record CanTake (s : Stage) (client : ℕ) (c : Command) (fresh : Fresh) : Type 0 where
  pub unhindered : IsUnhindered s.table (need_of s client c)
  pub places : AreFreePlaces s.table (need_of s client c).blocks fresh.places

-- the same, and the table that it leads to fits the area
pub record IsCarriedOut (s : Stage) (client : ℕ) (c : Command) (fresh : Fresh) : Type 0 where
  pub takes : CanTake s client c fresh
  pub fits : length (spelling (changed_table s client c fresh)) ≤ table_cap s.table.layout

-- this is the first limit that the command meets, or its want of room
abbrev pub IsMet : Stage → ℕ → Command → Hindrance → Type 0
IsMet s client c by = hindrance_of s.table (need_of s client c) ≡ Some by

-- The disk failed once, and by no call of a commit: it was a read, or a write of data blocks, which
-- begin at the byte `first`.
pub record IsDataFault (first : ℕ) (old new : Seen) : Type 0 where
  pub rose : Rose old.faults new.faults
  pub once : new.faults ≤ old.faults + 1
  pub up : StaysUp first old new

-- Why the command is hindered in a step from `s` to `t` in which it would have taken this. Where
-- the table is full or memory is short no call of the disk failed.
abbrev pub IsCause : Stage → Fresh → Stage → ℕ → Command → Hindrance → Type 0
-- the world says so
IsCause s fresh t client c (hindrance.Limit limit.Opens) = ⊤
IsCause s fresh t client c (hindrance.Limit limit.Files) =
    IsMet s client c (hindrance.Limit limit.Files)
IsCause s fresh t client c (hindrance.Limit limit.Ids) =
    IsMet s client c (hindrance.Limit limit.Ids)
IsCause s fresh t client c (hindrance.Limit limit.Indexes) =
    IsMet s client c (hindrance.Limit limit.Indexes)
IsCause s fresh t client c (hindrance.Limit limit.Versions) =
    IsMet s client c (hindrance.Limit limit.Versions)
IsCause s fresh t client c (hindrance.Full needed used total) =
    IsMet s client c (hindrance.Full needed used total)
-- a commit failed by this call before
IsCause s fresh t client c (hindrance.Down at) = s.down ≡ Some at
IsCause s fresh t client c hindrance.Disk =
    (moves_data s client c ≡ true) × IsUnhindered s.table (need_of s client c)
    × IsDataFault (first_byte s.table.layout) s.seen t.seen
-- the table that the command leads to with what it would have taken
IsCause s fresh t client c (hindrance.TableFull needed cap) =
    (edits_table s client c ≡ true) × CanTake s client c fresh
    × IsTooLong s.table (changed_table s client c fresh) needed cap
    × (t.seen.faults ≡ s.seen.faults)
IsCause s fresh t client c hindrance.Memory =
    (takes_memory c ≡ true) × (t.seen.faults ≡ s.seen.faults)
