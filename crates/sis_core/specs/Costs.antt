-- How many calls of the disk a command makes, and when it commits.
use Rattle.std.specs.Prelude.{◌≡◌, ◌<◌, ◌≤◌, ℕ, ◌+◌, true, false, length, if◌then◌else◌, unwrap_or, None, IfSome}
use Rattle.std.specs.Option.{option_map}
use Rattle.sis_copyclose.specs.Calls.{most_calls, size_reads, write_reads}
use Rattle.sis_history.specs.Causes.{commits}
use Rattle.sis_history.specs.Needs.{need_of, reads_of}
use Rattle.sis_history.specs.Stage.{Stage, node_opened}
use Rattle.sis_model.specs.declared.command.Command.{Command}
use Rattle.sis_model.specs.declared.command.Command.TheVariants as command
use Rattle.sis_volume.specs.Stopping.{OnlyOpens}
use Rattle.sis_volume.specs.View.{VolumeView, spare}

-- how many data blocks the command reads here, at most
abbrev pub reads_for : Stage → ℕ → Command → ℕ
reads_for s client (command.Put name bytes) = 0
reads_for s client (command.Open name write) = 0
reads_for s client (command.Read number at len) =
    reads_of s client number (record { at = at; len = len })
reads_for s client (command.Write number at bytes) =
    unwrap_or (option_map (λ n. write_reads n at (length bytes)) (node_opened s client number)) 0
reads_for s client (command.Size number len) =
    unwrap_or (option_map (λ n. size_reads n len) (node_opened s client number)) 0
reads_for s client (command.Close number) = 0
reads_for s client (command.Remove name) = 0
reads_for s client (command.Rename old new) = 0
reads_for s client (command.Stat name) = 0
reads_for s client (command.List after) = 0
reads_for s client (command.Tell name) = 0
reads_for s client command.Space = 0
reads_for s client (command.Fsctl code bytes) = 0
reads_for s client command.Sync = 0
reads_for s client command.Grovel = 0
reads_for s client command.End = 0

-- How many calls of the disk the command makes, at most. One that commits makes four where the
-- table was edited, and else none.
abbrev pub step_calls : VolumeView → Stage → ℕ → Command → ℕ
step_calls v s client c =
    if commits c then (if v.is_changed then 4 else 0)
    else most_calls (need_of s client c) (reads_for s client c) v

-- Nothing was committed: at every moment a stop leaves what it left before, and what was edited is
-- still to be committed.
pub record CommitsNothing (old new : VolumeView) : Type 0 where
  pub images : OnlyOpens old.seen new.seen
  pub committed : new.committed ≡ old.committed
  pub edited : old.is_changed ≡ true → new.is_changed ≡ true

-- A commit of what was edited failed by this call, which is one of its four. It was made since the
-- command commits, or needs more blocks than places were spare.
pub record FailsFor (s : Stage) (v : VolumeView) (client : ℕ) (c : Command) (at : ℕ)
    : Type 0 where
  pub soon : at < v.seen.calls + 4
  pub edited : v.is_changed ≡ true
  pub lacked : commits c ≡ false → spare v < (need_of s client c).blocks

-- What a step from old to new costs for this command: no more calls than it needs, no commit where
-- it doesn't commit and enough places were spare, and where a commit failed, one that it needed.
pub record CallsFor (s : Stage) (old new : VolumeView) (client : ℕ) (c : Command) : Type 0 where
  pub calls : new.seen.calls ≤ old.seen.calls + step_calls old s client c
  pub still : commits c ≡ false → (need_of s client c).blocks ≤ spare old
      → CommitsNothing old new
  pub fell : old.down ≡ None → IfSome new.down (FailsFor s old client c)
