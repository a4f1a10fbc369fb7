-- Entries of one client, for cases that are worked out by hand.
use Rattle.std.specs.Prelude.{ℕ, []}
use Rattle.sis_model.specs.declared.command.Command.{Command}
use Rattle.sis_model.specs.declared.command.Command.TheVariants as command
use Rattle.sis_model.specs.declared.history.Entry.{Entry}
use Rattle.sis_model.specs.declared.reply.Fate.TheVariants as fate
use Rattle.sis_model.specs.declared.reply.Reply.{Reply}
use Rattle.sis_model.specs.declared.reply.Reply.TheVariants as reply

-- an entry that was decided and answered at these calls
abbrev pub entry_at : Command → Reply → ℕ → ℕ → Entry
entry_at c r decided answered =
    record { client = 1; command = c; reply = r; decided = decided; answered = answered }

-- a file was made
abbrev pub put_at : ℕ → ℕ → Entry
put_at decided answered = entry_at (command.Put [] []) reply.Done decided answered

-- entries that make all that was done durable
abbrev pub sync_at : ℕ → ℕ → Entry
sync_at decided answered = entry_at command.Sync reply.Done decided answered

abbrev pub close_at : ℕ → ℕ → Entry
close_at decided answered = entry_at (command.Close 1) (reply.Closed fate.Plain) decided answered

abbrev pub end_at : ℕ → ℕ → Entry
end_at decided answered = entry_at command.End (reply.Ended 0 []) decided answered
