-- Which entries no stop may take away, and from which call of the disk on.
use Rattle.std.specs.Prelude.{ℕ, nat_le, Bool, true, false, ◌&&◌}
use Rattle.sis_model.specs.declared.command.Command.{Command}
use Rattle.sis_model.specs.declared.command.Command.TheVariants as command
use Rattle.sis_model.specs.declared.history.Entry.{Entry}
use Rattle.sis_model.specs.declared.reply.Reply.{Reply}
use Rattle.sis_model.specs.declared.reply.Reply.TheVariants as reply

-- replies that say that a command was carried out
abbrev pub is_done : Reply → Bool
is_done reply.Done = true
is_done _ = false

abbrev pub is_closed : Reply → Bool
is_closed (reply.Closed fate) = true
is_closed _ = false

abbrev pub is_ended : Reply → Bool
is_ended (reply.Ended closed unsettled) = true
is_ended _ = false

-- this reply says that the command made all that was done durable
abbrev pub makes_durable : Command → Reply → Bool
makes_durable command.Sync r = is_done r
makes_durable (command.Close number) r = is_closed r
makes_durable command.End r = is_ended r
makes_durable _ r = false

-- a sync, a close or an end that was carried out
abbrev pub is_durable : Entry → Bool
is_durable e = makes_durable e.command e.reply

-- the entry is durable, and its client was answered by call k
abbrev pub is_sure : ℕ → Entry → Bool
is_sure k e = is_durable e && nat_le e.answered k
