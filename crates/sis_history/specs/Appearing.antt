-- What may be answered where the bytes of files aren't known.
use Rattle.std.specs.Prelude.{◌≡◌, List, [], ◌∷◌, length, ℕ, ⊤}
use Rattle.sis_model.specs.Answer.{MayReply, world_with}
use Rattle.sis_model.specs.World.{World}
use Rattle.sis_model.specs.declared.command.Command.{Command}
use Rattle.sis_model.specs.declared.history.Entry.{Entry}
use Rattle.sis_model.specs.declared.reply.Reply.{Reply}
use Rattle.sis_model.specs.declared.reply.Reply.TheVariants as reply

-- The client's command may get this reply, but for which bytes were read: of those the number alone
-- is the world's.
abbrev pub MayAppear : World → ℕ → Command → Reply → Type 0
MayAppear w client c (reply.Read bytes) =
    (others : List ℕ) × (length others ≡ length bytes)
    × MayReply w client c (reply.Read others)
MayAppear w client c r = MayReply w client c r

-- each entry's reply is one that its command may get where it stands, but for which bytes were read
abbrev pub AppearsLegal : World → List Entry → Type 0
AppearsLegal w [] = ⊤
AppearsLegal w (e ∷ es) =
    MayAppear w e.client e.command e.reply
    × AppearsLegal (world_with w e.client e.command e.reply) es
