-- Histories that one world of separate files allows.
use Rattle.std.specs.Prelude.{List, [], ◌∷◌, map, ⊤}
use Rattle.sis_model.specs.World.{World}
use Rattle.sis_model.specs.Answer.{MayReply, world_with}
use Rattle.sis_model.specs.declared.history.Entry.{Entry}
use Rattle.sis_model.specs.declared.past.Past.{Past}

-- the world after these entries
abbrev pub world_after : World → List Entry → World
world_after w [] = w
world_after w (e ∷ es) = world_after (world_with w e.client e.command e.reply) es

-- each entry's reply is one that its command may get where it stands
abbrev pub IsLegal : World → List Entry → Type 0
IsLegal w [] = ⊤
IsLegal w (e ∷ es) =
    MayReply w e.client e.command e.reply × IsLegal (world_with w e.client e.command e.reply) es

-- what is past, without the numbers of the disk's calls
abbrev pub past_of : Entry → Past
past_of e = record { client = e.client; command = e.command; reply = e.reply }

abbrev pub pasts_of : List Entry → List Past
pasts_of es = map past_of es
