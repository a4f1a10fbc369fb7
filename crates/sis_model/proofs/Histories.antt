-- A history with one entry more.
use Rattle.std.proofs.Common.{◌≡◌, List, [], ◌∷◌, ◌++◌, refl}
use Rattle.sis_model.specs.World.{World}
use Rattle.sis_model.specs.Answer.{MayReply, world_with}
use Rattle.sis_model.specs.History.{IsLegal, world_after}
use Rattle.sis_model.specs.declared.history.Entry.{Entry}

pub world_after-push : (w : World) (es : List Entry) (e : Entry) → world_after w (es ++ e ∷ []) ≡ world_with (world_after w es) e.client e.command e.reply
world_after-push w [] e = refl
world_after-push w (x ∷ es) e = world_after-push (world_with w x.client x.command x.reply) es e

-- a legal history goes on with an entry that its world allows
pub IsLegal-push : (w : World) (es : List Entry) (e : Entry) → IsLegal w es → MayReply (world_after w es) e.client e.command e.reply → IsLegal w (es ++ e ∷ [])
IsLegal-push w [] e legal may = (may, tt)
IsLegal-push w (x ∷ es) e legal may = (legal.0, IsLegal-push (world_with w x.client x.command x.reply) es e legal.1 may)

-- what a legal history was before its last entry, and what its world allowed
pub IsLegal-pop : (w : World) (es : List Entry) (e : Entry) → IsLegal w (es ++ e ∷ []) → IsLegal w es × MayReply (world_after w es) e.client e.command e.reply
IsLegal-pop w [] e legal = (tt, legal.0)
IsLegal-pop w (x ∷ es) e legal = let rest = IsLegal-pop (world_with w x.client x.command x.reply) es e legal.1 in ((legal.0, rest.0), rest.1)
