-- Replies whose bytes may be other ones.
use Rattle.std.proofs.Common.{◌≡◌, ℕ, List, [], ◌∷◌, ◌++◌, Option, Some, refl, subst}
use Rattle.sis_disk.specs.Record.{DiskRecord}
use Rattle.sis_model.specs.Answer.{Kind, MayReply, MayReplyAs, kind_of, world_as, world_with}
use Rattle.sis_model.specs.History.{world_after}
use Rattle.sis_model.specs.Opens.{IsWorld}
use Rattle.sis_model.specs.World.{World}
use Rattle.sis_model.specs.declared.command.Command.{Command}
use Rattle.sis_model.specs.declared.history.Entry.{Entry}
use Rattle.sis_model.specs.declared.reply.Reply.{Reply}
use Rattle.sis_model.specs.declared.reply.Reply.TheVariants as reply
use Rattle.sis_model.proofs.OpenLemmas.{world_answered}
use Rattle.sis_history.specs.Appearing.{AppearsLegal, MayAppear}

-- the disk tells its calls
abbrev pub IsTold : Option DiskRecord → Type 0
IsTold told = (r : DiskRecord) × (told ≡ Some r)

-- another reply of the same kind may come
pub record IsLike (w : World) (client : ℕ) (c : Command) (r : Reply) : Type 0 where
  pub other : Reply
  pub kind : kind_of other ≡ kind_of r
  pub may : MayReply w client c other

pub appears_like : (w : World) (client : ℕ) (c : Command) (r : Reply) → MayAppear w client c r
    → IsLike w client c r
appears_like w client c (reply.Read bytes) may =
    record { other = reply.Read may.0; kind = refl; may = may.2 }
appears_like w client c r may = record { other = r; kind = refl; may = may }

-- it may come as one of this kind
pub like_as : (w : World) (client : ℕ) (c : Command) (r : Reply) (like : IsLike w client c r)
    → MayReplyAs w client c like.other (kind_of r)
like_as w client c r like =
    subst (λ (k : Kind). MayReplyAs w client c like.other k) like.kind like.may

pub world_appeared : (w : World) (client : ℕ) (c : Command) (r : Reply) → IsWorld w
    → MayAppear w client c r → IsWorld (world_with w client c r)
world_appeared w client c r is may =
    let like = appears_like w client c r may in
    subst (λ (k : Kind). IsWorld (world_as w client c k)) like.kind
    (world_answered w client c like.other is like.may)

pub appears_push : (w : World) (es : List Entry) (e : Entry) → AppearsLegal w es
    → MayAppear (world_after w es) e.client e.command e.reply → AppearsLegal w (es ++ e ∷ [])
appears_push w [] e legal may = (may, tt)
appears_push w (x ∷ es) e legal may =
    (legal.0, appears_push (world_with w x.client x.command x.reply) es e legal.1 may)
