use Rattle.std.proofs.Common.{◌∙◌, ap, min, ℕ, length}
use Rattle.sis_disk.proofs.Taken.{takes_front}
use Rattle.sis_disk.proofs.memory_source.fill.Goals as goal

pub returns-clause-taken : goal.returns-clause-taken
returns-clause-taken c =
    rw c.copy_from_slice.ensures.after
    (takes_front c.args.from.now c.args.into.now c.args.cut c.min-count.result c.requires.some c.requires.room
    (c.min-count.ensures ∙ ap (λ (n : ℕ). min n (length c.args.from.now)) c.min.ensures))
