use Rattle.std.proofs.Common.{◌∙◌, ℕ, List, sym, subst}
use Rattle.std.proofs.lemmas.Result.{IfOk-weaker}
use Rattle.sis_disk.specs.Record.{IsImageAfter}
use Rattle.sis_disk.proofs.Picked.{replay_picked, replay_image, replay_old, replay_new}
use Rattle.sis_disk.proofs.memory.Memory.image.Goals as goal

pub returns-clause-picked : goal.returns-clause-picked
returns-clause-picked c =
    let log = c.self.inside.log in
    let same =
    replay_picked log.told c.args.k c.args.pick _ c.self.invariant.1 c.in_ok-replay.ensures in
    rw (← c.self.view_is) (IfOk-weaker c.image-2.result _ _ (λ m is. is ∙ same) c.image-2.ensures)

pub returns-clause-image : goal.returns-clause-image
returns-clause-image c =
    let log = c.self.inside.log in
    let image =
    replay_image log.told c.args.k c.args.pick _ c.self.invariant.1 c.in_ok-replay.ensures in
    rw (← c.self.view_is)
    (IfOk-weaker c.image-2.result _ _
    (λ m is. subst (λ (xs : List ℕ). IsImageAfter log.told c.args.k xs) (sym is) image)
    c.image-2.ensures)

pub returns-clause-old : goal.returns-clause-old
returns-clause-old c old =
    let log = c.self.inside.log in
    let same =
    replay_old log.told c.args.k c.args.pick _ c.self.invariant.1 c.in_ok-replay.ensures old in
    rw (← c.self.view_is) (IfOk-weaker c.image-2.result _ _ (λ m is. is ∙ same) c.image-2.ensures)

pub returns-clause-new : goal.returns-clause-new
returns-clause-new c new =
    let log = c.self.inside.log in
    let same =
    replay_new log.told c.args.k c.args.pick _ c.self.invariant.1 c.in_ok-replay.ensures new in
    rw (← c.self.view_is) (IfOk-weaker c.image-2.result _ _ (λ m is. is ∙ same) c.image-2.ensures)
