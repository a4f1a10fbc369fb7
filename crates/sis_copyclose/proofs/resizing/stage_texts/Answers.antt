use Rattle.std.proofs.Common.{◌≡◌, ◌+◌, ◌*◌, ◌/◌, ◌∙◌, List, length, refl, ap, arith}
use Rattle.std.specs.Prelude.{OnOk, Ok, Err, Result}
use Rattle.sis_disk.specs.Record.{live_of}
use Rattle.sis_model.specs.declared.reply.Hindrance.{Hindrance}
use Rattle.sis_copyclose.proofs.Operations.{given_up}
use Rattle.sis_copyclose.proofs.StagedBlocks.{staged_texts}
use Rattle.sis_copyclose.proofs.Works.{if_err_map, reading_wider, works_then, works_wider}
use Rattle.sis_copyclose.proofs.resizing.stage_texts.Goals as goal

on_ok_map : {T : Type 0} (r : Result T Hindrance) (P Q : Type 0) → (P → Q) → OnOk r P → OnOk r Q
on_ok_map (Ok x) P Q f h = f h
on_ok_map (Err e) P Q f h = tt

pub returns-in_err-stage_blocks-clause-cause : goal.returns-in_err-stage_blocks-clause-cause
returns-in_err-stage_blocks-clause-cause g c =
    let v = c.args.volume.now in
    let plan = c.args.plan.now in
    let size = length c.deref.result.now / 4096 in
    let len : length c.deref.result.now ≡ 4096 * plan.ends =
    ap (λ (xs : List _). length xs) c.deref.ensures.value ∙ c.requires.end in
    given_up c.from_residual.result c.in_err-stage_blocks.field-0.0 _ c.from_residual.ensures.1
    (reading_wider size (plan.ends + plan.count) v.seen v.seen c.stage_blocks.new.volume.seen
    c.in_err-stage_blocks.field-0.0 (omega (arith, len))
    refl c.in_err-stage_blocks.ensures.cause)

pub returns-in_err-stage_blocks-clause-works : goal.returns-in_err-stage_blocks-clause-works
returns-in_err-stage_blocks-clause-works g c =
    let plan = c.args.plan.now in
    let len : length c.deref.result.now ≡ 4096 * plan.ends =
    ap (λ (xs : List _). length xs) c.deref.ensures.value ∙ c.requires.end in
    works_wider (length c.deref.result.now / 4096) (plan.ends + plan.count) c.args.volume.now
    c.stage_blocks.new.volume (omega (arith, len))
    c.stage_blocks.ensures.works

pub returns-clause-cause : goal.returns-clause-cause
returns-clause-cause g c =
    let plan = c.args.plan.now in
    let more : length c.deref-2.result.now ≡ 4096 * plan.count =
    ap (λ (xs : List _). length xs) c.deref-2.ensures.value ∙ c.requires.touched in
    if_err_map c.stage_blocks-2.result _ _ (λ by h.
    reading_wider (length c.deref-2.result.now / 4096) (plan.ends + plan.count)
    c.args.volume.now.seen c.stage_blocks.new.volume.seen
    c.stage_blocks-2.new.volume.seen by (omega (arith, more)) c.in_ok-stage_blocks.ensures.quiet h)
    c.stage_blocks-2.ensures.cause

pub returns-clause-quiet : goal.returns-clause-quiet
returns-clause-quiet g c =
    on_ok_map c.stage_blocks-2.result _ _ (λ later. later ∙ c.in_ok-stage_blocks.ensures.quiet)
    c.stage_blocks-2.ensures.quiet

pub returns-clause-works : goal.returns-clause-works
returns-clause-works g c =
    let plan = c.args.plan.now in
    let len : length c.deref.result.now ≡ 4096 * plan.ends =
    ap (λ (xs : List _). length xs) c.deref.ensures.value ∙ c.requires.end in
    let more : length c.deref-2.result.now ≡ 4096 * plan.count =
    ap (λ (xs : List _). length xs) c.deref-2.ensures.value ∙ c.requires.touched in
    works_then (length c.deref.result.now / 4096) (length c.deref-2.result.now / 4096)
    (plan.ends + plan.count) c.args.volume.now
    c.stage_blocks.new.volume c.stage_blocks-2.new.volume (omega (arith, len, more))
    c.stage_blocks.ensures.works c.stage_blocks-2.ensures.works

pub returns-clause-staged : goal.returns-clause-staged
returns-clause-staged g c =
    let v = c.args.volume.now in
    let plan = c.args.plan.now in
    on_ok_map c.stage_blocks-2.result _ _ (λ later.
    staged_texts v c.stage_blocks.new.volume c.args.file plan c.args.texts.now.end.items
    c.args.texts.now.touched.items c.deref.result.now c.deref-2.result.now
    (live_of c.stage_blocks-2.new.volume.seen) c.args.txn.now c.stage_blocks.new.txn
    c.stage_blocks-2.new.txn c.in_ok-stage_blocks.ensures.ok.0 later.0
    c.requires.table c.stage_blocks.ensures.works.same c.requires.end c.requires.touched
    c.deref.ensures.value c.deref-2.ensures.value
    c.in_ok-stage_blocks.ensures.ok.1 later.1 c.stage_blocks-2.ensures.others)
    c.stage_blocks-2.ensures.ok
