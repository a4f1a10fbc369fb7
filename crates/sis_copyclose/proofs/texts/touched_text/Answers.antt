use Rattle.std.proofs.Common.{length, refl, arith, ap}
use Rattle.sis_volume.specs.View.{VolumeView}
use Rattle.sis_table.specs.Volume.{node_with}
use Rattle.sis_copyclose.proofs.FileBytes.{there_is}
use Rattle.sis_copyclose.proofs.TextBytes.{around_told}
use Rattle.sis_model.specs.declared.reply.Hindrance.TheVariants as hindrance
use Rattle.sis_copyclose.proofs.Operations.{given_up}
use Rattle.sis_copyclose.proofs.TextWorks.{around_before, around_both, around_memory, around_none, before_short, behind_short}
use Rattle.sis_copyclose.proofs.texts.touched_text.Goals as goal

pub returns-in_err-text-clause-works : goal.returns-in_err-text-clause-works
returns-in_err-text-clause-works g c =
    around_none c.args.volume.now c.args.file c.args.at (length c.args.bytes.now) _ c.requires.there

pub returns-in_err-add_old-clause-works : goal.returns-in_err-add_old-clause-works
returns-in_err-add_old-clause-works g c =
    around_before c.args.volume.now c.add_old.new.volume c.args.file c.args.at (length c.args.bytes.now) _ (omega arith) (omega arith)
    c.add_old.ensures.works

pub returns-in_err-extend_from_slice-clause-works : goal.returns-in_err-extend_from_slice-clause-works
returns-in_err-extend_from_slice-clause-works g c =
    around_before c.args.volume.now c.add_old.new.volume c.args.file c.args.at (length c.args.bytes.now) _ (omega arith) (omega arith)
    c.add_old.ensures.works

pub returns-in_err-add_old-2-clause-works : goal.returns-in_err-add_old-2-clause-works
returns-in_err-add_old-2-clause-works g c =
    around_both c.args.volume.now c.add_old.new.volume c.add_old-2.new.volume c.args.file c.args.at (length c.args.bytes.now) _ _
    (omega arith) (omega arith) (omega arith) (omega (arith, c.div_ceil.ensures)) c.add_old.ensures.works c.add_old-2.ensures.works

pub returns-in_err-text-clause-cause : goal.returns-in_err-text-clause-cause
returns-in_err-text-clause-cause g c =
    given_up c.from_residual.result hindrance.Memory _ c.from_residual.ensures.1
    (around_memory c.args.volume.now c.args.volume.now c.args.file c.args.at
    (length c.args.bytes.now) _ c.requires.there refl)

pub returns-in_err-add_old-clause-cause : goal.returns-in_err-add_old-clause-cause
returns-in_err-add_old-clause-cause g c =
    given_up c.from_residual-in_err-add_old.result c.in_err-add_old.field-0.0 _
    c.from_residual-in_err-add_old.ensures.1
    (before_short c.args.volume.now c.add_old.new.volume c.args.file c.args.at
    (length c.args.bytes.now) _ c.in_err-add_old.field-0.0
    (omega arith) (omega arith) c.in_err-add_old.ensures.cause)

pub returns-in_err-extend_from_slice-clause-cause :
    goal.returns-in_err-extend_from_slice-clause-cause
returns-in_err-extend_from_slice-clause-cause g c =
    given_up c.from_residual-in_err-extend_from_slice.result hindrance.Memory _
    c.from_residual-in_err-extend_from_slice.ensures.1
    (around_memory c.args.volume.now c.add_old.new.volume c.args.file c.args.at
    (length c.args.bytes.now) _ c.requires.there c.in_ok-add_old.ensures.quiet)

pub returns-in_err-add_old-2-clause-cause : goal.returns-in_err-add_old-2-clause-cause
returns-in_err-add_old-2-clause-cause g c =
    given_up c.from_residual-in_err-add_old-2.result c.in_err-add_old-2.field-0.0 _
    c.from_residual-in_err-add_old-2.ensures.1
    (behind_short c.args.volume.now c.add_old.new.volume c.add_old-2.new.volume c.args.file
    c.args.at (length c.args.bytes.now) _ _
    c.in_err-add_old-2.field-0.0 (omega arith) (omega (arith, c.div_ceil.ensures))
    c.add_old.ensures.works c.in_ok-add_old.ensures.quiet
    c.in_err-add_old-2.ensures.cause)

pub returns-clause-works : goal.returns-clause-works
returns-clause-works g c =
    around_both c.args.volume.now c.add_old.new.volume c.add_old-2.new.volume c.args.file c.args.at (length c.args.bytes.now) _ _
    (omega arith) (omega arith) (omega arith) (omega (arith, c.div_ceil.ensures)) c.add_old.ensures.works c.add_old-2.ensures.works

pub returns-clause-told : goal.returns-clause-told
returns-clause-told g c =
    let v = c.args.volume.now in
    let works = there_is (node_with v.table c.args.file) _ c.add_old.ensures.works in
    around_told v.table c.args.file c.args.at c.args.bytes.now _ c.add_old.new.out.items c.extend_from_slice.new.self.items c.add_old-2.new.out.items _ _
    c.in_ok-text.ensures.items c.in_ok-extend_from_slice.ensures.items (omega arith) (omega arith) (omega arith) (omega (arith, c.div_ceil.ensures))
    v c.add_old.new.volume refl (ap (λ (x : VolumeView). x.table) works.2.same) works.2.places c.in_ok-add_old.ensures.ok c.in_ok-add_old-2.ensures.ok
