use Rattle.std.proofs.Common.{length, refl}
use Rattle.sis_copyclose.proofs.TextBytes.{texts_told}
use Rattle.sis_copyclose.proofs.Operations.{given_up}
use Rattle.sis_copyclose.proofs.TextWorks.{text_both, text_both_short, text_end, text_end_short}
use Rattle.sis_copyclose.proofs.texts.texts_of.Goals as goal

pub returns-in_err-end-clause-works : goal.returns-in_err-end-clause-works
returns-in_err-end-clause-works g c =
    text_end c.args.volume.now c.end_text.new.volume c.args.file c.args.at (length c.args.bytes.now) c.args.plan.now.ends _ c.requires.there
    c.end_text.ensures.works

pub returns-in_err-touched-clause-works : goal.returns-in_err-touched-clause-works
returns-in_err-touched-clause-works g c =
    text_both c.args.volume.now c.end_text.new.volume c.touched_text.new.volume c.args.file c.args.at (length c.args.bytes.now)
    c.args.plan.now.ends c.end_text.ensures.works c.touched_text.ensures.works

pub returns-in_err-end-clause-cause : goal.returns-in_err-end-clause-cause
returns-in_err-end-clause-cause g c =
    given_up c.from_residual.result c.in_err-end.field-0.0 _ c.from_residual.ensures.1
    (text_end_short c.args.volume.now c.end_text.new.volume c.args.file c.args.at
    (length c.args.bytes.now) c.args.plan.now.ends
    c.in_err-end.field-0.0 _ c.requires.there c.in_err-end.ensures.cause)

pub returns-in_err-touched-clause-cause : goal.returns-in_err-touched-clause-cause
returns-in_err-touched-clause-cause g c =
    given_up c.from_residual-in_err-touched.result c.in_err-touched.field-0.0 _
    c.from_residual-in_err-touched.ensures.1
    (text_both_short c.args.volume.now c.end_text.new.volume c.touched_text.new.volume c.args.file
    c.args.at (length c.args.bytes.now)
    c.args.plan.now.ends c.in_err-touched.field-0.0 c.end_text.ensures.works
    c.in_ok-end.ensures.quiet c.in_err-touched.ensures.cause)

pub returns-clause-works : goal.returns-clause-works
returns-clause-works g c =
    text_both c.args.volume.now c.end_text.new.volume c.touched_text.new.volume c.args.file c.args.at (length c.args.bytes.now)
    c.args.plan.now.ends c.end_text.ensures.works c.touched_text.ensures.works

pub returns-clause-texts : goal.returns-clause-texts
returns-clause-texts g c =
    texts_told c.args.volume.now.table c.args.file c.args.at c.args.bytes.now c.in_ok-end.end.items c.in_ok-touched.touched.items c.args.plan.now
    c.in_ok-end.ensures.size c.in_ok-touched.ensures.size c.requires.count c.args.volume.now c.end_text.new.volume refl c.end_text.ensures.works
    c.requires.old c.in_ok-end.ensures.told c.in_ok-touched.ensures.told
