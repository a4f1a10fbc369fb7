use Rattle.std.proofs.Common.{arith}
use Rattle.sis_copyclose.proofs.Operations.{given_up}
use Rattle.sis_copyclose.proofs.TextWorks.{end_short, end_works}
use Rattle.sis_copyclose.proofs.texts.end_text.Goals as goal

pub returns-in_err-add_old-clause-works : goal.returns-in_err-add_old-clause-works
returns-in_err-add_old-clause-works g c =
    end_works c.args.volume.now c.add_old.new.volume c.args.file _ c.args.plan.now.ends (omega arith) c.requires.ends (omega arith)
    c.add_old.ensures.works

pub returns-in_err-add_old-clause-cause : goal.returns-in_err-add_old-clause-cause
returns-in_err-add_old-clause-cause g c =
    given_up c.from_residual.result c.in_err-add_old.field-0.0 _ c.from_residual.ensures.1
    (end_short c.args.volume.now c.add_old.new.volume c.args.file _ c.args.plan.now.ends
    c.in_err-add_old.field-0.0 (omega arith) c.requires.ends
    (omega arith) c.in_err-add_old.ensures.cause)

pub returns-clause-works : goal.returns-clause-works
returns-clause-works g c =
    end_works c.args.volume.now c.add_old.new.volume c.args.file _ c.args.plan.now.ends (omega arith) c.requires.ends (omega arith)
    c.add_old.ensures.works
