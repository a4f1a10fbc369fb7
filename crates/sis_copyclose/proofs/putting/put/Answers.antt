use Rattle.std.proofs.Common.{sym, ◌∙◌}
use Rattle.sis_copyclose.proofs.StagedFile.{put_applied, put_fresh, put_may, put_short}
use Rattle.sis_copyclose.proofs.putting.put.Goals as goal

pub apply-requires-clause-may : goal.apply-requires-clause-may
apply-requires-clause-may g c =
    put_may c.args.volume.now c.stage_file.new.volume c.stage_file.new.volume c.args.name.now c.args.bytes.now
    c.in_ok-txn.txn.edits c.requires.short (sym c.down.ensures.down ∙ c.in_default.is) c.in_ok-txn.ensures.ready c.in_ok-txn.ensures.staged

pub apply-requires-clause-fresh : goal.apply-requires-clause-fresh
apply-requires-clause-fresh g c =
    put_fresh c.args.volume.now c.stage_file.new.volume c.stage_file.new.volume c.args.name.now c.args.bytes.now
    c.in_ok-txn.txn.edits c.requires.short (sym c.down.ensures.down ∙ c.in_default.is) c.in_ok-txn.ensures.ready c.in_ok-txn.ensures.staged

pub returns : goal.returns
returns g c =
    put_applied c.args.volume.now c.stage_file.new.volume c.apply.new.self c.args.name.now c.args.bytes.now
    c.in_ok-txn.txn.edits c.requires.short (sym c.down.ensures.down ∙ c.in_default.is) c.in_ok-txn.ensures.ready c.in_ok-txn.ensures.staged
    c.apply.result c.in_ok-txn.ensures.quiet c.apply.ensures.ok c.apply.ensures.err
    c.apply.ensures.cause

pub returns-in_err-txn : goal.returns-in_err-txn
returns-in_err-txn g c =
    put_short c.from_residual.result c.args.volume.now c.stage_file.new.volume c.args.name.now c.args.bytes.now
    c.in_err-txn.field-0.0 (sym c.down.ensures.down ∙ c.in_default.is) c.from_residual.ensures.1 c.in_err-txn.ensures.fails
