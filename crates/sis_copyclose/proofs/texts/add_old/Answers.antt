use Rattle.std.proofs.Common.{◌-◌, arith}
use Rattle.sis_disk.specs.Record.{live_of}
use Rattle.sis_model.specs.declared.reply.Hindrance.TheVariants as hindrance
use Rattle.sis_copyclose.proofs.Operations.{given_up}
use Rattle.sis_copyclose.proofs.ReadParts.{looked_cause, looked_memory, looked_quiet, looked_works, old_added}
use Rattle.sis_copyclose.proofs.texts.add_old.Goals as goal

pub returns-clause-ok : goal.returns-clause-ok
returns-clause-ok g c =
    old_added c.args.volume.now.table c.args.file c.args.range (live_of c.args.volume.now.seen) c.args.out.now.items c.read.new.out.items
    c.add_zeros.new.out.items (c.args.range.len - (c.len.result - c.len-before.result)) c.in_ok-read.ensures.ok (omega arith)
    c.in_ok-add_zeros.ensures.ok

pub returns-in_err-read-clause-cause : goal.returns-in_err-read-clause-cause
returns-in_err-read-clause-cause g c =
    given_up c.from_residual.result c.in_err-read.field-0.0 _ c.from_residual.ensures.1
    (looked_cause c.read.result c.args.volume.now c.read.new.volume c.args.file c.args.range
    c.in_err-read.field-0.0 c.in_err-read.was c.requires.up
    c.read.ensures.looks)

pub returns-in_err-add_zeros-clause-cause : goal.returns-in_err-add_zeros-clause-cause
returns-in_err-add_zeros-clause-cause g c =
    given_up c.from_residual-in_err-add_zeros.result hindrance.Memory _
    c.from_residual-in_err-add_zeros.ensures.1
    (looked_memory c.read.result c.args.volume.now c.read.new.volume c.args.file c.args.range _
    c.in_ok-read.was c.read.ensures.looks)

pub returns-clause-quiet : goal.returns-clause-quiet
returns-clause-quiet g c =
    looked_quiet c.read.result c.args.volume.now c.read.new.volume c.args.file c.args.range _
    c.in_ok-read.was c.read.ensures.looks

pub returns-in_err-read-clause-works : goal.returns-in_err-read-clause-works
returns-in_err-read-clause-works g c =
    looked_works c.read.result c.args.volume.now c.read.new.volume c.args.file c.args.range c.read.ensures.looks

pub returns-in_err-add_zeros-clause-works : goal.returns-in_err-add_zeros-clause-works
returns-in_err-add_zeros-clause-works g c =
    looked_works c.read.result c.args.volume.now c.read.new.volume c.args.file c.args.range c.read.ensures.looks

pub returns-clause-works : goal.returns-clause-works
returns-clause-works g c =
    looked_works c.read.result c.args.volume.now c.read.new.volume c.args.file c.args.range c.read.ensures.looks
