use Rattle.std.proofs.Common.{◌∙◌, [], sym}
use Rattle.sis_table.specs.Volume.{node_with}
use Rattle.sis_copyclose.proofs.FileBytes.{found_by, there_map}
use Rattle.sis_copyclose.proofs.Turned.{same_size}
use Rattle.sis_copyclose.proofs.WholeChange.{size_change, size_done, size_short, whole_fresh, whole_may}
use Rattle.sis_copyclose.proofs.resizing.set_size.Goals as goal

pub returns-then-size_in-len-clause-leaves : goal.returns-then-size_in-len-clause-leaves
returns-then-size_in-len-clause-leaves g c =
    let v = c.args.volume.now in
    there_map (node_with v.table c.args.file) _ _ (λ n is its.
    same_size v n (sym c.down.ensures.down ∙ c.in_default.is) c.size_in.ensures.table (found_by v.table c.args.file n is) c.args.len c.size_in.ensures.sized
    (sym its ∙ c.if-size_in-len.true)) c.size_in.ensures.size

pub returns-in_err-txn-clause-leaves : goal.returns-in_err-txn-clause-leaves
returns-in_err-txn-clause-leaves g c =
    let v = c.args.volume.now in
    let change = size_change v.table c.args.file c.size_in.result c.args.len c.requires.limit c.if-size_in-len.false c.requires.there c.size_in.ensures.size in
    size_short v c.stage_change.new.volume c.args.file c.args.len (sym c.down.ensures.down ∙ c.in_default.is) change
    c.from_residual.result c.in_err-txn.field-0.0 c.from_residual.ensures.1 c.in_err-txn.ensures.fails

pub apply-requires-clause-may : goal.apply-requires-clause-may
apply-requires-clause-may g c =
    let v = c.args.volume.now in
    let change = size_change v.table c.args.file c.size_in.result c.args.len c.requires.limit c.if-size_in-len.false c.requires.there c.size_in.ensures.size in
    whole_may v c.stage_change.new.volume c.args.file c.args.len 0 [] (sym c.down.ensures.down ∙ c.in_default.is) change
    c.in_ok-txn.txn.edits c.in_ok-txn.ensures.staged c.in_ok-txn.ensures.ready

pub apply-requires-clause-fresh : goal.apply-requires-clause-fresh
apply-requires-clause-fresh g c =
    let v = c.args.volume.now in
    let change = size_change v.table c.args.file c.size_in.result c.args.len c.requires.limit c.if-size_in-len.false c.requires.there c.size_in.ensures.size in
    whole_fresh v c.stage_change.new.volume c.args.file c.args.len 0 [] (sym c.down.ensures.down ∙ c.in_default.is) change
    c.in_ok-txn.txn.edits c.in_ok-txn.ensures.staged c.in_ok-txn.ensures.ready

pub returns-clause-leaves : goal.returns-clause-leaves
returns-clause-leaves g c =
    let v = c.args.volume.now in
    let change = size_change v.table c.args.file c.size_in.result c.args.len c.requires.limit c.if-size_in-len.false c.requires.there c.size_in.ensures.size in
    size_done v c.stage_change.new.volume c.args.file c.args.len (sym c.down.ensures.down ∙ c.in_default.is) change
    c.in_ok-txn.txn.edits c.in_ok-txn.ensures.staged c.in_ok-txn.ensures.ready
    c.in_ok-txn.ensures.quiet c.apply.new.self c.apply.result c.apply.ensures.ok
    c.apply.ensures.err
    c.apply.ensures.cause
