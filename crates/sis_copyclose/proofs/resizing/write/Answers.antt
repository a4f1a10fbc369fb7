use Rattle.std.proofs.Common.{◌≡◌, ◌∙◌, length, sym, arith}
use Rattle.sis_table.specs.Volume.{node_with}
use Rattle.sis_copyclose.proofs.FileBytes.{found_by, there_map}
use Rattle.sis_copyclose.proofs.Turned.{nothing_written}
use Rattle.sis_copyclose.proofs.WholeChange.{some_bytes, whole_fresh, whole_may, write_change, write_done, write_short}
use Rattle.sis_copyclose.proofs.resizing.write.Goals as goal

pub returns-then-is_empty-clause-leaves : goal.returns-then-is_empty-clause-leaves
returns-then-is_empty-clause-leaves g c =
    let v = c.args.volume.now in
    let none : length c.args.bytes.now ≡ 0 = grind arith in
    there_map (node_with v.table c.args.file) _ _ (λ n is here.
    nothing_written v n (sym c.down.ensures.down ∙ c.in_default.is) c.size_in.ensures.table (found_by v.table c.args.file n is) c.args.at
    c.args.bytes.now none) c.requires.there

pub stage_change-requires-clause-change : goal.stage_change-requires-clause-change
stage_change-requires-clause-change g c =
    let some = some_bytes (length c.args.bytes.now) c.is_empty.result c.is_empty.ensures c.if-is_empty.false in
    write_change c.args.volume.now.table c.args.file c.size_in.result c.max-size.result c.args.at (length c.args.bytes.now) some
    (omega arith) c.size_in.ensures.limit c.requires.end c.requires.there c.size_in.ensures.size

pub returns-in_err-txn-clause-leaves : goal.returns-in_err-txn-clause-leaves
returns-in_err-txn-clause-leaves g c =
    let v = c.args.volume.now in
    let some = some_bytes (length c.args.bytes.now) c.is_empty.result c.is_empty.ensures c.if-is_empty.false in
    let change = write_change v.table c.args.file c.size_in.result c.max-size.result c.args.at (length c.args.bytes.now) some
    (omega arith) c.size_in.ensures.limit c.requires.end c.requires.there c.size_in.ensures.size in
    write_short v c.stage_change.new.volume c.args.file c.max-size.result c.args.at c.args.bytes.now (sym c.down.ensures.down ∙ c.in_default.is) change
    c.from_residual.result c.in_err-txn.field-0.0 some c.from_residual.ensures.1 c.in_err-txn.ensures.fails

pub apply-requires-clause-may : goal.apply-requires-clause-may
apply-requires-clause-may g c =
    let v = c.args.volume.now in
    let some = some_bytes (length c.args.bytes.now) c.is_empty.result c.is_empty.ensures c.if-is_empty.false in
    let change = write_change v.table c.args.file c.size_in.result c.max-size.result c.args.at (length c.args.bytes.now) some
    (omega arith) c.size_in.ensures.limit c.requires.end c.requires.there c.size_in.ensures.size in
    whole_may v c.stage_change.new.volume c.args.file c.max-size.result c.args.at c.args.bytes.now (sym c.down.ensures.down ∙ c.in_default.is) change
    c.in_ok-txn.txn.edits c.in_ok-txn.ensures.staged c.in_ok-txn.ensures.ready

pub apply-requires-clause-fresh : goal.apply-requires-clause-fresh
apply-requires-clause-fresh g c =
    let v = c.args.volume.now in
    let some = some_bytes (length c.args.bytes.now) c.is_empty.result c.is_empty.ensures c.if-is_empty.false in
    let change = write_change v.table c.args.file c.size_in.result c.max-size.result c.args.at (length c.args.bytes.now) some
    (omega arith) c.size_in.ensures.limit c.requires.end c.requires.there c.size_in.ensures.size in
    whole_fresh v c.stage_change.new.volume c.args.file c.max-size.result c.args.at c.args.bytes.now (sym c.down.ensures.down ∙ c.in_default.is) change
    c.in_ok-txn.txn.edits c.in_ok-txn.ensures.staged c.in_ok-txn.ensures.ready

pub returns-clause-leaves : goal.returns-clause-leaves
returns-clause-leaves g c =
    let v = c.args.volume.now in
    let some = some_bytes (length c.args.bytes.now) c.is_empty.result c.is_empty.ensures c.if-is_empty.false in
    let change = write_change v.table c.args.file c.size_in.result c.max-size.result c.args.at (length c.args.bytes.now) some
    (omega arith) c.size_in.ensures.limit c.requires.end c.requires.there c.size_in.ensures.size in
    write_done v c.stage_change.new.volume c.args.file c.max-size.result c.args.at c.args.bytes.now (sym c.down.ensures.down ∙ c.in_default.is) change
    c.in_ok-txn.txn.edits c.in_ok-txn.ensures.staged c.in_ok-txn.ensures.ready
    c.in_ok-txn.ensures.quiet c.apply.new.self c.apply.result c.apply.ensures.ok c.apply.ensures.err
    c.apply.ensures.cause some
