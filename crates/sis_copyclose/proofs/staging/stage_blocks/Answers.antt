use Rattle.std.proofs.Common.{◌≡◌, ◌/◌, ◌≤◌, [], length, arith}
use Rattle.sis_disk.specs.Record.{live_of}
use Rattle.sis_volume.specs.View.{held}
use Rattle.sis_copyclose.proofs.StagedBlocks.{stages_none}
use Rattle.sis_copyclose.proofs.WholeChange.{some_bytes}
use Rattle.sis_copyclose.proofs.Works.{others_refl, staged_cause, works_none, works_staged, works_wider}
use Rattle.sis_copyclose.proofs.staging.stage_blocks.Goals as goal

pub returns-then-is_empty-clause-ok : goal.returns-then-is_empty-clause-ok
returns-then-is_empty-clause-ok g c =
    let v = c.args.volume.now in
    let none : length c.args.blocks.now ≡ 0 = grind arith in (
      [],
      stages_none v.table.layout (held v) c.args.txn.now c.args.file c.args.first
          c.args.blocks.now (live_of v.seen) none,
    )

pub returns-then-is_empty-clause-fresh : goal.returns-then-is_empty-clause-fresh
returns-then-is_empty-clause-fresh g c =
    let none : length c.args.blocks.now ≡ 0 = grind arith in
    omega (arith, none)

pub returns-then-is_empty-clause-others : goal.returns-then-is_empty-clause-others
returns-then-is_empty-clause-others g c =
    let v = c.args.volume.now in
    others_refl v.table.layout (held v) c.args.txn.now.edits (live_of v.seen)

pub returns-then-is_empty-clause-works : goal.returns-then-is_empty-clause-works
returns-then-is_empty-clause-works g c =
    let v = c.args.volume.now in
    works_wider 0 (length c.args.blocks.now / 4096) v v (omega arith) (works_none v)

pub returns-clause-cause : goal.returns-clause-cause
returns-clause-cause g c =
    let some = some_bytes (length c.args.blocks.now) c.is_empty.result c.is_empty.ensures
    c.if-is_empty.false in
    let most : 1 ≤ length c.args.blocks.now / 4096 = omega (arith, some, c.requires.whole) in
    staged_cause c.stage.result (length c.args.blocks.now / 4096) c.args.volume.now.seen
    c.stage.new.self.seen most c.stage.ensures.once
    (c.stage.ensures.cause c.requires.up)

pub returns-clause-works : goal.returns-clause-works
returns-clause-works g c =
    let some = some_bytes (length c.args.blocks.now) c.is_empty.result c.is_empty.ensures
    c.if-is_empty.false in
    let most : 1 ≤ length c.args.blocks.now / 4096 = omega (arith, some, c.requires.whole) in
    works_staged (length c.args.blocks.now / 4096) c.args.txn.now.edits c.args.volume.now
    c.stage.new.self c.requires.table
    c.stage.ensures.same c.stage.ensures.others c.stage.ensures.up c.stage.ensures.images
    c.stage.ensures.files c.stage.ensures.elapses
    c.stage.ensures.calls most
