use Rattle.sis_volume.proofs.Freshness.{free_all, free_more}
use Rattle.sis_volume.proofs.txn.front_in.Goals as goal

pub loop-edit-preserved : goal.loop-edit-preserved
loop-edit-preserved c =
    free_more c.args.edits.now c.loop-edit.edit-index c.args.place c.args.count c.loop-edit.free c.in-Free.count
    c.edit-item.result c.loop-edit-test.true c.edit-item.is c.loop-edit.invariant c.in-Free.ensures

pub returns : goal.returns
returns c =
    let all = free_all c.args.edits.now c.loop-edit.edit-index c.args.place c.args.count c.loop-edit.free c.loop-edit-test.false c.loop-edit.invariant in
    (all.some, all.few, all.none)
