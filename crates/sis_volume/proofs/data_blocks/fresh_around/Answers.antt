use Rattle.sis_volume.proofs.Freshness.{some_fresh}
use Rattle.sis_volume.proofs.data_blocks.fresh_around.Goals as goal

pub unwrap-requires : goal.unwrap-requires
unwrap-requires c =
    some_fresh c.args.layout.now c.args.places.now c.args.txn.now.edits c.requires.layout c.requires.size
    c.args.most c.next_fresh-in-None.result c.requires.fresh c.next_fresh-in-None.ensures
