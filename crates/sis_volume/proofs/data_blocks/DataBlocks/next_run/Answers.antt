use Rattle.std.proofs.Common.{subst}
use Rattle.sis_places.specs.Places.{PlacesView}
use Rattle.sis_volume.specs.Keeping.{IsNextFresh}
use Rattle.sis_volume.proofs.Freshness.{stretch_run}
use Rattle.sis_volume.proofs.data_blocks.DataBlocks.next_run.Goals as goal

pub returns-clause-next : goal.returns-clause-next
returns-clause-next c =
    stretch_run c.args.layout.now c.args.self.now c.args.txn.now.edits c.requires.layout c.requires.size
    c.args.first c.args.most c.first_place.result c.fresh_around-stretch.result c.first_place.ensures
    (subst (λ (p : PlacesView). IsNextFresh c.args.layout.now p c.args.txn.now.edits 0 c.args.most c.fresh_around-stretch.result)
    c.self.view_is c.fresh_around-stretch.ensures)
