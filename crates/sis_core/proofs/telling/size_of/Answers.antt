use Rattle.std.proofs.Common.{◌∙◌, sym}
use Rattle.sis_core.proofs.Told.{named_by_id, size_with, size_without}
use Rattle.sis_core.proofs.telling.size_of.Goals as goal

pub returns-in-Some : goal.returns-in-Some
returns-in-Some g c =
    size_with c.args.volume.now.table c.args.name.now c.in_ok-id.id c.node.result c.in-Some.node
    c.in-Some.is c.node.ensures.node
    (named_by_id c.args.volume.now.table c.args.name.now c.in_ok-id.id c.node.ensures.table
    (sym c.in_ok-id.was ∙ c.find.ensures))

pub returns-in-None : goal.returns-in-None
returns-in-None g c =
    size_without c.args.volume.now.table c.args.name.now c.in_ok-id.id c.node.result c.in-None.is
    c.node.ensures.node (named_by_id c.args.volume.now.table c.args.name.now c.in_ok-id.id
    c.node.ensures.table (sym c.in_ok-id.was ∙ c.find.ensures))
