use Rattle.std.proofs.Common.{◌≡◌, Some, sym, ap, ◌∙◌}
use Rattle.std.specs.Option.{option_copied}
use Rattle.sis_table.specs.Volume.{IsNode, VolumeTable, node_with}
use Rattle.sis_volume.proofs.Pieces.{node_is}
use Rattle.sis_volume.proofs.lending.part_in.Goals as goal

pub part_of-requires-clause-size : goal.part_of-requires-clause-size
part_of-requires-clause-size c =
    let is : node_with c.args.kept.now c.args.file ≡ Some c.unwrap.result.now =
    ap (λ (v : VolumeTable). node_with v c.args.file) (sym c.kept.view_is) ∙ sym c.node.ensures ∙ ap option_copied c.unwrap.ensures in
    let node : IsNode c.args.kept.now.layout c.unwrap.result.now = node_is c.args.kept.now c.args.file c.unwrap.result.now c.requires.table is in
    node.size
