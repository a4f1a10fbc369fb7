use Rattle.std.proofs.Common.{◌≡◌, Some, sym, ap, ◌∙◌}
use Rattle.std.specs.Option.{option_copied}
use Rattle.sis_table.specs.Volume.{node_with}
use Rattle.sis_table.proofs.ChangesNodes.{there_limits}
use Rattle.sis_copyclose.proofs.resizing.size_in.Goals as goal

pub returns-clause-limit : goal.returns-clause-limit
returns-clause-limit g c =
    let v = c.args.volume.now.table in
    let is : node_with v c.args.file ≡ Some c.unwrap.result.now = sym c.node.ensures.node ∙ ap option_copied c.unwrap.ensures in
    (there_limits v c.args.file c.unwrap.result.now c.node.ensures.table is).size
