use Rattle.std.proofs.Common.{Some, None, sym, ap, subst}
use Rattle.std.specs.Option.{option_copied}
use Rattle.sis_table.specs.Index.{IsNextIn}
use Rattle.sis_table.specs.Volume.{VolumeTable}
use Rattle.sis_table.proofs.NextLemmas.{next_id}
use Rattle.sis_table.proofs.table.Table.next_node.Goals as goal

pub returns-in-Some : goal.returns-in-Some
returns-in-Some c =
    next_id c.args.self.now c.self.inside.files c.args.after (Some c.in-Some.node.now) (ap (λ (v : VolumeTable). v.nodes) (sym c.self.view_is))
    (subst (IsNextIn c.self.inside.files c.args.after) (ap option_copied c.in-Some.is) c.next_node.ensures)

pub returns-in-None : goal.returns-in-None
returns-in-None c =
    next_id c.args.self.now c.self.inside.files c.args.after None (ap (λ (v : VolumeTable). v.nodes) (sym c.self.view_is))
    (subst (IsNextIn c.self.inside.files c.args.after) (ap option_copied c.in-None.is) c.next_node.ensures)
