use Rattle.std.proofs.Common.{sym, ap}
use Rattle.sis_table.specs.Volume.{VolumeTable}
use Rattle.sis_table.proofs.table.Table.next_file.Goals as goal

pub returns : goal.returns
returns c = record { next = c.next.ensures c.args.self.now (ap (λ (v : VolumeTable). v.nodes) (sym c.self.view_is)) }
