use Rattle.sis_table.proofs.EditLemmas.{measured_empty}
use Rattle.sis_table.proofs.table.Table.empty.Goals as goal

pub invariant_of-result : goal.invariant_of-result
invariant_of-result c = measured_empty c.args.layout _ c.requires c.new.ensures
