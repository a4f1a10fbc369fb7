use Rattle.std.proofs.Common.{arith}
use Rattle.std.proofs.lemmas.Grind.{common_steps}
use Rattle.sis_table.specs.Spelling.{spelling}
use Rattle.sis_table.proofs.Lengths.{all_short}
use Rattle.sis_table.proofs.table.Table.encode.Goals as goal

pub put_nodes-requires-clause-short : goal.put_nodes-requires-clause-short
put_nodes-requires-clause-short c = all_short _ _ _ _ c.self.invariant.table.nodes

pub returns-clause-ok : goal.returns-clause-ok
unfolding spelling
returns-clause-ok c = grind (arith, common_steps)
