use Rattle.sis_table.proofs.GoodLemmas.{Judged}
use Rattle.sis_table.proofs.table.Table.good.Given as goal

abbrev pub invariant-loop-node : goal.invariant-loop-node
invariant-loop-node l = Judged l.self.layout.total l.marks.items l.self.nodes l.node-iterator
