use Rattle.sis_table.proofs.DraftLemmas.{Drafting}
use Rattle.sis_table.proofs.table.Table.drafted.Given as goal

abbrev pub invariant-loop-edit : goal.invariant-loop-edit
invariant-loop-edit l = Drafting l.self l.draft l.edits l.uses.items l.edit-index
