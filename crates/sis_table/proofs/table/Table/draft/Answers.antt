use Rattle.sis_table.proofs.DraftLemmas.{drafts_none}
use Rattle.sis_table.proofs.table.Table.draft.Goals as goal

pub returns : goal.returns
returns c = drafts_none _ c.args.self.now c.new.result c.self.inside.text_len c.self.view_is c.self.invariant c.new.ensures.stands c.new.ensures.next
