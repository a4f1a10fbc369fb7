use Rattle.sis_table.proofs.DraftLemmas.{drafts_small, drafts_made, made_short}
use Rattle.sis_table.proofs.table.Table.make_in.Goals as goal

pub make-requires-clause-small : goal.make-requires-clause-small
make-requires-clause-small c = drafts_small c.args.self.now c.requires.0 c.args.draft.now c.requires.1

pub make-requires-clause-short : goal.make-requires-clause-short
make-requires-clause-short c = made_short c.requires.0 c.args.id c.args.kind c.args.name.now c.in_ok-copy.field-0 c.new.result c.requires.2 c.in_ok-copy.ensures.ok c.new.ensures

pub returns : goal.returns
returns c = λ now drafts may.
    drafts_made _ c.args.self.now now c.self.view_is c.args.draft.now drafts c.make.new.self c.args.id c.args.kind c.args.name.now _ may
    (λ i. record { id = c.args.id; name = c.in_ok-copy.ensures.ok i; kind = c.args.kind; size = 0; version = 1; map = c.new.ensures i })
    c.in_ok-make.ensures.ok c.in_ok-make.ensures.next
