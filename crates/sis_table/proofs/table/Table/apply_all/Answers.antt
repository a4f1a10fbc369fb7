use Rattle.std.proofs.Common.{subst, sym}
use Rattle.sis_table.specs.Edits.{edited_by}
use Rattle.sis_table.specs.Good.{IsGood}
use Rattle.sis_table.specs.Uses.{ChangesUse}
use Rattle.sis_table.specs.Volume.{VolumeTable}
use Rattle.sis_table.proofs.UseLemmas.{IsGood-edited_by, told-changes}
use Rattle.sis_table.proofs.table.Table.apply_all.Goals as goal

pub returns-clause-uses : goal.returns-clause-uses
returns-clause-uses c = λ good fresh.
    let now = edited_by c.args.self.now c.args.edits.now in
    subst (λ (v : VolumeTable). ChangesUse c.args.self.now v c.drafted.new.uses.items) (sym (c.in_ok-publish.ensures.ok now c.in_ok-draft.ensures.drafts))
    (told-changes c.args.self.now c.args.edits.now c.drafted.new.uses.items c.in_ok-draft.ensures.table c.requires c.in_ok-draft.ensures.told good fresh)

pub returns-clause-good : goal.returns-clause-good
returns-clause-good c = λ good fresh.
    let now = edited_by c.args.self.now c.args.edits.now in
    subst (λ (v : VolumeTable). IsGood v) (sym (c.in_ok-publish.ensures.ok now c.in_ok-draft.ensures.drafts))
    (IsGood-edited_by c.args.self.now c.args.edits.now c.in_ok-draft.ensures.table good c.requires fresh)
