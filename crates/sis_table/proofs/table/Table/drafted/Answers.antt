use Rattle.std.proofs.Common.{ap, sym}
use Rattle.sis_table.specs.Edits.{edited_by}
use Rattle.sis_table.specs.Volume.{VolumeTable}
use Rattle.sis_table.proofs.DraftLemmas.{drafting_all, drafting_more, drafts_len, may_next, noted_all}
use Rattle.sis_table.proofs.table.Table.drafted.Goals as goal

pub loop-edit-preserved : goal.loop-edit-preserved
loop-edit-preserved c =
    let h = c.loop-edit.invariant in
    let may = may_next c.args.self.now c.loop-edit.draft c.args.edits.now c.loop-edit.uses.items c.loop-edit.edit-index h c.edit-item.result c.loop-edit-test.true c.edit-item.is in
    drafting_more c.args.self.now c.loop-edit.draft c.args.edits.now c.loop-edit.uses.items c.loop-edit.edit-index h c.edit-item.result c.edit_in.new.draft c.note.new.uses.items c.loop-edit-test.true c.edit-item.is
    (c.in_ok-note.ensures c.args.self.now h.now (ap (λ (v : VolumeTable). v.nodes) (sym c.self.view_is)) h.drafts may.0)
    (c.in_ok-edit_in.ensures h.now h.drafts may.0)

pub returns-clause-told : goal.returns-clause-told
returns-clause-told c =
    noted_all c.args.self.now c.loop-edit.draft c.args.edits.now c.loop-edit.uses.items c.loop-edit.edit-index c.loop-edit.invariant c.loop-edit-test.false

pub returns-clause-len : goal.returns-clause-len
returns-clause-len c =
    drafts_len c.args.self.now (edited_by c.args.self.now c.args.edits.now) c.loop-edit.draft
    (drafting_all c.args.self.now c.loop-edit.draft c.args.edits.now c.loop-edit.uses.items c.loop-edit.edit-index c.loop-edit.invariant c.loop-edit-test.false)
