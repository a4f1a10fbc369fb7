use Rattle.std.proofs.Common.{List, arith, subst, sym}
use Rattle.sis_table.specs.declared.edit.Edit.{Edit}
use Rattle.sis_table.specs.declared.edit.Edit.TheVariants as edit
use Rattle.sis_table.specs.declared.place_use.PlaceUse.{PlaceUse}
use Rattle.sis_table.specs.Edits.{MayEdit}
use Rattle.sis_table.specs.Inside.{Notes}
use Rattle.sis_table.proofs.EditLemmas.{map_within}
use Rattle.sis_table.proofs.NoteLemmas.{notes_drop, notes_map, notes_unmap}
use Rattle.sis_table.proofs.noting.note.Goals as goal

pub overflow_add-end : goal.overflow_add-end
overflow_add-end c =
    let now = c.requires.1 in
    let within = map_within now c.in-Map.id c.in-Map.first c.in-Map.count c.in-Map.place c.requires.3.table (subst (MayEdit now) c.in-Map.is c.requires.4) in
    omega (arith, within.blocks)

pub returns-in_ok-note_all-in-Drop : goal.returns-in_ok-note_all-in-Drop
returns-in_ok-note_all-in-Drop c = λ v now same drafts may.
    subst (λ (e : Edit). Notes now e c.args.uses.now.items c.note_all.new.uses.items) (sym c.in-Drop.is)
    (notes_drop now c.in-Drop.id c.args.uses.now.items c.note_all.new.uses.items drafts.table (c.in_ok-note_all-in-Drop.ensures v now same drafts))

pub returns-in_ok-note_stretch-in-Unmap : goal.returns-in_ok-note_stretch-in-Unmap
returns-in_ok-note_stretch-in-Unmap c = λ v now same drafts may.
    subst (λ (e : Edit). Notes now e c.args.uses.now.items c.note_stretch.new.uses.items) (sym c.in-Unmap.is)
    (notes_unmap now c.in-Unmap.id c.in-Unmap.first c.in-Unmap.count c.saturating_add.result c.args.uses.now.items c.note_stretch.new.uses.items drafts.table c.saturating_add.ensures (c.in_ok-note_stretch-in-Unmap.ensures v now same drafts))

pub returns-in_ok-push-in-Map : goal.returns-in_ok-push-in-Map
returns-in_ok-push-in-Map c = λ v now same drafts may.
    subst (λ (e : Edit). Notes now e c.args.uses.now.items c.push.new.self.items) (sym c.in-Map.is)
    (subst (λ (uses : List PlaceUse). Notes now (edit.Map c.in-Map.id c.in-Map.first c.in-Map.count c.in-Map.place) c.args.uses.now.items uses) (sym c.in_ok-push-in-Map.ensures.items)
    (notes_map now c.in-Map.id c.in-Map.first c.in-Map.count c.in-Map.place c.args.uses.now.items c.note_stretch-in-Map.new.uses.items drafts.table (subst (MayEdit now) c.in-Map.is may)
    (c.in_ok-note_stretch-in-Map.ensures v now same drafts)))
