use Rattle.std.proofs.Common.{◌≡◌, List, Some, None, ap, subst, sym, ◌∙◌}
use Rattle.std.specs.Option.{option_copied}
use Rattle.sis_table.specs.declared.node.Node.{Node}
use Rattle.sis_table.specs.Drafts.{Stands}
use Rattle.sis_table.specs.Volume.{node_with}
use Rattle.sis_table.proofs.NoteLemmas.{frees_no_stretch, frees_stretch}
use Rattle.sis_table.proofs.noting.note_stretch.Goals as goal

pub returns-in_ok-note_part-in-Some : goal.returns-in_ok-note_part-in-Some
returns-in_ok-note_part-in-Some c = λ v now same drafts.
    let stands = subst (λ (ns : List Node). Stands ns c.args.draft.now now.nodes) same drafts.stands in
    let is : node_with now c.args.id ≡ Some c.in-Some.node.now = sym (c.node.ensures now.nodes stands) ∙ ap option_copied c.in-Some.is in
    frees_stretch (node_with now c.args.id) c.in-Some.node.now c.args.first c.args.end c.args.uses.now.items c.note_part.new.uses.items is c.in_ok-note_part-in-Some.ensures

pub returns-in-None : goal.returns-in-None
returns-in-None c = λ v now same drafts.
    let stands = subst (λ (ns : List Node). Stands ns c.args.draft.now now.nodes) same drafts.stands in
    let is : node_with now c.args.id ≡ None = sym (c.node.ensures now.nodes stands) ∙ ap option_copied c.in-None.is in
    frees_no_stretch (node_with now c.args.id) c.args.first c.args.end c.args.uses.now.items c.requires is
