use Rattle.std.proofs.Common.{◌≡◌, List, Some, ap, subst, sym, ◌∙◌}
use Rattle.std.specs.Option.{option_copied}
use Rattle.sis_table.specs.declared.node.Node.{Node}
use Rattle.sis_table.specs.Drafts.{Stands}
use Rattle.sis_table.specs.Volume.{node_with}
use Rattle.sis_table.proofs.NoteLemmas.{frees_file, frees_runs}
use Rattle.sis_table.proofs.noting.note_all.Goals as goal

pub returns-in_ok-note_runs-in-Some : goal.returns-in_ok-note_runs-in-Some
returns-in_ok-note_runs-in-Some c = λ v now same drafts.
    let stands = subst (λ (ns : List Node). Stands ns c.args.draft.now now.nodes) same drafts.stands in
    let is : node_with now c.args.id ≡ Some c.in-Some.node.now = sym (c.node.ensures now.nodes stands) ∙ ap option_copied c.in-Some.is in
    frees_file (node_with now c.args.id) c.in-Some.node.now c.args.uses.now.items c.note_runs.new.uses.items is
    (frees_runs c.in-Some.node.now.map c.runs.result.now c.args.uses.now.items c.note_runs.new.uses.items c.runs.ensures.value c.in_ok-note_runs-in-Some.ensures)
