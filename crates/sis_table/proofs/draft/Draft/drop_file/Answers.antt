use Rattle.std.proofs.Common.{is_some, refl, sym, ap, ◌∙◌}
use Rattle.sis_table.specs.Drafts.{file_at, owner_of}
use Rattle.sis_table.proofs.DraftLemmas.{dropped_stands}
use Rattle.sis_table.proofs.draft.Draft.drop_file.Goals as goal

pub returns-clause-ok : goal.returns-clause-ok
returns-clause-ok c = λ nodes stands own.
    let taken = c.in_ok-name.ensures.ok nodes stands in
    dropped_stands c.args.files.now nodes c.take_name.new.self _ c.args.id c.in_ok-name.name taken own
    (λ now leads. c.in_ok-put-2.ensures (file_at c.args.files.now) now (sym c.has_node.ensures) leads)
    (c.in_ok-put.ensures (owner_of c.args.files.now) (owner_of nodes) (sym (c.is_some-has.ensures ∙ ap is_some c.find.ensures)) taken.lacks.owners)
    refl
