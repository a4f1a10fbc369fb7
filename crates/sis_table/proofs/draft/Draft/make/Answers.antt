use Rattle.std.proofs.Common.{ℕ, ◌+◌, List, Some, is_some, sym, ap, ◌∙◌, subst}
use Rattle.sis_name.specs.Units.{name_cmp}
use Rattle.sis_table.specs.Drafts.{file_at, owner_of}
use Rattle.sis_table.specs.Trees.{Leads, put_at}
use Rattle.sis_table.proofs.DraftLemmas.{made_stands}
use Rattle.sis_table.proofs.draft.Draft.make.Goals as goal

pub returns-clause-ok : goal.returns-clause-ok
returns-clause-ok c = λ nodes stands lt free.
    made_stands c.args.files.now nodes c.args.self.now _ c.args.node stands lt free c.requires.short
    (c.in_ok-put-2.ensures (file_at c.args.files.now) (file_at nodes) (sym c.has_node.ensures) stands.leads.files)
    (subst (λ (name : List ℕ). Leads name_cmp c.put.new.self (owner_of c.args.files.now) (put_at name_cmp name (Some c.args.node.id) (owner_of nodes))) c.in_ok-name.ensures.ok
    (c.in_ok-put.ensures (owner_of c.args.files.now) (owner_of nodes) (sym (c.is_some-has.ensures ∙ ap is_some c.find.ensures)) stands.leads.owners))
    (ap (λ (len : ℕ). c.args.self.now.text_len + len) c.len_of_node.ensures.value)
