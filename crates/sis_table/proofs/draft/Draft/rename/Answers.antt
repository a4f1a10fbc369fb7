use Rattle.std.proofs.Common.{◌≡◌, ℕ, ◌+◌, List, None, Some, is_some, sym, ap, ◌∙◌, subst}
use Rattle.std.specs.Ordering.{nat_cmp}
use Rattle.sis_name.specs.Name.{IsName}
use Rattle.sis_name.specs.Units.{name_cmp}
use Rattle.sis_table.specs.declared.node.Node.{Node}
use Rattle.sis_table.specs.Edits.{with_name}
use Rattle.sis_table.specs.Spelling.{node_len}
use Rattle.sis_table.specs.Drafts.{file_at, owner_of}
use Rattle.sis_table.specs.Trees.{Leads, put_at}
use Rattle.sis_table.proofs.DraftLemmas.{renamed_stands, short_named}
use Rattle.sis_table.proofs.draft.Draft.rename.Goals as goal

pub len_of_node-requires : goal.len_of_node-requires
len_of_node-requires c =
    let taken = c.in_ok-node.ensures.ok c.requires.there.0 c.requires.there.1 in
    let named : c.replace-before.new.dest ≡ c.args.name.now = c.replace-before.ensures.after ∙ c.in_ok-copy.ensures.ok in
    let short = short_named c.args.files.now c.requires.there.0 c.take.new.self c.in_ok-node.node c.replace-before.new.dest taken.1 (subst IsName (sym named) c.in_ok-copy.ensures.name) in
    record { name = short.name; runs = short.runs }

pub returns-clause-ok : goal.returns-clause-ok
returns-clause-ok c = λ nodes stands own free.
    let n = c.in_ok-node.node in
    let taken = c.in_ok-node.ensures.ok nodes stands in
    let named : c.replace-before.new.dest ≡ c.args.name.now = c.replace-before.ensures.after ∙ c.in_ok-copy.ensures.ok in
    let is : with_name c.replace-before.new.dest n ≡ with_name c.args.name.now n = ap (λ (name : List ℕ). with_name name n) named in
    renamed_stands c.args.files.now nodes c.take.new.self _ n c.args.id c.args.name.now taken.1 taken.0 own free
    (short_named c.args.files.now nodes c.take.new.self n c.args.name.now taken.1 c.in_ok-copy.ensures.name)
    (λ now leads. subst (λ (m : Node). Leads nat_cmp c.put-3.new.self (file_at c.args.files.now) (put_at nat_cmp c.args.id (Some m) now)) is
    (c.in_ok-put-3.ensures (file_at c.args.files.now) now (sym c.has_node.ensures) leads))
    (subst (λ (before : List ℕ). Leads name_cmp c.put-2.new.self (owner_of c.args.files.now) (put_at name_cmp c.args.name.now (Some c.args.id) (put_at name_cmp before None (owner_of nodes)))) c.replace-before.ensures.value
    (subst (λ (name : List ℕ). Leads name_cmp c.put-2.new.self (owner_of c.args.files.now) (put_at name_cmp name (Some c.args.id) (put_at name_cmp c.replace-before.result None (owner_of nodes)))) c.in_ok-after.ensures.ok
    (c.in_ok-put-2.ensures (owner_of c.args.files.now) (put_at name_cmp c.replace-before.result None (owner_of nodes)) (sym (c.is_some-has.ensures ∙ ap is_some c.find-2.ensures))
    (c.in_ok-put.ensures (owner_of c.args.files.now) (owner_of nodes) (sym (c.is_some-had.ensures ∙ ap is_some c.find.ensures)) taken.1.owners))))
    (ap (λ (len : ℕ). c.take.new.self.text_len + len) (c.len_of_node.ensures.value ∙ ap node_len is))
