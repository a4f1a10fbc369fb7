use Rattle.std.proofs.Common.{ℕ, ap, refl, sym, subst}
use Rattle.std.specs.FinMap.{FinMap}
use Rattle.std.specs.Ordering.{nat_cmp}
use Rattle.sis_table.specs.Drafts.{Stands}
use Rattle.sis_table.specs.Edits.{with_node, without_map}
use Rattle.sis_table.specs.Spelling.{IsShort}
use Rattle.sis_table.proofs.DraftLemmas.{short_there}
use Rattle.sis_table.proofs.draft.Draft.unmap.Goals as goal

pub put_back-requires-clause-short : goal.put_back-requires-clause-short
put_back-requires-clause-short c =
    let taken = c.in_ok-node.ensures.ok c.requires.short.0 c.requires.short.1 in
    let short = short_there c.args.files.now c.requires.short.0 c.take.new.self c.in_ok-node.node c.args.id (without_map c.args.first c.args.count) taken.1 taken.0 c.requires.short.2 in
    subst (λ (m : FinMap nat_cmp ℕ). IsShort (record c.in_ok-node.node { map = m })) (sym c.in_ok-clear_run.ensures.ok) short

pub returns-clause-ok : goal.returns-clause-ok
returns-clause-ok c = λ nodes stands.
    let taken = c.in_ok-node.ensures.ok nodes stands in
    subst (λ (id : ℕ). Stands c.args.files.now c.put_back.new.self (with_node id (without_map c.args.first c.args.count) nodes)) taken.0
    (c.in_ok-put_back.ensures.ok nodes c.in_ok-node.node (without_map c.args.first c.args.count) taken.1 (record { id = λ n. refl; name = λ n. refl })
    (ap (λ (m : FinMap nat_cmp ℕ). record c.in_ok-node.node { map = m }) c.in_ok-clear_run.ensures.ok))
