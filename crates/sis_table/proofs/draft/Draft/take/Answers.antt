use Rattle.std.proofs.Common.{◌-◌, sym, ap, subst, arith}
use Rattle.sis_table.specs.Drafts.{Lacks}
use Rattle.sis_table.specs.declared.draft.Draft.{Draft}
use Rattle.sis_table.proofs.DraftLemmas.{found_there, taken_lacks}
use Rattle.sis_table.proofs.draft.Draft.take.Goals as goal

pub len_of_node-requires : goal.len_of_node-requires
len_of_node-requires c =
    (found_there c.args.files.now c.requires.0 c.args.self.now c.args.id c.in_ok-node.node c.requires.1 (c.in_ok-node.ensures.node c.requires.0 c.requires.1)).short

pub overflow_sub-self : goal.overflow_sub-self
overflow_sub-self c =
    omega (
      arith,
      ap (λ (d : Draft). d.text_len) c.in_ok-node.ensures.same,
      c.len_of_node.ensures.value,
      (found_there c.args.files.now c.requires.0 c.args.self.now c.args.id c.in_ok-node.node c.requires.1 (c.in_ok-node.ensures.node c.requires.0 c.requires.1)).fits,
    )

pub returns-clause-ok : goal.returns-clause-ok
returns-clause-ok c = λ nodes stands.
    let taken = taken_lacks c.args.files.now nodes c.args.self.now c.args.id c.in_ok-node.node c.take_node.new.self.nodes c.len_of_node.result stands (c.in_ok-node.ensures.node nodes stands)
    c.len_of_node.ensures.value c.in_ok-node.ensures.rest in (
      taken.0,
      subst (λ (d : Draft). Lacks c.args.files.now (record d { text_len = d.text_len - c.len_of_node.result }) nodes c.in_ok-node.node) (sym c.in_ok-node.ensures.same) taken.1,
    )
