use Rattle.std.proofs.Common.{refl, sym, ap, ◌∙◌, arith}
use Rattle.std.specs.Option.{option_copied}
use Rattle.sis_table.proofs.DraftLemmas.{found_there, same_file, taken_is, untaken_is, taken_named}
use Rattle.sis_table.proofs.draft.Draft.take_name.Goals as goal

pub len_of_node-requires : goal.len_of_node-requires
len_of_node-requires c =
    (found_there c.args.files.now c.requires.0 c.args.self.now c.args.id c.in-Some.node c.requires.1
    (taken_is c.args.files.now c.requires.0 c.args.self.now c.args.id c.take.result c.in-Some.node c.requires.1 c.requires.2 c.take.ensures.value c.in-Some.is)).short

pub overflow_sub-self : goal.overflow_sub-self
overflow_sub-self c =
    omega (
      arith,
      c.len_of_node.ensures.value,
      (found_there c.args.files.now c.requires.0 c.args.self.now c.args.id c.in-Some.node c.requires.1
          (taken_is c.args.files.now c.requires.0 c.args.self.now c.args.id c.take.result c.in-Some.node c.requires.1 c.requires.2 c.take.ensures.value c.in-Some.is)).fits,
    )

pub len_of_node-requires-in-None : goal.len_of_node-requires-in-None
len_of_node-requires-in-None c =
    (found_there c.args.files.now c.requires.0 c.args.self.now c.args.id c.unwrap-node.result.now c.requires.1
    (untaken_is c.args.files.now c.requires.0 c.args.self.now c.args.id c.take.result c.requires.1 c.requires.2 c.take.ensures.value c.in-None.is
    ∙ sym c.node.ensures ∙ ap option_copied c.unwrap-node.ensures)).short

pub overflow_sub-self-in-None : goal.overflow_sub-self-in-None
overflow_sub-self-in-None c =
    omega (
      arith,
      c.len_of_node-in-None.ensures.value,
      (found_there c.args.files.now c.requires.0 c.args.self.now c.args.id c.unwrap-node.result.now c.requires.1
          (untaken_is c.args.files.now c.requires.0 c.args.self.now c.args.id c.take.result c.requires.1 c.requires.2 c.take.ensures.value c.in-None.is
          ∙ sym c.node.ensures ∙ ap option_copied c.unwrap-node.ensures)).fits,
    )

pub returns-in-Some-clause-ok : goal.returns-in-Some-clause-ok
returns-in-Some-clause-ok c = λ nodes stands.
    taken_named c.args.files.now nodes c.args.self.now c.args.id c.in-Some.node c.take.new.self c.len_of_node.result stands
    (same_file c.args.files.now nodes c.requires.0 c.args.self.now c.args.id stands c.requires.1
    ∙ taken_is c.args.files.now c.requires.0 c.args.self.now c.args.id c.take.result c.in-Some.node c.requires.1 c.requires.2 c.take.ensures.value c.in-Some.is)
    c.len_of_node.ensures.value c.take.ensures.rest c.in-Some.node.name refl

pub returns-in_ok-name-in-None-clause-ok : goal.returns-in_ok-name-in-None-clause-ok
returns-in_ok-name-in-None-clause-ok c = λ nodes stands.
    taken_named c.args.files.now nodes c.args.self.now c.args.id c.unwrap-node.result.now c.take.new.self c.len_of_node-in-None.result stands
    (same_file c.args.files.now nodes c.requires.0 c.args.self.now c.args.id stands c.requires.1
    ∙ untaken_is c.args.files.now c.requires.0 c.args.self.now c.args.id c.take.result c.requires.1 c.requires.2 c.take.ensures.value c.in-None.is
    ∙ sym c.node.ensures ∙ ap option_copied c.unwrap-node.ensures)
    c.len_of_node-in-None.ensures.value c.take.ensures.rest c.in_ok-name-in-None.name c.in_ok-name-in-None.ensures.ok
