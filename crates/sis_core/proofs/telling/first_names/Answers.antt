use Rattle.std.proofs.Common.{ℕ, List, [], ◌∷◌, ◌++◌, ◌∙◌, sym, ap, length}
use Rattle.std.specs.Option.{option_copied}
use Rattle.sis_table.specs.Volume.{names_after}
use Rattle.sis_core.proofs.Told.{list_begins, list_more, list_ends, list_cut, other_size}
use Rattle.sis_core.proofs.telling.first_names.Goals as goal

pub loop-next-init : goal.loop-next-init
loop-next-init g c =
    list_begins c.args.volume.now.table (option_copied c.args.after) c.next_file-next.result
    c.new-names.result c.new-names.ensures c.next_file-next.ensures

pub
    returns-then-as_slice-eq-MOST_NAMES-clause-names : goal.returns-then-as_slice-eq-MOST_NAMES-clause-names
returns-then-as_slice-eq-MOST_NAMES-clause-names g c =
    (list_cut c.args.volume.now.table
    (names_after c.args.volume.now.table (option_copied c.args.after)) c.loop-next.names
    c.in-Some.id c.loop-next.next c.in-Some.is c.loop-next.invariant
    (ap length (sym c.as_slice.ensures) ∙ c.if-as_slice-eq-MOST_NAMES.true)).0

pub
    returns-then-as_slice-eq-MOST_NAMES-clause-more : goal.returns-then-as_slice-eq-MOST_NAMES-clause-more
returns-then-as_slice-eq-MOST_NAMES-clause-more g c =
    (list_cut c.args.volume.now.table
    (names_after c.args.volume.now.table (option_copied c.args.after)) c.loop-next.names
    c.in-Some.id c.loop-next.next c.in-Some.is c.loop-next.invariant
    (ap length (sym c.as_slice.ensures) ∙ c.if-as_slice-eq-MOST_NAMES.true)).1

pub loop-next-preserved : goal.loop-next-preserved
loop-next-preserved g c =
    list_more c.args.volume.now.table
    (names_after c.args.volume.now.table (option_copied c.args.after)) c.loop-next.names
    c.push.new.self c.in-Some.id c.loop-next.next c.next_file-next-in-Some.result
    c.unwrap-node.result.now
    c.in-Some.is c.loop-next.invariant
    (sym (ap option_copied c.unwrap-node.ensures) ∙ c.node.ensures.node)
    (λ full. other_size c.loop-next.names c.as_slice.result.now c.as_slice.ensures
    c.if-as_slice-eq-MOST_NAMES.false full)
    (c.in_ok-push.ensures.ok ∙ ap (λ (name : List ℕ). c.loop-next.names
    ++ name ∷ []) c.in_ok-copy.ensures.ok) c.next_file-next-in-Some.ensures

pub returns-clause-names : goal.returns-clause-names
returns-clause-names g c =
    (list_ends c.args.volume.now.table
    (names_after c.args.volume.now.table (option_copied c.args.after)) c.loop-next.names
    c.loop-next.next c.in_default.is c.loop-next.invariant).0

pub returns-clause-more : goal.returns-clause-more
returns-clause-more g c =
    (list_ends c.args.volume.now.table
    (names_after c.args.volume.now.table (option_copied c.args.after)) c.loop-next.names
    c.loop-next.next c.in_default.is c.loop-next.invariant).1
