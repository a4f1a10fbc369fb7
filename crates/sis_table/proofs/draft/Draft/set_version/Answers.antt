use Rattle.std.proofs.Common.{ℕ, refl, subst}
use Rattle.sis_table.specs.Edits.{with_version}
use Rattle.sis_table.specs.Drafts.{Stands}
use Rattle.sis_table.specs.Edits.{with_node}
use Rattle.sis_table.proofs.DraftLemmas.{lacks_short}
use Rattle.sis_table.proofs.draft.Draft.set_version.Goals as goal

pub put_back-requires-clause-short : goal.put_back-requires-clause-short
put_back-requires-clause-short c =
    let short = lacks_short c.args.files.now c.requires.there.0 c.take.new.self c.in_ok-node.node (c.in_ok-node.ensures.ok c.requires.there.0 c.requires.there.1).1 in
    record { name = short.name; runs = short.runs }

pub returns-clause-ok : goal.returns-clause-ok
returns-clause-ok c = λ nodes stands.
    let taken = c.in_ok-node.ensures.ok nodes stands in
    subst (λ (id : ℕ). Stands c.args.files.now c.put_back.new.self (with_node id (with_version c.args.version) nodes)) taken.0
    (c.in_ok-put_back.ensures.ok nodes c.in_ok-node.node (with_version c.args.version) taken.1 (record { id = λ n. refl; name = λ n. refl }) refl)
