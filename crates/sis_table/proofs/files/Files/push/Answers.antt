use Rattle.std.proofs.Common.{◌++◌, [], ◌∷◌, List, ℕ, Some, subst}
use Rattle.std.specs.BTreeMap as tree
use Rattle.sis_name.specs.Units.{name_cmp}
use Rattle.sis_table.proofs.KeptLemmas.{Keeps, keeps_pushed, keeps_back}
use Rattle.sis_table.proofs.files.Files.push.Goals as goal
use Rattle.sis_table.proofs.files.Files.push.Goals.{In-Ok}

pushed : (c : In-Ok) → Keeps c.insert.new.self c.insert-2.new.self (c.args.self.now ++ c.args.node ∷ [])
pushed c =
    keeps_pushed c.self.inside.nodes c.insert.new.self c.self.inside.names c.insert-2.new.self c.args.self.now c.args.node c.self.view_is c.self.invariant c.requires.rises
    c.in_ok-insert.ensures.entries c.requires.free
    (subst (λ (name : List ℕ). tree.Updates name_cmp c.self.inside.names c.insert-2.new.self name (Some c.args.node.id)) c.in_ok-name.ensures.ok c.in-Ok.ensures.updates)

pub invariant_of-self-in-Ok : goal.invariant_of-self-in-Ok
invariant_of-self-in-Ok c = (pushed c).kept

pub invariant_of-self-in-Err : goal.invariant_of-self-in-Err
invariant_of-self-in-Err c =
    (keeps_back c.self.inside.nodes c.insert.new.self c.self.inside.names c.insert-2.new.self c.args.self.now c.args.node c.self.view_is c.self.invariant c.requires.rises
    c.in_ok-insert.ensures.entries c.remove.new.self c.remove.ensures.entries c.in-Err.ensures.err).kept

pub returns-in-Err-clause-err : goal.returns-in-Err-clause-err
returns-in-Err-clause-err c =
    (keeps_back c.self.inside.nodes c.insert.new.self c.self.inside.names c.insert-2.new.self c.args.self.now c.args.node c.self.view_is c.self.invariant c.requires.rises
    c.in_ok-insert.ensures.entries c.remove.new.self c.remove.ensures.entries c.in-Err.ensures.err).is

pub returns-clause-ok : goal.returns-clause-ok
returns-clause-ok c = (pushed c).is
