use Rattle.std.proofs.Common.{◌≡◌, ℕ, List, cond, None, subst}
use Rattle.std.specs.BTreeMap.{get}
use Rattle.sis_name.specs.Units.{name_cmp}
use Rattle.sis_table.specs.Trees.{is_one}
use Rattle.sis_table.proofs.KeptLemmas.{files_new, touched_there, keeps_changed, keeps_unchanged}
use Rattle.sis_table.proofs.files.Files.publish.Goals as goal

pub enter-requires-2 : goal.enter-requires-2
enter-requires-2 c = files_new c.self.inside.nodes c.self.inside.names c.args.self.now c.self.view_is c.self.invariant c.args.nodes c.requires.0 c.requires.2.files

pub put_all-requires : goal.put_all-requires
put_all-requires c = record {
  there = touched_there c.self.inside.nodes c.self.inside.names c.args.self.now c.self.view_is c.self.invariant c.args.nodes c.requires.0 c.enter-2.new.map c.requires.2.files c.in-Ok.ensures.put;
}

pub invariant_of-self-in-Ok-1 : goal.invariant_of-self-in-Ok-1
invariant_of-self-in-Ok-1 c =
    (keeps_changed c.self.inside.nodes c.self.inside.names c.args.self.now c.self.view_is c.self.invariant c.args.nodes c.args.names c.requires.0 c.enter-2.new.map c.put_all.new.map c.enter.new.map c.put_all-in-Ok.new.map
    c.requires.1 c.requires.2 c.in-Ok.ensures.put c.put_all.ensures.put c.put_all.ensures.ordered c.in_ok-entered.ensures.put c.put_all-in-Ok.ensures.put).kept

pub returns-in-Ok-clause-ok : goal.returns-in-Ok-clause-ok
returns-in-Ok-clause-ok c = λ now rising changed.
    (keeps_changed c.self.inside.nodes c.self.inside.names c.args.self.now c.self.view_is c.self.invariant c.args.nodes c.args.names now c.enter-2.new.map c.put_all.new.map c.enter.new.map c.put_all-in-Ok.new.map
    rising changed c.in-Ok.ensures.put c.put_all.ensures.put c.put_all.ensures.ordered c.in_ok-entered.ensures.put c.put_all-in-Ok.ensures.put).is

pub invariant_of-self-in-Err-enter : goal.invariant_of-self-in-Err-enter
invariant_of-self-in-Err-enter c =
    (keeps_unchanged c.self.inside.nodes c.self.inside.names c.args.self.now c.self.view_is c.self.invariant c.args.nodes c.args.names c.requires.0 c.enter-2.new.map c.enter.new.map c.forget.new.map c.in_ok-entered.entered.items
    c.requires.2 c.in-Err.ensures.err c.enter-2.ensures.ordered c.in_ok-entered.ensures.put c.in_ok-entered.ensures.keys
    (subst (λ (ks : List (List ℕ)). (q : List ℕ) → get name_cmp c.forget.new.map q ≡ cond (is_one name_cmp ks q) None (get name_cmp c.enter.new.map q)) c.deref.ensures.value c.forget.ensures.out)).kept

pub returns-in-Err-clause-err : goal.returns-in-Err-clause-err
returns-in-Err-clause-err c =
    (keeps_unchanged c.self.inside.nodes c.self.inside.names c.args.self.now c.self.view_is c.self.invariant c.args.nodes c.args.names c.requires.0 c.enter-2.new.map c.enter.new.map c.forget.new.map c.in_ok-entered.entered.items
    c.requires.2 c.in-Err.ensures.err c.enter-2.ensures.ordered c.in_ok-entered.ensures.put c.in_ok-entered.ensures.keys
    (subst (λ (ks : List (List ℕ)). (q : List ℕ) → get name_cmp c.forget.new.map q ≡ cond (is_one name_cmp ks q) None (get name_cmp c.enter.new.map q)) c.deref.ensures.value c.forget.ensures.out)).is
