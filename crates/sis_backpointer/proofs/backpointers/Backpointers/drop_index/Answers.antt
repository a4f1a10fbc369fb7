use Rattle.std.proofs.Common.{◌∙◌, sym, ap, subst}
use Rattle.sis_backpointer.specs.Backs.{IsRising, has_index, without_back}
use Rattle.sis_backpointer.proofs.Edits.{IsRising-without_back, without_back-found, without_back-absent, has_index-absent, gap_absent, found_in, gap_in}
use Rattle.sis_backpointer.proofs.backpointers.Backpointers.drop_index.Goals as goal

pub invariant_of-self : goal.invariant_of-self
invariant_of-self c =
    subst IsRising (without_back-found c.args.index c.self.inside.backs.items c.in-Ok.at c.self.invariant (found_in _ _ _ _ c.deref.ensures.value c.in-Ok.ensures.found) ∙ sym c.remove.ensures.items)
    (IsRising-without_back c.args.index c.self.inside.backs.items c.self.invariant)

pub returns-in-Ok-clause-value : goal.returns-in-Ok-clause-value
returns-in-Ok-clause-value c =
    c.remove.ensures.items
    ∙ sym (without_back-found c.args.index c.self.inside.backs.items c.in-Ok.at c.self.invariant (found_in _ _ _ _ c.deref.ensures.value c.in-Ok.ensures.found))
    ∙ ap (without_back c.args.index) c.self.view_is

pub returns-in-Err-clause-there : goal.returns-in-Err-clause-there
returns-in-Err-clause-there c =
    sym (has_index-absent c.args.index c.self.inside.backs.items (gap_absent _ _ _ (gap_in _ _ _ _ c.deref.ensures.value c.in-Err.ensures.absent)))
    ∙ ap (has_index c.args.index) c.self.view_is

pub returns-in-Err-clause-value : goal.returns-in-Err-clause-value
returns-in-Err-clause-value c =
    sym c.self.view_is
    ∙ sym (without_back-absent c.args.index c.self.inside.backs.items (gap_absent _ _ _ (gap_in _ _ _ _ c.deref.ensures.value c.in-Err.ensures.absent)))
    ∙ ap (without_back c.args.index) c.self.view_is
