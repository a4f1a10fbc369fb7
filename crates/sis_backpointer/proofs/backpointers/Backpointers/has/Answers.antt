use Rattle.std.proofs.Common.{◌∙◌, sym, ap, eqb}
use Rattle.sis_backpointer.specs.declared.back.Back.{Back}
use Rattle.sis_backpointer.specs.Backs.{has_pair}
use Rattle.sis_backpointer.proofs.Edits.{has_pair-found, has_pair-absent, gap_absent, found_in, gap_in}
use Rattle.sis_backpointer.proofs.backpointers.Backpointers.has.Goals as goal

pub returns-in-Ok : goal.returns-in-Ok
returns-in-Ok c =
    ap (λ (b : Back). eqb b.file c.args.file) c.index.ensures
    ∙ sym (has_pair-found c.args.index c.args.file c.self.inside.backs.items c.in-Ok.at c.index.result.now c.self.invariant (found_in _ _ _ _ c.deref.ensures.value c.in-Ok.ensures.found))
    ∙ ap (has_pair c.args.index c.args.file) c.self.view_is

pub returns-in-Err : goal.returns-in-Err
returns-in-Err c =
    sym (has_pair-absent c.args.index c.args.file c.self.inside.backs.items (gap_absent _ _ _ (gap_in _ _ _ _ c.deref.ensures.value c.in-Err.ensures.absent)))
    ∙ ap (has_pair c.args.index c.args.file) c.self.view_is
