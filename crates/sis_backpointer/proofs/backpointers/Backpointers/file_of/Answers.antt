use Rattle.std.proofs.Common.{◌∙◌, Some, sym, ap}
use Rattle.sis_backpointer.specs.declared.back.Back.{Back}
use Rattle.sis_backpointer.specs.Backs.{file_of}
use Rattle.sis_backpointer.proofs.Edits.{file_of-found, file_of-absent, gap_absent, found_in, gap_in}
use Rattle.sis_backpointer.proofs.backpointers.Backpointers.file_of.Goals as goal

pub returns-in-Ok : goal.returns-in-Ok
returns-in-Ok c =
    ap (λ (b : Back). Some b.file) c.index.ensures
    ∙ sym (file_of-found c.args.index c.self.inside.backs.items c.in-Ok.at c.index.result.now c.self.invariant (found_in _ _ _ _ c.deref.ensures.value c.in-Ok.ensures.found))
    ∙ ap (file_of c.args.index) c.self.view_is

pub returns-in-Err : goal.returns-in-Err
returns-in-Err c =
    sym (file_of-absent c.args.index c.self.inside.backs.items (gap_absent _ _ _ (gap_in _ _ _ _ c.deref.ensures.value c.in-Err.ensures.absent)))
    ∙ ap (file_of c.args.index) c.self.view_is
