use Rattle.std.proofs.Common.{List, ap, ◌∙◌, subst}
use Rattle.sis_table.specs.declared.edit.Edit.{Edit}
use Rattle.sis_volume.specs.Keeping.{IsFront}
use Rattle.sis_volume.specs.View.{TxnView}
use Rattle.sis_volume.proofs.txn.Txn.front.Goals as goal

pub returns : goal.returns
returns c =
    let edits = c.deref.ensures.value ∙ ap (λ (t : TxnView). t.edits) c.self.view_is in
    subst (λ (es : List Edit). IsFront es c.args.place c.args.count c.front_in.result) edits c.front_in.ensures
