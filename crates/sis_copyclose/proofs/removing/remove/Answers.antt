use Rattle.std.proofs.Common.{◌≡◌, ◌++◌, ◌∷◌, [], sym, refl, ap, ◌∙◌}
use Rattle.std.specs.FinMap.{remove}
use Rattle.sis_table.specs.declared.edit.Edit.TheVariants as edit
use Rattle.sis_table.specs.Changes.{without_file}
use Rattle.sis_table.specs.Volume.{node_with}
use Rattle.sis_volume.specs.View.{TxnView}
use Rattle.sis_copyclose.specs.Changed.{IsWithoutFile}
use Rattle.sis_copyclose.proofs.FileBytes.{there_map}
use Rattle.sis_copyclose.proofs.OneEdit.{edit_applied, edit_short, no_memory, removed_files}
use Rattle.sis_copyclose.proofs.Versions.{removed_versions}
use Rattle.sis_copyclose.proofs.removing.remove.Goals as goal

pub returns-in_err-push-clause-leaves : goal.returns-in_err-push-clause-leaves
returns-in_err-push-clause-leaves g c =
    let v = c.args.volume.now in
    there_map (node_with v.table c.args.file) _ _ (λ n is here.
    no_memory (IsWithoutFile v.table c.args.file) (λ files. remove files n.name) v c.from_residual.result (sym c.down.ensures.down ∙ c.in_default.is) c.from_residual.ensures.1)
    c.requires

pub returns-in_err-apply-clause-leaves : goal.returns-in_err-apply-clause-leaves
returns-in_err-apply-clause-leaves g c =
    let v = c.args.volume.now in
    let file = c.args.file in
    let up = sym c.down.ensures.down ∙ c.in_default.is in
    let only : c.push.new.self.edits ≡ edit.Drop file ∷ [] =
    ap (λ (t : TxnView). t.edits) c.in_ok-push.ensures.ok ∙ ap (λ (t : TxnView). t.edits ++ edit.Drop file ∷ []) c.begin-txn.ensures in
    there_map (node_with v.table file) _ _ (λ n is here.
    edit_short (IsWithoutFile v.table file) (λ files. remove files n.name) v c.apply.new.self c.push.new.self.edits (edit.Drop file) only up c.down.ensures.table
    refl (λ was now keeps. removed_files v.table file n c.down.ensures.table is was now keeps)
    (λ was now keeps. removed_versions v.table (without_file file v.table) file was now c.down.ensures.table refl keeps)
    c.apply.result c.in_err-apply.field-0.0 c.from_residual-in_err-apply.result c.in_err-apply.was c.from_residual-in_err-apply.ensures.1 c.apply.ensures.err c.apply.ensures.cause)
    c.requires

pub returns-clause-leaves : goal.returns-clause-leaves
returns-clause-leaves g c =
    let v = c.args.volume.now in
    let file = c.args.file in
    let up = sym c.down.ensures.down ∙ c.in_default.is in
    let only : c.push.new.self.edits ≡ edit.Drop file ∷ [] =
    ap (λ (t : TxnView). t.edits) c.in_ok-push.ensures.ok ∙ ap (λ (t : TxnView). t.edits ++ edit.Drop file ∷ []) c.begin-txn.ensures in
    there_map (node_with v.table file) _ _ (λ n is here.
    edit_applied (IsWithoutFile v.table file) (λ files. remove files n.name) v c.apply.new.self c.push.new.self.edits (edit.Drop file) only up c.down.ensures.table
    refl (λ was now keeps. removed_files v.table file n c.down.ensures.table is was now keeps)
    (λ was now keeps. removed_versions v.table (without_file file v.table) file was now c.down.ensures.table refl keeps)
    _ c.in_ok-apply.ensures.ok tt tt)
    c.requires
