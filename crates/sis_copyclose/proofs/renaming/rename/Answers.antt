use Rattle.std.proofs.Common.{◌≡◌, ◌++◌, ◌∷◌, [], sym, refl, ap, ◌∙◌, ℕ, List}
use Rattle.sis_table.specs.Changes.{renamed}
use Rattle.sis_table.specs.Edits.{MayRename}
use Rattle.sis_table.specs.declared.edit.Edit.TheVariants as edit
use Rattle.sis_table.specs.Volume.{node_with}
use Rattle.sis_volume.specs.View.{TxnView}
use Rattle.sis_copyclose.specs.Changed.{IsRenamed, with_new_name}
use Rattle.sis_copyclose.proofs.FileBytes.{there_map}
use Rattle.sis_copyclose.proofs.OneEdit.{edit_applied, no_memory, renamed_files}
use Rattle.sis_copyclose.proofs.Versions.{renamed_versions}
use Rattle.sis_copyclose.proofs.renaming.rename.Goals as goal

pub returns-in_err-copy : goal.returns-in_err-copy
returns-in_err-copy g c =
    let v = c.args.volume.now in
    there_map (node_with v.table c.args.file) _ _ (λ n is here.
    no_memory (IsRenamed v.table c.args.file c.args.name.now) (with_new_name n.name c.args.name.now) v c.from_residual.result (sym c.down.ensures.down ∙ c.in_default.is) c.from_residual.ensures.1)
    c.requires.there

pub returns-in_err-push : goal.returns-in_err-push
returns-in_err-push g c =
    let v = c.args.volume.now in
    there_map (node_with v.table c.args.file) _ _ (λ n is here.
    no_memory (IsRenamed v.table c.args.file c.args.name.now) (with_new_name n.name c.args.name.now) v c.from_residual-in_err-push.result (sym c.down.ensures.down ∙ c.in_default.is) c.from_residual-in_err-push.ensures.1)
    c.requires.there

pub returns : goal.returns
returns g c =
    let v = c.args.volume.now in
    let file = c.args.file in
    let name = c.args.name.now in
    let up = sym c.down.ensures.down ∙ c.in_default.is in
    let only : c.push.new.self.edits ≡ edit.Rename file name ∷ [] =
    ap (λ (t : TxnView). t.edits) c.in_ok-push.ensures.ok ∙ ap (λ (t : TxnView). t.edits ++ edit.Rename file c.in_ok-copy.field-0 ∷ []) c.begin-txn.ensures
    ∙ ap (λ (k : List ℕ). edit.Rename file k ∷ []) c.in_ok-copy.ensures.ok in
    there_map (node_with v.table file) _ _ (λ n is here.
    let may : MayRename v.table n name = record { user = here; is_name = c.copy.ensures.name; store = c.requires.user; free = c.requires.free } in
    edit_applied (IsRenamed v.table file name) (with_new_name n.name name) v c.apply.new.self c.push.new.self.edits (edit.Rename file name) only up c.down.ensures.table
    refl (λ was now keeps. renamed_files v.table file n c.down.ensures.table is name may was now keeps)
    (λ was now keeps. renamed_versions v.table (renamed file name v.table) file name was now refl keeps)
    c.apply.result c.apply.ensures.ok c.apply.ensures.err c.apply.ensures.cause)
    c.requires.there
