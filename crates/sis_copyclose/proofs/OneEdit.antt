-- Operations of one edit, and those that change nothing.
use Rattle.std.proofs.Common.{◌≡◌, ℕ, inl, List, [], ◌∷◌, length, Option, None, Some, refl, sym, ap, ◌∙◌, subst, arith}
use Rattle.std.specs.Prelude.{IfErr, OnErr, OnOk, Ok, Err, Result, ◌||◌}
use Rattle.std.specs.FinMap.{insert, remove}
use Rattle.std.specs.Option.{option_map}
use Rattle.std.specs.Result.{IsErrAnd}
use Rattle.std.proofs.lemmas.Bool.{or_right}
use Rattle.sis_disk.proofs.GoesOn.{up_refl}
use Rattle.sis_disk.specs.Layout.{first_byte, table_cap}
use Rattle.sis_disk.specs.Record.{live_of}
use Rattle.sis_history.specs.Needs.{no_need}
use Rattle.sis_model.specs.declared.reply.Hindrance.{Hindrance}
use Rattle.sis_model.specs.declared.reply.Hindrance.TheVariants as hindrance
use Rattle.sis_name.specs.Files.{Files}
use Rattle.sis_table.specs.Changes.{renamed, without_file}
use Rattle.sis_table.specs.Content.{files_of}
use Rattle.sis_table.specs.Edits.{MayRename, edited_by}
use Rattle.sis_table.specs.Spelling.{spelling}
use Rattle.sis_table.specs.Volume.{VolumeTable, IsTable, node_with}
use Rattle.sis_table.specs.declared.edit.Edit.{Edit}
use Rattle.sis_table.specs.declared.node.Node.{Node}
use Rattle.sis_table.proofs.ChangesFiles.{files_of-removed, files_of-renamed}
use Rattle.sis_volume.specs.Applying.{HindersApplying, is_edit}
use Rattle.sis_volume.specs.View.{VolumeView}
use Rattle.sis_volume.proofs.Stopping.{stops_none}
use Rattle.sis_copyclose.specs.Changed.{with_new_name}
use Rattle.sis_copyclose.specs.Operating.{KeepsPlaces, KeepsVersions, Operates}
use Rattle.sis_copyclose.proofs.FileBytes.{files_changed, found_by, named_bytes}
use Rattle.sis_copyclose.proofs.Needing.{asks_none}
use Rattle.sis_copyclose.proofs.Operations.{applied, applied_err, failed_by, memory_short, never_down}
use Rattle.sis_copyclose.proofs.Versions.{versions_same}
use Rattle.sis_copyclose.proofs.Works.{only_none, places_refl, readied_none}

-- ---- the edit was made, or not

module _ (MayLead : VolumeTable → Type 0) (change : Files → Files) (old new : VolumeView)
    (edits : List Edit) (e : Edit) (only : edits ≡ e ∷ []) (up : old.down ≡ None) (table : IsTable old.table)
    (leads : MayLead (edited_by old.table (e ∷ [])))
    (files : (was now : List ℕ) → KeepsPlaces old.table was now
    → files_of (edited_by old.table (e ∷ [])) now ≡ change (files_of old.table was))
    (versions : (was now : List ℕ) → KeepsPlaces old.table was now
    → KeepsVersions old.table (edited_by old.table (e ∷ [])) was now) where
  same : edited_by old.table edits ≡ edited_by old.table (e ∷ [])
  same = ap (edited_by old.table) only

  leads_by : MayLead (edited_by old.table edits)
  leads_by = subst MayLead (sym same) leads

  pub edit_applied : {T : Type 0} (r : Result T Hindrance)
      → OnOk r (new ≡ record old {
        table = edited_by old.table edits;
        is_changed = old.is_changed || is_edit edits;
      })
      → OnErr r (new ≡ old)
      → IfErr r (HindersApplying (length (spelling (edited_by old.table edits))) (table_cap old.table.layout))
      → Operates no_need MayLead change 0 r old new
  edit_applied r ok err cause =
      applied no_need MayLead change 0 old old new (edited_by old.table edits) up
      (asks_none old.table table) (readied_none no_need old up) refl r
      (old.is_changed || is_edit edits) ok err cause
      (or_right old.is_changed (is_edit edits) (ap is_edit only)) leads_by
      (files_changed old.table (edited_by old.table edits) change (live_of old.seen) (live_of old.seen)
      (places_refl old.table (live_of old.seen))
      (λ was now was_is now_is keeps. ap (λ (w : VolumeTable). files_of w now) same ∙ files was now keeps))
      (λ was now keeps. subst (λ (w : VolumeTable). KeepsVersions old.table w was now) (sym same) (versions was now keeps))

  pub edit_short : {S T : Type 0} (r : Result S Hindrance) (by : Hindrance) (q : Result T Hindrance)
      → r ≡ Err by → IsErrAnd q (λ h. h ≡ by) → OnErr r (new ≡ old)
      → IfErr r (HindersApplying (length (spelling (edited_by old.table edits))) (table_cap old.table.layout))
      → Operates no_need MayLead change 0 q old new
  edit_short r by q is passed err cause =
      applied_err no_need MayLead change 0 old old new (edited_by old.table edits) up
      (asks_none old.table table) (readied_none no_need old up) refl r by q is passed err cause
      leads_by

-- there was no memory for it
pub no_memory : {T : Type 0} (MayLead : VolumeTable → Type 0) (change : Files → Files)
    (v : VolumeView) (q : Result T Hindrance) → v.down ≡ None
    → IsErrAnd q (λ h. h ≡ hindrance.Memory) → Operates no_need MayLead change 0 q v v
no_memory MayLead change v q up passed =
    failed_by no_need MayLead change 0 q v v hindrance.Memory up passed
    (memory_short no_need MayLead 0 v v (readied_none no_need v up) refl)

-- ---- a removal, and another name

module _ (v : VolumeTable) (file : ℕ) (n : Node) (table : IsTable v) (is : node_with v file ≡ Some n) where
  pub removed_files : (was now : List ℕ) → KeepsPlaces v was now
      → files_of (without_file file v) now ≡ remove (files_of v was) n.name
  removed_files was now keeps = files_of-removed v was now keeps.used file n table is

  pub renamed_files : (name : List ℕ) → MayRename v n name → (was now : List ℕ) → KeepsPlaces v was now
      → files_of (renamed file name v) now ≡ with_new_name n.name name (files_of v was)
  renamed_files name may was now keeps =
      files_of-renamed v was now keeps.used file name n table is may
      ∙ ap (insert (remove (files_of v was) n.name) name)
      (sym (named_bytes v n table (found_by v file n is) was))

-- ---- nothing is changed

pub nothing_done : {T : Type 0} (MayLead : VolumeTable → Type 0) (change : Files → Files) (reads : ℕ)
    (v : VolumeView) (x : T) → v.down ≡ None → IsTable v.table → MayLead v.table
    → ((live : List ℕ) → live_of v.seen ≡ Some live → files_of v.table live ≡ change (files_of v.table live))
    → Operates {T = T} no_need MayLead change reads (Ok x) v v
nothing_done {T = T} MayLead change reads v x up table leads files = record {
  ok = leads;
  err = tt;
  files = unchanged (live_of v.seen) files;
  kept = tt;
  versions = versions_same v.table (live_of v.seen);
  books = tt;
  changed = inl refl;
  held = inl refl;
  cause = λ was. tt;
  needed = λ e. absurd cc;
  limit = λ was h met. absurd (let e = sym (asks_none v.table table) ∙ met in cc);
  down = never_down {T = T} (Ok x) v v up;
  places = places_refl v.table (live_of v.seen);
  stops = stops_none v;
  still = λ le. only_none v.seen;
  up = record { down = up; calls = up_refl (first_byte v.table.layout) v.seen };
  goes = λ was. tt;
  elapses = record { size = refl; calls = omega arith; faults = omega arith };
  calls = omega arith;
  idle = λ none. refl;
  quiet = refl;
}
  where
    unchanged : (live : Option (List ℕ))
        → ((m : List ℕ) → live ≡ Some m → files_of v.table m ≡ change (files_of v.table m))
        → option_map (files_of v.table) live ≡ option_map change (option_map (files_of v.table) live)
    unchanged None f = refl
    unchanged (Some m) f = ap (λ (x : Files). Some x) (f m refl)
