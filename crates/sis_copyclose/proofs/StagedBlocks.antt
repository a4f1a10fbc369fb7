-- Blocks that were staged for a change.
use Rattle.std.proofs.Common.{◌≡◌, ℕ, ◌+◌, ◌*◌, ◌/◌, List, [], ◌∷◌, ◌++◌, length, map, flat_map, Option, None, Some, refl, sym, ap, ap₂, ◌∙◌, subst, arith, append_assoc, append-nil}
use Rattle.std.specs.Prelude.{IfSome}
use Rattle.std.specs.List.{range_with_len}
use Rattle.std.proofs.lemmas.List.{map-append}
use Rattle.std.proofs.lemmas.List.Concat.{flat_map-append}
use Rattle.sis_disk.specs.Record.{live_of}
use Rattle.sis_disk.specs.declared.layout.Layout.{Layout}
use Rattle.sis_journal.specs.Committing.{Both}
use Rattle.sis_places.specs.Places.{PlacesView}
use Rattle.sis_ranges.specs.Extents.{IsChain}
use Rattle.sis_ranges.specs.declared.run.Run.{Run}
use Rattle.sis_table.specs.Content.{run_bytes}
use Rattle.sis_table.specs.Edits.{map_edit}
use Rattle.sis_table.specs.Volume.{VolumeTable, IsTable, used_places}
use Rattle.sis_table.specs.declared.edit.Edit.{Edit}
use Rattle.sis_table.proofs.ChangesRuns.{free_chain, free_runs-append}
use Rattle.sis_volume.specs.Staging.{AreFreshRuns, KeepsOthers, Stages}
use Rattle.sis_volume.specs.View.{TxnView, VolumeView, held}
use Rattle.sis_copyclose.specs.Inside.{StagesTexts}
use Rattle.sis_copyclose.specs.declared.plan.Plan.{Plan}
use Rattle.sis_copyclose.proofs.FreshRuns.{runs_apart, runs_free, runs_kept}

-- no blocks
pub stages_none : (l : Layout) (p : PlacesView) (txn : TxnView) (file first : ℕ) (bytes : List ℕ)
    (live : Option (List ℕ)) → length bytes ≡ 0
    → Stages l p txn txn file first (length bytes / 4096) bytes live []
stages_none l p txn file first bytes live none = record {
  edits = sym (append-nil txn.edits);
  chain = omega (arith, none);
  fresh = tt;
  written = no_bytes live bytes none;
}
  where
    no_bytes : (o : Option (List ℕ)) (bytes : List ℕ) → length bytes ≡ 0
        → IfSome o (λ now. [] ≡ bytes)
    no_bytes None bytes none = tt
    no_bytes (Some m) [] none = refl
    no_bytes (Some m) (b ∷ bytes) none = absurd (omega (arith, none))

module _ (v : VolumeTable) (p : PlacesView) (file : ℕ) (table : IsTable v) (bits_are : p.current ≡ used_places v) where
  -- what was written first stays while the rest is written
  both_written : (edits : List Edit) (one two : List Run) (end touched : List ℕ)
      (mid new : Option (List ℕ))
      → Both (KeepsOthers v.layout p (edits ++ map (map_edit file) one)) mid new
      → IfSome mid (λ now. flat_map (run_bytes now) one ≡ end)
      → IfSome new (λ now. flat_map (run_bytes now) two ≡ touched)
      → IfSome new (λ now. flat_map (run_bytes now) (one ++ two) ≡ end ++ touched)
  both_written edits one two end touched None None keeps first second = tt
  both_written edits one two end touched None (Some n) keeps first second = absurd keeps
  both_written edits one two end touched (Some m) None keeps first second = tt
  both_written edits one two end touched (Some m) (Some n) keeps first second =
      flat_map-append (run_bytes n) one two
      ∙ ap₂ (λ (xs ys : List ℕ). xs ++ ys)
      (runs_kept v p file table bits_are edits one m n keeps ∙ first) second

  pub staged_both : (plan : Plan) (end touched : List ℕ) (mid new : Option (List ℕ))
      (before between after' : TxnView) (one two : List Run) → length end ≡ 4096 * plan.ends
      → length touched ≡ 4096 * plan.count
      → Stages v.layout p before between file (plan.old_size / 4096) (length end / 4096) end mid one
      → Stages v.layout p between after' file plan.first (length touched / 4096) touched new two
      → Both (KeepsOthers v.layout p between.edits) mid new
      → StagesTexts v file plan end touched new before.edits after'.edits
  staged_both plan end touched mid new before between after' one two end_size touched_size first second keeps =
      let ends : length end / 4096 ≡ plan.ends = omega (arith, end_size) in
      let count : length touched / 4096 ≡ plan.count = omega (arith, touched_size) in
      let later = subst (λ (es : List Edit). AreFreshRuns v.layout p file es two) first.edits second.fresh in
      record {
        runs = one ++ two;
        edits_are =
            second.edits
            ∙ ap (λ (es : List Edit). es ++ map (map_edit file) two) first.edits
            ∙ append_assoc before.edits (map (map_edit file) one) (map (map_edit file) two)
            ∙ ap (λ (es : List Edit). before.edits ++ es) (sym (map-append (map_edit file) one two));
        free =
            free_runs-append v (range_with_len (plan.old_size / 4096) plan.ends) (range_with_len plan.first plan.count) one two
            (free_chain v (plan.old_size / 4096) plan.ends one
            (subst (λ (n : ℕ). IsChain (plan.old_size / 4096) (plan.old_size / 4096 + n) one) ends first.chain)
            (runs_free v p file table bits_are before.edits one first.fresh))
            (free_chain v plan.first plan.count two
            (subst (λ (n : ℕ). IsChain plan.first (plan.first + n) two) count second.chain)
            (runs_free v p file table bits_are between.edits two second.fresh))
            (λ q is. runs_apart v p file table bits_are before.edits one two q later is);
        written =
            both_written before.edits one two end touched mid new
            (subst (λ (es : List Edit). Both (KeepsOthers v.layout p es) mid new) first.edits keeps)
            first.written second.written;
      }

-- ---- while the volume goes on

pub staged_texts : (old mid : VolumeView) (file : ℕ) (plan : Plan) (end touched first second : List ℕ)
    (live : Option (List ℕ)) (before between after' : TxnView) (one two : List Run)
    → IsTable old.table → mid ≡ record old { seen = mid.seen } → length end ≡ 4096 * plan.ends
    → length touched ≡ 4096 * plan.count → first ≡ end → second ≡ touched
    → Stages old.table.layout (held old) before between file (plan.old_size / 4096) (length first / 4096) first (live_of mid.seen) one
    → Stages mid.table.layout (held mid) between after' file plan.first (length second / 4096) second live two
    → Both (KeepsOthers mid.table.layout (held mid) between.edits) (live_of mid.seen) live
    → StagesTexts old.table file plan end touched live before.edits after'.edits
staged_texts old mid file plan end touched first second live before between after' one two table same end_size touched_size first_is second_is staged later keeps =
    staged_both old.table (held old) file table refl plan end touched (live_of mid.seen) live before between after' one two end_size touched_size
    (subst (λ (xs : List ℕ). Stages old.table.layout (held old) before between file (plan.old_size / 4096) (length xs / 4096) xs (live_of mid.seen) one) first_is staged)
    (subst (λ (xs : List ℕ). Stages old.table.layout (held old) between after' file plan.first (length xs / 4096) xs live two) second_is
    (subst (λ (v : VolumeView). Stages v.table.layout (held v) between after' file plan.first (length second / 4096) second live two) same later))
    (subst (λ (v : VolumeView). Both (KeepsOthers v.table.layout (held v) between.edits) (live_of mid.seen) live) same keeps)
