-- A new file that was staged, and what it makes of the table and of the files.
use Rattle.std.proofs.Common.{◌≡◌, ℕ, ◌+◌, ◌*◌, ◌/◌, ◌<◌, ◌≤◌, true, false, List, [], ◌∷◌, ◌++◌, length, map, flat_map, Option, None, Some, refl, sym, ap, ◌∙◌, subst, arith}
use Rattle.std.specs.Prelude.{IfErr, IfSome, OnErr, OnOk, Result, ◌||◌}
use Rattle.std.specs.FinMap.{insert}
use Rattle.std.specs.List.{list_any, range_with_len}
use Rattle.std.specs.Result.{IsErrAnd}
use Rattle.std.proofs.lemmas.Bool.{or_right}
use Rattle.sis_disk.specs.Layout.{table_cap}
use Rattle.sis_disk.specs.Record.{live_of}
use Rattle.sis_model.specs.World.{resized}
use Rattle.sis_model.specs.declared.reply.Hindrance.{Hindrance}
use Rattle.sis_name.specs.Name.{IsName}
use Rattle.sis_name.specs.Units.{is_store_name}
use Rattle.sis_history.specs.Needs.{IsUnhindered, put_need}
use Rattle.sis_places.specs.Places.{PlacesView}
use Rattle.sis_ranges.specs.declared.run.Run.{Run}
use Rattle.sis_ranges.specs.Extents.{IsChain}
use Rattle.sis_table.specs.Changes.{AreFreePlaces, AreFreeRuns, AreWritten, places_by, with_file}
use Rattle.sis_table.specs.Content.{files_of, run_bytes}
use Rattle.sis_table.specs.Edits.{MayEditBy, MayMake, edited_by, map_edit}
use Rattle.sis_table.specs.Spelling.{spelling}
use Rattle.sis_table.specs.Uses.{TakesFresh}
use Rattle.sis_table.specs.Volume.{VolumeTable, IsTable, blocks_of, greatest_number, greatest_size, has_name, most_nodes, used_places}
use Rattle.sis_table.specs.declared.edit.Edit.{Edit}
use Rattle.sis_table.specs.declared.edit.Edit.TheVariants as edit
use Rattle.sis_table.specs.declared.kind.NodeKind.TheVariants.{Plain}
use Rattle.sis_table.proofs.ChangesLaws.{make_by_edits, make_files, make_fresh, make_may}
use Rattle.sis_table.proofs.ChangesBytes.{length-resized}
use Rattle.sis_table.proofs.ChangesMaps.{length-range}
use Rattle.sis_table.proofs.ChangesRuns.{block_texts, free_chain, runs_written}
use Rattle.sis_table.proofs.ChangesTable.{free_places}
use Rattle.sis_volume.specs.Applying.{HindersApplying, is_edit}
use Rattle.sis_volume.specs.Staging.{Stages}
use Rattle.sis_volume.specs.View.{TxnView, VolumeView, fresh, held, maps_to, spare}
use Rattle.sis_volume.proofs.CallerLemmas.{fresh-unmapped}
use Rattle.sis_copyclose.specs.Changed.{IsWithFile}
use Rattle.sis_copyclose.specs.Inside.{GivesUp, Readies, StagesFile}
use Rattle.sis_copyclose.specs.Operating.{KeepsPlaces, Operates}
use Rattle.sis_copyclose.proofs.FileBytes.{files_changed, if_some}
use Rattle.sis_copyclose.proofs.FreshRuns.{runs_free}
use Rattle.sis_copyclose.proofs.Operations.{applied, failed_by, gives_up_longer}
use Rattle.sis_copyclose.proofs.Versions.{made_versions}
use Rattle.sis_copyclose.proofs.Works.{readied_wider}

module _ (v : VolumeTable) (p : PlacesView) (name bytes blocks : List ℕ) (table : IsTable v) (bits_are : p.current ≡ used_places v) (blocks_are : blocks ≡ resized (4096 * blocks_of (length bytes)) bytes) where
  made_written : (live : Option (List ℕ)) (runs : List Run)
      → AreFreeRuns v (range_with_len 0 (blocks_of (length bytes))) runs
      → IfSome live (λ m. length m ≡ 4096 * v.layout.total)
      → IfSome live (λ m. flat_map (run_bytes m) runs ≡ blocks)
      → IfSome live (λ m. AreWritten m (range_with_len 0 (blocks_of (length bytes))) (places_by runs) bytes)
  made_written None runs free whole joined = tt
  made_written (Some m) runs free whole joined =
      runs_written v (range_with_len 0 (blocks_of (length bytes))) runs m bytes free whole
      (joined ∙ blocks_are ∙ sym (block_texts bytes 0 (blocks_of (length bytes))))

  pub staged_file : (live : Option (List ℕ)) (before after' : TxnView) (runs : List Run)
      → before.edits ≡ edit.Make v.next_id Plain name ∷ edit.Size v.next_id (length bytes) ∷ []
      → Stages v.layout p before after' v.next_id 0 (length blocks / 4096) blocks live runs
      → IfSome live (λ m. length m ≡ 4096 * v.layout.total) → MayMake v v.next_id Plain name
      → IsUnhindered v (put_need (length bytes)) → StagesFile v name bytes live after'.edits
  staged_file live before after' runs begins staged whole make unhindered =
      let size : length blocks / 4096 ≡ blocks_of (length bytes) =
      omega (arith, ap (λ (xs : List ℕ). length xs) blocks_are, length-resized (4096 * blocks_of (length bytes)) bytes) in
      let free : AreFreeRuns v (range_with_len 0 (blocks_of (length bytes))) runs =
      free_chain v 0 (blocks_of (length bytes)) runs
      (subst (λ (n : ℕ). IsChain 0 (0 + n) runs) size staged.chain)
      (runs_free v p v.next_id table bits_are before.edits runs staged.fresh) in
      record {
        table = table;
        make = make;
        unhindered = unhindered;
        sized = whole;
        runs = runs;
        free = free;
        edits_are = staged.edits ∙ ap (λ (es : List Edit). es ++ map (map_edit v.next_id) runs) begins;
        written = made_written live runs free whole staged.written;
      }

-- a new file may be made
pub may_make : (v : VolumeTable) (name : List ℕ) → v.next_id < greatest_number
    → length v.nodes < most_nodes → IsName name → is_store_name name ≡ false
    → list_any (has_name name) v.nodes ≡ false → MayMake v v.next_id Plain name
may_make v name ids nodes is_name user free = record {
  fresh = omega arith;
  below = ids;
  few = nodes;
  is_name = is_name;
  fit = rw user refl;
  free = free;
}

module _ (v : VolumeTable) (name bytes : List ℕ) (live : Option (List ℕ)) (edits : List Edit) (short : length bytes ≤ greatest_size) (staged : StagesFile v name bytes live edits) where
  pub file_edits : MayEditBy v edits
  file_edits =
      subst (MayEditBy v) (sym staged.edits_are)
      (make_may v name (length bytes) staged.runs staged.table staged.make short staged.free)

  pub file_fresh : TakesFresh v edits
  file_fresh =
      subst (TakesFresh v) (sym staged.edits_are)
      (make_fresh v name (length bytes) staged.runs staged.table staged.free)

  pub file_made : edited_by v edits ≡ with_file name (length bytes) (places_by staged.runs) v
  file_made =
      ap (edited_by v) staged.edits_are
      ∙ make_by_edits v name (length bytes) staged.runs staged.table staged.free

  pub file_places : AreFreePlaces v (blocks_of (length bytes)) (places_by staged.runs)
  file_places =
      subst (λ (n : ℕ). AreFreePlaces v n (places_by staged.runs)) (length-range 0 (blocks_of (length bytes)))
      (free_places v (range_with_len 0 (blocks_of (length bytes))) staged.runs staged.free)

  pub file_leads : IsWithFile v name (length bytes) (edited_by v edits)
  file_leads = (places_by staged.runs, file_places, file_made)

  pub file_bytes : (was now : List ℕ) → live ≡ Some now → KeepsPlaces v was now
      → files_of (edited_by v edits) now ≡ insert (files_of v was) name bytes
  file_bytes was now is keeps =
      let whole = if_some live (λ m. length m ≡ 4096 * v.layout.total) now is staged.sized in
      ap (λ (w : VolumeTable). files_of w now) file_made
      ∙ make_files v name (places_by staged.runs) was now bytes staged.table staged.make short file_places (record {
        old_size = sym keeps.size ∙ whole;
        new_size = whole;
        kept = keeps.used;
        written = if_some live (λ m. AreWritten m (range_with_len 0 (blocks_of (length bytes))) (places_by staged.runs) bytes) now is staged.written;
      })

  pub file_edited : is_edit edits ≡ true
  file_edited = ap is_edit staged.edits_are

-- ---- in the room that was made

-- the edits map nothing yet
pub file_room : (v : VolumeView) (txn : TxnView) (id size : ℕ) (name : List ℕ) (needed len : ℕ)
    → txn.edits ≡ edit.Make id Plain name ∷ edit.Size id size ∷ [] → needed ≤ spare v
    → len ≡ 4096 * needed → len / 4096 ≤ fresh v txn
file_room v txn id size name needed len is enough whole =
    let all : fresh v txn ≡ spare v =
    fresh-unmapped v.table.layout (held v) txn.edits (λ q. ap (list_any (maps_to q)) is) in
    omega (arith, all, enough, whole)

pub file_staged : (old mid : VolumeView) (live : Option (List ℕ)) (name bytes blocks : List ℕ) (id : ℕ)
    (before after' : TxnView) (runs : List Run) → IsTable old.table → mid.table ≡ old.table
    → id ≡ old.table.next_id → blocks ≡ resized (4096 * blocks_of (length bytes)) bytes
    → before.edits ≡ edit.Make id Plain name ∷ edit.Size id (length bytes) ∷ []
    → Stages mid.table.layout (held mid) before after' id 0 (length blocks / 4096) blocks live runs
    → IfSome live (λ m. length m ≡ 4096 * old.table.layout.total)
    → MayMake old.table old.table.next_id Plain name
    → IsUnhindered old.table (put_need (length bytes)) → StagesFile old.table name bytes live after'.edits
file_staged old mid live name bytes blocks id before after' runs table same id_is blocks_are begins staged whole make unhindered =
    staged_file old.table (held mid) name bytes blocks table (ap used_places same) blocks_are live before after' runs
    (subst (λ (k : ℕ). before.edits ≡ edit.Make k Plain name ∷ edit.Size k (length bytes) ∷ []) id_is begins)
    (subst (λ (k : ℕ). Stages old.table.layout (held mid) before after' k 0 (length blocks / 4096) blocks live runs) id_is
    (subst (λ (v : VolumeTable). Stages v.layout (held mid) before after' id 0 (length blocks / 4096) blocks live runs) same staged))
    whole make unhindered

-- ---- once the edits were applied

module _ (old mid new : VolumeView) (name bytes : List ℕ) (edits : List Edit) (short : length bytes ≤ greatest_size) (up : old.down ≡ None) (ready : Readies (put_need (length bytes)) (blocks_of (length bytes)) old mid) (staged : StagesFile old.table name bytes (live_of mid.seen) edits) where
  pub put_may : MayEditBy mid.table edits
  put_may =
      subst (λ (v : VolumeTable). MayEditBy v edits) (sym ready.table)
      (file_edits old.table name bytes (live_of mid.seen) edits short staged)

  pub put_fresh : TakesFresh mid.table edits
  put_fresh =
      subst (λ (v : VolumeTable). TakesFresh v edits) (sym ready.table)
      (file_fresh old.table name bytes (live_of mid.seen) edits short staged)

  pub put_applied : {T : Type 0} (r : Result T Hindrance) → mid.seen.faults ≡ old.seen.faults
      → OnOk r (new ≡ record mid {
        table = edited_by mid.table edits;
        is_changed = mid.is_changed || is_edit edits;
      })
      → OnErr r (new ≡ mid)
      → IfErr r (HindersApplying (length (spelling (edited_by mid.table edits))) (table_cap mid.table.layout))
      → Operates (put_need (length bytes)) (IsWithFile old.table name (length bytes))
      (λ files. insert files name bytes) 0 r old new
  put_applied r still ok err cause =
      let e : edited_by mid.table edits ≡ edited_by old.table edits =
      ap (λ (v : VolumeTable). edited_by v edits) ready.table in
      applied (put_need (length bytes)) (IsWithFile old.table name (length bytes))
      (λ files. insert files name bytes) 0 old mid new (edited_by mid.table edits) up
      staged.unhindered
      (readied_wider (put_need (length bytes)) (blocks_of (length bytes)) (blocks_of (length bytes) + 0) old mid (omega arith) ready)
      still r (mid.is_changed || is_edit edits) ok err cause
      (or_right mid.is_changed (is_edit edits) (file_edited old.table name bytes (live_of mid.seen) edits short staged))
      (subst (IsWithFile old.table name (length bytes)) (sym e)
      (file_leads old.table name bytes (live_of mid.seen) edits short staged))
      (files_changed old.table (edited_by mid.table edits) (λ files. insert files name bytes) (live_of old.seen) (live_of mid.seen) ready.places
      (λ was now was_is now_is keeps.
      ap (λ (w : VolumeTable). files_of w now) e
      ∙ file_bytes old.table name bytes (live_of mid.seen) edits short staged was now now_is keeps))
      (λ was now keeps.
      made_versions old.table (edited_by mid.table edits) name (length bytes) (places_by staged.runs) was now staged.table
      (e ∙ file_made old.table name bytes (live_of mid.seen) edits short staged) keeps)

-- it wasn't staged
pub put_short : {T : Type 0} (r : Result T Hindrance) (old new : VolumeView) (name bytes : List ℕ)
    (by : Hindrance) → old.down ≡ None → IsErrAnd r (λ h. h ≡ by)
    → GivesUp (put_need (length bytes)) (IsWithFile old.table name (length bytes))
    (blocks_of (length bytes)) old new by
    → Operates (put_need (length bytes)) (IsWithFile old.table name (length bytes))
    (λ files. insert files name bytes) 0 r old new
put_short r old new name bytes by up passed gives =
    failed_by (put_need (length bytes)) (IsWithFile old.table name (length bytes))
    (λ files. insert files name bytes) 0 r old new by up passed
    (gives_up_longer (put_need (length bytes)) (IsWithFile old.table name (length bytes))
    (blocks_of (length bytes)) (blocks_of (length bytes) + 0) old new by (omega arith) gives)
