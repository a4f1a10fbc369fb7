-- Writes and new sizes of the file with an id.
use Rattle.std.proofs.Common.{◌≡◌, ⊎_elim, ℕ, ◌+◌, ◌≤◌, Bool, true, false, List, [], length, Some, None, refl, sym, ◌∙◌, arith, inl, inr}
use Rattle.std.specs.Prelude.{IfErr, OnErr, OnOk, Result, max, ◌==◌, ◌≢◌, ◌||◌}
use Rattle.std.specs.Result.{IsErrAnd}
use Rattle.std.proofs.lemmas.Bool.Decides.{nat_tests}
use Rattle.sis_disk.specs.Layout.{table_cap}
use Rattle.sis_disk.specs.Record.{live_of}
use Rattle.sis_model.specs.Answer.{written}
use Rattle.sis_model.specs.World.{resized}
use Rattle.sis_model.specs.declared.reply.Hindrance.{Hindrance}
use Rattle.sis_table.specs.Changes.{size_of, write_of}
use Rattle.sis_table.specs.Edits.{IfThere, MayEditBy, edited_by}
use Rattle.sis_table.specs.Kinds.{plain_node}
use Rattle.sis_table.specs.Spelling.{spelling}
use Rattle.sis_table.specs.Uses.{TakesFresh}
use Rattle.sis_table.specs.Volume.{VolumeTable, greatest_size, node_with}
use Rattle.sis_table.specs.declared.edit.Edit.{Edit}
use Rattle.sis_table.specs.declared.node.Node.{Node}
use Rattle.sis_volume.specs.Applying.{HindersApplying, is_edit}
use Rattle.sis_volume.specs.View.{VolumeView}
use Rattle.sis_copyclose.specs.Calls.{size_reads, write_reads}
use Rattle.sis_copyclose.specs.Changed.{IsWithResize}
use Rattle.sis_copyclose.specs.Inside.{GivesUp, IsChange, Readies, StagesChange, resize_by}
use Rattle.sis_copyclose.proofs.ChangeSteps.{most_of, need_of}
use Rattle.sis_copyclose.proofs.FileBytes.{found_by, there_has, there_is, there_map}
use Rattle.sis_copyclose.proofs.StagedChange.{change_applied, mid_fresh, mid_may}
use Rattle.sis_copyclose.proofs.Turned.{Changes, as_size, as_write, change_short, turns_size, turns_write}

pub some_bytes : (count : ℕ) (b : Bool) → b ≡ (count == 0) → b ≡ false → 1 ≤ count
some_bytes count b is not_so =
    let no : (count == 0) ≡ false = sym is ∙ not_so in
    grind (arith, nat_tests)

-- what a write is, and a new size
pub write_change : (v : VolumeTable) (file was size at count : ℕ) → 1 ≤ count
    → size ≡ max was (at + count) → was ≤ greatest_size → at + count ≤ greatest_size
    → IfThere (node_with v file) (λ n. plain_node n ≡ true)
    → IfThere (node_with v file) (λ n. was ≡ n.size)
    → IfThere (node_with v file) (λ n. IsChange n size at count)
write_change v file was size at count some same low high plain sizes =
    there_map (node_with v file) _ _ (λ n is here.
    let its = there_has (node_with v file) n (λ m. was ≡ m.size) is sizes in
    record {
      plain = here;
      limit = omega (arith, same, low, high);
      way = inl (some, omega (arith, same, its));
    }) plain

pub size_change : (v : VolumeTable) (file was size : ℕ) → size ≤ greatest_size → was ≢ size
    → IfThere (node_with v file) (λ n. plain_node n ≡ true)
    → IfThere (node_with v file) (λ n. was ≡ n.size)
    → IfThere (node_with v file) (λ n. IsChange n size 0 0)
size_change v file was size high other plain sizes =
    there_map (node_with v file) _ _ (λ n is here.
    let its = there_has (node_with v file) n (λ m. was ≡ m.size) is sizes in
    record {
      plain = here;
      limit = high;
      way = inr (refl, refl, λ e. other (its ∙ sym e));
    }) plain

way_written : (n : Node) (size at count : ℕ) → 1 ≤ count → IsChange n size at count
    → size ≡ max n.size (at + count)
way_written n size at count some change =
    ⊎_elim (λ way. way.1) (λ way. absurd (omega (arith, some, way.0))) change.way

way_sized : (n : Node) (size at : ℕ) → IsChange n size at 0 → size ≢ n.size
way_sized n size at change =
    ⊎_elim (λ way. absurd (omega (arith, way.0))) (λ way. way.2) change.way

module _ (old mid : VolumeView) (file size at : ℕ) (more : List ℕ) (up : old.down ≡ None)
    (change : IfThere (node_with old.table file) (λ n. IsChange n size at (length more))) where
  module _ (edits : List Edit)
      (staged : IfThere (node_with old.table file) (λ n. StagesChange old.table n size at more (live_of mid.seen) edits))
      (ready : IfThere (node_with old.table file) (λ n. Readies (need_of n size at (length more)) (most_of n size at (length more)) old mid)) where
    staged_of : (n : Node) → node_with old.table file ≡ Some n → StagesChange old.table n size at more (live_of mid.seen) edits
    staged_of n is = there_has (node_with old.table file) n (λ m. StagesChange old.table m size at more (live_of mid.seen) edits) is staged

    ready_of : (n : Node) → node_with old.table file ≡ Some n → Readies (need_of n size at (length more)) (most_of n size at (length more)) old mid
    ready_of n is = there_has (node_with old.table file) n (λ m. Readies (need_of m size at (length more)) (most_of m size at (length more)) old mid) is ready

    pub whole_may : MayEditBy mid.table edits
    whole_may =
        let it = there_is (node_with old.table file) _ change in
        mid_may old mid mid it.0 size at more (found_by old.table file it.0 it.1) it.2 edits up (ready_of it.0 it.1) (staged_of it.0 it.1)

    pub whole_fresh : TakesFresh mid.table edits
    whole_fresh =
        let it = there_is (node_with old.table file) _ change in
        mid_fresh old mid mid it.0 size at more (found_by old.table file it.0 it.1) it.2 edits up (ready_of it.0 it.1) (staged_of it.0 it.1)

    module _ (still : mid.seen.faults ≡ old.seen.faults) (new : VolumeView) {T : Type 0}
        (r : Result T Hindrance)
        (ok : OnOk r (new ≡ record mid {
          table = edited_by mid.table edits;
          is_changed = mid.is_changed || is_edit edits;
        }))
        (err : OnErr r (new ≡ mid))
        (cause : IfErr r (HindersApplying (length (spelling (edited_by mid.table edits))) (table_cap mid.table.layout))) where
      pub write_done : 1 ≤ length more
          → IfThere (node_with old.table file) (λ n. Changes n (written at more) (write_of n at (length more)) (write_reads n at (length more)) r old new)
      write_done some =
          there_map (node_with old.table file) _ _ (λ n is h.
          let same = way_written n size at (length more) some h in
          as_write n size at more r old new some same
          (change_applied old mid new n size at more (found_by old.table file n is) h edits up (ready_of n is) (staged_of n is) (written at more) r
          (λ live whole. turns_write n size at more live some same whole) still ok err
          cause)) change

  -- it gave up
  pub write_short : {T : Type 0} (r : Result T Hindrance) (by : Hindrance) → 1 ≤ length more
      → IsErrAnd r (λ h. h ≡ by)
      → IfThere (node_with old.table file) (λ n. GivesUp (need_of n size at (length more))
      (IsWithResize old.table n (Some (resize_by n size at (length more)))) (most_of n size at (length more)) old mid by)
      → IfThere (node_with old.table file) (λ n. Changes n (written at more) (write_of n at (length more)) (write_reads n at (length more)) r old mid)
  write_short r by some passed gives =
      there_map (node_with old.table file) _ _ (λ n is h.
      as_write n size at more r old mid some (way_written n size at (length more) some h)
      (change_short n size at more r old mid (written at more) by up passed
      (there_has (node_with old.table file) n (λ m. GivesUp (need_of m size at (length more))
      (IsWithResize old.table m (Some (resize_by m size at (length more)))) (most_of m size at (length more)) old mid by) is gives))) change

module _ (old mid : VolumeView) (file size : ℕ) (up : old.down ≡ None)
    (change : IfThere (node_with old.table file) (λ n. IsChange n size 0 0)) where
  pub size_done : (edits : List Edit)
      → IfThere (node_with old.table file) (λ n. StagesChange old.table n size 0 [] (live_of mid.seen) edits)
      → IfThere (node_with old.table file) (λ n. Readies (need_of n size 0 0) (most_of n size 0 0) old mid)
      → mid.seen.faults ≡ old.seen.faults → (new : VolumeView) → {T : Type 0}
      → (r : Result T Hindrance)
      → OnOk r (new ≡ record mid {
        table = edited_by mid.table edits;
        is_changed = mid.is_changed || is_edit edits;
      })
      → OnErr r (new ≡ mid)
      → IfErr r (HindersApplying (length (spelling (edited_by mid.table edits))) (table_cap mid.table.layout))
      → IfThere (node_with old.table file) (λ n. Changes n (resized size) (size_of n size) (size_reads n size) r old new)
  size_done edits staged ready still new r ok err cause =
      there_map (node_with old.table file) _ _ (λ n is h.
      as_size n size r old new (way_sized n size 0 h)
      (change_applied old mid new n size 0 [] (found_by old.table file n is) h edits up
      (there_has (node_with old.table file) n (λ m. Readies (need_of m size 0 0) (most_of m size 0 0) old mid) is ready)
      (there_has (node_with old.table file) n (λ m. StagesChange old.table m size 0 [] (live_of mid.seen) edits) is staged)
      (resized size) r (λ live whole. turns_size size live) still ok err cause)) change

  pub size_short : {T : Type 0} (r : Result T Hindrance) (by : Hindrance) → IsErrAnd r (λ h. h ≡ by)
      → IfThere (node_with old.table file) (λ n. GivesUp (need_of n size 0 0)
      (IsWithResize old.table n (Some (resize_by n size 0 0))) (most_of n size 0 0) old mid by)
      → IfThere (node_with old.table file) (λ n. Changes n (resized size) (size_of n size) (size_reads n size) r old mid)
  size_short r by passed gives =
      there_map (node_with old.table file) _ _ (λ n is h.
      as_size n size r old mid (way_sized n size 0 h)
      (change_short n size 0 [] r old mid (resized size) by up passed
      (there_has (node_with old.table file) n (λ m. GivesUp (need_of m size 0 0)
      (IsWithResize old.table m (Some (resize_by m size 0 0))) (most_of m size 0 0) old mid by) is gives))) change
