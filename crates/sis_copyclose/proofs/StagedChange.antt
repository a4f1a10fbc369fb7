-- A change of a file that was staged, and what it makes of the table and of the files.
use Rattle.std.proofs.Common.{◌≡◌, ◌⊎◌, inl, inr, ℕ, Bool, true, false, cond, ◌+◌, ◌*◌, ◌/◌, ◌<◌, ◌≤◌, List, [], ◌∷◌, ◌++◌, length, map, flat_map, drop, Option, None, Some, refl, sym, ap, ap₂, ◌∙◌, subst, arith, append_assoc}
use Rattle.std.specs.Prelude.{IfErr, IfSome, OnErr, OnOk, Result, max, ◌==◌, ◌≢◌, ◌||◌}
use Rattle.std.proofs.lemmas.Bool.{ne_eqb, or_right}
use Rattle.std.proofs.lemmas.Bool.Decides.{nat_tests}
use Rattle.sis_disk.specs.Layout.{table_cap}
use Rattle.sis_disk.specs.Record.{live_of}
use Rattle.sis_history.specs.Needs.{IsUnhindered, resize_need}
use Rattle.sis_journal.specs.Committing.{Both}
use Rattle.sis_model.specs.World.{overwritten, resized}
use Rattle.sis_model.specs.declared.reply.Hindrance.{Hindrance}
use Rattle.sis_ranges.specs.declared.run.Run.{Run}
use Rattle.sis_table.specs.Changes.{AreFreePlaces, AreFreeRuns, AreWritten, IsChangeOf, MayResize, Resize, WritesBlocks, cut_edits, places_by, resize_edits, resize_to, resized_node, size_edits, size_of, touched_blocks, with_resize, write_of}
use Rattle.sis_table.specs.Content.{content_of, files_of, run_bytes}
use Rattle.sis_table.specs.Edits.{MayEditBy, edited_by, map_edit}
use Rattle.sis_table.specs.Spelling.{spelling}
use Rattle.sis_table.specs.Uses.{TakesFresh}
use Rattle.sis_table.specs.Volume.{VolumeTable, IsTable, greatest_number, node_with}
use Rattle.sis_table.specs.declared.edit.Edit.{Edit}
use Rattle.sis_table.specs.declared.edit.Edit.TheVariants as edit
use Rattle.sis_table.specs.declared.node.Node.{Node}
use Rattle.sis_table.proofs.ChangesBytes.{length-overwritten}
use Rattle.sis_table.proofs.ChangesContent.{content_of-size, content_of-write}
use Rattle.sis_table.proofs.ChangesFiles.{files_of-rewritten}
use Rattle.sis_table.proofs.ChangesLaws.{resize_by_edits, resize_fresh, resize_may}
use Rattle.sis_table.proofs.ChangesRuns.{runs_written}
use Rattle.sis_table.proofs.ChangesTable.{free_places}
use Rattle.sis_volume.specs.Applying.{HindersApplying, is_edit}
use Rattle.sis_volume.specs.View.{VolumeView}
use Rattle.sis_copyclose.specs.Changed.{IsWithResize, with_bytes}
use Rattle.sis_copyclose.specs.Inside.{AreTexts, IsChange, IsPlan, Readies, StagesChange, StagesTexts, before_text, behind_text, change_reads, changed_bytes, cut_by, first_edits, resize_by, sized_by}
use Rattle.sis_copyclose.specs.declared.plan.Plan.{Plan}
use Rattle.sis_copyclose.specs.Operating.{KeepsPlaces, Operates}
use Rattle.sis_copyclose.proofs.ChangeTexts.{changed_texts, overwritten_none, plan_blocks, resized_same}
use Rattle.sis_copyclose.proofs.FileBytes.{changed_in, content_kept, files_changed, if_some, long}
use Rattle.sis_copyclose.proofs.Operations.{applied}
use Rattle.sis_copyclose.proofs.Versions.{resized_versions}

-- the edits before the mapping ones, and those behind
edits_in_row : (n : Node) (size at count : ℕ) (p : Plan) (runs : List Run) → IsPlan n size at count p
    → first_edits n.id p size ++ map (map_edit n.id) runs
    ≡ resize_edits n (Some (resize_by n size at count)) runs
edits_in_row n size at count p runs is =
    ap₂ (λ (old version : ℕ). cut_by n.id old size ++ sized_by n.id old size ++ edit.Version n.id (version + 1) ∷ [] ++ map (map_edit n.id) runs) is.size_is is.version_is
    ∙ append_assoc (cut_by n.id n.size size ++ sized_by n.id n.size size) (edit.Version n.id (n.version + 1) ∷ []) (map (map_edit n.id) runs)

module _ (v : VolumeTable) (n : Node) (size at : ℕ) (more : List ℕ) (p : Plan) (table : IsTable v) (there : node_with v n.id ≡ Some n) (change : IsChange n size at (length more)) (is : IsPlan n size at (length more) p) where
  -- the blocks were written, where both images are told
  written_change : (mid new end touched : List ℕ) (runs : List Run) → KeepsPlaces v mid new
      → length mid ≡ 4096 * v.layout.total
      → end ≡ resized (4096 * p.ends) (drop (4096 * (n.size / 4096)) (content_of v mid n))
      → touched ≡ before_text at (content_of v mid n) ++ more
      ++ behind_text (at + length more) (content_of v mid n)
      → AreFreeRuns v (resize_by n size at (length more)).blocks runs
      → flat_map (run_bytes new) runs ≡ end ++ touched
      → AreWritten new (resize_by n size at (length more)).blocks (places_by runs)
      (changed_bytes size at more (content_of v new n))
  written_change mid new end touched runs keeps whole end_is touched_is free joined =
      let same = content_kept v n.id n there mid new keeps in
      subst (λ (old : List ℕ). AreWritten new (resize_by n size at (length more)).blocks (places_by runs) (changed_bytes size at more old)) (sym same)
      (runs_written v (resize_by n size at (length more)).blocks runs new (changed_bytes size at more (content_of v mid n)) free (keeps.size ∙ whole)
      (joined
      ∙ ap₂ (λ (xs ys : List ℕ). xs ++ ys) end_is touched_is
      ∙ sym (changed_texts n size at more (content_of v mid n) change (long v n table there mid whole) p is)))

  some_written : (mid new : Option (List ℕ)) (end touched : List ℕ) (runs : List Run)
      → Both (KeepsPlaces v) mid new → IfSome mid (λ m. length m ≡ 4096 * v.layout.total)
      → IfSome mid (λ m. end ≡ resized (4096 * p.ends) (drop (4096 * (n.size / 4096)) (content_of v m n)))
      → IfSome mid (λ m. touched ≡ before_text at (content_of v m n) ++ more
      ++ behind_text (at + length more) (content_of v m n))
      → AreFreeRuns v (resize_by n size at (length more)).blocks runs
      → IfSome new (λ m. flat_map (run_bytes m) runs ≡ end ++ touched)
      → IfSome new (λ m. AreWritten m (resize_by n size at (length more)).blocks (places_by runs)
      (changed_bytes size at more (content_of v m n)))
  some_written None None end touched runs keeps whole end_is touched_is free joined = tt
  some_written None (Some x) end touched runs keeps whole end_is touched_is free joined = absurd keeps
  some_written (Some m) None end touched runs keeps whole end_is touched_is free joined = tt
  some_written (Some m) (Some x) end touched runs keeps whole end_is touched_is free joined =
      written_change m x end touched runs keeps whole end_is touched_is free joined

  some_sized : (mid new : Option (List ℕ)) → Both (KeepsPlaces v) mid new
      → IfSome mid (λ m. length m ≡ 4096 * v.layout.total)
      → IfSome new (λ m. length m ≡ 4096 * v.layout.total)
  some_sized None None keeps whole = tt
  some_sized None (Some x) keeps whole = absurd keeps
  some_sized (Some m) None keeps whole = tt
  some_sized (Some m) (Some x) keeps whole = keeps.size ∙ whole

  pub staged_change : (id : ℕ) (mid new : Option (List ℕ)) (end touched : List ℕ)
      (before after' : List Edit) → n.id ≡ id → Both (KeepsPlaces v) mid new
      → IfSome mid (λ m. length m ≡ 4096 * v.layout.total)
      → AreTexts v n p at more mid end touched → StagesTexts v id p end touched new before after'
      → before ≡ first_edits id p size → n.version < greatest_number
      → IsUnhindered v (resize_need n (Some (resize_by n size at (length more))))
      → StagesChange v n size at more new after'
  staged_change id mid new end touched before after' same_id keeps whole texts staged begins low unhindered =
      let free : AreFreeRuns v (resize_by n size at (length more)).blocks staged.runs =
      subst (λ (bs : List ℕ). AreFreeRuns v bs staged.runs) (plan_blocks n size at (length more) p is) staged.free in
      record {
        table = table;
        version = low;
        unhindered = unhindered;
        sized = some_sized mid new keeps whole;
        runs = staged.runs;
        free = free;
        edits_are =
            staged.edits_are
            ∙ ap (λ (es : List Edit). es ++ map (map_edit id) staged.runs) begins
            ∙ ap (λ (k : ℕ). first_edits k p size ++ map (map_edit k) staged.runs) (sym same_id)
            ∙ edits_in_row n size at (length more) p staged.runs is;
        written =
            some_written mid new end touched staged.runs keeps whole texts.end_told texts.touched_told free staged.written;
      }

-- ---- once it is staged

-- the change is one of a write, or of a new size
pub write_is : (n : Node) (size at count : ℕ) → 1 ≤ count → size ≡ max n.size (at + count)
    → write_of n at count ≡ Some (resize_by n size at count)
write_is n size at count some same =
    let no : (count == 0) ≡ false = grind (arith, nat_tests) in
    ap (λ (b : Bool). cond b None (Some (resize_to n (max n.size (at + count)) (touched_blocks at count)))) no
    ∙ ap (λ (k : ℕ). Some (resize_to n k (touched_blocks at count))) (sym same)

pub size_is : (n : Node) (size at count : ℕ) → count ≡ 0 → at ≡ 0 → size ≢ n.size
    → size_of n size ≡ Some (resize_by n size at count)
size_is n size at count none start other =
    let no : (size == n.size) ≡ false = ne_eqb size n.size other in
    ap (λ (b : Bool). cond b None (Some (resize_to n size []))) no
    ∙ sym (ap₂ (λ (k m : ℕ). Some (resize_to n size (touched_blocks k m))) start none)

pub change_of : (n : Node) (size at count : ℕ) → IsChange n size at count
    → IsChangeOf n (resize_by n size at count)
change_of n size at count change = by change.way
  where
    by : ((1 ≤ count) × (size ≡ max n.size (at + count)))
        ⊎ ((count ≡ 0) × (at ≡ 0) × (size ≢ n.size)) → IsChangeOf n (resize_by n size at count)
    by (inl way) = inl (at, count, write_is n size at count way.0 way.1)
    by (inr way) = inr (size, size_is n size at count way.0 way.1 way.2)

-- the bytes that it makes
pub written_whole : (n : Node) (size at : ℕ) (more bytes : List ℕ) → length bytes ≡ n.size
    → 1 ≤ length more → size ≡ max n.size (at + length more)
    → changed_bytes size at more bytes ≡ overwritten at more bytes
written_whole n size at more bytes whole some same =
    resized_same size (overwritten at more bytes)
    (omega (arith, length-overwritten at more bytes, whole, same))

pub sized_whole : (size at : ℕ) (more bytes : List ℕ) → length more ≡ 0 → at ≡ 0
    → changed_bytes size at more bytes ≡ resized size bytes
sized_whole size at more bytes none start =
    ap (resized size)
    (ap (λ (k : ℕ). overwritten k more bytes) start ∙ overwritten_none more bytes none)

module _ (v : VolumeTable) (n : Node) (size at : ℕ) (more : List ℕ) (there : node_with v n.id ≡ Some n) (change : IsChange n size at (length more)) (live : Option (List ℕ)) (edits : List Edit) (staged : StagesChange v n size at more live edits) where
  abbrev r : Resize
  r = resize_by n size at (length more)

  pub may : MayResize v n (resize_by n size at (length more))
  may = record {
    there = there;
    plain = change.plain;
    change = change_of n size at (length more) change;
    limit = change.limit;
    version = staged.version;
  }

  pub change_edits : MayEditBy v edits
  change_edits =
      subst (MayEditBy v) (sym staged.edits_are)
      (resize_may v n (resize_by n size at (length more)) staged.table may staged.runs staged.free)

  pub change_fresh : TakesFresh v edits
  change_fresh =
      subst (TakesFresh v) (sym staged.edits_are)
      (resize_fresh v n (resize_by n size at (length more)) staged.table may staged.runs staged.free)

  pub change_made : edited_by v edits
      ≡ with_resize n (Some (resize_by n size at (length more))) (places_by staged.runs) v
  change_made =
      ap (edited_by v) staged.edits_are
      ∙ resize_by_edits v n (resize_by n size at (length more)) staged.table may staged.runs staged.free

  pub change_places : AreFreePlaces v (length (resize_by n size at (length more)).blocks) (places_by staged.runs)
  change_places = free_places v (resize_by n size at (length more)).blocks staged.runs staged.free

  pub change_leads : IsWithResize v n (Some (resize_by n size at (length more))) (edited_by v edits)
  change_leads = (places_by staged.runs, change_places, change_made)

  -- the image before and after
  pub change_writes : (was now : List ℕ) → live ≡ Some now → KeepsPlaces v was now
      → WritesBlocks v (resize_by n size at (length more)).blocks (places_by staged.runs) was now
      (changed_bytes size at more (content_of v was n))
  change_writes was now is keeps =
      let whole = if_some live (λ m. length m ≡ 4096 * v.layout.total) now is staged.sized in
      record {
        old_size = sym keeps.size ∙ whole;
        new_size = whole;
        kept = keeps.used;
        written =
            subst (λ (old : List ℕ). AreWritten now (resize_by n size at (length more)).blocks (places_by staged.runs) (changed_bytes size at more old))
            (content_kept v n.id n there was now keeps)
            (if_some live (λ m. AreWritten m (resize_by n size at (length more)).blocks (places_by staged.runs) (changed_bytes size at more (content_of v m n))) now is staged.written);
      }

-- ---- once the edits were applied

-- one of the edits is that of the version
edited_more : (xs ys : List Edit) → is_edit ys ≡ true → is_edit (xs ++ ys) ≡ true
edited_more [] ys is = is
edited_more (x ∷ xs) ys is = refl

edits_there : (n : Node) (r : Resize) (runs : List Run)
    → is_edit (resize_edits n (Some r) runs) ≡ true
edits_there n r runs =
    edited_more (cut_edits n r.size ++ size_edits n r.size)
    (edit.Version n.id (n.version + 1) ∷ map (map_edit n.id) runs) refl

module _ (old mid new : VolumeView) (n : Node) (size at : ℕ) (more : List ℕ)
    (there : node_with old.table n.id ≡ Some n) (change : IsChange n size at (length more))
    (edits : List Edit) (up : old.down ≡ None)
    (ready : Readies (resize_need n (Some (resize_by n size at (length more))))
    (length (resize_by n size at (length more)).blocks + change_reads n size at (length more)) old mid)
    (staged : StagesChange old.table n size at more (live_of mid.seen) edits) where
  abbrev its : Resize
  its = resize_by n size at (length more)

  pub mid_may : MayEditBy mid.table edits
  mid_may =
      subst (λ (v : VolumeTable). MayEditBy v edits) (sym ready.table)
      (change_edits old.table n size at more there change (live_of mid.seen) edits staged)

  pub mid_fresh : TakesFresh mid.table edits
  mid_fresh =
      subst (λ (v : VolumeTable). TakesFresh v edits) (sym ready.table)
      (change_fresh old.table n size at more there change (live_of mid.seen) edits staged)

  -- the bytes are turned so
  pub change_applied : {T : Type 0} (turn : List ℕ → List ℕ) (r : Result T Hindrance)
      → ((live : List ℕ) → length live ≡ n.size → changed_bytes size at more live ≡ turn live)
      → mid.seen.faults ≡ old.seen.faults
      → OnOk r (new ≡ record mid {
        table = edited_by mid.table edits;
        is_changed = mid.is_changed || is_edit edits;
      })
      → OnErr r (new ≡ mid)
      → IfErr r (HindersApplying (length (spelling (edited_by mid.table edits))) (table_cap mid.table.layout))
      → Operates (resize_need n (Some (resize_by n size at (length more))))
      (IsWithResize old.table n (Some (resize_by n size at (length more))))
      (with_bytes n.name turn) (change_reads n size at (length more)) r old new
  change_applied turn r turns still ok err cause =
      let e : edited_by mid.table edits ≡ edited_by old.table edits =
      ap (λ (w : VolumeTable). edited_by w edits) ready.table in
      let made : edited_by mid.table edits ≡ with_resize n (Some its) (places_by staged.runs) old.table =
      e ∙ change_made old.table n size at more there change (live_of mid.seen) edits staged in
      applied (resize_need n (Some its)) (IsWithResize old.table n (Some its)) (with_bytes n.name turn)
      (change_reads n size at (length more)) old mid new (edited_by mid.table edits) up
      staged.unhindered ready still r (mid.is_changed || is_edit edits) ok err cause
      (or_right mid.is_changed (is_edit edits) (ap is_edit staged.edits_are ∙ edits_there n its staged.runs))
      (subst (IsWithResize old.table n (Some its)) (sym e)
      (change_leads old.table n size at more there change (live_of mid.seen) edits staged))
      (files_changed old.table (edited_by mid.table edits) (with_bytes n.name turn) (live_of old.seen) (live_of mid.seen) ready.places
      (λ was now was_is now_is keeps.
      let writes = change_writes old.table n size at more there change (live_of mid.seen) edits staged was now now_is keeps in
      ap (λ (w : VolumeTable). files_of w now) made
      ∙ files_of-rewritten old.table was now keeps.used n (resized_node its.size its.blocks (places_by staged.runs))
      (turn (content_of old.table was n)) staged.table there (λ m. refl)
      (content_of-changed was now writes ∙ turns (content_of old.table was n) (long old.table n staged.table there was writes.old_size))
      ∙ changed_in old.table n staged.table there was turn (turn (content_of old.table was n)) refl))
      (λ was now keeps.
      resized_versions old.table (edited_by mid.table edits) n its (places_by staged.runs) was now
      staged.table change_may made keeps)
    where
      change_may : MayResize old.table n (resize_by n size at (length more))
      change_may = may old.table n size at more there change (live_of mid.seen) edits staged

      -- the file's bytes afterwards, for a write and for a new size
      content_of-changed : (was now : List ℕ)
          → WritesBlocks old.table (resize_by n size at (length more)).blocks (places_by staged.runs) was now
          (changed_bytes size at more (content_of old.table was n))
          → content_of old.table now (resized_node its.size its.blocks (places_by staged.runs) n)
          ≡ changed_bytes size at more (content_of old.table was n)
      content_of-changed was now writes = by change.way
        where
          bytes : List ℕ
          bytes = content_of old.table was n

          whole : length bytes ≡ n.size
          whole = long old.table n staged.table there was writes.old_size

          places : AreFreePlaces old.table (length its.blocks) (places_by staged.runs)
          places = change_places old.table n size at more there change (live_of mid.seen) edits staged

          by : ((1 ≤ length more) × (size ≡ max n.size (at + length more)))
              ⊎ ((length more ≡ 0) × (at ≡ 0) × (size ≢ n.size))
              → content_of old.table now (resized_node its.size its.blocks (places_by staged.runs) n)
              ≡ changed_bytes size at more bytes
          by (inl way) =
              (let same : changed_bytes size at more bytes ≡ overwritten at more bytes = written_whole n size at more bytes whole way.0 way.1 in
              content_of-write old.table old.table n at more its (places_by staged.runs) was now staged.table change_may places
              (write_is n size at (length more) way.0 way.1)
              (subst (λ (xs : List ℕ). WritesBlocks old.table its.blocks (places_by staged.runs) was now xs) same writes)
              ∙ sym same)
          by (inr way) =
              (let same : changed_bytes size at more bytes ≡ resized size bytes = sized_whole size at more bytes way.0 way.1 in
              content_of-size old.table old.table n size its (places_by staged.runs) was now staged.table change_may places
              (size_is n size at (length more) way.0 way.1 way.2)
              (subst (λ (xs : List ℕ). WritesBlocks old.table its.blocks (places_by staged.runs) was now xs) same writes)
              ∙ sym same)
