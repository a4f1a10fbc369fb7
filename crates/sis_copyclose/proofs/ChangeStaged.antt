-- A change of a file whose texts were staged.
use Rattle.std.proofs.Common.{◌≡◌, ℕ, ◌+◌, ◌-◌, ◌*◌, ◌/◌, ◌<◌, ◌≤◌, Bool, true, false, List, [], ◌∷◌, ◌++◌, length, None, refl, sym, ap, ◌∙◌, subst, arith, inl, inr}
use Rattle.std.specs.Prelude.{IfSome, ◌==◌, nat_lt, if◌then◌else◌}
use Rattle.std.specs.List.{list_any}
use Rattle.std.proofs.lemmas.Bool.{cases_Bool}
use Rattle.sis_history.specs.Needs.{IsUnhindered}
use Rattle.sis_disk.specs.Record.{live_of}
use Rattle.sis_journal.specs.Committing.{Both}
use Rattle.sis_table.specs.Changes.{rewrites_end, touched_blocks}
use Rattle.sis_table.specs.Edits.{IfThere}
use Rattle.sis_table.specs.Volume.{VolumeTable, IsTable, blocks_of, greatest_number, node_with}
use Rattle.sis_table.specs.declared.edit.Edit.{Edit}
use Rattle.sis_table.specs.declared.edit.Edit.TheVariants as edit
use Rattle.sis_table.specs.declared.node.Node.{Node}
use Rattle.sis_table.proofs.ChangesNodes.{there_limits}
use Rattle.sis_volume.specs.View.{TxnView, VolumeView, fresh, held, maps_to, spare}
use Rattle.sis_volume.proofs.CallerLemmas.{fresh-unmapped}
use Rattle.sis_copyclose.specs.Inside.{AreTexts, IsChange, IsPlan, StagesChange, StagesTexts, Works, blocks_alone, first_edits}
use Rattle.sis_copyclose.specs.Operating.{KeepsPlaces}
use Rattle.sis_copyclose.specs.declared.plan.Plan.{Plan}
use Rattle.sis_copyclose.proofs.ChangeSteps.{RoomFor, asks, need_of, plan_len}
use Rattle.sis_copyclose.proofs.ChangeTexts.{grows}
use Rattle.sis_copyclose.proofs.FileBytes.{found, found_by, there_has, there_is, there_map}
use Rattle.sis_copyclose.proofs.MakingRoom.{unhindered_by}
use Rattle.sis_copyclose.proofs.StagedChange.{staged_change}
use Rattle.sis_copyclose.proofs.Works.{sized_kept, works_then}

-- the first edits map nothing
first_none : (id : ℕ) (p : Plan) (size q : ℕ) → list_any (maps_to q) (first_edits id p size) ≡ false
first_none id p size q = by (nat_lt size p.old_size) (size == p.old_size)
  where
    by : (a b : Bool) → list_any (maps_to q)
        ((if a then edit.Unmap id (blocks_of size) (blocks_of p.old_size - blocks_of size) ∷ [] else [])
        ++ (if b then [] else edit.Size id size ∷ []) ++ edit.Version id (p.version + 1) ∷ []) ≡ false
    by true true = refl
    by true false = refl
    by false true = refl
    by false false = refl

pub change_room : (mid later : VolumeView) (txn : TxnView) (id size needed : ℕ) (p : Plan)
    → later ≡ record mid { seen = later.seen } → txn.edits ≡ first_edits id p size
    → needed ≤ spare mid → needed ≤ fresh later txn
change_room mid later txn id size needed p same is enough =
    let all : fresh later txn ≡ spare later =
    fresh-unmapped later.table.layout (held later) txn.edits
    (λ q. ap (list_any (maps_to q)) is ∙ first_none id p size q) in
    let still : spare later ≡ spare mid = ap spare same in
    omega (arith, all, still, enough)

-- the block at the old end has a number
pub end_block : (v : VolumeTable) (file size at count : ℕ) (p : Plan) → IsTable v
    → IfThere (node_with v file) (λ n. IsChange n size at count)
    → IfThere (node_with v file) (λ n. IsPlan n size at count p) → p.old_size / 4096 + p.ends ≤ 16777216
end_block v file size at count p table change planned =
    let it = there_is (node_with v file) _ change in
    let is = there_has (node_with v file) it.0 (λ m. IsPlan m size at count p) it.1 planned in
    let low = (there_limits v file it.0 table it.1).size in
    let high = it.2.limit in
    elim (cases_Bool (rewrites_end it.0 size (touched_blocks at count))) [
      | inl rises ↦
          (let lt = (grows it.0 size (touched_blocks at count) rises).0 in
          let one : p.ends ≡ 1 = is.ends ∙ ap (λ (b : Bool). if b then 1 else 0) rises in
          omega (arith, is.size_is, one, lt, high))
      | inr stays ↦
          (let none : p.ends ≡ 0 = is.ends ∙ ap (λ (b : Bool). if b then 1 else 0) stays in
          omega (arith, is.size_is, none, low))
    ]

module _ (old mid later : VolumeView) (file blocks : ℕ) (most : Node → ℕ) (room : RoomFor old mid blocks)
    (texts : IfThere (node_with mid.table file) (λ n. Works (most n) mid later)) where
  table_mid : mid.table ≡ old.table
  table_mid = (room (blocks_alone blocks) refl).table

  table_later : later.table ≡ mid.table
  table_later = ap (λ (v : VolumeView). v.table) (there_is (node_with mid.table file) _ texts).2.same

  mid_sized : IfSome (live_of old.seen) (λ m. length m ≡ 4096 * old.table.layout.total)
      → IfSome (live_of mid.seen) (λ m. length m ≡ 4096 * old.table.layout.total)
  mid_sized sized =
      sized_kept old.table (live_of old.seen) (live_of mid.seen) (room (blocks_alone blocks) refl).places sized

  pub later_sized : IfSome (live_of old.seen) (λ m. length m ≡ 4096 * old.table.layout.total)
      → IfSome (live_of later.seen) (λ m. length m ≡ 4096 * later.table.layout.total)
  later_sized sized =
      subst (λ (v : VolumeTable). IfSome (live_of later.seen) (λ m. length m ≡ 4096 * v.layout.total)) (sym table_later)
      (sized_kept mid.table (live_of mid.seen) (live_of later.seen) (there_is (node_with mid.table file) _ texts).2.places
      (subst (λ (v : VolumeTable). IfSome (live_of mid.seen) (λ m. length m ≡ 4096 * v.layout.total)) (sym table_mid) (mid_sized sized)))

  pub change_staged : (new : VolumeView) (size at : ℕ) (more end touched : List ℕ) (p : Plan) (before after' : List Edit)
      → old.down ≡ None → IsTable old.table → blocks ≡ p.ends + p.count
      → IfSome (live_of old.seen) (λ m. length m ≡ 4096 * old.table.layout.total)
      → IfThere (node_with old.table file) (λ n. IsChange n size at (length more))
      → IfThere (node_with old.table file) (λ n. IsPlan n size at (length more) p)
      → p.version < greatest_number → IsUnhindered old.table (blocks_alone blocks)
      → IfThere (node_with mid.table file) (λ n. AreTexts mid.table n p at more (live_of mid.seen) end touched)
      → Works (p.ends + p.count) later new
      → StagesTexts later.table file p end touched (live_of new.seen) before after'
      → before ≡ first_edits file p size
      → IfThere (node_with old.table file) (λ n. StagesChange old.table n size at more (live_of new.seen) after')
  change_staged new size at more end touched p before after' up table same sized change planned low fits are works staged begins =
      there_map (node_with old.table file) _ _ (λ n is h.
      let pl = there_has (node_with old.table file) n (λ m. IsPlan m size at (length more) p) is planned in
      let text = there_has (node_with old.table file) n (λ m. AreTexts old.table m p at more (live_of mid.seen) end touched) is
      (subst (λ (v : VolumeTable). IfThere (node_with v file) (λ m. AreTexts v m p at more (live_of mid.seen) end touched)) table_mid are) in
      let read = (there_is (node_with mid.table file) _ texts).2 in
      let keeps : Both (KeepsPlaces old.table) (live_of mid.seen) (live_of new.seen) =
      subst (λ (v : VolumeTable). Both (KeepsPlaces v) (live_of mid.seen) (live_of new.seen)) table_mid
      (works_then (most (there_is (node_with mid.table file) _ texts).0) (p.ends + p.count) (most (there_is (node_with mid.table file) _ texts).0 + (p.ends + p.count)) mid later new (omega arith) read works).places in
      staged_change old.table n size at more p table (found_by old.table file n is) h pl file (live_of mid.seen) (live_of new.seen) end touched before after'
      (found old.table file n is) keeps (mid_sized sized) text
      (subst (λ (v : VolumeTable). StagesTexts v file p end touched (live_of new.seen) before after') (table_later ∙ table_mid) staged)
      begins (omega (arith, pl.version_is, low))
      (unhindered_by old.table (need_of n size at (length more)) blocks (asks old file size at (length more) p up table planned n low pl)
      (plan_len n size at (length more) p pl ∙ sym same) fits)) change
