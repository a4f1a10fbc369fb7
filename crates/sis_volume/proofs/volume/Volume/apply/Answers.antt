use Rattle.std.proofs.Common.{◌≡◌, ℕ, ◌<◌, ◌≤◌, inl, inr, Bool, true, false, ◌||◌, List, length, sym, ap, ◌∙◌, subst, arith}
use Rattle.std.proofs.lemmas.Bool.{cases_lt}
use Rattle.sis_disk.specs.declared.layout.Layout.{Layout}
use Rattle.sis_disk.specs.Layout.{data_blocks, first_place, table_cap}
use Rattle.sis_table.specs.declared.edit.Edit.{Edit}
use Rattle.sis_table.specs.declared.place_use.PlaceUse.{PlaceUse}
use Rattle.sis_table.specs.Edits.{MayEditBy, edited_by}
use Rattle.sis_table.specs.Good.{IsGood}
use Rattle.sis_table.specs.Spelling.{spelling}
use Rattle.sis_table.specs.Uses.{ChangesUse, TakesFresh}
use Rattle.sis_table.specs.Volume.{VolumeTable, IsTable}
use Rattle.sis_table.proofs.CallerLemmas.{IsTable-edited_by, edited_by-layout}
use Rattle.sis_volume.specs.Applying.{is_edit}
use Rattle.sis_volume.specs.Invariant.{IsVolume}
use Rattle.sis_volume.specs.Keeping.{ChangesBits}
use Rattle.sis_volume.specs.View.{VolumeView}
use Rattle.sis_volume.proofs.Applied.{kept-applied}
use Rattle.sis_volume.proofs.Volumes.{bits-kept}
use Rattle.sis_volume.proofs.volume.Volume.apply.Goals as goal

pub change-requires-clause-size : goal.change-requires-clause-size
change-requires-clause-size g c =
    bits-kept _ _ _ _ _ _ c.self.invariant ∙ ap data_blocks (sym c.layout-layout.ensures.layout)

not_above : (most len : ℕ) → (most < len → false ≡ true) → len ≤ most
not_above most len none = elim (cases_lt most len) [
  | inl lt ↦ (let never = none lt in absurd cc)
  | inr le ↦ le
]

pub invariant_of-self : goal.invariant_of-self
invariant_of-self g c =
    let v = c.self.inside.kept in
    let w = c.apply_all.new.self in
    let edits = c.args.txn.now.edits in
    let here : c.edits-edits.result.now ≡ edits = c.edits-edits.ensures in
    let may : MayEditBy v edits = subst (λ (x : VolumeView). MayEditBy x.table edits) (sym c.self.view_is) c.requires.may in
    let fresh : TakesFresh v edits = subst (λ (x : VolumeView). TakesFresh x.table edits) (sym c.self.view_is) c.requires.fresh in
    let is : w ≡ edited_by v edits = c.in-Ok.ensures.ok ∙ ap (λ (es : List Edit). edited_by v es) here in
    let same : w.layout ≡ v.layout = ap (λ (x : VolumeTable). x.layout) is ∙ edited_by-layout v edits in
    let fits = not_above c.cap-cap.result (length (spelling (edited_by v c.edits-edits.result.now))) c.in-Ok.ensures.full in
    let text = ap (λ (x : VolumeTable). length (spelling x)) c.in-Ok.ensures.ok in
    let cap : c.cap-cap.result ≡ table_cap w.layout = c.cap-cap.ensures ∙ ap table_cap (c.layout-layout.ensures.layout ∙ sym same) in
    let table = subst (λ (x : VolumeTable). IsTable x) (sym is) (IsTable-edited_by v edits c.self.invariant.table may) in
    let good : IsGood w = c.in-Ok.ensures.good c.self.invariant.good (subst (TakesFresh v) (sym here) fresh) in
    let changes : ChangesUse v w c.in-Ok.uses.items = c.in-Ok.ensures.uses c.self.invariant.good (subst (TakesFresh v) (sym here) fresh) in
    let bits : ChangesBits (first_place v.layout) c.in-Ok.uses.items c.self.inside.places c.change.new.self =
    subst (λ (us : List PlaceUse). ChangesBits (first_place v.layout) us c.self.inside.places c.change.new.self) c.deref.ensures.value
    (subst (λ (l : Layout). ChangesBits (first_place l) c.deref.result.now c.self.inside.places c.change.new.self) c.layout-layout.ensures.layout c.change.ensures) in
    let changed : c.is_changed_by-self-inside.result ≡ (c.self.inside.is_changed || is_edit edits) = c.is_changed_by-self-inside.ensures ∙ ap (λ (es : List Edit). c.self.inside.is_changed || is_edit es) here in
    subst (λ (b : Bool). IsVolume w c.self.inside.journal c.change.new.self b c.self.inside.down (g.D.Disk.seen c.self.inside.disk)) (sym changed)
    (kept-applied v w edits is same c.self.inside.journal c.self.inside.places c.change.new.self c.self.inside.is_changed c.self.inside.down
    (g.D.Disk.seen c.self.inside.disk) c.in-Ok.uses.items table good (omega arith) changes bits c.self.invariant)
