use Rattle.std.proofs.Common.{◌≡◌, ℕ, ◌+◌, ◌/◌, List, true, refl, ap, ap₂, sym, ◌∙◌, subst}
use Rattle.std.specs.List.{AllByRecursion}
use Rattle.std.specs.Prelude.{is_err, length, Result, Ok, Err, OnOk}
use Rattle.sis_disk.specs.Layout.{data_blocks, first_byte}
use Rattle.sis_disk.specs.declared.layout.Layout.{Layout}
use Rattle.sis_disk.specs.Record.{live_of}
use Rattle.sis_disk.specs.Stops.{GoesOnBy}
use Rattle.sis_disk.proofs.GoesOn.{by_none}
use Rattle.sis_journal.specs.Committing.{Both}
use Rattle.sis_places.specs.Places.{PlacesView}
use Rattle.sis_table.specs.Volume.{VolumeTable, used_places}
use Rattle.sis_table.specs.declared.edit.Edit.{Edit}
use Rattle.sis_volume.specs.Invariant.{IsVolume}
use Rattle.sis_volume.specs.Staging.{KeepsOthers, Stages, WritesFresh}
use Rattle.sis_volume.specs.Stopping.{OnlyOpens}
use Rattle.sis_volume.specs.View.{VolumeView, count_of, held, is_fresh}
use Rattle.sis_volume.proofs.Committed.{no_call}
use Rattle.sis_volume.proofs.Counts.{held_is}
use Rattle.sis_volume.proofs.Freshness.{below_data}
use Rattle.sis_volume.proofs.Volumes.{bits-kept, files-staged, fresh-avoids_committed, fresh-avoids_current, kept-staged, only_opens, others_refl, others-staged}
use Rattle.sis_volume.proofs.volume.Volume.stage.Goals as goal
use Rattle.sis_volume.proofs.volume.Volume.stage.Goals.{then-is_err, else-is_err}

-- bits for the current table, beside those for the committed one
abbrev with_bits : VolumeTable → PlacesView → PlacesView
with_bits v p = record { current = used_places v; committed = p.committed }

-- a volume that is down makes no call
pub returns-in-Some-clause-images : goal.returns-in-Some-clause-images
returns-in-Some-clause-images g c = no_call _

pub returns-in-Some-clause-told : goal.returns-in-Some-clause-told
returns-in-Some-clause-told g c = by_none _ _ _ tt refl

pub returns-in-Some-clause-others : goal.returns-in-Some-clause-others
returns-in-Some-clause-others g c = others_refl _ _ _ _

pub stage_runs-staged-requires-clause-places : goal.stage_runs-staged-requires-clause-places
stage_runs-staged-requires-clause-places g c =
    bits-kept _ _ _ _ _ _ c.self.invariant
    ∙ ap data_blocks (ap (λ (v : VolumeView). v.table.layout) c.self.view_is ∙ sym c.layout-layout.ensures.layout)

pub stage_runs-staged-requires-clause-room : goal.stage_runs-staged-requires-clause-room
stage_runs-staged-requires-clause-room g c =
    let places : c.self.inside.places ≡ held c.args.self.now = held_is c.self.inside.kept c.self.inside.places c.self.invariant.used ∙ ap held c.self.view_is in
    rw (c.layout-layout.ensures.layout, places) c.requires.room

pub invariant_of-self : goal.invariant_of-self
invariant_of-self g c =
    let l = c.layout-layout.result in
    let p = c.self.inside.places in
    let is : c.self.inside.kept.layout ≡ l = ap (λ (v : VolumeView). v.table.layout) c.self.view_is ∙ sym c.layout-layout.ensures.layout in
    subst (λ (q : PlacesView). IsVolume c.self.inside.kept c.self.inside.journal q c.self.inside.is_changed c.self.inside.down (g.D.Disk.seen c.stage_runs-staged.new.disk)) (sym c.stage_runs-staged.ensures.places)
    (kept-staged l (is_fresh l p c.args.txn.now.edits) (below_data l p c.args.txn.now.edits) (first_byte l)
    (g.D.Disk.seen c.self.inside.disk) (g.D.Disk.seen c.stage_runs-staged.new.disk) c.stage_runs-staged.ensures.writes
    c.self.inside.kept c.self.inside.journal p c.self.inside.is_changed c.self.inside.down is
    (fresh-avoids_committed l p c.args.txn.now.edits) c.self.invariant)

pub returns-clause-images : goal.returns-clause-images
returns-clause-images g c =
    let l = c.layout-layout.result in
    let p = c.self.inside.places in
    let is : c.self.inside.kept.layout ≡ l = ap (λ (v : VolumeView). v.table.layout) c.self.view_is ∙ sym c.layout-layout.ensures.layout in
    subst (λ (v : VolumeView). OnlyOpens v.seen (g.D.Disk.seen c.stage_runs-staged.new.disk)) c.self.view_is
    (only_opens l (is_fresh l p c.args.txn.now.edits) (below_data l p c.args.txn.now.edits) (first_byte l)
    (g.D.Disk.seen c.self.inside.disk) (g.D.Disk.seen c.stage_runs-staged.new.disk) c.stage_runs-staged.ensures.writes
    c.self.inside.kept c.self.inside.journal p c.self.inside.is_changed c.self.inside.down is
    (fresh-avoids_committed l p c.args.txn.now.edits) c.in_default.is c.self.invariant)

pub returns-clause-files : goal.returns-clause-files
returns-clause-files g c =
    let l = c.layout-layout.result in
    let p = c.self.inside.places in
    let is : c.self.inside.kept.layout ≡ l = ap (λ (v : VolumeView). v.table.layout) c.self.view_is ∙ sym c.layout-layout.ensures.layout in
    rw (← c.self.view_is) (files-staged l (is_fresh l p c.args.txn.now.edits) (below_data l p c.args.txn.now.edits) (first_byte l)
    (g.D.Disk.seen c.self.inside.disk) (g.D.Disk.seen c.stage_runs-staged.new.disk) c.stage_runs-staged.ensures.writes c.self.inside.kept
    (fresh-avoids_current l p c.args.txn.now.edits c.self.inside.kept is c.self.invariant.table c.self.invariant.used))

ok_weaker : {T E : Type 0} (r : Result T E) (P Q : Type 0) → (P → Q) → OnOk r P → OnOk r Q
ok_weaker (Ok x) P Q f h = f h
ok_weaker (Err e) P Q f h = h

from_err : {T E : Type 0} (r : Result T E) (P : Type 0) → is_err r ≡ true → OnOk r P
from_err (Ok x) P h = absurd cc
from_err (Err e) P h = tt

pub returns-clause-ok : goal.returns-clause-ok
returns-clause-ok g c =
    let places : c.self.inside.places ≡ held c.args.self.now = held_is c.self.inside.kept c.self.inside.places c.self.invariant.used ∙ ap held c.self.view_is in
    elim c.if-is_err.branch [
      | then-is_err w ↦ (let failed : is_err c.stage_runs-staged.result ≡ true = sym c.is_err.ensures.value ∙ w.if-is_err.true in from_err c.stage_runs-staged.result _ failed)
      | else-is_err w ↦ rw w.txn-is (ok_weaker c.stage_runs-staged.result _ _ (λ staged. (
        staged.0,
        subst (λ (q : PlacesView). Stages c.args.self.now.table.layout q c.args.txn.now c.stage_runs-staged.new.txn c.args.file c.args.first (length c.args.bytes.now / 4096) c.args.bytes.now
            (live_of (g.D.Disk.seen c.stage_runs-staged.new.disk)) staged.0) places
            (subst (λ (l : Layout). Stages l c.self.inside.places c.args.txn.now c.stage_runs-staged.new.txn c.args.file c.args.first (length c.args.bytes.now / 4096) c.args.bytes.now
            (live_of (g.D.Disk.seen c.stage_runs-staged.new.disk)) staged.0) c.layout-layout.ensures.layout staged.1),
      )) c.stage_runs-staged.ensures.ok)
    ]

abbrev blocks : Layout → PlacesView → List Edit → ℕ
blocks l p edits = count_of l (is_fresh l p edits)

pub returns-clause-fresh : goal.returns-clause-fresh
returns-clause-fresh g c =
    let kept = c.self.inside.kept in
    let p = c.self.inside.places in
    let is : kept.layout ≡ c.layout-layout.result = ap (λ (v : VolumeView). v.table.layout) c.self.view_is ∙ sym c.layout-layout.ensures.layout in
    let before : p ≡ held c.args.self.now = held_is kept p c.self.invariant.used ∙ ap held c.self.view_is in
    let after' : with_bits kept c.stage_runs-staged.new.places ≡ p
    = ap (with_bits kept) c.stage_runs-staged.ensures.places ∙ sym (held_is kept p c.self.invariant.used) in
    let n = length c.args.bytes.now / 4096 in
    elim c.if-is_err.branch [
      | then-is_err w ↦ (let failed : is_err c.stage_runs-staged.result ≡ true = sym c.is_err.ensures.value ∙ w.if-is_err.true in from_err c.stage_runs-staged.result _ failed)
      | else-is_err w ↦ rw w.txn-is (ok_weaker c.stage_runs-staged.result _ _ (λ e.
          ap (λ (k : ℕ). k + n) (ap₂ (λ (l : Layout) (q : PlacesView). blocks l q c.stage_runs-staged.new.txn.edits) is after')
          ∙ e ∙ ap₂ (λ (l : Layout) (q : PlacesView). blocks l q c.args.txn.now.edits) c.layout-layout.ensures.layout before)
          c.stage_runs-staged.ensures.fresh)
    ]

pub returns-clause-told : goal.returns-clause-told
returns-clause-told g c =
    let kept = c.self.inside.kept in
    let p = c.self.inside.places in
    let edits = c.args.txn.now.edits in
    let new = g.D.Disk.seen c.stage_runs-staged.new.disk in
    let is : kept.layout ≡ c.layout-layout.result = ap (λ (v : VolumeView). v.table.layout) c.self.view_is ∙ sym c.layout-layout.ensures.layout in
    rw (← c.self.view_is)
    (subst (λ (q : PlacesView). GoesOnBy (AllByRecursion (WritesFresh kept.layout q edits)) (g.D.Disk.seen c.self.inside.disk).told new.told) (held_is kept p c.self.invariant.used)
    (subst (λ (l : Layout). GoesOnBy (AllByRecursion (WritesFresh l p edits)) (g.D.Disk.seen c.self.inside.disk).told new.told) (sym is)
    c.stage_runs-staged.ensures.writes.told))

pub returns-clause-others : goal.returns-clause-others
returns-clause-others g c =
    let kept = c.self.inside.kept in
    let p = c.self.inside.places in
    let edits = c.args.txn.now.edits in
    let old = g.D.Disk.seen c.self.inside.disk in
    let new = g.D.Disk.seen c.stage_runs-staged.new.disk in
    let is : kept.layout ≡ c.layout-layout.result = ap (λ (v : VolumeView). v.table.layout) c.self.view_is ∙ sym c.layout-layout.ensures.layout in
    rw (← c.self.view_is)
    (subst (λ (q : PlacesView). Both (KeepsOthers kept.layout q edits) (live_of old) (live_of new)) (held_is kept p c.self.invariant.used)
    (subst (λ (l : Layout). Both (KeepsOthers l p edits) (live_of old) (live_of new)) (sym is)
    (others-staged c.layout-layout.result p edits (first_byte c.layout-layout.result) old new c.stage_runs-staged.ensures.writes)))
