use Rattle.std.proofs.Common.{◌≡◌, ◌+◌, arith, subst}
use Rattle.std.specs.Prelude.{Result, Ok, Err, OnOk}
use Rattle.sis_disk.specs.Layout.{data_blocks}
use Rattle.sis_table.specs.Volume.{IsTable, used}
use Rattle.sis_volume.specs.Stopping.{IsCommitted}
use Rattle.sis_volume.specs.View.{VolumeView, spare}
use Rattle.sis_volume.proofs.Counts.{spare-committed, used_apart}
use Rattle.sis_volume.proofs.Stopping.{room_failed}
use Rattle.sis_volume.proofs.volume.Volume.room.Goals as goal

pub overflow_sub-total : goal.overflow_sub-total
overflow_sub-total g c =
    let table = subst (λ (v : VolumeView). IsTable v.table) c.self.view_is c.self.invariant.table in
    let all = used_apart c.args.self.now table in
    let used' = c.used-used.ensures in
    let total = c.total-total.ensures in
    omega arith

pub returns-then-total-used-clause-enough : goal.returns-then-total-used-clause-enough
returns-then-total-used-clause-enough g c = λ up enough.
    let table = subst (λ (v : VolumeView). IsTable v.table) c.self.view_is c.self.invariant.table in
    let all = used_apart c.args.self.now table in
    let used' = c.used-used.ensures in
    let total = c.total-total.ensures in
    let few = c.if-total-used.true in
    absurd (omega arith)

pub returns-then-needed-spare-clause-full : goal.returns-then-needed-spare-clause-full
returns-then-needed-spare-clause-full g c = λ up full.
    let table = subst (λ (v : VolumeView). IsTable v.table) c.self.view_is c.self.invariant.table in
    let all = used_apart c.args.self.now table in
    let used' = c.used-used.ensures in
    let total = c.total-total.ensures in
    let few = c.if-total-used.false in
    absurd (omega arith)

after_commit : {T E : Type 0} (r : Result T E) (old new : VolumeView) → IsTable old.table
    → OnOk r (IsCommitted old new)
    → OnOk r (used old.table + spare new ≡ data_blocks old.table.layout)
after_commit (Ok x) old new table done = spare-committed old new table done
after_commit (Err e) old new table done = tt

ok_weaker : {T E : Type 0} (r : Result T E) (P Q : Type 0) → (P → Q) → OnOk r P → OnOk r Q
ok_weaker (Ok x) P Q f h = f h
ok_weaker (Err e) P Q f h = h

pub returns-clause-spare : goal.returns-clause-spare
returns-clause-spare g c =
    let table = subst (λ (v : VolumeView). IsTable v.table) c.self.view_is c.self.invariant.table in
    let used' = c.used-used.ensures in
    let total = c.total-total.ensures in
    let few = c.if-total-used.false in
    ok_weaker c.commit.result _ _ (λ (e : used c.args.self.now.table + spare c.commit.new.self ≡ data_blocks c.args.self.now.table.layout). omega arith)
    (after_commit c.commit.result c.args.self.now c.commit.new.self table c.commit.ensures.ok)

pub returns-clause-cause : goal.returns-clause-cause
returns-clause-cause g c = λ up.
    room_failed c.commit.result c.args.needed c.args.self.now c.commit.new.self up
    c.commit.ensures.unchanged c.commit.ensures.err c.commit.ensures.at c.commit.ensures.number
