use Rattle.std.proofs.Common.{◌≡◌, Bool, List, not, refl, sym, ap, ◌∙◌, subst}
use Rattle.std.specs.Prelude.{drop, false}
use Rattle.std.specs.Option.{option_map}
use Rattle.sis_disk.specs.declared.layout.Layout.{Layout}
use Rattle.sis_disk.specs.Layout.{first_byte}
use Rattle.sis_disk.specs.Record.{live_of}
use Rattle.sis_places.specs.Places.{PlacesView}
use Rattle.sis_table.specs.Volume.{used_places}
use Rattle.sis_volume.specs.Stopping.{IsCommitted, MayCommit}
use Rattle.sis_volume.specs.View.{VolumeView}
use Rattle.sis_volume.proofs.Committed.{blocks-rest, files-rest, is_committed, kept-committed, live-committed, may_commit, none_told, opens-committed, unchanged_committed}
use Rattle.sis_volume.proofs.volume.Volume.commit.Goals as goal

pub returns-then-not-self-clause-ok : goal.returns-then-not-self-clause-ok
returns-then-not-self-clause-ok g c =
    subst (λ (v : VolumeView). IsCommitted v v) c.self.view_is
    (unchanged_committed _ c.self.inside.journal c.self.inside.places refl c.if-not-self.true c.in_default.is c.self.invariant)

pub invariant_of-self : goal.invariant_of-self
invariant_of-self g c =
    let now = is_committed c.self.inside.kept c.self.inside.journal.layout c.self.inside.journal.second c.self.inside.is_changed c.self.inside.places.committed (g.D.Disk.seen c.self.inside.disk) (g.D.Disk.seen c.commit.new.disk)
    c.self.invariant.journal c.self.invariant.table (none_told c.self.inside.journal.layout c.self.inside.journal.second (g.D.Disk.seen c.self.inside.disk).told (g.D.Disk.seen c.commit.new.disk).told c.commit.ensures.rest)
    (c.self.invariant.committed c.in_default.is) c.in-Ok.ensures.kept in
    rw c.commit-in-Ok.ensures
    (kept-committed c.self.inside.kept c.self.inside.journal c.commit.new.self c.self.inside.places c.self.inside.is_changed c.self.inside.down (g.D.Disk.seen c.self.inside.disk) (g.D.Disk.seen c.commit.new.disk)
    c.commit.ensures.layout c.in-Ok.ensures.ok c.commit.ensures.elapses.size now c.self.invariant)

pub returns-in-Ok-clause-ok : goal.returns-in-Ok-clause-ok
returns-in-Ok-clause-ok g c =
    let now = is_committed c.self.inside.kept c.self.inside.journal.layout c.self.inside.journal.second c.self.inside.is_changed c.self.inside.places.committed (g.D.Disk.seen c.self.inside.disk) (g.D.Disk.seen c.commit.new.disk)
    c.self.invariant.journal c.self.invariant.table (none_told c.self.inside.journal.layout c.self.inside.journal.second (g.D.Disk.seen c.self.inside.disk).told (g.D.Disk.seen c.commit.new.disk).told c.commit.ensures.rest)
    (c.self.invariant.committed c.in_default.is) c.in-Ok.ensures.kept in
    let bits : c.commit-in-Ok.new.self.committed ≡ used_places c.self.inside.kept
    = ap (λ (p : PlacesView). p.committed) c.commit-in-Ok.ensures ∙ c.self.invariant.used in
    subst (λ (v : VolumeView). IsCommitted v (record {
      seen = g.D.Disk.seen c.commit.new.disk;
      table = c.self.inside.kept;
      committed = c.commit-in-Ok.new.self.committed;
      is_changed = false;
      down = c.self.inside.down;
    })) c.self.view_is (record {
      same = ap (λ (xs : List Bool). record { seen = g.D.Disk.seen c.commit.new.disk; table = c.self.inside.kept; committed = xs; is_changed = false; down = c.self.inside.down }) bits;
      up = c.in_default.is;
      opens = opens-committed c.self.inside.kept (not c.self.inside.journal.second) (used_places c.self.inside.kept) (g.D.Disk.seen c.commit.new.disk) c.self.invariant.log c.self.invariant.good now;
    })

pub returns-in-Ok-clause-holds : goal.returns-in-Ok-clause-holds
returns-in-Ok-clause-holds g c =
    let now = is_committed c.self.inside.kept c.self.inside.journal.layout c.self.inside.journal.second c.self.inside.is_changed c.self.inside.places.committed (g.D.Disk.seen c.self.inside.disk) (g.D.Disk.seen c.commit.new.disk)
    c.self.invariant.journal c.self.invariant.table (none_told c.self.inside.journal.layout c.self.inside.journal.second (g.D.Disk.seen c.self.inside.disk).told (g.D.Disk.seen c.commit.new.disk).told c.commit.ensures.rest)
    (c.self.invariant.committed c.in_default.is) c.in-Ok.ensures.kept in
    live-committed c.self.inside.kept (not c.self.inside.journal.second) (used_places c.self.inside.kept) (g.D.Disk.seen c.commit.new.disk) now

pub returns-in-Ok-clause-images : goal.returns-in-Ok-clause-images
returns-in-Ok-clause-images g c = λ up.
    subst (λ (v : VolumeView). MayCommit v.table v.seen (g.D.Disk.seen c.commit.new.disk)) c.self.view_is
    (may_commit c.self.inside.kept c.self.inside.journal.layout c.self.inside.journal.second c.self.inside.is_changed c.self.inside.places.committed (g.D.Disk.seen c.self.inside.disk) (g.D.Disk.seen c.commit.new.disk)
    c.self.invariant.journal c.self.invariant.table c.self.invariant.good c.self.invariant.log (c.self.invariant.committed c.in_default.is) c.commit.ensures.images)

pub returns-in-Ok-clause-files : goal.returns-in-Ok-clause-files
returns-in-Ok-clause-files g c =
    rw (← c.self.view_is) (files-rest c.self.inside.kept c.self.inside.journal.layout c.self.inside.journal.second (live_of (g.D.Disk.seen c.self.inside.disk)) (live_of (g.D.Disk.seen c.commit.new.disk))
    c.self.invariant.table (sym c.self.invariant.journal) c.commit.ensures.rest)

pub returns-in-Err-Down-clause-images : goal.returns-in-Err-Down-clause-images
returns-in-Err-Down-clause-images g c = λ up.
    subst (λ (v : VolumeView). MayCommit v.table v.seen (g.D.Disk.seen c.commit.new.disk)) c.self.view_is
    (may_commit c.self.inside.kept c.self.inside.journal.layout c.self.inside.journal.second c.self.inside.is_changed c.self.inside.places.committed (g.D.Disk.seen c.self.inside.disk) (g.D.Disk.seen c.commit.new.disk)
    c.self.invariant.journal c.self.invariant.table c.self.invariant.good c.self.invariant.log (c.self.invariant.committed c.in_default.is) c.commit.ensures.images)

pub returns-in-Err-Down-clause-files : goal.returns-in-Err-Down-clause-files
returns-in-Err-Down-clause-files g c =
    rw (← c.self.view_is) (files-rest c.self.inside.kept c.self.inside.journal.layout c.self.inside.journal.second (live_of (g.D.Disk.seen c.self.inside.disk)) (live_of (g.D.Disk.seen c.commit.new.disk))
    c.self.invariant.table (sym c.self.invariant.journal) c.commit.ensures.rest)

pub returns-in-Ok-clause-blocks : goal.returns-in-Ok-clause-blocks
returns-in-Ok-clause-blocks g c =
    rw (← c.self.view_is) (subst (λ (l : Layout). option_map (drop (first_byte l)) (live_of (g.D.Disk.seen c.commit.new.disk)) ≡ option_map (drop (first_byte l)) (live_of (g.D.Disk.seen c.self.inside.disk)))
    c.self.invariant.journal
    (blocks-rest c.self.inside.journal.layout c.self.inside.journal.second (live_of (g.D.Disk.seen c.self.inside.disk)) (live_of (g.D.Disk.seen c.commit.new.disk)) c.commit.ensures.rest))

pub returns-in-Err-Down-clause-blocks : goal.returns-in-Err-Down-clause-blocks
returns-in-Err-Down-clause-blocks g c =
    rw (← c.self.view_is) (subst (λ (l : Layout). option_map (drop (first_byte l)) (live_of (g.D.Disk.seen c.commit.new.disk)) ≡ option_map (drop (first_byte l)) (live_of (g.D.Disk.seen c.self.inside.disk)))
    c.self.invariant.journal
    (blocks-rest c.self.inside.journal.layout c.self.inside.journal.second (live_of (g.D.Disk.seen c.self.inside.disk)) (live_of (g.D.Disk.seen c.commit.new.disk)) c.commit.ensures.rest))
