use Rattle.std.proofs.Common.{◌+◌, ◌*◌, List, drop, refl, subst, ◌∙◌}
use Rattle.std.proofs.lemmas.List.{take_rest}
use Rattle.sis_disk.specs.Layout.{first_byte}
use Rattle.sis_disk.specs.Record.{live_of}
use Rattle.sis_places.specs.Places.{PlacesView}
use Rattle.sis_volume.specs.Keeping.{StagesRun, WritesOnly}
use Rattle.sis_volume.specs.View.{is_fresh}
use Rattle.sis_volume.proofs.Staged.{narrower, staged_more, staged_none}
use Rattle.sis_volume.proofs.Writes.{writes_trans}
use Rattle.sis_volume.proofs.staging.stage_runs.Goals as goal

pub loop-done-init : goal.loop-done-init
loop-done-init g c = record {
  staged = staged_none c.args.layout.now c.args.places.now c.args.file c.args.txn.now c.args.first c.args.bytes.now (g.D.Disk.seen c.args.disk.now);
  same = refl;
}

pub returns-in_err-run-clause-writes : goal.returns-in_err-run-clause-writes
returns-in_err-run-clause-writes g c =
    let l = c.args.layout.now in
    let p = c.args.places.now in
    let staged = c.loop-done.invariant.staged in
    let now : WritesOnly (first_byte l) (is_fresh l p c.loop-done.txn.edits) (g.D.Disk.seen c.loop-done.disk) (g.D.Disk.seen c.stage_run.new.disk)
    = subst (λ (x : PlacesView). WritesOnly (first_byte l) (is_fresh l x c.loop-done.txn.edits) (g.D.Disk.seen c.loop-done.disk) (g.D.Disk.seen c.stage_run.new.disk))
    c.loop-done.invariant.same c.stage_run.ensures.writes in
    writes_trans (is_fresh l p c.loop-done.txn.edits) (is_fresh l p c.args.txn.now.edits) (narrower l p c.args.file c.args.txn.now.edits _ c.loop-done.txn.edits staged.stages.edits)
    (first_byte l) (g.D.Disk.seen c.args.disk.now) (g.D.Disk.seen c.loop-done.disk) (g.D.Disk.seen c.stage_run.new.disk) staged.writes now

pub loop-done-preserved : goal.loop-done-preserved
loop-done-preserved g c =
    let l = c.args.layout.now in
    let p = c.args.places.now in
    let same = c.loop-done.invariant.same in
    let now : WritesOnly (first_byte l) (is_fresh l p c.loop-done.txn.edits) (g.D.Disk.seen c.loop-done.disk) (g.D.Disk.seen c.stage_run.new.disk)
    = subst (λ (x : PlacesView). WritesOnly (first_byte l) (is_fresh l x c.loop-done.txn.edits) (g.D.Disk.seen c.loop-done.disk) (g.D.Disk.seen c.stage_run.new.disk))
    same c.stage_run.ensures.writes in
    let there = subst (λ (xs : List _). StagesRun l c.loop-done.places c.loop-done.txn c.stage_run.new.txn c.args.file (c.args.first + c.loop-done.done) xs
    (live_of (g.D.Disk.seen c.stage_run.new.disk)) c.in_ok-run.run') (take_rest c.args.bytes.now (4096 * c.loop-done.done)) c.in_ok-run.ensures.ok in
    let run : StagesRun l p c.loop-done.txn c.stage_run.new.txn c.args.file (c.args.first + c.loop-done.done) (drop (4096 * c.loop-done.done) c.args.bytes.now)
    (live_of (g.D.Disk.seen c.stage_run.new.disk)) c.in_ok-run.run' = subst (λ (x : PlacesView). StagesRun l x c.loop-done.txn c.stage_run.new.txn c.args.file (c.args.first + c.loop-done.done)
    (drop (4096 * c.loop-done.done) c.args.bytes.now) (live_of (g.D.Disk.seen c.stage_run.new.disk)) c.in_ok-run.run') same there in
    record {
      staged = staged_more l p c.args.file c.args.txn.now c.loop-done.txn c.stage_run.new.txn c.args.first c.loop-done.done c.args.bytes.now
          (g.D.Disk.seen c.args.disk.now) (g.D.Disk.seen c.loop-done.disk) (g.D.Disk.seen c.stage_run.new.disk) c.in_ok-run.run'
          c.requires.layout c.requires.places c.loop-done.invariant.staged run now c.stage_run.ensures.calls c.in_ok-run.ensures.quiet;
      same = c.stage_run.ensures.places ∙ same;
    }
