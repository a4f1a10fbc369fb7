use Rattle.std.proofs.Common.{◌≡◌, ◌∙◌, ℕ, List, take, length, ap, sym, subst, arith}
use Rattle.sis_disk.specs.Record.{DiskRecord}
use Rattle.sis_disk.specs.Memory.{MemoryView}
use Rattle.sis_disk.specs.Notes.{record_of}
use Rattle.sis_disk.specs.Replay.{AllFit, Replayed, replayed_after, unplayed}
use Rattle.sis_disk.proofs.Replays.{all_taken-take, all-take, calls_first}
use Rattle.sis_disk.proofs.log.Log.replay.Goals as goal

pub run-requires-clause-row : goal.run-requires-clause-row
run-requires-clause-row c =
    rw (c.deref-2.ensures.value, c.deref-3.ensures.value)
    (omega (arith, c.self.invariant.0, all_taken-take c.min-count.result c.self.inside.notes.items))

pub run-requires-clause-fit : goal.run-requires-clause-fit
run-requires-clause-fit c =
    let log = c.self.inside in
    let told : record_of log.opening.items log.notes.items log.row.items ≡ c.args.self.now.told =
    ap (λ (v : MemoryView). v.told) c.self.view_is in
    let fit : AllFit (record_of log.opening.items log.notes.items log.row.items) =
    subst AllFit (sym told) c.requires in
    let size : length c.in_ok-replay.replay.live ≡ length log.opening.items =
    ap (λ (a : Replayed). length a.live) c.in_ok-replay.ensures
    ∙ ap (λ (xs : List ℕ). length xs) c.deref.ensures.value in
    let calls =
    calls_first c.args.k c.min-count.result log.notes.items c.deref-2.result.now log.row.items
    c.deref-3.result.now c.deref-2.ensures.value c.deref-3.ensures.value
    (omega (arith, c.min-count.ensures, c.len.ensures)) in
    rw (size, calls) (all-take _ c.args.k _ fit)

pub returns : goal.returns
returns c =
    let log = c.self.inside in
    let told : record_of log.opening.items log.notes.items log.row.items ≡ c.args.self.now.told =
    ap (λ (v : MemoryView). v.told) c.self.view_is in
    let calls =
    calls_first c.args.k c.min-count.result log.notes.items c.deref-2.result.now log.row.items
    c.deref-3.result.now c.deref-2.ensures.value c.deref-3.ensures.value
    (omega (arith, c.min-count.ensures, c.len.ensures)) in
    let start : c.in_ok-replay.replay ≡ unplayed log.opening.items =
    c.in_ok-replay.ensures ∙ ap (λ (xs : List ℕ). unplayed xs) c.deref.ensures.value in
    rw (c.run.ensures, start, calls)
    (ap (λ (r : DiskRecord). replayed_after (unplayed r.opening) (take c.args.k r.calls)) told)
