use Rattle.std.proofs.Common.{◌+◌, ap, ◌∙◌, drop, get_or, add-one, drop-cons, take, ℕ, false}
use Rattle.sis_disk.specs.Notes.{calls_of}
use Rattle.sis_disk.specs.declared.log.Kind.TheVariants.{Read}
use Rattle.sis_disk.specs.declared.log.Noted.{Noted}
use Rattle.sis_disk.specs.Replay.{replayed_after}
use Rattle.sis_disk.proofs.Replays.{IsLeft, left_more}
use Rattle.sis_disk.proofs.replay.Replay.run.Goals as goal

pub loop-noted-preserved : goal.loop-noted-preserved
loop-noted-preserved c =
    let none : Noted = record { kind = Read; at = 0; len = 0; ok = false } in
    let all = replayed_after c.args.self.now (calls_of c.args.notes.now c.args.row.now) in
    let rest = drop (c.loop-noted.noted-index + 1) c.args.notes.now in
    let next : IsLeft rest c.split_at.result.1.now c.step.new.self all =
    left_more (get_or c.args.notes.now c.loop-noted.noted-index none)
    (drop c.loop-noted.noted-index c.args.notes.now) _
    c.loop-noted.rest.now c.split_at.result.0.now _ c.loop-noted.self _ _
    (rw (add-one, drop-cons c.args.notes.now c.loop-noted.noted-index none c.loop-noted-test.true))
    (c.split_at.ensures.front ∙ ap (λ (n : ℕ). take n c.loop-noted.rest.now) c.taken.ensures)
    (c.split_at.ensures.back ∙ ap (λ (n : ℕ). drop n c.loop-noted.rest.now) c.taken.ensures)
    c.step.ensures.after c.step.ensures.size
    (record {
      row = c.loop-noted.invariant.row;
      fit = c.loop-noted.invariant.fit;
      told = c.loop-noted.invariant.told;
    }) in
    record { row = next.row; fit = next.fit; told = next.told }
