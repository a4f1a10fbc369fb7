use Rattle.std.proofs.Common.{◌≡◌, ◌≤◌, length, drop}
use Rattle.std.specs.List.{AllByRecursion}
use Rattle.sis_disk.specs.Notes.{calls_of, all_taken}
use Rattle.sis_disk.specs.Replay.{Fits, replayed_after}
use Rattle.sis_disk.proofs.replay.Replay.run.Given as goal

abbrev pub invariant-loop-noted : goal.invariant-loop-noted
invariant-loop-noted l = record {
  row : all_taken (drop l.noted-index l.notes) ≤ length l.rest;
  fit : AllByRecursion (Fits (length l.self.live)) (calls_of (drop l.noted-index l.notes) l.rest);
  told : replayed_after l.self (calls_of (drop l.noted-index l.notes) l.rest)
      ≡ replayed_after l.fn.self (calls_of l.notes l.row);
}
