use Rattle.std.proofs.Common.{◌≡◌, ◌-◌}
use Rattle.sis_volume.proofs.Staged.{IsStaged}
use Rattle.sis_volume.proofs.staging.stage_runs.Given as goal

abbrev pub invariant-loop-done : goal.invariant-loop-done
invariant-loop-done g l = record {
  staged : IsStaged l.layout l.fn.places l.fn.txn l.txn l.file l.first l.done l.bytes (g.D.Disk.seen l.fn.disk) (g.D.Disk.seen l.disk);
  same : l.places ≡ l.fn.places;
}

abbrev pub decreases-loop-done : goal.decreases-loop-done
decreases-loop-done g l = l.blocks - l.done
