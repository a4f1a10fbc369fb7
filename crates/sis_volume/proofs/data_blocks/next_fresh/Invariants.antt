use Rattle.std.proofs.Common.{◌-◌, length}
use Rattle.sis_volume.proofs.Freshness.{IsPassed}
use Rattle.sis_volume.proofs.data_blocks.next_fresh.Given as goal

abbrev pub invariant-search : goal.invariant-search
invariant-search l = IsPassed l.layout l.places l.txn.edits l.fn.from l.from

abbrev pub decreases-search : goal.decreases-search
decreases-search l = length l.places.current - l.from
