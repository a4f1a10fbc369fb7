use Rattle.std.proofs.Common.{take}
use Rattle.sis_volume.proofs.Freshness.{IsFreeFor}
use Rattle.sis_volume.proofs.txn.front_in.Given as goal

abbrev pub invariant-loop-edit : goal.invariant-loop-edit
invariant-loop-edit l = IsFreeFor (take l.edit-index l.edits) l.place l.count l.free
