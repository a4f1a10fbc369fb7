use Rattle.std.proofs.Common.{take}
use Rattle.sis_disk.specs.Layout.{first_place}
use Rattle.sis_volume.specs.Keeping.{ChangesBits}
use Rattle.sis_volume.proofs.data_blocks.change_all.Given as goal

abbrev pub invariant-loop-one : goal.invariant-loop-one
invariant-loop-one l = ChangesBits (first_place l.layout) (take l.one-index l.uses) l.fn.places l.places
