use Rattle.sis_disk.specs.Layout.{data_blocks}
use Rattle.sis_volume.proofs.TableBits.{HasFirst}
use Rattle.sis_volume.proofs.data_blocks.DataBlocks.of_table.Given as goal

abbrev pub invariant-loop-node : goal.invariant-loop-node
invariant-loop-node l =
    HasFirst l.low (data_blocks l.table.layout) l.table.nodes l.node-iterator l.places
