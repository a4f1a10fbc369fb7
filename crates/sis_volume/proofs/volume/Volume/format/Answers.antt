use Rattle.sis_disk.specs.Record.{live_of}
use Rattle.sis_volume.proofs.NewImages.{empty_fits, format_holds}
use Rattle.sis_volume.proofs.volume.Volume.format.Goals as goal

pub format-requires-clause-fits : goal.format-requires-clause-fits
format-requires-clause-fits g c = rw c.empty-table.ensures (empty_fits c.args.layout c.requires.layout)

pub returns-clause-holds : goal.returns-clause-holds
returns-clause-holds g c =
    format_holds c.format.result c.args.layout (live_of (g.D.Disk.seen c.format.new.disk)) c.requires.layout (rw c.empty-table.ensures at c.format.ensures.holds)

pub returns-clause-bytes : goal.returns-clause-bytes
returns-clause-bytes g c = rw c.empty-table.ensures at c.format.ensures.bytes

pub returns-clause-rest : goal.returns-clause-rest
returns-clause-rest g c = rw c.empty-table.ensures at c.format.ensures.rest

pub returns-clause-either : goal.returns-clause-either
returns-clause-either g c = rw c.empty-table.ensures at c.format.ensures.either
