use Rattle.sis_disk.specs.Record.{live_of}
use Rattle.sis_journal.proofs.Readings.{spelled_read}
use Rattle.sis_journal.proofs.opening.read_len.Goals as goal

pub returns-clause-bytes : goal.returns-clause-bytes
returns-clause-bytes g c =
    spelled_read (live_of (g.D.Disk.seen c.args.disk.now)) c.read_at.new.into c.args.at
    c.number_of.result c.number_of.ensures.spelled c.in_ok-read_at.ensures.bytes
