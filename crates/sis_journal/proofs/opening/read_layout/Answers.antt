use Rattle.std.proofs.Common.{◌≡◌, take, sym, ◌∙◌, arith}
use Rattle.sis_disk.specs.Superblock.{superblock}
use Rattle.sis_disk.specs.Record.{live_of}
use Rattle.sis_journal.proofs.Readings.{if_some, live_sized, short_image}
use Rattle.sis_journal.proofs.opening.read_layout.Goals as goal

pub returns-then-size-lt-BLOCK_LEN-clause-fault : goal.returns-then-size-lt-BLOCK_LEN-clause-fault
returns-then-size-lt-BLOCK_LEN-clause-fault g c =
    short_image _ _ (live_sized _ _ (g.met.D.Disk.sized c.args.disk.now)) (omega (arith, c.if-size-lt-BLOCK_LEN.true, c.len-size.ensures))

pub returns-in-Ok-clause-block : goal.returns-in-Ok-clause-block
returns-in-Ok-clause-block g c =
    if_some (live_of (g.D.Disk.seen c.args.disk.now)) _ (λ live. take 4096 live ≡ superblock c.in-Ok.layout) (λ live e. sym e ∙ c.in-Ok.ensures.block) c.in_ok-read_at.ensures.bytes
