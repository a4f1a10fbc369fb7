use Rattle.sis_journal.proofs.Commits.{area_leaves, area_ready, area_rest}
use Rattle.sis_journal.proofs.committing.write_area.Goals as goal

pub returns-clause-images : goal.returns-clause-images
returns-clause-images g c =
    area_leaves c.args.layout.now c.requires.layout c.args.second c.args.bytes.now c.write_stable.result (g.D.Disk.seen c.args.disk.now) (g.D.Disk.seen c.write_stable.new.disk)
    c.requires.fits (rw c.area_start.ensures at c.write_stable.ensures.written)

pub returns-clause-ok : goal.returns-clause-ok
returns-clause-ok g c =
    area_ready c.args.layout.now c.requires.layout c.args.second c.args.bytes.now c.write_stable.result (g.D.Disk.seen c.args.disk.now) (g.D.Disk.seen c.write_stable.new.disk)
    (rw c.area_start.ensures at c.write_stable.ensures.written)

pub returns-clause-rest : goal.returns-clause-rest
returns-clause-rest g c =
    area_rest c.args.layout.now c.requires.layout c.args.second c.args.bytes.now c.write_stable.result (g.D.Disk.seen c.args.disk.now) (g.D.Disk.seen c.write_stable.new.disk)
    c.requires.fits (rw c.area_start.ensures at c.write_stable.ensures.written) (g.met.D.Disk.sized c.args.disk.now) c.requires.size
