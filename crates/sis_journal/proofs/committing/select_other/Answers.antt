use Rattle.sis_journal.proofs.Commits.{selector_kept, selector_leaves, selector_rest}
use Rattle.sis_journal.proofs.committing.select_other.Goals as goal

pub returns-clause-images : goal.returns-clause-images
returns-clause-images g c =
    selector_leaves c.args.layout.now c.requires.layout c.args.second c.selector_of.result c.write_stable.result (g.D.Disk.seen c.args.disk.now) (g.D.Disk.seen c.write_stable.new.disk) c.write_stable.ensures.written

pub returns-clause-ok : goal.returns-clause-ok
returns-clause-ok g c =
    selector_kept c.args.layout.now c.requires.layout c.args.second c.selector_of.result c.write_stable.result (g.D.Disk.seen c.args.disk.now) (g.D.Disk.seen c.write_stable.new.disk) c.selector_of.ensures c.write_stable.ensures.written

pub returns-clause-rest : goal.returns-clause-rest
returns-clause-rest g c =
    selector_rest c.args.layout.now c.requires.layout c.args.second c.selector_of.result c.write_stable.result (g.D.Disk.seen c.args.disk.now) (g.D.Disk.seen c.write_stable.new.disk) c.write_stable.ensures.written
    (g.met.D.Disk.sized c.args.disk.now) c.requires.size
