use Rattle.std.proofs.Common.{◌≡◌, length, ap, ◌∙◌, arith}
use Rattle.sis_journal.specs.Formatting.{new_blocks}
use Rattle.sis_journal.proofs.NewImages.{new_blocks_fit, new_either, new_held, new_live, new_rest, new_stable}
use Rattle.sis_journal.proofs.journal.Journal.format.Goals as goal

pub write_stable-requires : goal.write_stable-requires
write_stable-requires g c =
    let text = g.K.Kept.text c.args.value.now in
    let fit = new_blocks_fit c.args.layout text c.requires.layout c.requires.fits in
    let bytes : c.deref.result.now ≡ new_blocks c.args.layout text = c.deref.ensures.value ∙ c.in_ok-bytes.ensures.bytes in
    omega (arith, ap length bytes)

pub returns-clause-bytes : goal.returns-clause-bytes
returns-clause-bytes g c =
    let w = c.in_ok-write_stable.ensures.written in
    new_live c.args.layout (g.K.Kept.text c.args.value.now) c.deref.result.now (g.D.Disk.seen c.args.disk.now) w.0 (g.D.Disk.seen c.write_stable.new.disk)
    (c.deref.ensures.value ∙ c.in_ok-bytes.ensures.bytes) w.1 w.2

pub returns-clause-holds : goal.returns-clause-holds
returns-clause-holds g c =
    let w = c.in_ok-write_stable.ensures.written in
    let old = g.D.Disk.seen c.args.disk.now in
    let new = g.D.Disk.seen c.write_stable.new.disk in
    let text = g.K.Kept.text c.args.value.now in
    new_held c.args.layout text old new c.requires.layout c.requires.fits (omega arith) (g.met.D.Disk.sized c.args.disk.now)
    (new_live c.args.layout text c.deref.result.now old w.0 new (c.deref.ensures.value ∙ c.in_ok-bytes.ensures.bytes) w.1 w.2)

pub returns-clause-stable : goal.returns-clause-stable
returns-clause-stable g c =
    let w = c.in_ok-write_stable.ensures.written in
    new_stable c.deref.result.now (g.D.Disk.seen c.args.disk.now) w.0 (g.D.Disk.seen c.write_stable.new.disk) w.1 w.2

pub returns-in_err-write_stable-clause-rest : goal.returns-in_err-write_stable-clause-rest
returns-in_err-write_stable-clause-rest g c =
    new_rest c.args.layout (g.K.Kept.text c.args.value.now) c.deref.result.now c.write_stable.result (g.D.Disk.seen c.args.disk.now) (g.D.Disk.seen c.write_stable.new.disk)
    (c.deref.ensures.value ∙ c.in_ok-bytes.ensures.bytes) c.write_stable.ensures.written

pub returns-clause-rest : goal.returns-clause-rest
returns-clause-rest g c =
    new_rest c.args.layout (g.K.Kept.text c.args.value.now) c.deref.result.now c.write_stable.result (g.D.Disk.seen c.args.disk.now) (g.D.Disk.seen c.write_stable.new.disk)
    (c.deref.ensures.value ∙ c.in_ok-bytes.ensures.bytes) c.write_stable.ensures.written

pub returns-in_err-write_stable-clause-either : goal.returns-in_err-write_stable-clause-either
returns-in_err-write_stable-clause-either g c =
    new_either c.args.layout (g.K.Kept.text c.args.value.now) c.deref.result.now c.write_stable.result (g.D.Disk.seen c.args.disk.now) (g.D.Disk.seen c.write_stable.new.disk)
    (c.deref.ensures.value ∙ c.in_ok-bytes.ensures.bytes) c.write_stable.ensures.written

pub returns-clause-either : goal.returns-clause-either
returns-clause-either g c =
    new_either c.args.layout (g.K.Kept.text c.args.value.now) c.deref.result.now c.write_stable.result (g.D.Disk.seen c.args.disk.now) (g.D.Disk.seen c.write_stable.new.disk)
    (c.deref.ensures.value ∙ c.in_ok-bytes.ensures.bytes) c.write_stable.ensures.written
