use Rattle.std.proofs.Common.{◌≡◌, ◌*◌, ◌+◌, length, ap, ◌∙◌, arith}
use Rattle.std.specs.Prelude.{IfSome}
use Rattle.sis_disk.specs.Areas.{read_by, shifted}
use Rattle.sis_disk.specs.Record.{live_of}
use Rattle.sis_journal.specs.Opening.{FailsReading}
use Rattle.sis_journal.proofs.HeldTexts.{image_held}
use Rattle.sis_journal.proofs.ReadCalls.{reads_then}
use Rattle.sis_journal.proofs.Readings.{area_fails, block_fails, if_some, image_read, live_sized, passed_on, shifted_ok, text_fails}
use Rattle.sis_journal.proofs.opening.read_image.Goals as goal

pub returns-in_err-layout-clause-fault : goal.returns-in_err-layout-clause-fault
returns-in_err-layout-clause-fault g c =
    passed_on c.from_residual.result c.in_err-layout.field-0.0 (λ fault. IfSome (live_of (g.D.Disk.seen c.args.disk.now)) (λ live. FailsReading fault (read_by g.K.Kept.read live))) c.from_residual.ensures.1
    (block_fails g.K.Kept.read (live_of (g.D.Disk.seen c.args.disk.now)) c.in_err-layout.field-0.0 c.in_err-layout.ensures.fault)

pub returns-in_err-area-clause-reads : goal.returns-in_err-area-clause-reads
returns-in_err-area-clause-reads g c = reads_then 1 3 4 _ _ _ (omega arith) c.read_layout.ensures.reads c.read_area.ensures.reads

pub returns-in_err-value-clause-reads : goal.returns-in_err-value-clause-reads
returns-in_err-value-clause-reads g c = reads_then 1 3 4 _ _ _ (omega arith) c.read_layout.ensures.reads c.read_area.ensures.reads

pub returns-clause-reads : goal.returns-clause-reads
returns-clause-reads g c = reads_then 1 3 4 _ _ _ (omega arith) c.read_layout.ensures.reads c.read_area.ensures.reads

pub returns-in_err-area-clause-fault : goal.returns-in_err-area-clause-fault
returns-in_err-area-clause-fault g c =
    let old = live_of (g.D.Disk.seen c.args.disk.now) in
    passed_on c.from_residual-in_err-area.result c.in_err-area.field-0.0 (λ fault. IfSome old (λ live. FailsReading fault (read_by g.K.Kept.read live))) c.from_residual-in_err-area.ensures.1
    (area_fails g.K.Kept.read old (live_of (g.D.Disk.seen c.read_layout.new.disk)) c.in_err-area.field-0.0 c.in_ok-layout.layout
    c.read_layout.ensures.reads.live c.in_ok-layout.ensures.value c.in_err-area.ensures.fault)

pub returns-in_err-value-clause-fault : goal.returns-in_err-value-clause-fault
returns-in_err-value-clause-fault g c =
    let old = live_of (g.D.Disk.seen c.args.disk.now) in
    let whole = image_read g.K.Kept.read old (live_of (g.D.Disk.seen c.read_layout.new.disk)) c.in_ok-layout.layout c.in_ok-area.area.second c.in_ok-area.area.at
    c.in_ok-area.area.buffer.items c.deref.result.now c.read_layout.ensures.reads.live c.in_ok-layout.ensures.value
    c.in_ok-area.ensures.selector c.in_ok-area.ensures.place c.in_ok-area.ensures.text c.deref.ensures.value in
    passed_on c.from_residual-in_err-value.result c.in_err-value.field-0.0 (λ fault. IfSome old (λ live. FailsReading fault (read_by g.K.Kept.read live))) c.from_residual-in_err-value.ensures.1
    (text_fails g.K.Kept.read old c.in_err-value.field-0.0 _ whole c.in_err-value.ensures.fault)

pub returns-clause-image : goal.returns-clause-image
returns-clause-image g c =
    let old = live_of (g.D.Disk.seen c.args.disk.now) in
    let whole = image_read g.K.Kept.read old (live_of (g.D.Disk.seen c.read_layout.new.disk)) c.in_ok-layout.layout c.in_ok-area.area.second c.in_ok-area.area.at
    c.in_ok-area.area.buffer.items c.deref.result.now c.read_layout.ensures.reads.live c.in_ok-layout.ensures.value
    c.in_ok-area.ensures.selector c.in_ok-area.ensures.place c.in_ok-area.ensures.text c.deref.ensures.value in
    if_some old (λ m. read_by g.K.Kept.read m ≡ shifted (c.in_ok-area.area.at + 8) (g.K.Kept.read c.in_ok-layout.layout c.deref.result.now)) _
    (λ m h. h ∙ shifted_ok (c.in_ok-area.area.at + 8) _ _ c.in_ok-value.ensures.value) whole

pub returns-clause-holds : goal.returns-clause-holds
returns-clause-holds g c =
    let old = live_of (g.D.Disk.seen c.args.disk.now) in
    image_held old (live_of (g.D.Disk.seen c.read_layout.new.disk)) c.in_ok-layout.layout c.in_ok-area.area.second c.in_ok-area.area.at c.in_ok-area.area.buffer.items
    (g.K.Kept.text c.in_ok-value.value) c.read_layout.ensures.reads.live c.in_ok-area.ensures.place
    (omega (arith, ap length (c.in_ok-value.ensures.spelled ∙ c.deref.ensures.value), c.in_ok-area.ensures.fits))
    (c.in_ok-value.ensures.spelled ∙ c.deref.ensures.value)
    (if_some old _ (λ m. length m ≡ 4096 * c.in_ok-layout.layout.total) (λ m e. e ∙ c.in_ok-layout.ensures.size) (live_sized _ _ (g.met.D.Disk.sized c.args.disk.now)))
    c.in_ok-layout.ensures.block c.in_ok-area.ensures.selector c.in_ok-area.ensures.bytes
