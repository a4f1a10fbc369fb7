use Rattle.std.proofs.Common.{◌≡◌, []}
use Rattle.std.specs.Prelude.{IfSome}
use Rattle.sis_disk.specs.Areas.{read_by}
use Rattle.sis_disk.specs.Record.{live_of}
use Rattle.sis_journal.specs.Opening.{FailsReading}
use Rattle.sis_journal.specs.Texts.{KeepsText}
use Rattle.sis_journal.proofs.HeldTexts.{text_kept}
use Rattle.sis_journal.proofs.ReadCalls.{now_reading, sync_and_reads, sync_failed, synced_reads}
use Rattle.sis_journal.proofs.Readings.{moved, passed_on}
use Rattle.sis_journal.proofs.journal.Journal.open.Goals as goal

pub returns-in_err-sync_first-clause-calls : goal.returns-in_err-sync_first-clause-calls
returns-in_err-sync_first-clause-calls g c = sync_failed 4 _ _ _ c.in_err-sync_first.ensures.call

pub returns-in_err-area-clause-fault : goal.returns-in_err-area-clause-fault
returns-in_err-area-clause-fault g c =
    let old = live_of (g.D.Disk.seen c.args.disk.now) in
    passed_on c.from_residual-in_err-area.result c.in_err-area.field-0.0 (λ fault. IfSome old (λ live. FailsReading fault (read_by g.K.Kept.read live))) c.from_residual-in_err-area.ensures.1
    (moved _ old (λ live. FailsReading c.in_err-area.field-0.0 (read_by g.K.Kept.read live)) c.sync_first.ensures.live c.in_err-area.ensures.fault)

pub returns-in_err-area-clause-calls : goal.returns-in_err-area-clause-calls
returns-in_err-area-clause-calls g c = sync_and_reads 4 _ _ _ _ c.in_ok-sync_first.ensures.call c.read_image.ensures.reads

pub returns-clause-calls : goal.returns-clause-calls
returns-clause-calls g c = sync_and_reads 4 _ _ _ _ c.in_ok-sync_first.ensures.call c.read_image.ensures.reads

pub returns-in_err-area-clause-synced : goal.returns-in_err-area-clause-synced
returns-in_err-area-clause-synced g c fine = synced_reads 4 _ _ _ _ c.in_ok-sync_first.ensures.call c.read_image.ensures.reads

pub returns-clause-synced : goal.returns-clause-synced
returns-clause-synced g c fine = synced_reads 4 _ _ _ _ c.in_ok-sync_first.ensures.call c.read_image.ensures.reads

pub returns-clause-image : goal.returns-clause-image
returns-clause-image g c =
    moved _ (live_of (g.D.Disk.seen c.args.disk.now)) _ c.sync_first.ensures.live c.in_ok-area.ensures.image

pub returns-clause-stable : goal.returns-clause-stable
returns-clause-stable g c =
    now_reading (λ s. s.loose ≡ []) 4 _ _ c.read_image.ensures.reads c.in_ok-sync_first.ensures.stable

pub returns-clause-kept : goal.returns-clause-kept
returns-clause-kept g c =
    now_reading (KeepsText c.in_ok-area.layout c.in_ok-area.area.second (g.K.Kept.text c.in_ok-area.value)) 4 _ _ c.read_image.ensures.reads
    (text_kept c.in_ok-area.layout c.in_ok-area.area.second (g.K.Kept.text c.in_ok-area.value) (g.D.Disk.seen c.sync_first.new.disk) c.in_ok-area.ensures.holds c.in_ok-area.ensures.selector
    c.in_ok-sync_first.ensures.stable)
