use Rattle.std.proofs.Common.{◌≡◌, ◌∙◌, ◌+◌, drop, arith}
use Rattle.std.specs.Prelude.{slice_range}
use Rattle.byteorder.specs.Endian.{little_bytes, little_number}
use Rattle.sis_disk.specs.Record.{live_of}
use Rattle.sis_journal.proofs.ReadCalls.{reads_then}
use Rattle.sis_journal.proofs.Readings.{area_long, area_text, area_whole, moved}
use Rattle.sis_journal.proofs.opening.read_area.Goals as goal

pub returns-in_err-len-clause-reads : goal.returns-in_err-len-clause-reads
returns-in_err-len-clause-reads g c =
    reads_then 1 1 3 _ _ _ (omega arith) c.read_selector.ensures.reads c.read_len.ensures.reads

pub returns-then-len-cap-clause-reads : goal.returns-then-len-cap-clause-reads
returns-then-len-cap-clause-reads g c =
    reads_then 1 1 3 _ _ _ (omega arith) c.read_selector.ensures.reads c.read_len.ensures.reads

pub returns-in_err-buffer-clause-reads : goal.returns-in_err-buffer-clause-reads
returns-in_err-buffer-clause-reads g c =
    reads_then 2 1 3 _ _ _ (omega arith)
    (reads_then 1 1 2 _ _ _ (omega arith) c.read_selector.ensures.reads c.read_len.ensures.reads)
    c.read_text.ensures.reads

pub returns-clause-reads : goal.returns-clause-reads
returns-clause-reads g c =
    reads_then 2 1 3 _ _ _ (omega arith)
    (reads_then 1 1 2 _ _ _ (omega arith) c.read_selector.ensures.reads c.read_len.ensures.reads)
    c.read_text.ensures.reads

-- the length is greater than the area has room for
pub returns-then-len-cap-clause-fault : goal.returns-then-len-cap-clause-fault
returns-then-len-cap-clause-fault g c =
    let old = live_of (g.D.Disk.seen c.args.disk.now) in
    let mid = live_of (g.D.Disk.seen c.read_selector.new.disk) in
    area_long old c.args.layout.now c.in_ok-second.second c.area_start-at.result c.in_ok-len.len
    c.area_start-at.ensures (omega (arith, c.if-len-cap.true, c.cap.ensures)) c.in_ok-second.ensures.value
    (moved mid old (λ m. little_number 8 (drop c.area_start-at.result m) ≡ c.in_ok-len.len)
    c.read_selector.ensures.reads.live c.in_ok-len.ensures.value)

pub returns-clause-text : goal.returns-clause-text
returns-clause-text g c =
    let old = live_of (g.D.Disk.seen c.args.disk.now) in
    let mid = live_of (g.D.Disk.seen c.read_selector.new.disk) in
    let late = live_of (g.D.Disk.seen c.read_len.new.disk) in
    area_text old c.args.layout.now c.in_ok-second.second c.area_start-at.result c.in_ok-len.len
    c.in_ok-buffer.buffer.items c.area_start-at.ensures (omega arith) c.in_ok-second.ensures.value
    (moved mid old (λ m. little_number 8 (drop c.area_start-at.result m) ≡ c.in_ok-len.len)
    c.read_selector.ensures.reads.live c.in_ok-len.ensures.value)
    (moved late old (λ m. c.in_ok-buffer.buffer.items
    ≡ slice_range m (c.area_start-at.result + 8) (c.area_start-at.result + 8 + c.in_ok-len.len))
    (c.read_len.ensures.reads.live ∙ c.read_selector.ensures.reads.live)
    c.in_ok-buffer.ensures.text)

pub returns-clause-bytes : goal.returns-clause-bytes
returns-clause-bytes g c =
    let old = live_of (g.D.Disk.seen c.args.disk.now) in
    let mid = live_of (g.D.Disk.seen c.read_selector.new.disk) in
    let late = live_of (g.D.Disk.seen c.read_len.new.disk) in
    let at = c.area_start-at.result in
    area_whole old c.in_ok-buffer.buffer.items at c.in_ok-len.len
    (moved mid old (λ m. slice_range m at (at + 8) ≡ little_bytes 8 c.in_ok-len.len)
    c.read_selector.ensures.reads.live c.in_ok-len.ensures.bytes)
    (moved late old (λ m. c.in_ok-buffer.buffer.items
    ≡ slice_range m (at + 8) (at + 8 + c.in_ok-len.len))
    (c.read_len.ensures.reads.live ∙ c.read_selector.ensures.reads.live)
    c.in_ok-buffer.ensures.text) c.in_ok-buffer.ensures.size
