use Rattle.std.proofs.Common.{◌≡◌, false, sym, ◌∙◌}
use Rattle.std.specs.Prelude.{Result, Ok, Err, OnOk, is_err}
use Rattle.sis_volume.proofs.Written.{next_there, next_writes}
use Rattle.sis_volume.proofs.staging.stage_run.Goals as goal

when_ok : {T E : Type 0} (r : Result T E) (P : Type 0) → is_err r ≡ false → OnOk r P → P
when_ok (Ok x) P ok h = h
when_ok (Err e) P ok h = absurd cc

pub returns-then-is_err-clause-writes : goal.returns-then-is_err-clause-writes
returns-then-is_err-clause-writes g c =
    next_writes c.args.layout.now c.args.places.now c.args.txn.now.edits c.requires.layout c.requires.places
    c.args.first c.next_run-run.result c.args.bytes.now c.write.result
    (g.D.Disk.seen c.args.disk.now) (g.D.Disk.seen c.write.new.self) c.next_run-run.ensures.next c.write.ensures.call (g.met.D.Disk.sized c.args.disk.now) c.requires.size

pub returns-then-is_err-2-clause-writes : goal.returns-then-is_err-2-clause-writes
returns-then-is_err-2-clause-writes g c =
    next_writes c.args.layout.now c.args.places.now c.args.txn.now.edits c.requires.layout c.requires.places
    c.args.first c.next_run-run.result c.args.bytes.now c.write.result
    (g.D.Disk.seen c.args.disk.now) (g.D.Disk.seen c.write.new.self) c.next_run-run.ensures.next c.write.ensures.call (g.met.D.Disk.sized c.args.disk.now) c.requires.size

pub returns-clause-writes : goal.returns-clause-writes
returns-clause-writes g c =
    next_writes c.args.layout.now c.args.places.now c.args.txn.now.edits c.requires.layout c.requires.places
    c.args.first c.next_run-run.result c.args.bytes.now c.write.result
    (g.D.Disk.seen c.args.disk.now) (g.D.Disk.seen c.write.new.self) c.next_run-run.ensures.next c.write.ensures.call (g.met.D.Disk.sized c.args.disk.now) c.requires.size

pub returns-clause-ok : goal.returns-clause-ok
returns-clause-ok g c =
    let wrote : is_err c.write.result ≡ false = sym c.is_err.ensures.value ∙ c.if-is_err.false in
    let mapped : is_err c.map.result ≡ false = sym c.is_err-2.ensures.value ∙ c.if-is_err-2.false in
    record {
      next = c.next_run-run.ensures.next;
      txn = when_ok c.map.result _ mapped c.map.ensures.ok;
      written = next_there c.args.layout.now c.args.places.now c.args.txn.now.edits c.requires.layout c.requires.places
          c.args.first c.next_run-run.result c.args.bytes.now c.write.result
          (g.D.Disk.seen c.args.disk.now) (g.D.Disk.seen c.write.new.self) c.next_run-run.ensures.next c.write.ensures.call wrote (g.met.D.Disk.sized c.args.disk.now) c.requires.size;
    }
