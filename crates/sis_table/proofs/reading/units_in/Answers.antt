use Rattle.std.proofs.Common.{arith, length-drop}
use Rattle.sis_table.specs.Reading.{units_of}
use Rattle.sis_table.proofs.ReadingLoops.{unit_read}
use Rattle.sis_table.proofs.reading.units_in.Goals as goal

pub loop-preserved : goal.loop-preserved
loop-preserved c =
    let long = c.loop.invariant.long in
    record {
      told = rw (c.in_ok-push.ensures.items, c.read_u16.ensures, c.split_at.ensures.back)
          (unit_read c.loop.units.items c.args.count c.loop.counter c.loop.rest.now (units_of c.args.count c.args.bytes.now) c.loop-test.true c.loop.invariant.told);
      long = omega (arith, long, length-drop 2 c.loop.rest.now);
    }
