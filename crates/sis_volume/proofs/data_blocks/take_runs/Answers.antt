use Rattle.std.proofs.Common.{get_or}
use Rattle.std.proofs.lemmas.List.{get_or_default}
use Rattle.sis_ranges.specs.declared.run.Run.{Run}
use Rattle.sis_volume.proofs.TableBits.{taken_all, taken_more, taken_none}
use Rattle.sis_volume.proofs.data_blocks.take_runs.Goals as goal

abbrev none : Run
none = record { first = 0; count = 0; place = 0 }

pub loop-run-init : goal.loop-run-init
loop-run-init c = taken_none c.args.low c.args.places.now

pub loop-run-preserved : goal.loop-run-preserved
loop-run-preserved c =
    let runs = c.args.runs.now in
    let i = c.loop-run.run-index in
    let r = get_or runs i none in
    rw c.take.ensures (taken_more c.args.low runs i r c.args.places.now c.loop-run.places c.loop-run-test.true
    (get_or_default runs i none r c.loop-run-test.true) (c.requires i none c.loop-run-test.true) c.loop-run.invariant)

pub returns : goal.returns
returns c = taken_all c.args.low c.args.runs.now c.loop-run.run-index c.args.places.now c.loop-run.places c.loop-run-test.false c.loop-run.invariant
