use Rattle.std.proofs.Common.{false, get_or, arith}
use Rattle.std.proofs.lemmas.List.{get_or_default}
use Rattle.sis_disk.specs.Layout.{first_place}
use Rattle.sis_table.specs.declared.place_use.PlaceUse.{PlaceUse}
use Rattle.sis_volume.proofs.TableBits.{changed_all, changed_more, changed_none}
use Rattle.sis_volume.proofs.data_blocks.change_all.Goals as goal

abbrev none : PlaceUse
none = record { place = 0; count = 0; is_taken = false }

pub loop-one-init : goal.loop-one-init
loop-one-init c = changed_none _ c.args.places.now

pub loop-one-preserved : goal.loop-one-preserved
loop-one-preserved c =
    let uses = c.args.uses.now in
    let i = c.loop-one.one-index in
    let u = get_or uses i none in
    let lt = c.loop-one-test.true in
    let is = c.requires.uses i none lt in
    let low = is.low in
    let high = is.high in
    let has = c.requires.layout.has_data in
    let size = c.requires.size in
    let same = c.loop-one.invariant.size in
    rw (c.change.ensures, c.first_place-low.ensures)
    (changed_more (first_place c.args.layout.now) uses i u c.args.places.now c.loop-one.places lt
    (get_or_default uses i none u lt) low (omega arith) c.loop-one.invariant)

pub returns : goal.returns
returns c = changed_all _ c.args.uses.now c.loop-one.one-index c.args.places.now c.loop-one.places c.loop-one-test.false c.loop-one.invariant
