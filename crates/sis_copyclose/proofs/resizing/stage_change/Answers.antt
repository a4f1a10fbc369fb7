use Rattle.std.proofs.Common.{◌∙◌, length, sym, subst, refl, ap}
use Rattle.sis_model.specs.declared.reply.Hindrance.TheVariants as hindrance
use Rattle.sis_table.specs.Volume.{IsTable}
use Rattle.sis_volume.specs.View.{VolumeView}
use Rattle.sis_copyclose.proofs.ChangeSteps.{change_ready, later_same, memory_of, room_short, room_table, room_there, room_up, stage_short, text_short, version_short}
use Rattle.sis_copyclose.proofs.ChangeStaged.{change_room, change_staged, end_block, later_sized}
use Rattle.sis_copyclose.proofs.Operations.{given_up}
use Rattle.sis_copyclose.proofs.resizing.stage_change.Goals as goal

pub returns-then-plan-ge-GREATEST_NUMBER-clause-fails : goal.returns-then-plan-ge-GREATEST_NUMBER-clause-fails
returns-then-plan-ge-GREATEST_NUMBER-clause-fails g c =
    version_short c.args.volume.now c.args.file c.args.size c.args.at (length c.args.bytes.now) c.plan_in-plan.result c.requires.up
    c.plan_in-plan.ensures.table c.plan_in-plan.ensures.plan c.if-plan-ge-GREATEST_NUMBER.true

pub returns-in_err-make_room-clause-fails : goal.returns-in_err-make_room-clause-fails
returns-in_err-make_room-clause-fails g c =
    let by = c.in_err-make_room.field-0.0 in
    given_up c.from_residual.result by _ c.from_residual.ensures.1
    (room_short c.args.volume.now c.args.file c.args.size c.args.at (length c.args.bytes.now) c.plan_in-plan.result c.requires.up
    c.plan_in-plan.ensures.table c.plan_in-plan.ensures.plan c.make_room.new.volume by c.if-plan-ge-GREATEST_NUMBER.false
    c.in_err-make_room.ensures.fails)

pub texts_of-requires-clause-up : goal.texts_of-requires-clause-up
texts_of-requires-clause-up g c = room_up c.args.volume.now c.make_room.new.volume _ c.in_ok-make_room.ensures.ready

pub texts_of-requires-clause-there : goal.texts_of-requires-clause-there
texts_of-requires-clause-there g c =
    room_there c.args.volume.now c.make_room.new.volume _ c.args.file _ _ c.in_ok-make_room.ensures.ready (λ n h. h.plain) c.requires.change

pub texts_of-requires-clause-old : goal.texts_of-requires-clause-old
texts_of-requires-clause-old g c =
    room_there c.args.volume.now c.make_room.new.volume _ c.args.file _ _ c.in_ok-make_room.ensures.ready (λ n h. h.size_is) c.plan_in-plan.ensures.plan

pub returns-in_err-texts-clause-fails : goal.returns-in_err-texts-clause-fails
returns-in_err-texts-clause-fails g c =
    let by = c.in_err-texts.field-0.0 in
    given_up c.from_residual-in_err-texts.result by _ c.from_residual-in_err-texts.ensures.1
    (text_short c.args.volume.now c.args.file c.args.size c.args.at (length c.args.bytes.now) c.plan_in-plan.result c.requires.up
    c.plan_in-plan.ensures.table c.plan_in-plan.ensures.plan c.make_room.new.volume c.texts_of.new.volume c.in_ok-make_room.ensures.ready
    c.texts_of.ensures.works by c.if-plan-ge-GREATEST_NUMBER.false c.in_ok-make_room.ensures.fits
    c.in_ok-make_room.ensures.quiet c.in_err-texts.ensures.cause)

pub returns-in_err-txn-clause-fails : goal.returns-in_err-txn-clause-fails
returns-in_err-txn-clause-fails g c =
    given_up c.from_residual-in_err-txn.result hindrance.Memory _ c.from_residual-in_err-txn.ensures.1
    (memory_of c.args.volume.now c.args.file c.args.size c.args.at (length c.args.bytes.now) c.plan_in-plan.result c.requires.up
    c.plan_in-plan.ensures.table c.plan_in-plan.ensures.plan c.make_room.new.volume c.texts_of.new.volume c.in_ok-make_room.ensures.ready
    c.texts_of.ensures.works (c.in_ok-texts.ensures.quiet ∙ c.in_ok-make_room.ensures.quiet))

pub stage_texts-requires-clause-up : goal.stage_texts-requires-clause-up
stage_texts-requires-clause-up g c =
    ap (λ (v : VolumeView). v.down) (later_same c.make_room.new.volume c.texts_of.new.volume c.args.file _ c.texts_of.ensures.works)
    ∙ room_up c.args.volume.now c.make_room.new.volume _ c.in_ok-make_room.ensures.ready

pub stage_texts-requires-clause-table : goal.stage_texts-requires-clause-table
stage_texts-requires-clause-table g c =
    subst IsTable (sym (ap (λ (v : VolumeView). v.table) (later_same c.make_room.new.volume c.texts_of.new.volume c.args.file _ c.texts_of.ensures.works)
    ∙ room_table c.args.volume.now c.make_room.new.volume _ c.in_ok-make_room.ensures.ready)) c.plan_in-plan.ensures.table

pub returns-in_err-stage_texts-clause-fails : goal.returns-in_err-stage_texts-clause-fails
returns-in_err-stage_texts-clause-fails g c =
    let by = c.in_err-stage_texts.field-0.0 in
    given_up c.from_residual-in_err-stage_texts.result by _ c.from_residual-in_err-stage_texts.ensures.1
    (stage_short c.args.volume.now c.args.file c.args.size c.args.at (length c.args.bytes.now) c.plan_in-plan.result c.requires.up
    c.plan_in-plan.ensures.table c.plan_in-plan.ensures.plan c.make_room.new.volume c.texts_of.new.volume c.in_ok-make_room.ensures.ready
    c.texts_of.ensures.works c.stage_texts.new.volume by c.stage_texts.ensures.works c.if-plan-ge-GREATEST_NUMBER.false
    c.in_ok-make_room.ensures.fits (c.in_ok-texts.ensures.quiet ∙ c.in_ok-make_room.ensures.quiet)
    c.in_err-stage_texts.ensures.cause)

pub returns-clause-ready : goal.returns-clause-ready
returns-clause-ready g c =
    change_ready c.args.volume.now c.args.file c.args.size c.args.at (length c.args.bytes.now) c.plan_in-plan.result c.requires.up
    c.plan_in-plan.ensures.table c.plan_in-plan.ensures.plan c.make_room.new.volume c.texts_of.new.volume c.in_ok-make_room.ensures.ready
    c.texts_of.ensures.works c.stage_texts.new.volume c.stage_texts.ensures.works

pub stage_texts-requires-clause-room : goal.stage_texts-requires-clause-room
stage_texts-requires-clause-room g c =
    change_room c.make_room.new.volume c.texts_of.new.volume c.in_ok-txn.txn c.args.file c.args.size _ c.plan_in-plan.result
    (later_same c.make_room.new.volume c.texts_of.new.volume c.args.file _ c.texts_of.ensures.works) c.in_ok-txn.ensures c.in_ok-make_room.ensures.spare

pub stage_texts-requires-clause-end_block : goal.stage_texts-requires-clause-end_block
stage_texts-requires-clause-end_block g c =
    end_block c.args.volume.now.table c.args.file c.args.size c.args.at (length c.args.bytes.now) c.plan_in-plan.result c.plan_in-plan.ensures.table
    c.requires.change c.plan_in-plan.ensures.plan

pub stage_texts-requires-clause-sized : goal.stage_texts-requires-clause-sized
stage_texts-requires-clause-sized g c =
    later_sized c.args.volume.now c.make_room.new.volume c.texts_of.new.volume c.args.file _ _ c.in_ok-make_room.ensures.ready c.texts_of.ensures.works
    c.plan_in-plan.ensures.sized

pub returns-clause-staged : goal.returns-clause-staged
returns-clause-staged g c =
    change_staged c.args.volume.now c.make_room.new.volume c.texts_of.new.volume c.args.file _ _ c.in_ok-make_room.ensures.ready c.texts_of.ensures.works
    c.stage_texts.new.volume c.args.size c.args.at c.args.bytes.now c.in_ok-texts.texts.end.items c.in_ok-texts.texts.touched.items c.plan_in-plan.result
    c.in_ok-txn.txn.edits c.stage_texts.new.txn.edits c.requires.up c.plan_in-plan.ensures.table refl c.plan_in-plan.ensures.sized c.requires.change
    c.plan_in-plan.ensures.plan c.if-plan-ge-GREATEST_NUMBER.false c.in_ok-make_room.ensures.fits c.in_ok-texts.ensures.texts c.stage_texts.ensures.works
    c.in_ok-stage_texts.ensures.staged c.in_ok-txn.ensures
