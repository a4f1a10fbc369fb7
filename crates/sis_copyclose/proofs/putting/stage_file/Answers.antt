use Rattle.std.proofs.Common.{◌≡◌, ◌*◌, ◌/◌, ◌∙◌, List, sym, ap, subst, arith, length}
use Rattle.sis_disk.specs.Record.{live_of}
use Rattle.sis_history.specs.Needs.{put_need}
use Rattle.sis_model.specs.declared.reply.Hindrance.{Hindrance}
use Rattle.sis_model.specs.declared.reply.Hindrance.TheVariants as hindrance
use Rattle.sis_table.specs.Volume.{IsTable, blocks_of}
use Rattle.sis_table.proofs.ChangesBytes.{length-resized}
use Rattle.sis_copyclose.specs.Changed.{IsWithFile}
use Rattle.sis_copyclose.specs.Inside.{GivesUp}
use Rattle.sis_copyclose.proofs.MakingRoom.{unhindered_by}
use Rattle.sis_copyclose.proofs.Needing.{put_asks}
use Rattle.sis_copyclose.proofs.Operations.{given_up, gives_up_wider, memory_short, work_short}
use Rattle.sis_copyclose.proofs.StagedFile.{file_room, file_staged, may_make}
use Rattle.sis_copyclose.proofs.Works.{readied_then, readied_wider, reading_wider, sized_kept}
use Rattle.sis_copyclose.proofs.putting.stage_file.Goals as goal

pub returns-in_err-make_room-clause-fails : goal.returns-in_err-make_room-clause-fails
returns-in_err-make_room-clause-fails g c =
    let v = c.args.volume.now in
    let size = length c.args.bytes.now in
    let same : blocks_of size ≡ c.div_ceil.result = omega (arith, c.div_ceil.ensures) in
    let asks = put_asks v.table size c.new_file_limit.ensures.table (c.new_file_limit.ensures.files c.in_default.is) (c.new_file_limit.ensures.ids c.in_default.is) in
    given_up c.from_residual.result c.in_err-make_room.field-0.0 _ c.from_residual.ensures.1
    (gives_up_wider (put_need size) (IsWithFile v.table c.args.name.now size) 0 (blocks_of size) v c.make_room.new.volume c.in_err-make_room.field-0.0
    (omega arith) (c.in_err-make_room.ensures.fails (put_need size) same asks))

pub returns-in_err-txn-clause-fails : goal.returns-in_err-txn-clause-fails
returns-in_err-txn-clause-fails g c =
    let v = c.args.volume.now in
    let size = length c.args.bytes.now in
    let same : blocks_of size ≡ c.div_ceil.result = omega (arith, c.div_ceil.ensures) in
    let ready = readied_wider (put_need size) 0 (blocks_of size) v c.make_room.new.volume (omega arith) (c.in_ok-make_room.ensures.ready (put_need size) same) in
    given_up c.from_residual-in_err-txn.result c.in_err-txn.field-0.0 _ c.from_residual-in_err-txn.ensures.1
    (subst (λ (h : Hindrance). GivesUp (put_need size) (IsWithFile v.table c.args.name.now size) (blocks_of size) v c.make_room.new.volume h)
    (sym c.in_err-txn.ensures.memory)
    (memory_short (put_need size) (IsWithFile v.table c.args.name.now size) (blocks_of size) v
    c.make_room.new.volume ready c.in_ok-make_room.ensures.quiet))

pub returns-in_err-blocks-clause-fails : goal.returns-in_err-blocks-clause-fails
returns-in_err-blocks-clause-fails g c =
    let v = c.args.volume.now in
    let size = length c.args.bytes.now in
    let same : blocks_of size ≡ c.div_ceil.result = omega (arith, c.div_ceil.ensures) in
    let ready = readied_wider (put_need size) 0 (blocks_of size) v c.make_room.new.volume (omega arith) (c.in_ok-make_room.ensures.ready (put_need size) same) in
    given_up c.from_residual-in_err-blocks.result hindrance.Memory _ c.from_residual-in_err-blocks.ensures.1
    (memory_short (put_need size) (IsWithFile v.table c.args.name.now size) (blocks_of size) v
    c.make_room.new.volume ready c.in_ok-make_room.ensures.quiet)

pub stage_blocks-requires-clause-up : goal.stage_blocks-requires-clause-up
stage_blocks-requires-clause-up g c =
    let size = length c.args.bytes.now in
    let same : blocks_of size ≡ c.div_ceil.result = omega (arith, c.div_ceil.ensures) in
    (c.in_ok-make_room.ensures.ready (put_need size) same).up.down

pub stage_blocks-requires-clause-table : goal.stage_blocks-requires-clause-table
stage_blocks-requires-clause-table g c =
    let size = length c.args.bytes.now in
    let same : blocks_of size ≡ c.div_ceil.result = omega (arith, c.div_ceil.ensures) in
    subst IsTable (sym (c.in_ok-make_room.ensures.ready (put_need size) same).table)
    c.new_file_limit.ensures.table

pub stage_blocks-requires-clause-room : goal.stage_blocks-requires-clause-room
stage_blocks-requires-clause-room g c =
    let size = length c.args.bytes.now in
    let same : blocks_of size ≡ c.div_ceil.result = omega (arith, c.div_ceil.ensures) in
    let len : length c.deref.result.now ≡ 4096 * blocks_of size =
    ap (λ (xs : List _). length xs) (c.deref.ensures.value ∙ c.in_ok-blocks.ensures) ∙ length-resized (4096 * blocks_of size) c.args.bytes.now in
    file_room c.make_room.new.volume c.in_ok-txn.txn c.next_id-id.result size c.args.name.now c.div_ceil.result (length c.deref.result.now)
    c.in_ok-txn.ensures.edits c.in_ok-make_room.ensures.spare (omega (arith, len, same))

pub returns-in_err-stage_blocks-clause-fails : goal.returns-in_err-stage_blocks-clause-fails
returns-in_err-stage_blocks-clause-fails g c =
    let v = c.args.volume.now in
    let size = length c.args.bytes.now in
    let same : blocks_of size ≡ c.div_ceil.result = omega (arith, c.div_ceil.ensures) in
    let len : length c.deref.result.now ≡ 4096 * blocks_of size =
    ap (λ (xs : List _). length xs) (c.deref.ensures.value ∙ c.in_ok-blocks.ensures) ∙ length-resized (4096 * blocks_of size) c.args.bytes.now in
    let asks = put_asks v.table size c.new_file_limit.ensures.table (c.new_file_limit.ensures.files c.in_default.is) (c.new_file_limit.ensures.ids c.in_default.is) in
    let by = c.in_err-stage_blocks.field-0.0 in
    let ready = readied_then (put_need size) 0 (length c.deref.result.now / 4096) (blocks_of size) v
    c.make_room.new.volume c.stage_blocks.new.volume
    (omega (arith, len)) c.requires.up (c.in_ok-make_room.ensures.ready (put_need size) same)
    c.stage_blocks.ensures.works in
    given_up c.from_residual-in_err-stage_blocks.result by _
    c.from_residual-in_err-stage_blocks.ensures.1
    (work_short (put_need size) (IsWithFile v.table c.args.name.now size) (blocks_of size) v
    c.stage_blocks.new.volume ready by
    (unhindered_by v.table (put_need size) c.div_ceil.result asks same c.in_ok-make_room.ensures.fits)
    (reading_wider (length c.deref.result.now / 4096) (blocks_of size) v.seen
    c.make_room.new.volume.seen c.stage_blocks.new.volume.seen by
    (omega (arith, len)) c.in_ok-make_room.ensures.quiet c.in_err-stage_blocks.ensures.cause))

pub returns-clause-ready : goal.returns-clause-ready
returns-clause-ready g c =
    let v = c.args.volume.now in
    let size = length c.args.bytes.now in
    let same : blocks_of size ≡ c.div_ceil.result = omega (arith, c.div_ceil.ensures) in
    let len : length c.deref.result.now ≡ 4096 * blocks_of size =
    ap (λ (xs : List _). length xs) (c.deref.ensures.value ∙ c.in_ok-blocks.ensures) ∙ length-resized (4096 * blocks_of size) c.args.bytes.now in
    readied_then (put_need size) 0 (length c.deref.result.now / 4096) (blocks_of size) v
    c.make_room.new.volume c.stage_blocks.new.volume
    (omega (arith, len)) c.requires.up (c.in_ok-make_room.ensures.ready (put_need size) same)
    c.stage_blocks.ensures.works

pub returns-clause-staged : goal.returns-clause-staged
returns-clause-staged g c =
    let v = c.args.volume.now in
    let size = length c.args.bytes.now in
    let same : blocks_of size ≡ c.div_ceil.result = omega (arith, c.div_ceil.ensures) in
    let len : length c.deref.result.now ≡ 4096 * blocks_of size =
    ap (λ (xs : List _). length xs) (c.deref.ensures.value ∙ c.in_ok-blocks.ensures) ∙ length-resized (4096 * blocks_of size) c.args.bytes.now in
    let nodes = c.new_file_limit.ensures.files c.in_default.is in
    let ids = c.new_file_limit.ensures.ids c.in_default.is in
    let table = c.new_file_limit.ensures.table in
    let room = c.in_ok-make_room.ensures.ready (put_need size) same in
    let ready = readied_then (put_need size) 0 (length c.deref.result.now / 4096) (blocks_of size) v
    c.make_room.new.volume c.stage_blocks.new.volume
    (omega (arith, len)) c.requires.up room c.stage_blocks.ensures.works in
    file_staged v c.make_room.new.volume (live_of c.stage_blocks.new.volume.seen) c.args.name.now
    c.args.bytes.now c.deref.result.now c.next_id-id.result
    c.in_ok-txn.txn c.stage_blocks.new.txn c.in_ok-stage_blocks.ensures.ok.0 table room.table
    c.next_id-id.ensures.id (c.deref.ensures.value ∙ c.in_ok-blocks.ensures)
    c.in_ok-txn.ensures.edits c.in_ok-stage_blocks.ensures.ok.1
    (sized_kept v.table (live_of v.seen) (live_of c.stage_blocks.new.volume.seen) ready.places
    c.new_file_limit.ensures.sized)
    (may_make v.table c.args.name.now ids nodes c.in_ok-txn.ensures.name c.requires.user c.requires.free)
    (unhindered_by v.table (put_need size) c.div_ceil.result (put_asks v.table size table nodes ids) same c.in_ok-make_room.ensures.fits)
