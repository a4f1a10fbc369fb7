use Rattle.sis_copyclose.proofs.MakingRoom.{room_fits, room_gives_up, room_ready}
use Rattle.sis_copyclose.proofs.rooms.make_room.Goals as goal

pub returns-clause-fits : goal.returns-clause-fits
returns-clause-fits g c =
    room_fits c.args.blocks c.args.volume.now c.room.new.self c.requires.up c.requires.table
    c.requires.sized c.room.ensures.table c.room.ensures.images c.room.ensures.files
    c.room.ensures.blocks c.room.ensures.elapses c.room.ensures.calls c.room.result
    c.room.ensures.enough c.room.ensures.ok c.room.ensures.full c.room.ensures.cause

pub returns-clause-ready : goal.returns-clause-ready
returns-clause-ready g c =
    room_ready c.args.blocks c.args.volume.now c.room.new.self c.requires.up c.requires.table
    c.requires.sized c.room.ensures.table c.room.ensures.images c.room.ensures.files
    c.room.ensures.blocks c.room.ensures.elapses c.room.ensures.calls c.room.result
    c.room.ensures.enough c.room.ensures.ok c.room.ensures.full c.room.ensures.cause
    c.room.ensures.well

pub returns-clause-fails : goal.returns-clause-fails
returns-clause-fails g c =
    room_gives_up c.args.blocks c.args.volume.now c.room.new.self c.requires.up c.requires.table
    c.requires.sized c.room.ensures.table c.room.ensures.images c.room.ensures.files
    c.room.ensures.blocks c.room.ensures.elapses c.room.ensures.calls c.room.result
    c.room.ensures.enough c.room.ensures.ok c.room.ensures.full c.room.ensures.cause
