use Rattle.std.proofs.Common.{◌∷◌, [], List, ◌∙◌, ap, arith, length, length-append}
use Rattle.sis_disk.specs.Memory.{MemoryView}
use Rattle.sis_disk.specs.Record.{Call, with_call}
use Rattle.sis_disk.specs.Notes.{call_of}
use Rattle.sis_disk.proofs.Notes.{all_taken_push, calls_of_push}
use Rattle.sis_disk.proofs.log.Log.push.Goals as goal

pub invariant_of-self : goal.invariant_of-self
invariant_of-self c =
    let room = ap (λ (v : MemoryView). v.room) c.self.view_is in
    let notes = ap length c.note.ensures.notes in
    let row = ap length c.note.ensures.row in
    rw (c.note.ensures.notes, c.note.ensures.row) (
      omega (arith, all_taken_push c.self.inside.notes.items c.args.noted, length-append c.self.inside.row.items c.args.bytes.now, c.requires.size, c.self.invariant.0),
      omega (arith, room, c.requires.room, c.self.invariant.1, c.note.ensures.note_room, length-append c.self.inside.notes.items (c.args.noted ∷ [])),
      omega (arith, room, c.requires.room, c.self.invariant.2, c.note.ensures.row_room, length-append c.self.inside.row.items c.args.bytes.now),
    )

pub returns-clause-told : goal.returns-clause-told
returns-clause-told c =
    rw (c.note.ensures.notes, c.note.ensures.row)
    (ap (λ (cs : List Call). record { opening = c.self.inside.opening.items; calls = cs })
    (calls_of_push c.self.inside.notes.items c.self.inside.row.items c.args.noted c.args.bytes.now c.self.invariant.0 c.requires.size)
    ∙ ap (λ (v : MemoryView). with_call (call_of c.args.noted c.args.bytes.now) v.told) c.self.view_is)
