use Rattle.std.proofs.Common.{refl}
use Rattle.std.specs.Prelude.{Ok, Err, ⊤}
use Rattle.sis_model.specs.declared.command.Command.TheVariants as asked
use Rattle.sis_table.specs.Volume.{node_with}
use Rattle.sis_volume.specs.Stopping.{StopsWell}
use Rattle.sis_core.specs.Session.{session}
use Rattle.sis_core.proofs.Opened.{at_node, is_opened, open_file, there_says}
use Rattle.sis_core.proofs.Changed.{Sizes, Stays, not_writer, size_too_much, sized_err, sized_ok}
use Rattle.sis_core.proofs.changing.set_size.Goals as goal

pub returns-in-Err-clause-decides : goal.returns-in-Err-clause-decides
returns-in-Err-clause-decides g c = λ w shows.
    not_writer w (session c.args.volume.now c.args.opens.now) c.args.client c.args.number
    (asked.Size c.args.number c.args.len) _ c.in-Err.refusal shows c.requires.table
    c.requires.up c.in-Err.ensures.err refl refl refl

pub returns-then-len-gt-GREATEST_SIZE-clause-decides :
    goal.returns-then-len-gt-GREATEST_SIZE-clause-decides
returns-then-len-gt-GREATEST_SIZE-clause-decides g c = λ w shows.
    let s = session c.args.volume.now c.args.opens.now in
    let is = is_opened w s c.args.client c.args.number c.in-Ok.this shows c.requires.table
    (c.in-Ok.ensures.ok).0 in
    size_too_much w s c.args.client c.args.number c.in-Ok.this is.0 shows c.requires.up is.1
    c.args.len (c.in-Ok.ensures.ok).1 c.if-len-gt-GREATEST_SIZE.true

pub set_size-requires-clause-there : goal.set_size-requires-clause-there
set_size-requires-clause-there g c =
    open_file c.args.volume.now.table c.args.opens.now c.args.client c.args.number c.in-Ok.this
    c.requires.there (c.in-Ok.ensures.ok).0

pub returns-in-Ok-set_size-clause-decides : goal.returns-in-Ok-set_size-clause-decides
returns-in-Ok-set_size-clause-decides g c = λ w shows.
    let s = session c.args.volume.now c.args.opens.now in
    let is = is_opened w s c.args.client c.args.number c.in-Ok.this shows c.requires.table
    (c.in-Ok.ensures.ok).0 in
    sized_ok w s c.args.client c.args.number c.in-Ok.this is.0 shows c.requires.up is.1
    (c.in-Ok.ensures.ok).1 c.args.len c.if-len-gt-GREATEST_SIZE.false (Ok c.in-Ok-set_size.field-0)
    c.in-Ok-set_size.field-0 c.set_size.new.volume
    (at_node (Sizes c.args.len (Ok c.in-Ok-set_size.field-0) c.args.volume.now
    c.set_size.new.volume)
    (node_with c.args.volume.now.table c.in-Ok.this.file) is.0 (is.1).there
    c.in-Ok-set_size.ensures.leaves)
    (at_node (Stays {T = ⊤} c.args.len (Ok c.in-Ok-set_size.field-0) c.args.volume.now
    c.set_size.new.volume)
    (node_with c.args.volume.now.table c.in-Ok.this.file) is.0 (is.1).there
    c.in-Ok-set_size.ensures.nothing) refl

pub returns-in-Ok-set_size-clause-stops : goal.returns-in-Ok-set_size-clause-stops
returns-in-Ok-set_size-clause-stops g c =
    there_says (Sizes c.args.len (Ok c.in-Ok-set_size.field-0) c.args.volume.now
    c.set_size.new.volume)
    (StopsWell c.args.volume.now c.set_size.new.volume)
    (node_with c.args.volume.now.table c.in-Ok.this.file) (λ n left. left.stops)
    c.in-Ok-set_size.ensures.leaves

pub returns-in-Err-set_size-clause-decides : goal.returns-in-Err-set_size-clause-decides
returns-in-Err-set_size-clause-decides g c = λ w shows.
    let s = session c.args.volume.now c.args.opens.now in
    let is = is_opened w s c.args.client c.args.number c.in-Ok.this shows c.requires.table
    (c.in-Ok.ensures.ok).0 in
    sized_err w s c.args.client c.args.number c.in-Ok.this is.0 shows c.requires.up is.1
    (c.in-Ok.ensures.ok).1 c.args.len c.if-len-gt-GREATEST_SIZE.false (Err c.in-Err-set_size.by)
    c.in-Err-set_size.by c.set_size.new.volume
    (at_node (Sizes c.args.len (Err c.in-Err-set_size.by) c.args.volume.now c.set_size.new.volume)
    (node_with c.args.volume.now.table c.in-Ok.this.file) is.0 (is.1).there
    c.in-Err-set_size.ensures.leaves)
    (at_node (Stays {T = ⊤} c.args.len (Err c.in-Err-set_size.by) c.args.volume.now
    c.set_size.new.volume)
    (node_with c.args.volume.now.table c.in-Ok.this.file) is.0 (is.1).there
    c.in-Err-set_size.ensures.nothing) refl

pub returns-in-Err-set_size-clause-stops : goal.returns-in-Err-set_size-clause-stops
returns-in-Err-set_size-clause-stops g c =
    there_says (Sizes c.args.len (Err c.in-Err-set_size.by) c.args.volume.now c.set_size.new.volume)
    (StopsWell c.args.volume.now c.set_size.new.volume)
    (node_with c.args.volume.now.table c.in-Ok.this.file) (λ n left. left.stops)
    c.in-Err-set_size.ensures.leaves
