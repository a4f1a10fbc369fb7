use Rattle.std.proofs.Common.{◌∙◌, sym, refl}
use Rattle.std.specs.Prelude.{Ok, Err}
use Rattle.sis_copyclose.specs.Reading.{Appends, OnlyLooks}
use Rattle.sis_disk.specs.Record.{live_of}
use Rattle.sis_history.specs.Needs.{reads_in}
use Rattle.sis_model.specs.declared.command.Command.TheVariants as asked
use Rattle.sis_table.specs.Volume.{node_with}
use Rattle.sis_core.specs.Session.{session}
use Rattle.sis_core.proofs.Opened.{at_node, is_opened, open_file, read_done, read_failed, read_too_far, unopened}
use Rattle.sis_core.proofs.changing.read.Goals as goal

pub returns-in_default-clause-decides : goal.returns-in_default-clause-decides
returns-in_default-clause-decides g c = λ w shows.
    unopened w (session c.args.volume.now c.args.opens.now) c.args.client c.args.number
    (asked.Read c.args.number c.args.range.at c.args.range.len) c.find.result shows c.requires.up
    c.find.ensures c.in_default.is refl (λ none. rw none refl)

pub returns-then-range-gt-MOST_BYTES-clause-decides :
    goal.returns-then-range-gt-MOST_BYTES-clause-decides
returns-then-range-gt-MOST_BYTES-clause-decides g c = λ w shows.
    let s = session c.args.volume.now c.args.opens.now in
    let is = is_opened w s c.args.client c.args.number c.in-Some.this shows c.requires.table
    (sym c.find.ensures ∙ c.in-Some.is) in
    read_too_far w s c.args.client c.args.number c.args.range c.in-Some.this is.0 shows
    c.requires.up is.1 c.then-range-gt-MOST_BYTES.either

pub read-requires : goal.read-requires
read-requires g c =
    open_file c.args.volume.now.table c.args.opens.now c.args.client c.args.number c.in-Some.this
    c.requires.there (sym c.find.ensures ∙ c.in-Some.is)

pub returns-in-Ok-clause-decides : goal.returns-in-Ok-clause-decides
returns-in-Ok-clause-decides g c = λ w shows.
    let old = c.args.volume.now in
    let s = session old c.args.opens.now in
    let is = is_opened w s c.args.client c.args.number c.in-Some.this shows c.requires.table
    (sym c.find.ensures ∙ c.in-Some.is) in
    let node = node_with old.table c.in-Some.this.file in
    let looks = at_node (λ n. OnlyLooks (reads_in c.args.range n) (Ok c.in-Ok.field-0) old
    c.read.new.volume) node is.0 (is.1).there c.in-Ok.ensures.looks in
    let appends = at_node (λ n. Appends old.table n c.args.range (live_of old.seen)
    c.new-bytes.result.items c.read.new.out.items) node is.0 (is.1).there c.in-Ok.ensures.ok in
    rw c.from_vec.ensures (read_done w s c.read.new.volume c.args.client c.args.number c.args.range
    c.in-Some.this is.0 shows c.requires.table c.requires.up is.1 c.if-range-gt-MOST_BYTES.false
    c.if-range-gt-GREATEST_SIZE.false (Ok c.in-Ok.field-0) c.new-bytes.result.items
    c.read.new.out.items looks appends c.new-bytes.ensures.items looks.quiet)

pub returns-in-Err-clause-decides : goal.returns-in-Err-clause-decides
returns-in-Err-clause-decides g c = λ w shows.
    let old = c.args.volume.now in
    let s = session old c.args.opens.now in
    let is = is_opened w s c.args.client c.args.number c.in-Some.this shows c.requires.table
    (sym c.find.ensures ∙ c.in-Some.is) in
    let looks = at_node (λ n. OnlyLooks (reads_in c.args.range n) (Err c.in-Err.by) old
    c.read.new.volume) (node_with old.table c.in-Some.this.file) is.0 (is.1).there
    c.in-Err.ensures.looks in
    read_failed w s c.read.new.volume c.args.client c.args.number c.args.range
    c.in-Some.this is.0 shows c.requires.table c.requires.up is.1 c.if-range-gt-MOST_BYTES.false
    c.if-range-gt-GREATEST_SIZE.false (Err c.in-Err.by) c.in-Err.by looks
    (looks.cause c.requires.up)
