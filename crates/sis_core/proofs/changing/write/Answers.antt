use Rattle.std.proofs.Common.{◌+◌, ◌≤◌, inl, inr, length, refl, ap, arith}
use Rattle.std.specs.Prelude.{Ok, Err}
use Rattle.sis_model.specs.declared.command.Command.TheVariants as asked
use Rattle.sis_table.specs.Volume.{node_with}
use Rattle.sis_volume.specs.Stopping.{StopsWell}
use Rattle.sis_core.specs.Session.{session}
use Rattle.sis_core.proofs.Opened.{at_node, is_opened, open_file, there_says}
use Rattle.sis_core.proofs.Changed.{Writes, not_writer, write_too_much, written_err, written_ok}
use Rattle.sis_core.proofs.changing.write.Goals.{then-len-gt-MOST_BYTES-via-then-len-gt-MOST_BYTES, then-len-gt-MOST_BYTES-via-else-len-gt-MOST_BYTES+then-at-len}
use Rattle.sis_core.proofs.changing.write.Goals as goal

pub returns-in-Err-clause-decides : goal.returns-in-Err-clause-decides
returns-in-Err-clause-decides g c = λ w shows.
    not_writer w (session c.args.volume.now c.args.opens.now) c.args.client c.args.number
    (asked.Write c.args.number c.args.at c.args.bytes.now) _ c.in-Err.refusal shows c.requires.table
    c.requires.up c.in-Err.ensures.err refl refl refl

pub returns-then-len-gt-MOST_BYTES-clause-decides :
    goal.returns-then-len-gt-MOST_BYTES-clause-decides
returns-then-len-gt-MOST_BYTES-clause-decides g c = λ w shows.
    let s = session c.args.volume.now c.args.opens.now in
    let is = is_opened w s c.args.client c.args.number c.in-Ok.this shows c.requires.table
    (c.in-Ok.ensures.ok).0 in
    write_too_much w s c.args.client c.args.number c.in-Ok.this is.0 shows c.requires.up is.1
    c.args.at c.args.bytes.now (c.in-Ok.ensures.ok).1
    (elim c.then-len-gt-MOST_BYTES.branch [
      | then-len-gt-MOST_BYTES-via-then-len-gt-MOST_BYTES b ↦
          inl (omega (arith, ap length c.as_slice.ensures))
      | then-len-gt-MOST_BYTES-via-else-len-gt-MOST_BYTES+then-at-len b ↦
          inr (
            omega (arith, ap length c.as_slice.ensures),
            omega (arith, ap length c.as_slice.ensures),
          )
    ])

pub write-requires-clause-there : goal.write-requires-clause-there
write-requires-clause-there g c =
    open_file c.args.volume.now.table c.args.opens.now c.args.client c.args.number c.in-Ok.this
    c.requires.there (c.in-Ok.ensures.ok).0

pub returns-in-Ok-write-clause-decides : goal.returns-in-Ok-write-clause-decides
returns-in-Ok-write-clause-decides g c = λ w shows.
    let s = session c.args.volume.now c.args.opens.now in
    let bytes = c.as_slice-2.result.now in
    let is = is_opened w s c.args.client c.args.number c.in-Ok.this shows c.requires.table
    (c.in-Ok.ensures.ok).0 in
    let long = ap length c.as_slice.ensures in
    let same = ap length c.as_slice-2.ensures in
    let short : length bytes ≤ 65536 = omega (arith, long, same) in
    let end : c.args.at + length bytes ≤ 68719476736 = omega (arith, long, same, short) in
    rw c.as_slice-2.ensures at (written_ok w s c.args.client c.args.number c.in-Ok.this is.0
    shows c.requires.up is.1 (c.in-Ok.ensures.ok).1 c.args.at bytes short end
    (Ok c.in-Ok-write.field-0)
    c.in-Ok-write.field-0 c.write.new.volume
    (at_node (Writes c.args.at c.as_slice-2.result.now (Ok c.in-Ok-write.field-0)
    c.args.volume.now c.write.new.volume)
    (node_with c.args.volume.now.table c.in-Ok.this.file) is.0 (is.1).there
    c.in-Ok-write.ensures.leaves) c.in-Ok-write.ensures.nothing refl)

pub returns-in-Ok-write-clause-stops : goal.returns-in-Ok-write-clause-stops
returns-in-Ok-write-clause-stops g c =
    there_says (Writes c.args.at c.as_slice-2.result.now (Ok c.in-Ok-write.field-0)
    c.args.volume.now c.write.new.volume)
    (StopsWell c.args.volume.now c.write.new.volume)
    (node_with c.args.volume.now.table c.in-Ok.this.file) (λ n left. left.stops)
    c.in-Ok-write.ensures.leaves

pub returns-in-Err-write-clause-decides : goal.returns-in-Err-write-clause-decides
returns-in-Err-write-clause-decides g c = λ w shows.
    let s = session c.args.volume.now c.args.opens.now in
    let bytes = c.as_slice-2.result.now in
    let is = is_opened w s c.args.client c.args.number c.in-Ok.this shows c.requires.table
    (c.in-Ok.ensures.ok).0 in
    let long = ap length c.as_slice.ensures in
    let same = ap length c.as_slice-2.ensures in
    let short : length bytes ≤ 65536 = omega (arith, long, same) in
    let end : c.args.at + length bytes ≤ 68719476736 = omega (arith, long, same, short) in
    rw c.as_slice-2.ensures at (written_err w s c.args.client c.args.number c.in-Ok.this is.0
    shows c.requires.up is.1 (c.in-Ok.ensures.ok).1 c.args.at bytes short end
    (Err c.in-Err-write.by)
    c.in-Err-write.by c.write.new.volume
    (at_node (Writes c.args.at c.as_slice-2.result.now (Err c.in-Err-write.by) c.args.volume.now
    c.write.new.volume)
    (node_with c.args.volume.now.table c.in-Ok.this.file) is.0 (is.1).there
    c.in-Err-write.ensures.leaves) c.in-Err-write.ensures.nothing refl)

pub returns-in-Err-write-clause-stops : goal.returns-in-Err-write-clause-stops
returns-in-Err-write-clause-stops g c =
    there_says (Writes c.args.at c.as_slice-2.result.now (Err c.in-Err-write.by) c.args.volume.now
    c.write.new.volume)
    (StopsWell c.args.volume.now c.write.new.volume)
    (node_with c.args.volume.now.table c.in-Ok.this.file) (λ n left. left.stops)
    c.in-Err-write.ensures.leaves
