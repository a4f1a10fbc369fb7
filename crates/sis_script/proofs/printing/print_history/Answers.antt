use Rattle.std.proofs.Common.{subst, sym, ap, ◌∙◌, arith}
use Rattle.sis_disk.specs.Streams.{Appended}
use Rattle.sis_disk.proofs.Appends.{Appended-more, AppendedFront-more}
use Rattle.sis_script.specs.Printed.{printed}
use Rattle.sis_script.proofs.PrintLemmas.{printed-more, printed-split}
use Rattle.sis_script.proofs.printing.print_history.Goals as goal

pub loop-entry-preserved : goal.loop-entry-preserved
loop-entry-preserved g c =
    let held = g.K.Sink.written in
    let es = c.as_slice-entry-items.result.now in
    let more = printed-more es c.loop-entry.entry-index c.entry-item.result c.loop-entry-test.true c.entry-item.is in
    record {
      written = subst (Appended (held c.args.sink.now) (held c.print_entry.new.sink)) (sym more) (Appended-more _ _ _ _ _ c.loop-entry.invariant.written c.in-Ok.ensures.ok);
      later = omega (arith, c.loop-entry.invariant.later, c.in-Ok.ensures.later);
    }

pub returns-in-Err-clause-err : goal.returns-in-Err-clause-err
returns-in-Err-clause-err g c =
    let es = c.as_slice-entry-items.result.now in
    let split = printed-split es c.loop-entry.entry-index c.entry-item.result c.loop-entry-test.true c.entry-item.is in
    AppendedFront-more _ _ _ _ _ _ _ (sym (ap printed c.as_slice-entry-items.ensures) ∙ split) c.loop-entry.invariant.written c.in-Err.ensures.err
