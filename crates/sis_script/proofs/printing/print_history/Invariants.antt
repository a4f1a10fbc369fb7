use Rattle.std.proofs.Common.{◌≤◌, take}
use Rattle.sis_disk.specs.Streams.{Appended}
use Rattle.sis_script.specs.Printed.{printed}
use Rattle.sis_script.proofs.printing.print_history.Given as goal

abbrev pub invariant-loop-entry : goal.invariant-loop-entry
invariant-loop-entry g l = record {
  written : Appended (g.K.Sink.written l.fn.sink) (g.K.Sink.written l.sink) (printed (take l.entry-index l.entry-items));
  later : g.K.Sink.faults l.fn.sink ≤ g.K.Sink.faults l.sink;
}
