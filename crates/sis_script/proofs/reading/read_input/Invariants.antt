use Rattle.std.proofs.Common.{◌≤◌, ◌-◌, length}
use Rattle.sis_script.specs.Taken.{HasRead}
use Rattle.sis_script.proofs.reading.read_input.Given as goal

abbrev pub invariant-reading : goal.invariant-reading
invariant-reading g l = record {
  read : HasRead (g.S.Source.left l.fn.source) (g.S.Source.left l.source) l.all.items;
  short : length l.all.items ≤ 16777217;
  later : g.S.Source.faults l.fn.source ≤ g.S.Source.faults l.source;
}

abbrev pub decreases-reading : goal.decreases-reading
decreases-reading g l = 16777217 - length l.all.items
