use Rattle.std.proofs.Common.{◌≡◌, ◌≤◌, length}
use Rattle.std.specs.Str.Lines.{lines}
use Rattle.sis_script.specs.Script.{parts_from, with_front, AreAllowed}
use Rattle.sis_script.specs.Views.{parts_of}
use Rattle.sis_script.specs.declared.limits.TheConstants.{MOST_LINES}
use Rattle.sis_script.proofs.reading.read_lines.Given as goal

-- what was read so far, and what is read of the rest, are what is read of all
abbrev pub invariant-loop-line : goal.invariant-loop-line
invariant-loop-line l = record {
  read : with_front (parts_of l.script) (parts_from l.number (lines l.rest)) ≡ parts_from 0 (lines l.text);
  lines : l.number ≤ MOST_LINES;
  few : length l.script.lines.items ≤ l.number;
  allowed : AreAllowed (parts_of l.script);
}

abbrev pub decreases-loop-line : goal.decreases-loop-line
decreases-loop-line l = length l.rest
