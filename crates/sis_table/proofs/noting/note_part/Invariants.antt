use Rattle.std.proofs.Common.{◌-◌, ◌≤◌}
use Rattle.std.specs.FinMap.{get}
use Rattle.sis_table.specs.Inside.{Frees, lies_between}
use Rattle.sis_table.proofs.noting.note_part.Given as goal

abbrev pub invariant-parts : goal.invariant-parts
invariant-parts l = record {
  low : l.first ≤ l.at;
  high : l.at ≤ l.end;
  noted : Frees (lies_between (get l.map) l.first l.at) (get l.map) l.fn.uses.items l.uses.items;
}

abbrev pub decreases-parts : goal.decreases-parts
decreases-parts l = l.end - l.at
