use Rattle.std.proofs.Common.{◌≡◌, ◌-◌, ◌*◌, ◌≤◌, ◌++◌, length}
use Rattle.sis_table.specs.Reading.{units_of}
use Rattle.sis_table.proofs.reading.units_in.Given as goal

abbrev pub invariant-loop : goal.invariant-loop
invariant-loop l = record {
  told : l.units.items ++ units_of (l.count - l.counter) l.rest ≡ units_of l.count l.bytes;
  long : 2 * (l.count - l.counter) ≤ length l.rest;
}
