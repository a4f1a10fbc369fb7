use Rattle.std.proofs.Common.{◌≡◌, ◌-◌, ◌≤◌, [], length}
use Rattle.sis_table.specs.Reading.{nodes_at}
use Rattle.sis_table.proofs.ReadingLoops.{with_front}
use Rattle.sis_table.proofs.reading.nodes_of.Given as goal

abbrev pub invariant-loop : goal.invariant-loop
invariant-loop l = record {
  told : with_front l.front (nodes_at l.total l.layout l.next_id l.front (l.count - l.counter) l.rest) ≡ nodes_at l.total l.layout l.next_id [] l.count l.bytes;
  whole : length l.rest ≤ l.total;
}
