use Rattle.std.proofs.Common.{◌≡◌, ◌-◌, ◌+◌, ◌<◌, ◌≤◌, ◌^◌, None, length}
use Rattle.std.specs.Option.{ForSome}
use Rattle.sis_table.specs.Reading.{runs_at}
use Rattle.sis_table.proofs.ReadingLoops.{with_front}
use Rattle.sis_table.proofs.reading.run_list.Given as goal

abbrev pub invariant-loop : goal.invariant-loop
invariant-loop l = record {
  told : with_front l.runs.items (runs_at l.total l.layout l.blocks l.before (l.count - l.counter) l.rest) ≡ runs_at l.total l.layout l.blocks None l.count l.bytes;
  whole : length l.rest ≤ l.total;
  first : ForSome l.before (λ r. r.first + r.count < 2 ^ 32);
  place : ForSome l.before (λ r. r.place + r.count < 2 ^ 32);
}
