use Rattle.std.proofs.Common.{◌≡◌, ◌+◌, ◌*◌, length}
use Rattle.std.specs.List.{position_from}
use Rattle.sis_request.specs.Request.{is_null, units_of}
use Rattle.sis_request.proofs.reading.first_null.Given as goal

abbrev pub invariant-loop-rest : goal.invariant-loop-rest
invariant-loop-rest l = record {
  ahead : position_from is_null l.at (units_of l.rest) ≡ position_from is_null 0 (units_of l.name);
  behind : 2 * l.at + length l.rest ≡ length l.name;
}

abbrev pub decreases-loop-rest : goal.decreases-loop-rest
decreases-loop-rest l = length l.rest
