use Rattle.std.proofs.Common.{length}
use Rattle.sis_name.proofs.SurrogateLemmas.{FoundFrom}
use Rattle.sis_name.proofs.units.first_unpaired.Given as goal

abbrev pub invariant-loop-rest : goal.invariant-loop-rest
invariant-loop-rest l = FoundFrom l.units l.rest

abbrev pub decreases-loop-rest : goal.decreases-loop-rest
decreases-loop-rest l = length l.rest
