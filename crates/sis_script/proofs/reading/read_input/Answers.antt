use Rattle.std.proofs.Common.{◌++◌, take, arith}
use Rattle.std.proofs.lemmas.Grind.{common_steps}
use Rattle.sis_script.proofs.TakenLemmas.{HasRead-more}
use Rattle.sis_script.proofs.reading.read_input.Goals as goal

-- a piece was taken that there was no memory to keep
pub returns-then-is_err-clause-taken : goal.returns-then-is_err-clause-taken
returns-then-is_err-clause-taken g c = (
  c.reading.all.items ++ take c.in-Ok.count c.read.new.into,
  grind (arith, common_steps),
  HasRead-more _ _ _ c.reading.all.items (take c.in-Ok.count c.read.new.into) c.reading.invariant.read c.in-Ok.ensures.bytes,
)
