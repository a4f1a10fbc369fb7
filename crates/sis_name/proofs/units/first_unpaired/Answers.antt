use Rattle.std.proofs.Common.{◌∙◌, sym}
use Rattle.sis_name.proofs.SurrogateLemmas.{past_pair, past_plain}
use Rattle.sis_name.proofs.units.first_unpaired.Goals as goal

pub loop-rest-preserved-then-begins_with_pair : goal.loop-rest-preserved-then-begins_with_pair
loop-rest-preserved-then-begins_with_pair c = past_pair _ _ (sym c.begins_with_pair.ensures ∙ c.if-begins_with_pair.true) c.loop-rest.invariant

pub loop-rest-preserved : goal.loop-rest-preserved
loop-rest-preserved c = past_plain _ _ (sym c.begins_with_pair.ensures ∙ c.if-begins_with_pair.false) (sym c.is_surrogate.ensures ∙ c.if-is_surrogate.false) c.loop-rest.invariant
