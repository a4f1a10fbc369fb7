use Rattle.sis_name.proofs.StoreLemmas.{one_name}
use Rattle.sis_name.proofs.laws.each_guid_has_its_own_name.Goals as goal

pub returns : goal.returns
returns c = one_name
