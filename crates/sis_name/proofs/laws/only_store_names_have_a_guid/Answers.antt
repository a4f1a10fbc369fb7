use Rattle.sis_name.proofs.StoreLemmas.{guid_has_name}
use Rattle.sis_name.proofs.laws.only_store_names_have_a_guid.Goals as goal

pub returns : goal.returns
returns c = guid_has_name
