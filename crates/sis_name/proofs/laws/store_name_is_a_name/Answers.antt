use Rattle.sis_name.proofs.StoreLemmas.{store_is_name, name_len}
use Rattle.sis_name.proofs.laws.store_name_is_a_name.Goals as goal

pub returns-clause-name : goal.returns-clause-name
returns-clause-name c = store_is_name

pub returns-clause-len : goal.returns-clause-len
returns-clause-len c = name_len
