use Rattle.std.proofs.Common.{sym, subst}
use Rattle.sis_name.specs.Name.{IsName}
use Rattle.sis_name.proofs.StoreLemmas.{store_is_name}
use Rattle.sis_name.proofs.name.Name.of_store.Goals as goal

pub invariant_of-result : goal.invariant_of-result
invariant_of-result c = subst IsName (sym c.in_ok-units_of_guid.ensures) (store_is_name c.args.guid)
