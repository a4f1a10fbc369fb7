use Rattle.std.proofs.Common.{sym, arith}
use Rattle.sis_request.proofs.NameUnits.{name_len-units_of}
use Rattle.sis_request.proofs.ReadLemmas.{lent_is_name}
use Rattle.sis_request.proofs.writing.name_len.Goals as goal

pub returns-clause-value : goal.returns-clause-value
returns-clause-value c = sym (name_len-units_of c.args.name.now c.requires.even)

pub returns-clause-name : goal.returns-clause-name
returns-clause-name c = lent_is_name c.args.name.now (λ i. omega (arith, c.type_inv.name i)) c.requires
