use Rattle.sis_reparse.proofs.ReadLemmas.{read_is_spelled}
use Rattle.sis_reparse.proofs.laws.read_is_spelled.Goals as goal

pub returns : goal.returns
returns c = read_is_spelled
