use Rattle.sis_history.proofs.CutLemmas.{cut_has_sure, none_sure_behind}
use Rattle.sis_history.proofs.cuts.cut_has_each_sure_entry.Goals as goal

pub returns-clause-sure : goal.returns-clause-sure
returns-clause-sure c = cut_has_sure

pub returns-clause-only : goal.returns-clause-only
returns-clause-only c = none_sure_behind
