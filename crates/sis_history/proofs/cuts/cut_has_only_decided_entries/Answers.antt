use Rattle.sis_history.proofs.CutLemmas.{cut_bound, cut_was_decided, first_were_decided}
use Rattle.sis_history.proofs.cuts.cut_has_only_decided_entries.Goals as goal

pub returns-clause-bound : goal.returns-clause-bound
returns-clause-bound c = cut_bound

pub returns-clause-decided : goal.returns-clause-decided
returns-clause-decided c = cut_was_decided

pub returns-clause-first : goal.returns-clause-first
returns-clause-first c = first_were_decided
