use Rattle.sis_model.proofs.Histories.{world_after-push, IsLegal-push, IsLegal-pop}
use Rattle.sis_model.proofs.legal_history_goes_on.Goals as goal

pub returns-clause-legal : goal.returns-clause-legal
returns-clause-legal c = IsLegal-push

pub returns-clause-only : goal.returns-clause-only
returns-clause-only c = IsLegal-pop

pub returns-clause-world : goal.returns-clause-world
returns-clause-world c = world_after-push
