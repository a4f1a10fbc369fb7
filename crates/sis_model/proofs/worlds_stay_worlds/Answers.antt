use Rattle.sis_model.proofs.OpenLemmas.{world_answered, world_later, world_unopened}
use Rattle.sis_model.proofs.worlds_stay_worlds.Goals as goal

pub returns-clause-first : goal.returns-clause-first
returns-clause-first c = world_unopened

pub returns-clause-next : goal.returns-clause-next
returns-clause-next c = world_answered

pub returns-clause-last : goal.returns-clause-last
returns-clause-last c = world_later
