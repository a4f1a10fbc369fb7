use Rattle.sis_history.proofs.LoopLemmas.{leaves_safe, leaves_safe_either}
use Rattle.sis_history.proofs.loops.images_of_committed_files_are_safe.Goals as goal

pub returns-clause-one : goal.returns-clause-one
returns-clause-one c = leaves_safe

pub returns-clause-either : goal.returns-clause-either
returns-clause-either c = leaves_safe_either
