use Rattle.sis_history.proofs.runs.step_is_a_run.Goals as goal

pub returns : goal.returns
returns c client s t rows stepped = stepped.run
