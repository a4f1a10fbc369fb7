use Rattle.std.proofs.Common.{◌≡◌, Some}
use Rattle.std.specs.Prelude.{slice_set}
use Rattle.sis_core.specs.declared.job.Job.TheVariants as job
use Rattle.sis_core.specs.View.{opening_of}
use Rattle.sis_core.proofs.sessions.Core.run_one.Given as goal

-- the client's command was begun
abbrev pub invariant-steps : goal.invariant-steps
invariant-steps g l = record {
  jobs : l.self.jobs ≡ slice_set l.fn.self.jobs l.fn.client (Some (job.Begun l.fn.command));
  entries : l.self.entries ≡ l.fn.self.entries;
  spare : l.self.spare ≡ l.fn.self.spare;
  opening : opening_of l.self ≡ opening_of l.fn.self;
}

abbrev pub decreases-steps : goal.decreases-steps
decreases-steps g l = 0
