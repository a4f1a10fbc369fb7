use Rattle.std.proofs.Common.{◌≡◌, ◌≤◌, take}
use Rattle.sis_core.specs.Jobs.{count_jobs}
use Rattle.sis_core.proofs.stepping.jobs_in_hand.Given as goal

abbrev pub invariant-loop-job : goal.invariant-loop-job
invariant-loop-job l = record {
  count : l.count ≡ count_jobs (take l.job-index l.jobs);
  most : l.count ≤ l.job-index;
}
