use Rattle.std.proofs.Common.{ap, sym, ◌≡◌, ◌∙◌, ◌+◌, ℕ, suc, Bool, true, false, take, add-one, arith, refl}
use Rattle.std.specs.Prelude.{Option, None, Some, is_some}
use Rattle.sis_core.specs.Jobs.{count_jobs}
use Rattle.sis_core.proofs.JobLemmas.{count_more, job_count}
use Rattle.sis_core.specs.declared.job.Job.{Job}
use Rattle.sis_core.proofs.stepping.jobs_in_hand.Goals.{then-is_some, else-is_some}
use Rattle.sis_core.proofs.stepping.jobs_in_hand.Goals as goal

counted_some : (j : Option Job) (b : Bool) → b ≡ is_some j → b ≡ true → job_count j ≡ 1
counted_some None b e t = absurd cc
counted_some (Some j) b e t = refl

counted_none : (j : Option Job) (b : Bool) → b ≡ is_some j → b ≡ false → job_count j ≡ 0
counted_none None b e t = refl
counted_none (Some j) b e t = absurd cc

pub loop-job-preserved : goal.loop-job-preserved
loop-job-preserved c = record {
  count =
      let more = count_more c.args.jobs.now c.loop-job.job-index c.job-item.result
      c.loop-job-test.true in
      let item = ap job_count c.job-item.is in
      let one : c.if-is_some.count ≡ c.loop-job.count + job_count c.job-item.result =
      elim c.if-is_some.branch [
        | then-is_some w ↦
            w.count-is
            ∙ ap (λ (n : ℕ). c.loop-job.count + n)
            (sym (counted_some c.job-item.result _ c.is_some.ensures w.if-is_some.true))
        | else-is_some w ↦
            let none = counted_none c.job-item.result _ c.is_some.ensures w.if-is_some.false in
            omega (arith, w.count-is, none)
      ] in
      let all : c.if-is_some.count ≡ count_jobs (take (suc c.loop-job.job-index) c.args.jobs.now) =
      omega (arith, one, item, more, c.loop-job.invariant.count) in
      let next = sym (add-one c.loop-job.job-index) in
      all ∙ ap (λ (n : ℕ). count_jobs (take n c.args.jobs.now)) next;
  most = elim c.if-is_some.branch [
    | then-is_some w ↦ omega (arith, w.count-is, c.loop-job.invariant.most)
    | else-is_some w ↦ omega (arith, w.count-is, c.loop-job.invariant.most)
  ];
}
