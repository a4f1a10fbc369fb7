-- The jobs of the clients, where one of them changed.
use Rattle.std.proofs.Common.{◌≡◌, ◌≢◌, ℕ, zero, suc, ◌+◌, ◌<◌, ◌≤◌, Bool, true, false, List, [], ◌∷◌, length, take, refl, sym, ap, ◌∙◌, arith}
use Rattle.std.specs.Prelude.{slice_set, slice_index_or, nat_lt, ◌==◌, is_some, if◌then◌else◌, Option, None, Some, replicate}
use Rattle.std.proofs.lemmas.List.{length-set, get_or-set_other, get_or_default}
use Rattle.std.proofs.lemmas.Grind.{get_or-set_at}
use Rattle.std.proofs.lemmas.Bool.Decides.{nat_tests}
use Rattle.std.specs.Option.{option_map}
use Rattle.sis_history.specs.Replies.{IsServed}
use Rattle.sis_history.specs.Rows.{without_looks}
use Rattle.sis_model.specs.declared.command.Command.{Command}
use Rattle.sis_core.specs.declared.job.Job.{Job}
use Rattle.sis_core.specs.declared.job.Job.TheVariants as job
use Rattle.sis_core.specs.Jobs.{HasJobs, IsClient, count_jobs}
use Rattle.sis_core.specs.View.{job_of, noted}

-- ---- how many there are

-- a client has a job or none
abbrev pub job_count : Option Job → ℕ
job_count j = if is_some j then 1 else 0

pub at_most_one : (j : Option Job) → job_count j ≤ 1
at_most_one None = omega arith
at_most_one (Some j) = omega arith

-- the count, where one job changed
pub count_set : (jobs : List (Option Job)) (i : ℕ) (j : Option Job) → i < length jobs
    → count_jobs (slice_set jobs i j) + job_count (job_of jobs i) ≡ count_jobs jobs + job_count j
count_set [] i j lt = absurd (omega arith)
count_set (k ∷ ks) zero j lt = omega arith
count_set (k ∷ ks) (suc i) j lt = omega (arith, count_set ks i j (omega arith))

-- the count of some first jobs, and of one more
pub count_more : (jobs : List (Option Job)) (i : ℕ) (d : Option Job) → i < length jobs
    → count_jobs (take (suc i) jobs)
    ≡ count_jobs (take i jobs) + job_count (slice_index_or jobs i d)
count_more [] i d lt = absurd (omega arith)
count_more (k ∷ ks) zero d lt = omega arith
count_more (k ∷ ks) (suc i) d lt =
    let rest = count_more ks i d (omega arith) in
    ap (λ (n : ℕ). job_count k + n) rest ∙ omega arith

pub count_most : (jobs : List (Option Job)) → count_jobs jobs ≤ length jobs
count_most [] = omega arith
count_most (k ∷ ks) = omega (arith, at_most_one k, count_most ks)

-- where a client has a job, there is room for an entry
pub room_for : (jobs : List (Option Job)) (client : ℕ) (j : Job) (spare : ℕ)
    → client < length jobs → job_of jobs client ≡ Some j → count_jobs jobs ≤ spare → 0 < spare
room_for jobs client j spare lt is le =
    let one = ap job_count is in omega (arith, count_set jobs client None lt, one, le)

-- ---- one client's job

-- the job that was taken out of a slot
pub job_taken : (jobs : List (Option Job)) (client : ℕ) (d x : Option Job) → client < length jobs
    → x ≡ slice_index_or jobs client d → job_of jobs client ≡ x
job_taken jobs client d x lt is = get_or_default jobs client None d lt ∙ sym is

pub job_here : (jobs : List (Option Job)) (client other : ℕ) (j : Option Job)
    → client < length jobs → (other == client) ≡ true → job_of (slice_set jobs client j) other ≡ j
job_here jobs client other j lt e =
    let same : other ≡ client = grind (arith, nat_tests) in
    get_or-set_at jobs client other j None same (omega (arith, lt))

pub job_there : (jobs : List (Option Job)) (client other : ℕ) (j : Option Job)
    → (other == client) ≡ false → job_of (slice_set jobs client j) other ≡ job_of jobs other
job_there jobs client other j e =
    let not : other ≢ client = grind (arith, nat_tests) in
    get_or-set_other jobs client other j None not

-- no job that is carried out so far looks at files
pub no_looks : (j : Option Job) → option_map without_looks (noted j) ≡ noted j
no_looks None = refl
no_looks (Some (job.Begun c)) = refl

-- a client's job changed, and is one that is carried out
pub jobs_set : (jobs : List (Option Job)) (client : ℕ) (j : Option Job) → HasJobs jobs
    → 1 ≤ client → client < 17 → ((c : Command) → j ≡ Some (job.Begun c) → IsServed c)
    → HasJobs (slice_set jobs client j)
jobs_set jobs client j h low lt serves = record {
  size = length-set jobs client j ∙ h.size;
  nobody =
      let not : (0 == client) ≡ false = grind (arith, nat_tests) in
      job_there jobs client 0 j not ∙ h.nobody;
  served = λ other c is. by other c is (other == client) refl;
}
  where
    by : (other : ℕ) (c : Command)
        → job_of (slice_set jobs client j) other ≡ Some (job.Begun c)
        → (b : Bool) → (other == client) ≡ b → IsServed c
    by other c is true e =
        serves c (sym (job_here jobs client other j (omega (arith, lt, h.size)) e) ∙ is)
    by other c is false e =
        h.served other c (sym (job_there jobs client other j e) ∙ is)

-- who has a command in hand is a client
past_jobs : (jobs : List (Option Job)) (i : ℕ) → length jobs ≤ i → job_of jobs i ≡ None
past_jobs [] i le = refl
past_jobs (j ∷ js) zero le = absurd (omega arith)
past_jobs (j ∷ js) (suc i) le = past_jobs js i (omega arith)

pub has_client : (jobs : List (Option Job)) (client : ℕ) → HasJobs jobs
    → job_of jobs client ≢ None → IsClient client
has_client jobs zero h some = absurd (some h.nobody)
has_client jobs (suc n) h some = (omega arith, by (nat_lt (suc n) 17) refl)
  where
    by : (b : Bool) → nat_lt (suc n) 17 ≡ b → suc n ≤ 16
    by true is = grind (arith, nat_tests, is)
    by false is =
        let past : 17 ≤ suc n = grind (arith, nat_tests, is) in
        absurd (some (past_jobs jobs (suc n) (omega (arith, past, h.size))))

-- nobody has one
pub idle_job : (n client : ℕ) → job_of (replicate n None) client ≡ None
idle_job zero client = refl
idle_job (suc n) zero = refl
idle_job (suc n) (suc client) = idle_job n client

pub idle_jobs : HasJobs (replicate 17 None)
idle_jobs = record {
  size = refl;
  nobody = refl;
  served = λ client c is. absurd (let e = sym (idle_job 17 client) ∙ is in cc);
}
