use Rattle.std.proofs.Common.{◌≡◌, inl, inr, ℕ, true, false, List, [], ◌∷◌, ◌++◌, refl, sym, ap, subst, ◌∙◌, arith}
use Rattle.std.specs.Prelude.{◌==◌, None}
use Rattle.std.specs.FinMap.{get-empty}
use Rattle.sis_disk.specs.Causes.{AllServe, GoesDown, NoneFails, StaysUp, fails_commit, serves_commit}
use Rattle.sis_disk.specs.Record.{Call, Seen, Writes}
use Rattle.sis_name.specs.Units.{name_cmp}
use Rattle.sis_history.specs.RowCases.{commit_calls, data_calls, disk_row, job_on, put_abc, put_stage, told}
use Rattle.sis_history.specs.Rows.{other_job, own_job}
use Rattle.sis_history.specs.Stage.{Stage}
use Rattle.sis_history.proofs.CaseLemmas.{by_client, calls_in, same_either}
use Rattle.sis_history.proofs.row_cases.case_of_a_disk_fault.Goals as goal

abbrev before : Stage
before = put_stage (told 0 []) (job_on put_abc)

up : StaysUp 24576 (told 0 []) (told 1 data_calls)
up = record { told = (data_calls, refl, (refl, tt)) }

pub returns-clause-data_fault : goal.returns-clause-data_fault
returns-clause-data_fault c = record {
  may = record {
    job = record {
      asked = refl;
      fits = (refl, refl, record { rose = omega arith; once = omega arith; up = up });
    };
    served = tt;
    may = inr (rw (get-empty name_cmp (97 ∷ [])) refl);
    told = inr (rw (get-empty name_cmp (97 ∷ [])) refl);
    down = refl;
    decided = refl;
    uncalled = λ none. absurd cc;
    quiet = λ done. absurd cc;
    answered = refl;
  };
  elapses = record { size = refl; calls = omega arith; faults = omega arith };
  calls = up;
  world = refl;
  table = refl;
  edits = (λ durable. absurd cc, λ changed. inl refl);
  down = refl;
  jobs = λ client.
      by_client (client == 1) (job_on put_abc) None None (own_job before disk_row)
      (other_job before disk_row)
      refl refl;
  stales = λ client. same_either [] (client == 1);
}

not_up : StaysUp 24576 (told 0 []) (told 1 commit_calls) → ⊥
not_up stays =
    let more = (stays.told).0 in
    let same : commit_calls ≡ more = ap calls_in (stays.told).1 in
    let none : NoneFails 24576 commit_calls =
    subst (λ (cs : List Call). NoneFails 24576 cs) (sym same) (stays.told).2 in
    (let last = none.1.0 in cc)

pub returns-clause-commit : goal.returns-clause-commit
returns-clause-commit c r = not_up r.calls

none_serves : (more : List Call) → data_calls ≡ more → AllServe 24576 more → ⊥
none_serves more same serve =
    let all : AllServe 24576 data_calls =
    subst (λ (cs : List Call). AllServe 24576 cs) (sym same) serve in
    (let first = all.0 in cc)

no_last : (front : List Call) (last : Call) → data_calls ≡ front ++ last ∷ []
    → AllServe 24576 front → fails_commit 24576 last ≡ true → ⊥
no_last [] last same serve fails = (let is : Writes 24576 (97 ∷ []) false ≡ last = cc in
    let wrong : fails_commit 24576 (Writes 24576 (97 ∷ []) false) ≡ true =
    ap (fails_commit 24576) is ∙ fails in cc)
no_last (c ∷ front) last same serve fails =
    (let is : Writes 24576 (97 ∷ []) false ≡ c = cc in
    let wrong : serves_commit 24576 (Writes 24576 (97 ∷ []) false) ≡ true =
    ap (serves_commit 24576) is ∙ serve.0 in cc)

not_down : (at : ℕ) → GoesDown 24576 at (told 0 []) (told 1 data_calls) → ⊥
not_down at down = elim down.told [
  | inl made ↦
      let same : data_calls ≡ (made.1).0 = ap calls_in (made.1).1 in
      let last = (made.1).2 in
      no_last last.0 last.1 (same ∙ last.2) last.3 last.4
  | inr none ↦ none_serves (none.1).0 (ap calls_in (none.1).1) (none.1).2
]

pub returns-clause-no_commit : goal.returns-clause-no_commit
returns-clause-no_commit c at t is r =
    not_down at (subst (λ (seen : Seen). GoesDown 24576 at (told 0 []) seen) is r.calls)
