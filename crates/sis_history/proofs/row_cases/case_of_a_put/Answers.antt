use Rattle.std.proofs.Common.{inl, [], ◌∷◌, refl, arith}
use Rattle.std.specs.Prelude.{◌==◌, None}
use Rattle.std.specs.FinMap.{get-empty}
use Rattle.sis_name.specs.Units.{name_cmp}
use Rattle.sis_history.specs.RowCases.{before_put, put_row, put_abc, job_on}
use Rattle.sis_history.specs.Rows.{other_job, own_job}
use Rattle.sis_history.proofs.CaseLemmas.{by_client, same_either, short_new, untold_elapse, untold_up}
use Rattle.sis_history.proofs.row_cases.case_of_a_put.Goals as goal

pub returns-clause-row : goal.returns-clause-row
returns-clause-row c = record {
  may = record {
    job = record {
      asked = refl;
      fits = record {
        takes = record { unhindered = refl; places = record { size = refl; free = refl } };
        fits = short_new;
      };
    };
    served = tt;
    may = (rw (get-empty name_cmp (97 ∷ [])) refl, refl);
    told = tt;
    down = refl;
    decided = refl;
    uncalled = λ none. absurd cc;
    quiet = λ done. refl;
    answered = refl;
  };
  elapses = untold_elapse 0 1 (omega arith);
  calls = untold_up 24576 0 1;
  world = refl;
  table = refl;
  edits = (λ durable. absurd cc, λ changed. inl refl);
  down = refl;
  jobs = λ client.
      by_client (client == 1) (job_on put_abc) None None
      (own_job before_put put_row) (other_job before_put put_row) refl
      refl;
  stales = λ client. same_either [] (client == 1);
}

pub returns-clause-commit : goal.returns-clause-commit
returns-clause-commit c file at t r = absurd (let changed = (r.may.2).edited in cc)
