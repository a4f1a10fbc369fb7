use Rattle.std.proofs.Common.{◌≡◌, inl, inr, Bool, true, false, [], refl, arith}
use Rattle.std.specs.Prelude.{◌==◌, None}
use Rattle.sis_history.specs.RowCases.{before_nothing, job_on, nothing_row, write_nothing}
use Rattle.sis_history.specs.Rows.{other_job, own_job}
use Rattle.sis_history.proofs.CaseLemmas.{by_client, listed, same_either, short_a, untold_elapse, untold_up}
use Rattle.sis_history.proofs.row_cases.case_of_an_empty_write.Goals as goal

pub returns-clause-row : goal.returns-clause-row
returns-clause-row c = record {
  may = record {
    job = record {
      asked = refl;
      fits = record {
        takes = record {
          unhindered = rw listed refl;
          places = record { size = refl; free = refl };
        };
        fits = short_a;
      };
    };
    served = tt;
    may = (refl, refl);
    told = tt;
    down = refl;
    decided = refl;
    uncalled = λ none. refl;
    quiet = λ done. refl;
    answered = refl;
  };
  elapses = untold_elapse 5 5 (omega arith);
  calls = untold_up 24576 5 5;
  world = refl;
  table = refl;
  edits = (λ durable. absurd cc, λ changed. absurd cc);
  down = refl;
  jobs = λ client.
      by_client (client == 1) (job_on write_nothing) None None
      (own_job before_nothing nothing_row) (other_job before_nothing nothing_row) refl refl;
  stales = λ client. same_either [] (client == 1);
}

pub returns-clause-saved : goal.returns-clause-saved
returns-clause-saved c t r = by t.is_changed refl
  where
    by : (b : Bool) → t.is_changed ≡ b → b ≡ false
    by false is = refl
    by true is = elim (r.edits.1 is) [
      | inl was ↦ absurd cc
      | inr edits ↦ absurd (let changes = edits.1 in cc)
    ]
