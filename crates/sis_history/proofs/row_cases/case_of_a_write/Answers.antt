use Rattle.std.proofs.Common.{inl, refl, arith, [], ◌∷◌}
use Rattle.std.specs.Prelude.{◌==◌, None}
use Rattle.sis_history.specs.RowCases.{before_write, write_far, write_row, job_on}
use Rattle.sis_history.specs.Rows.{other_job, own_job}
use Rattle.sis_history.proofs.CaseLemmas.{by_client, listed, mapped, same_either, short_written, untold_elapse, untold_up}
use Rattle.sis_history.proofs.row_cases.case_of_a_write.Goals as goal

pub returns-clause-row : goal.returns-clause-row
returns-clause-row c = record {
  may = record {
    job = record {
      asked = refl;
      fits = record {
        takes = record {
          unhindered = rw (mapped, listed) refl;
          places = record { size = rw mapped refl; free = rw listed refl };
        };
        fits = rw mapped short_written;
      };
    };
    served = tt;
    may = (refl, refl);
    told = tt;
    down = refl;
    decided = refl;
    uncalled = λ none. absurd (let never = rw mapped at none in cc);
    quiet = λ done. refl;
    answered = refl;
  };
  elapses = untold_elapse 5 7 (omega arith);
  calls = untold_up 24576 5 7;
  world = refl;
  table = rw mapped refl;
  edits = (λ durable. absurd cc, λ changed. inl refl);
  down = refl;
  jobs = λ client.
      by_client (client == 1) (job_on write_far) None None
      (own_job before_write (write_row (7 ∷ 8 ∷ [])))
      (other_job before_write (write_row (7 ∷ 8 ∷ []))) refl refl;
  stales = λ client. same_either [] (client == 1);
}

pub returns-clause-used : goal.returns-clause-used
returns-clause-used c t r =
    absurd (let free = rw listed at r.may.job.fits.takes.places.free in cc)

pub returns-clause-few : goal.returns-clause-few
returns-clause-few c t r =
    absurd (let size = rw mapped at r.may.job.fits.takes.places.size in cc)
