use Rattle.std.proofs.Common.{[], refl, arith}
use Rattle.std.specs.Prelude.{◌==◌, None}
use Rattle.sis_model.specs.declared.command.Command.TheVariants as command
use Rattle.sis_history.specs.RowCases.{before_end, end_row, job_on}
use Rattle.sis_history.specs.Rows.{other_job, own_job}
use Rattle.sis_history.proofs.CaseLemmas.{by_client, listed, same_either, short_a, untold_elapse, untold_up}
use Rattle.sis_history.proofs.row_cases.case_of_an_end.Goals as goal

pub returns-clause-list : goal.returns-clause-list
returns-clause-list c = record {
  may = record {
    job = record {
      asked = refl;
      fits = (
        record {
          takes = record {
            unhindered = rw listed refl;
            places = record { size = refl; free = refl };
          };
          fits = short_a;
        },
        refl,
      );
    };
    served = tt;
    may = (refl, refl);
    told = tt;
    down = refl;
    decided = refl;
    uncalled = λ none. absurd cc;
    quiet = λ done. refl;
    answered = refl;
  };
  elapses = untold_elapse 5 9 (omega arith);
  calls = untold_up 24576 5 9;
  world = refl;
  table = refl;
  edits = (λ durable. refl, λ changed. absurd cc);
  down = refl;
  jobs = λ client.
      by_client (client == 1) (job_on command.End) None None (own_job before_end (end_row []))
      (other_job before_end (end_row [])) refl refl;
  stales = λ client. same_either [] (client == 1);
}

pub returns-clause-unsettled : goal.returns-clause-unsettled
returns-clause-unsettled c t r = absurd (let none = r.may.job.fits.1 in cc)
