use Rattle.std.proofs.Common.{[], refl, arith}
use Rattle.std.specs.Prelude.{◌==◌, None}
use Rattle.sis_model.specs.declared.command.Command.TheVariants as command
use Rattle.sis_model.specs.declared.reply.Fate.TheVariants as fate
use Rattle.sis_history.specs.RowCases.{before_close, close_row, job_on}
use Rattle.sis_history.specs.Rows.{other_job, own_job}
use Rattle.sis_history.proofs.CaseLemmas.{by_client, listed, same_either, short_a, untold_elapse, untold_up}
use Rattle.sis_history.proofs.row_cases.case_of_a_close.Goals as goal

pub returns-clause-writer : goal.returns-clause-writer
returns-clause-writer c = record {
  may = record {
    job = record {
      asked = refl;
      fits = (
        record {
          takes = record {
            unhindered = rw listed refl;
            places = record { size = refl; free = refl };
          };
          fits = short_a;
        },
        (refl, refl),
      );
    };
    served = tt;
    may = (refl, tt);
    told = tt;
    down = refl;
    decided = refl;
    uncalled = λ none. absurd cc;
    quiet = λ done. refl;
    answered = refl;
  };
  elapses = untold_elapse 5 9 (omega arith);
  calls = untold_up 24576 5 9;
  world = refl;
  table = refl;
  edits = (λ durable. refl, λ changed. absurd cc);
  down = refl;
  jobs = λ client.
      by_client (client == 1) (job_on (command.Close 1)) None None
      (own_job before_close (close_row fate.Writer))
      (other_job before_close (close_row fate.Writer)) refl refl;
  stales = λ client. same_either [] (client == 1);
}

pub returns-clause-plain : goal.returns-clause-plain
returns-clause-plain c t r =
    absurd (let alone = (r.may.job.fits.1.0).alone in cc)
