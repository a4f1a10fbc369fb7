use Rattle.std.proofs.Common.{◌≡◌, [], refl, ap, arith}
use Rattle.std.specs.Prelude.{◌==◌, None}
use Rattle.sis_disk.specs.Record.{Seen}
use Rattle.sis_model.specs.declared.command.Command.TheVariants as command
use Rattle.sis_history.specs.RowCases.{before_sync, job_on, sync_row, untold}
use Rattle.sis_history.specs.Rows.{other_job, own_job}
use Rattle.sis_history.proofs.CaseLemmas.{by_client, listed, same_either, short_a, untold_elapse, untold_up}
use Rattle.sis_history.proofs.row_cases.case_of_a_needless_sync.Goals as goal

pub returns-clause-row : goal.returns-clause-row
returns-clause-row c = record {
  may = record {
    job = record {
      asked = refl;
      fits = record {
        takes = record {
          unhindered = rw listed refl;
          places = record { size = refl; free = refl };
        };
        fits = short_a;
      };
    };
    served = tt;
    may = (refl, refl);
    told = tt;
    down = refl;
    decided = refl;
    uncalled = λ none. refl;
    quiet = λ done. refl;
    answered = refl;
  };
  elapses = untold_elapse 5 5 (omega arith);
  calls = untold_up 24576 5 5;
  world = refl;
  table = refl;
  edits = (λ durable. refl, λ changed. absurd cc);
  down = refl;
  jobs = λ client.
      by_client (client == 1) (job_on command.Sync) None None (own_job before_sync (sync_row 5))
      (other_job before_sync (sync_row 5)) refl refl;
  stales = λ client. same_either [] (client == 1);
}

pub returns-clause-call : goal.returns-clause-call
returns-clause-call c r =
    absurd
    (let same : untold 6 ≡ untold 5 = r.may.uncalled refl in
    let calls : 6 ≡ 5 = ap (λ (seen : Seen). seen.calls) same in
    omega (arith, calls))

pub returns-clause-commit : goal.returns-clause-commit
returns-clause-commit c file at t r = absurd (let changed = (r.may.2).edited in cc)
