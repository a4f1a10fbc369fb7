use Rattle.std.proofs.Common.{inl, true, false, [], ◌∷◌, refl, arith}
use Rattle.std.specs.Prelude.{◌==◌, Some, None}
use Rattle.sis_disk.specs.Record.{Syncs, Writes}
use Rattle.sis_model.specs.declared.command.Command.TheVariants as command
use Rattle.sis_history.specs.RowCases.{commit_calls, down_row, fail_row, job_on, sync_stage, told}
use Rattle.sis_history.specs.Rows.{other_job, own_job}
use Rattle.sis_history.specs.Runs.{IsRow}
use Rattle.sis_history.specs.Stage.{Stage}
use Rattle.sis_history.proofs.CaseLemmas.{by_client, listed, same_either}
use Rattle.sis_history.proofs.row_cases.case_of_a_failed_commit.Goals as goal

abbrev before : Stage
before = sync_stage (told 0 []) None (job_on command.Sync)

abbrev failed : Stage
failed = sync_stage (told 1 commit_calls) (Some 1) (job_on command.Sync)

fails : IsRow (sync_stage (told 0 []) None (job_on command.Sync)) fail_row
    (sync_stage (told 1 commit_calls) (Some 1) (job_on command.Sync))
fails = record {
  may = (
    refl,
    refl,
    record { accepted = refl; unhindered = rw listed refl; edited = refl; cause = inl refl },
  );
  elapses = record { size = refl; calls = omega arith; faults = omega arith };
  calls = record {
    rose = omega arith;
    once = omega arith;
    low = omega arith;
    told = inl (
      refl,
      (
        commit_calls,
        refl,
        (Writes 8192 (1 ∷ []) true ∷ [], Syncs false, refl, (refl, tt), refl),
      ),
    );
  };
  world = refl;
  table = refl;
  edits = refl;
  down = refl;
  jobs = λ client.
      by_client (client == 1) (job_on command.Sync) (job_on command.Sync) None
      (own_job before fail_row) (other_job before fail_row) refl refl;
  stales = λ client. same_either [] (client == 1);
}

answers : IsRow (sync_stage (told 1 commit_calls) (Some 1) (job_on command.Sync)) down_row
    (sync_stage (told 1 commit_calls) (Some 1) None)
answers = record {
  may = record {
    job = record { asked = refl; fits = refl };
    served = tt;
    may = inl refl;
    told = inl refl;
    down = refl;
    decided = refl;
    uncalled = λ none. absurd cc;
    quiet = λ done. absurd cc;
    answered = refl;
  };
  elapses = record { size = refl; calls = omega arith; faults = omega arith };
  calls = refl;
  world = refl;
  table = refl;
  edits = (λ durable. absurd cc, λ changed. inl refl);
  down = refl;
  jobs = λ client.
      by_client (client == 1) (job_on command.Sync) None None (own_job failed down_row)
      (other_job failed down_row) refl refl;
  stales = λ client. same_either [] (client == 1);
}

pub returns-clause-run : goal.returns-clause-run
returns-clause-run c = (
  sync_stage (told 1 commit_calls) (Some 1) (job_on command.Sync),
  fails,
  (sync_stage (told 1 commit_calls) (Some 1) None, answers, refl),
)

pub returns-clause-early : goal.returns-clause-early
returns-clause-early c t r = absurd (let up = r.may.down in cc)
