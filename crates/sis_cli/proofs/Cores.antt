-- What a core tells of its run, where nobody has a command in hand any more.
use Rattle.std.proofs.Common.{◌≡◌, ℕ, List, [], ◌++◌}
use Rattle.std.proofs.Common.{map, Option, None, is_some, refl, sym, ap, subst, ◌∙◌}
use Rattle.sis_history.specs.Entering.{any_down}
use Rattle.sis_history.specs.Runs.{first_stage}
use Rattle.sis_history.specs.Stage.{Stage}
use Rattle.sis_model.specs.History.{world_after}
use Rattle.sis_model.specs.Order.{IsTurnOrder, commands_of, exec_order, line_of, without_ends}
use Rattle.sis_model.proofs.Orders.{commands-exec_order}
use Rattle.sis_model.specs.declared.history.Entry.{Entry}
use Rattle.sis_core.specs.declared.job.Job.{Job}
use Rattle.sis_core.specs.Jobs.{AreIdle}
use Rattle.sis_core.specs.Sound.{IsSound}
use Rattle.sis_core.specs.Turns.{AddsLines, AddsTurns}
use Rattle.sis_core.specs.View.{CoreView, job_of, jobs_in, noted, opening_of, stage_in}
use Rattle.sis_core.proofs.JobLemmas.{idle_job}
use Rattle.sis_script.specs.Script.{Parts}
use Rattle.sis_cli.specs.Run.{RunsLines}
use Rattle.sis_cli.specs.declared.usage.Verb.TheVariants as verb
use Rattle.sis_cli.proofs.Hands.{down_is_answered, nothing_done}

-- ---- its run

-- the stages between which it leads
abbrev pub first_in : (c : CoreView) → IsSound c → Stage
first_in c s = first_stage s.world s.opened (opening_of c).seen

abbrev pub last_in : (c : CoreView) → IsSound c → Stage
last_in c s = stage_in (world_after s.world c.entries) c

pub idle_jobs : (c : CoreView) → AreIdle c.jobs → (client : ℕ) → jobs_in c.jobs client ≡ None
idle_jobs c idle client =
    ap (λ (js : List (Option Job)). noted (job_of js client)) idle ∙ ap noted (idle_job 17 client)

pub down_told : (c : CoreView) → IsSound c → AreIdle c.jobs
    → any_down c.entries ≡ is_some c.volume.down
down_told c s idle =
    ap any_down s.run.same
    ∙ down_is_answered (first_in c s) (last_in c s) s.run.rows s.run.run refl (idle_jobs c idle)

-- without entries, the disk is as it was when the opening had ended
pub none_seen : (c : CoreView) → IsSound c → AreIdle c.jobs → c.entries ≡ []
    → c.volume.seen ≡ (opening_of c).seen
none_seen c s idle none =
    ap (λ (x : Stage). x.seen)
    (nothing_done (first_in c s) (last_in c s) s.run.rows s.run.run (λ client. refl)
    (idle_jobs c idle) (sym s.run.same ∙ none))

-- ---- what `exec` and `replay` of a core without entries say of the lines

-- more room adds no entry
pub none_yet : (old new : CoreView) (spare : ℕ) → new ≡ record old { spare = spare }
    → old.entries ≡ [] → new.entries ≡ []
none_yet old new spare same none = ap (λ (c : CoreView). c.entries) same ∙ none

-- behind no entries stand the new ones alone
added : (old new more : List Entry) → old ≡ [] → new ≡ old ++ more → new ≡ more
added old new more none kept = kept ∙ ap (λ (es : List Entry). es ++ more) none

pub exec_runs : (parts : Parts) (old new : List Entry) → old ≡ []
    → AddsLines old new (exec_order parts.lines) → RunsLines verb.Exec parts new
exec_runs parts old new none adds =
    let order : map line_of new ≡ exec_order parts.lines =
    ap (map line_of) (added old new adds.more none adds.kept) ∙ adds.lines in
    record {
      order = order;
      calls = λ client. ap (commands_of client) order ∙ commands-exec_order client parts.lines;
    }

pub replay_runs : (parts : Parts) (schedule : List ℕ) (old new : List Entry)
    → schedule ≡ parts.schedule → old ≡ [] → AddsTurns old new parts.lines schedule
    → RunsLines verb.Replay parts new
replay_runs parts schedule old new turns none adds =
    subst (λ (es : List Entry). RunsLines verb.Replay parts es)
    (sym (added old new adds.more none adds.kept)) (record {
      order = λ once.
          subst (λ (ts : List ℕ).
          IsTurnOrder parts.lines ts (without_ends (map line_of adds.more))) turns
          (adds.own_order once);
      calls = adds.calls;
    })
