-- What a core keeps, from one step to the next.
use Rattle.std.proofs.Common.{append_assoc, append-nil, ◌≡◌, ℕ, ◌+◌, ◌<◌, ◌≤◌, Bool, true, false, List, [], ◌∷◌, ◌++◌, length, Option, None, Some, refl, sym, ap, subst, ◌∙◌, arith}
use Rattle.std.specs.Prelude.{slice_set, IfSome, if◌then◌else◌, ◌==◌}
use Rattle.std.specs.Option.{option_map}
use Rattle.sis_disk.specs.Layout.{first_byte}
use Rattle.sis_disk.specs.Record.{DiskRecord, IsCounted, Seen}
use Rattle.sis_disk.specs.Stops.{Elapses}
use Rattle.sis_history.specs.Replies.{IsServed}
use Rattle.sis_history.specs.Entries.{entries_of, with_row, with_rows}
use Rattle.sis_history.specs.Rows.{Row, Begins, Enters, Fails, jobs_by, without_looks}
use Rattle.sis_history.specs.Runs.{AreOfClients, HasRun, IsRow, MayCall, first_stage}
use Rattle.sis_history.proofs.ClientLemmas.{run_entries}
use Rattle.sis_history.proofs.RunLemmas.{run_extended}
use Rattle.sis_model.specs.Answer.{world_with}
use Rattle.sis_model.specs.History.{world_after}
use Rattle.sis_model.specs.Order.{is_end}
use Rattle.sis_model.specs.Recorded.{Recorded}
use Rattle.sis_model.specs.World.{World}
use Rattle.sis_model.specs.declared.command.Command.{Command}
use Rattle.sis_model.specs.declared.history.Entry.{Entry}
use Rattle.sis_model.specs.declared.reply.Reply.{Reply}
use Rattle.sis_model.proofs.Histories.{world_after-push}
use Rattle.sis_table.specs.Good.{IsGood}
use Rattle.sis_table.specs.Volume.{IsTable, VolumeTable}
use Rattle.sis_volume.specs.Stopping.{StopsWell}
use Rattle.sis_volume.specs.View.{VolumeView}
use Rattle.sis_core.specs.declared.job.Job.{Job}
use Rattle.sis_core.specs.declared.job.Job.TheVariants as job
use Rattle.sis_core.specs.declared.opens.Open.{Open}
use Rattle.sis_core.specs.declared.start.CoreStart.{CoreStart}
use Rattle.sis_core.specs.Deciding.{DecidesFor, IsDurable, plain_job}
use Rattle.sis_core.specs.Jobs.{HasJobs, IsClient, count_jobs}
use Rattle.sis_core.specs.Opening.{RunBegins}
use Rattle.sis_core.specs.Session.{FitsArea, ShowsWorld, session}
use Rattle.sis_core.specs.Sound.{IsSound, IsSurvived}
use Rattle.sis_core.specs.Steps.{HasEntered, IsSaved, StepEnters, entry_of}
use Rattle.sis_core.specs.View.{CoreView, Opening, core_view, job_of, jobs_in, noted, opening_of, session_of, stage_in, up_to}
use Rattle.sis_core.proofs.JobLemmas.{count_set, job_count, job_here, job_there, jobs_set, no_looks}
use Rattle.sis_core.proofs.Rows.{IsAnswering, decided_calls, decided_down, decided_elapses, decided_front, decided_rows, decided_shows, nothing_left}
use Rattle.sis_core.proofs.Surviving.{calls_went, entry_added}

-- ---- the opening

same_opening : (a b : Opening) → a.synced ≡ b.synced → a.seen.size ≡ b.seen.size
    → a.seen.calls ≡ b.seen.calls → a.seen.faults ≡ b.seen.faults → a.seen.told ≡ b.seen.told
    → a ≡ b
same_opening a b e f g h i =
    ap (λ (n : ℕ). record {
      synced = n;
      seen = a.seen;
    }) e
    ∙ ap (λ (s : Seen). record { synced = b.synced; seen = s })
    (ap (λ (n : ℕ). record {
      size = n;
      calls = a.seen.calls;
      faults = a.seen.faults;
      told = a.seen.told;
    }) f
    ∙ ap (λ (n : ℕ). record {
      size = b.seen.size;
      calls = n;
      faults = a.seen.faults;
      told = a.seen.told;
    }) g
    ∙ ap (λ (n : ℕ). record {
      size = b.seen.size;
      calls = b.seen.calls;
      faults = n;
      told = a.seen.told;
    }) h
    ∙ ap (λ (o : Option DiskRecord). record {
      size = b.seen.size;
      calls = b.seen.calls;
      faults = b.seen.faults;
      told = o;
    }) i)

long_enough : (n : ℕ) (seen : Seen) → IsCounted seen → n ≤ seen.calls
    → IfSome seen.told (λ r. n ≤ length r.calls)
long_enough n seen counted le = by seen.told counted
  where
    by : (o : Option DiskRecord) → IfSome o (λ r. length r.calls ≡ seen.calls)
        → IfSome o (λ r. n ≤ length r.calls)
    by None h = tt
    by (Some r) h = omega (arith, h, le)

-- ---- a command was decided

-- A client's command was decided, and its entry added. What else a core has is as before.
pub record IsEntered (old new : CoreView) (client : ℕ) (c : Command) (r : Reply) : Type 0 where
  pub has : job_of old.jobs client ≡ Some (job.Begun c)
  pub decides : (w : World) → ShowsWorld w (session_of old)
      → DecidesFor w (session_of old) (session_of new) client c r
  pub stops : StopsWell old.volume new.volume
  pub durable : IsDurable new.volume c r
  pub saved : is_end c ≡ true → IsSaved new
  pub entries : new.entries ≡ old.entries ++ entry_of client c r new.volume.seen.calls ∷ []
  pub jobs : new.jobs ≡ slice_set old.jobs client None
  pub spare : old.spare ≤ new.spare + 1
  pub synced : new.synced ≡ old.synced
  pub start : new.start ≡ old.start
  pub counted : IsCounted new.volume.seen
  pub table : IsTable new.volume.table
  pub good : IsGood new.volume.table
  pub fits : FitsArea new.volume.table

-- what becomes of the jobs
entered_answers : (old new : CoreView) (client : ℕ) (c : Command) (r : Reply)
    → IsSound old → IsClient client → IsEntered old new client c r
    → IsAnswering (jobs_in old.jobs) (jobs_in new.jobs) client c
entered_answers old new client c r s client_is e = record {
  has = ap noted e.has;
  none = λ who same.
      ap (λ (js : List (Option Job)). noted (job_of js who)) e.jobs
      ∙ ap noted (job_here old.jobs client who None lt same);
  others = λ who other.
      ap (λ (js : List (Option Job)). noted (job_of js who)) e.jobs
      ∙ ap noted (job_there old.jobs client who None other);
  plain = λ who. no_looks (job_of old.jobs who);
}
  where
    lt : client < length old.jobs
    lt = let most = client_is.1 in omega (arith, most, s.jobs.size)

entered_rows : (old new : CoreView) (client : ℕ) (c : Command) (r : Reply) → IsSound old
    → IsClient client → IsEntered old new client c r → (w : World) → ShowsWorld w (session_of old)
    → HasEntered (stage_in w old) client (entry_of client c r new.volume.seen.calls)
    (stage_in (world_with w client c r) new)
entered_rows old new client c r s client_is e w shows =
    decided_rows w old.volume new.volume (jobs_in old.jobs) (jobs_in new.jobs) client c r
    (entered_answers old new client c r s client_is e) (s.jobs.served client c e.has) e.fits
    (e.decides w shows).decided

entered_shows : (old new : CoreView) (client : ℕ) (c : Command) (r : Reply) → IsSound old
    → IsClient client → IsEntered old new client c r → (w : World) → ShowsWorld w (session_of old)
    → ShowsWorld (world_with w client c r) (session_of new)
entered_shows old new client c r s client_is e w shows =
    decided_shows w (session_of old) (session_of new) (jobs_in old.jobs) (jobs_in new.jobs) client
    c r (entered_answers old new client c r s client_is e) (s.jobs.served client c e.has) e.fits
    s.table e.table shows (e.decides w shows)

entered_elapses : (old new : CoreView) (client : ℕ) (c : Command) (r : Reply) → IsSound old
    → IsEntered old new client c r → Elapses old.volume.seen new.volume.seen
entered_elapses old new client c r s e =
    let w = world_after s.world old.entries in
    decided_elapses w old.volume new.volume client c r (e.decides w s.shows).decided

entered_opening : (old new : CoreView) (client : ℕ) (c : Command) (r : Reply) → IsSound old
    → IsEntered old new client c r → opening_of new ≡ opening_of old
entered_opening old new client c r s e =
    let w = world_after s.world old.entries in
    same_opening (opening_of new) (opening_of old) e.synced
    (entered_elapses old new client c r s e).size (ap (λ (x : CoreStart). x.calls) e.start)
    (ap (λ (x : CoreStart). x.faults) e.start)
    (ap (λ (x : CoreStart). option_map (up_to x.calls) new.volume.seen.told) e.start
    ∙ decided_front old.start.calls w old.volume new.volume client c r
    (e.decides w s.shows).decided
    (long_enough old.start.calls old.volume.seen s.counted s.elapsed))

-- what a step says of it
pub entered_steps : (old new : CoreView) (client : ℕ) (c : Command) (r : Reply) → IsSound old
    → IsClient client → IsEntered old new client c r → StepEnters old client r new
entered_steps old new client c r s client_is e = record {
  command = c;
  has = e.has;
  rows = entered_rows old new client c r s client_is e;
  shows = entered_shows old new client c r s client_is e;
  entries = e.entries;
  jobs = e.jobs;
  spare = e.spare;
  opening = entered_opening old new client c r s e;
  saved = e.saved;
  calls = λ w shows.
      decided_calls w old.volume new.volume (jobs_in old.jobs) client c r
      (e.decides w shows).decided;
}

row_behind : (es fs : List Entry) (row : Row) → with_row (es ++ fs) row ≡ es ++ with_row fs row
row_behind es fs (Begins client command) = refl
row_behind es fs (Enters entry fresh) = append_assoc es fs (entry ∷ [])
row_behind es fs (Fails client file at) = refl

rows_behind : (es fs : List Entry) (rows : List Row)
    → with_rows (es ++ fs) rows ≡ es ++ with_rows fs rows
rows_behind es fs [] = refl
rows_behind es fs (row ∷ rows) =
    ap (λ (xs : List Entry). with_rows xs rows) (row_behind es fs row)
    ∙ rows_behind es (with_row fs row) rows

-- the entries behind those of before
entries_behind : (es : List Entry) (rows : List Row) → with_rows es rows ≡ es ++ entries_of rows
entries_behind es rows =
    ap (λ (xs : List Entry). with_rows xs rows) (sym (append-nil es)) ∙ rows_behind es [] rows

-- the run goes on with the step's rows
entered_run : (old new : CoreView) (client : ℕ) (c : Command) (r : Reply) → IsSound old
    → IsClient client → IsEntered old new client c r
    → (w : World) (v : VolumeTable) (seen : Seen)
    → ShowsWorld (world_after w old.entries) (session_of old)
    → HasRun w v seen old.entries (stage_in (world_after w old.entries) old)
    → HasRun w v seen new.entries (stage_in (world_after w new.entries) new)
entered_run old new client c r s client_is e w v seen shows run' =
    let now = world_after w old.entries in
    let x = entry_of client c r new.volume.seen.calls in
    let step = entered_rows old new client c r s client_is e now shows in
    let entries : with_rows old.entries step.rows ≡ new.entries =
    entries_behind old.entries step.rows ∙ ap (λ (xs : List Entry). old.entries ++ xs) step.entry
    ∙ sym e.entries in
    let world : world_with now client c r ≡ world_after w new.entries =
    sym (world_after-push w old.entries x)
    ∙ ap (λ (es : List Entry). world_after w es) (sym e.entries) in
    subst (λ (y : World). HasRun w v seen new.entries (stage_in y new)) world
    (subst (λ (es : List Entry). HasRun w v seen es (stage_in (world_with now client c r) new))
    entries
    (run_extended w v seen old.entries (stage_in now old) (stage_in (world_with now client c r) new)
    step.rows run' step.stepped.run))

-- and the core stays sound
pub entered_sound : (old new : CoreView) (client : ℕ) (c : Command) (r : Reply) → IsSound old
    → IsClient client → IsEntered old new client c r → IsSound new
entered_sound old new client c r s client_is e =
    let x = entry_of client c r new.volume.seen.calls in
    let opening = entered_opening old new client c r s e in
    let elapses = entered_elapses old new client c r s e in
    let w = world_after s.world old.entries in
    let d = e.decides w s.shows in
    let shows = entered_shows old new client c r s client_is e w s.shows in
    let lt : client < length old.jobs =
    let most = client_is.1 in omega (arith, most, s.jobs.size) in
    record {
      world = s.world;
      opened = s.opened;
      begins =
          subst (λ (o : Opening). RunBegins o s.world s.opened) (sym opening) s.begins;
      run =
          subst (λ (o : Opening).
          HasRun s.world s.opened o.seen new.entries
          (stage_in (world_after s.world new.entries) new)) (sym opening)
          (entered_run old new client c r s client_is e s.world s.opened (opening_of old).seen
          s.shows s.run);
      shows =
          subst (λ (y : World). ShowsWorld y (session_of new))
          (sym (world_after-push s.world old.entries x)
          ∙ ap (λ (es : List Entry). world_after s.world es) (sym e.entries)) shows;
      survived =
          subst (λ (n : ℕ). IsSurvived (n + 1) s.world new.entries new.volume) (sym e.synced)
          (subst (λ (es : List Entry). IsSurvived (old.synced + 1) s.world es new.volume)
          (sym e.entries)
          (entry_added (old.synced + 1) s.world old.entries x (session_of new) e.counted refl refl
          shows e.durable
          (calls_went (old.synced + 1) s.world old.entries (session_of old) new.volume s.shows
          (λ at is. decided_down w old.volume new.volume client c r at d.decided is) e.stops
          e.counted s.survived)));
      table = e.table;
      good = e.good;
      counted = e.counted;
      jobs =
          subst HasJobs (sym e.jobs)
          (jobs_set old.jobs client None s.jobs client_is.0
          (let most = client_is.1 in omega (arith, most)) (λ d is. absurd cc));
      room =
          let sum = count_set old.jobs client None lt in
          let one = ap job_count e.has in
          let now = ap count_jobs e.jobs in
          omega (arith, sum, one, now, s.room, e.spare);
      elapsed =
          let start = ap (λ (y : CoreStart). y.calls) e.start in
          omega (arith, s.elapsed, elapses.calls, start);
    }

-- ---- the entries

-- each of them is a client's
pub sound_clients : (v : CoreView) → IsSound v → AreOfClients v.entries
sound_clients v s =
    subst AreOfClients (sym s.run.same)
    (run_entries (first_stage s.world s.opened (opening_of v).seen)
    (stage_in (world_after s.world v.entries) v) s.run.rows s.run.run
    (λ client j has. absurd (let e = has in cc)))

-- ---- a command is begun

-- where only the room for entries has changed
pub spared_sound : (old new : CoreView) → IsSound old
    → new ≡ record old { spare = new.spare } → old.spare ≤ new.spare → IsSound new
spared_sound old new s same more =
    subst IsSound (sym same) (record {
      world = s.world;
      opened = s.opened;
      begins = s.begins;
      run = s.run;
      shows = s.shows;
      survived = s.survived;
      table = s.table;
      good = s.good;
      counted = s.counted;
      jobs = s.jobs;
      room = omega (arith, s.room, more);
      elapsed = s.elapsed;
    })

begun_jobs : (old : CoreView) (w : World) (jobs : List (Option Job)) (client : ℕ) (c : Command)
    → client < length old.jobs → jobs ≡ slice_set old.jobs client (Some (job.Begun c))
    → (who : ℕ) → jobs_in jobs who ≡ jobs_by (stage_in w old) (Begins client c) who
begun_jobs old w jobs client c lt is who = by (who == client) refl
  where
    slot : noted (job_of jobs who)
        ≡ noted (job_of (slice_set old.jobs client (Some (job.Begun c))) who)
    slot = ap (λ (js : List (Option Job)). noted (job_of js who)) is

    by : (b : Bool) → (who == client) ≡ b
        → noted (job_of jobs who)
        ≡ (if b then Some (plain_job c)
        else option_map without_looks (noted (job_of old.jobs who)))
    by true same = slot ∙ ap noted (job_here old.jobs client who (Some (job.Begun c)) lt same)
    by false other =
        slot ∙ ap noted (job_there old.jobs client who (Some (job.Begun c)) other)
        ∙ sym (no_looks (job_of old.jobs who))

-- a client took a command, and what else a core has is as before
pub record IsBegun (old new : CoreView) (client : ℕ) (c : Command) : Type 0 where
  pub client_is : IsClient client
  pub idle : job_of old.jobs client ≡ None
  pub served : IsServed c
  pub next : new ≡ record old {
    spare = new.spare;
    jobs = slice_set old.jobs client (Some (job.Begun c));
  }
  pub room : count_jobs old.jobs < new.spare

pub begun_row : (old new : CoreView) (client : ℕ) (c : Command) → HasJobs old.jobs
    → IsBegun old new client c → (w : World)
    → IsRow (stage_in w old) (Begins client c) (stage_in w new)
begun_row old new client c jobs b w =
    let lt : client < length old.jobs =
    let most = b.client_is.1 in omega (arith, most, jobs.size) in
    subst (λ (v : CoreView). IsRow (stage_in w old) (Begins client c) (stage_in w v)) (sym b.next)
    (record {
      may = record {
        low = b.client_is.0;
        high = b.client_is.1;
        served = b.served;
        idle = ap noted b.idle;
        tidied = refl;
      };
      elapses = record { size = refl; calls = omega arith; faults = omega arith };
      calls = no_call old.volume.down;
      world = refl;
      table = refl;
      edits = refl;
      down = refl;
      jobs =
          begun_jobs old w (slice_set old.jobs client (Some (job.Begun c))) client c lt refl;
      stales = λ who. nothing_left (who == client);
    })
  where
    no_call : (o : Option ℕ) → MayCall o (Begins client c) (first_byte old.volume.table.layout)
        old.volume.seen old.volume.seen
    no_call None = refl
    no_call (Some at) = refl

pub begun_sound : (old new : CoreView) (client : ℕ) (c : Command) → IsSound old
    → IsBegun old new client c → IsSound new
begun_sound old new client c s b =
    let w = world_after s.world old.entries in
    let row = begun_row old new client c s.jobs b w in
    let lt : client < length old.jobs =
    let most = b.client_is.1 in omega (arith, most, s.jobs.size) in
    subst IsSound (sym b.next) (record {
      world = s.world;
      opened = s.opened;
      begins = s.begins;
      run =
          run_extended s.world s.opened (opening_of old).seen old.entries (stage_in w old)
          (stage_in w (record old {
            spare = new.spare;
            jobs = slice_set old.jobs client (Some (job.Begun c));
          })) (Begins client c ∷ []) s.run (
            stage_in w (record old {
              spare = new.spare;
              jobs = slice_set old.jobs client (Some (job.Begun c));
            }),
            subst (λ (v : CoreView). IsRow (stage_in w old) (Begins client c) (stage_in w v))
                b.next row,
            refl,
          );
      shows = s.shows;
      survived = s.survived;
      table = s.table;
      good = s.good;
      counted = s.counted;
      jobs =
          jobs_set old.jobs client (Some (job.Begun c)) s.jobs b.client_is.0
          (let most = b.client_is.1 in omega (arith, most))
          (λ d is. subst IsServed (same_command d is) b.served);
      room =
          let sum = count_set old.jobs client (Some (job.Begun c)) lt in
          let none = ap job_count b.idle in
          omega (arith, sum, none, b.room);
      elapsed = s.elapsed;
    })
  where
    same_command : (d : Command) → Some (job.Begun c) ≡ Some (job.Begun d) → c ≡ d
    same_command d e = cc

-- ---- the parts of a core

-- a core whose job in hand was taken out and decided
pub parts_entered : (old new : VolumeView) (opens later : List Open) (before after : Recorded)
    (jobs : List (Option Job)) (now : Option Job) (client : ℕ) (c : Command) (r : Reply)
    (synced : ℕ) (start : CoreStart) → job_of jobs client ≡ Some (job.Begun c) → now ≡ None
    → ((w : World) → ShowsWorld w (session old opens)
    → DecidesFor w (session old opens) (session new later) client c r)
    → StopsWell old new → IsDurable new c r
    → (is_end c ≡ true → new.down ≡ None → new.is_changed ≡ false)
    → after.entries ≡ before.entries ++ entry_of client c r new.seen.calls ∷ []
    → before.spare ≤ after.spare + 1 → IsCounted new.seen → IsTable new.table
    → IsGood new.table → FitsArea new.table
    → IsEntered (core_view old opens before jobs synced start)
    (core_view new later after (slice_set jobs client now) synced start) client c r
parts_entered old new opens later before after jobs now client c r synced start has none decides
    stops durable saved entries spare counted table good fits = record {
      has = has;
      decides = decides;
      stops = stops;
      durable = durable;
      saved = saved;
      entries = entries;
      jobs = ap (λ (j : Option Job). slice_set jobs client j) none;
      spare = spare;
      synced = refl;
      start = refl;
      counted = counted;
      table = table;
      good = good;
      fits = fits;
    }
