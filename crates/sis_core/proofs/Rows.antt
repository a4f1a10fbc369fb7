-- The rows of a step in which a client's command is decided and answered.
use Rattle.std.proofs.Common.{◌≡◌, inl, inr, ℕ, ◌≤◌, Bool, true, false, List, [], ◌∷◌, length, refl, sym, ap, subst, ◌∙◌, arith}
use Rattle.std.specs.Prelude.{◌==◌, IsSomeAnd, IfSome, if◌then◌else◌, Option, None, Some}
use Rattle.std.specs.Option.{option_map}
use Rattle.std.proofs.lemmas.List.{take-append-le}
use Rattle.sis_disk.specs.Layout.{first_byte}
use Rattle.sis_disk.specs.Record.{Call, DiskRecord, Seen}
use Rattle.sis_disk.specs.Stops.{Elapses, GoesOnBy}
use Rattle.sis_history.specs.Durable.{makes_durable}
use Rattle.sis_history.specs.Appearing.{MayAppear}
use Rattle.sis_history.specs.Changed.{Fresh}
use Rattle.sis_history.specs.Entering.{AnswersDown, Decides, MayCommit}
use Rattle.sis_history.specs.Replies.{IsServed}
use Rattle.sis_history.specs.Rows.{Enters, Fails, jobs_by, without_looks}
use Rattle.sis_history.specs.Runs.{IsRow, MayCall}
use Rattle.sis_history.specs.Shown.{ShowsFiles}
use Rattle.sis_history.specs.Stage.{Job, Stage}
use Rattle.sis_history.proofs.AppearLemmas.{world_appeared}
use Rattle.sis_history.proofs.ShownLemmas.{row_shown}
use Rattle.sis_model.specs.Answer.{MayReply, world_with}
use Rattle.sis_model.specs.World.{World}
use Rattle.sis_model.specs.declared.command.Command.{Command}
use Rattle.sis_model.specs.declared.command.Command.TheVariants as command
use Rattle.sis_model.specs.declared.history.Entry.{Entry}
use Rattle.sis_model.specs.declared.reply.Hindrance.TheVariants as hindrance
use Rattle.sis_model.specs.declared.reply.Reply.{Reply}
use Rattle.sis_model.specs.declared.reply.Reply.TheVariants as reply
use Rattle.sis_model.specs.declared.stale.Stale.{Stale}
use Rattle.sis_table.specs.Volume.{IsTable, VolumeTable}
use Rattle.sis_volume.specs.View.{VolumeView}
use Rattle.sis_core.specs.Costs.{CallsFor}
use Rattle.sis_core.specs.Deciding.{Answered, CommitFails, Decided, DecidesFor, plain_job}
use Rattle.sis_core.specs.Session.{FitsArea, Jobs, SessionView, ShowsWorld, stage_of}
use Rattle.sis_core.specs.Steps.{HasEntered, entry_of}
use Rattle.sis_core.specs.View.{up_to}
use Rattle.sis_core.proofs.CostLemmas.{calls_none}

-- What the jobs are before and after an answer: the client's command is in hand and then no more,
-- and the others stay.
pub record IsAnswering (jobs later : Jobs) (client : ℕ) (c : Command) : Type 0 where
  pub has : jobs client ≡ Some (plain_job c)
  pub none : (who : ℕ) → (who == client) ≡ true → later who ≡ None
  pub others : (who : ℕ) → (who == client) ≡ false → later who ≡ jobs who
  pub plain : (who : ℕ) → option_map without_looks (jobs who) ≡ jobs who

abbrev pub down_reply : ℕ → Reply
down_reply at = reply.Hindered (hindrance.Down at)

abbrev no_places : Fresh
no_places = record { places = [] }

no_calls : (seen : Seen) → Elapses seen seen
no_calls seen = record { size = refl; calls = omega arith; faults = omega arith }

of_job : (P : Job → Type 0) (o : Option Job) (j : Job) → o ≡ Some j → P j → IsSomeAnd o P
of_job P o j is h = subst (λ (x : Option Job). IsSomeAnd x P) (sym is) h

-- ---- jobs

abbrev pub no_stales : List Stale
no_stales = []

entered_jobs : (s : Stage) (later : Jobs) (client : ℕ) (c : Command) (e : Entry) (fresh : Fresh)
    → e.client ≡ client → IsAnswering s.jobs later client c → (who : ℕ)
    → later who ≡ jobs_by s (Enters e fresh) who
entered_jobs s later client c e fresh whose answering who =
    subst
    (λ (n : ℕ). later who ≡ (if who == n then None else option_map without_looks (s.jobs who)))
    (sym whose) (by (who == client) refl)
  where
    by : (b : Bool) → (who == client) ≡ b
        → later who ≡ (if b then None else option_map without_looks (s.jobs who))
    by true same = answering.none who same
    by false other = answering.others who other ∙ sym (answering.plain who)

failed_jobs : (s : Stage) (later : Jobs) (client at : ℕ) (c : Command)
    → IsAnswering s.jobs later client c → (who : ℕ)
    → s.jobs who ≡ jobs_by s (Fails client None at) who
failed_jobs s later client at c answering who = by (who == client)
  where
    by : (b : Bool) → s.jobs who
        ≡ (if b then option_map without_looks (s.jobs who)
        else option_map without_looks (s.jobs who))
    by true = sym (answering.plain who)
    by false = sym (answering.plain who)

pub nothing_left : (b : Bool) → no_stales ≡ (if b then no_stales else no_stales)
nothing_left true = refl
nothing_left false = refl

-- ---- rows

-- the command was decided while no commit has failed
answered_row : (w : World) (old new : VolumeView) (jobs later : Jobs) (client : ℕ) (c : Command)
    (r : Reply) (fresh : Fresh) → IsAnswering jobs later client c → IsServed c
    → FitsArea new.table → Answered w old new client c r fresh
    → IsRow (stage_of w old jobs) (Enters (entry_of client c r new.seen.calls) fresh)
    (stage_of (world_with w client c r) new later)
answered_row w old new jobs later client c r fresh answering served fits a =
    let e = entry_of client c r new.seen.calls in
    let s = stage_of w old jobs in
    let t = stage_of (world_with w client c r) new later in
    record {
      may = record {
        job =
            of_job (Decides s fresh t e) (jobs client) (plain_job c) answering.has
            (record { asked = refl; fits = a.fits fits jobs later (world_with w client c r) });
        served = served;
        may = a.may;
        told = a.told;
        down = subst (λ (o : Option ℕ). AnswersDown o r) (sym a.was_up) a.not_down;
        decided = refl;
        uncalled = a.uncalled jobs;
        quiet = a.quiet;
        answered = refl;
      };
      elapses = a.elapses;
      calls =
          subst (λ (o : Option ℕ).
          MayCall o (Enters e fresh) (first_byte old.table.layout) old.seen new.seen)
          (sym a.was_up) a.calls;
      world = refl;
      table = a.table jobs;
      edits = (a.edits.durable, a.edits.only jobs);
      down = a.up ∙ sym a.was_up;
      jobs = entered_jobs s later client c e fresh refl answering;
      stales = λ who. nothing_left (who == client);
    }

-- a commit failed in the step of the client's command
failed_row : (w : World) (old new : VolumeView) (jobs later : Jobs) (client : ℕ) (c : Command)
    (r : Reply) (at : ℕ) → IsAnswering jobs later client c → CommitFails w old new client c r at
    → IsRow (stage_of w old jobs) (Fails client None at) (stage_of w new jobs)
failed_row w old new jobs later client c r at answering f =
    let s = stage_of w old jobs in
    record {
      may = (
        f.was_up,
        refl,
        of_job (MayCommit s client) (jobs client) (plain_job c) answering.has (f.may jobs),
      );
      elapses = f.elapses;
      calls =
          subst (λ (o : Option ℕ).
          MayCall o (Fails client None at) (first_byte old.table.layout) old.seen new.seen)
          (sym f.was_up) f.calls;
      world = refl;
      table = f.table;
      edits = f.changed;
      down = f.down;
      jobs = failed_jobs s later client at c answering;
      stales = λ who. nothing_left (who == client);
    }

-- once a commit failed, the command is answered so
down_row : (w : World) (v : VolumeView) (jobs later : Jobs) (client : ℕ) (c : Command)
    (r : Reply) (at : ℕ) → IsAnswering jobs later client c → IsServed c → v.down ≡ Some at
    → r ≡ down_reply at
    → IsRow (stage_of w v jobs) (Enters (entry_of client c r v.seen.calls) no_places)
    (stage_of (world_with w client c r) v later)
down_row w v jobs later client c r at answering served down is =
    subst (λ (x : Reply).
    IsRow (stage_of w v jobs) (Enters (entry_of client c x v.seen.calls) no_places)
    (stage_of (world_with w client c x) v later))
    (sym is) (record {
      may = record {
        job =
            of_job (Decides s no_places t e) (jobs client) (plain_job c) answering.has
            (record { asked = refl; fits = down });
        served = served;
        may = inl refl;
        told = told v.seen.told;
        down =
            subst (λ (o : Option ℕ). AnswersDown o (down_reply at)) (sym down) refl;
        decided = refl;
        uncalled = λ none. refl;
        quiet = λ done. refl;
        answered = refl;
      };
      elapses = no_calls v.seen;
      calls =
          subst (λ (o : Option ℕ).
          MayCall o (Enters e no_places) (first_byte v.table.layout) v.seen v.seen)
          (sym down) refl;
      world = refl;
      table = refl;
      edits = (λ durable. absurd (not_durable c durable), λ changed. inl changed);
      down = refl;
      jobs = entered_jobs s later client c e no_places refl answering;
      stales = λ who. nothing_left (who == client);
    })
  where
    s : Stage
    s = stage_of w v jobs

    t : Stage
    t = stage_of w v later

    e : Entry
    e = entry_of client c (down_reply at) v.seen.calls

    told : (o : Option DiskRecord) → IfSome o (λ r. MayReply w client c (down_reply at))
    told None = tt
    told (Some r) = inl refl

    not_durable : (asked : Command) → makes_durable asked (down_reply at) ≡ true → ⊥
    not_durable (command.Put name bytes) says = absurd cc
    not_durable (command.Open name write) says = absurd cc
    not_durable (command.Read number at len) says = absurd cc
    not_durable (command.Write number at bytes) says = absurd cc
    not_durable (command.Size number len) says = absurd cc
    not_durable (command.Close number) says = absurd cc
    not_durable (command.Remove name) says = absurd cc
    not_durable (command.Rename old new) says = absurd cc
    not_durable (command.Stat name) says = absurd cc
    not_durable (command.List after) says = absurd cc
    not_durable (command.Tell name) says = absurd cc
    not_durable command.Space says = absurd cc
    not_durable (command.Fsctl code bytes) says = absurd cc
    not_durable command.Sync says = absurd cc
    not_durable command.Grovel says = absurd cc
    not_durable command.End says = absurd cc

-- ---- the step

one_row : (s t : Stage) (client : ℕ) (e : Entry) (fresh : Fresh) → e.client ≡ client
    → IsRow s (Enters e fresh) t → HasEntered s client e t
one_row s t client e fresh whose is = record {
  rows = Enters e fresh ∷ [];
  stepped = record {
    run = (t, is, refl);
    own = (whose, tt);
    none_begins = refl;
    few = omega arith;
  };
  entry = refl;
}

two_rows : (s mid t : Stage) (client at : ℕ) (e : Entry) (fresh : Fresh) → e.client ≡ client
    → IsRow s (Fails client None at) mid → IsRow mid (Enters e fresh) t → HasEntered s client e t
two_rows s mid t client at e fresh whose fails is = record {
  rows = Fails client None at ∷ Enters e fresh ∷ [];
  stepped = record {
    run = (mid, fails, (t, is, refl));
    own = (refl, (whose, tt));
    none_begins = refl;
    few = omega arith;
  };
  entry = refl;
}

-- a command that was decided has the rows of a step
pub decided_rows : (w : World) (old new : VolumeView) (jobs later : Jobs) (client : ℕ)
    (c : Command) (r : Reply) → IsAnswering jobs later client c → IsServed c
    → FitsArea new.table → Decided w old new client c r
    → HasEntered (stage_of w old jobs) client (entry_of client c r new.seen.calls)
    (stage_of (world_with w client c r) new later)
decided_rows w old new jobs later client c r answering served fits (inl answered) =
    one_row _ _ client (entry_of client c r new.seen.calls) answered.0 refl
    (answered_row w old new jobs later client c r answered.0 answering served fits answered.1)
decided_rows w old new jobs later client c r answering served fits (inr (inl fell)) =
    let f = fell.1 in
    two_rows _ (stage_of w new jobs) _ client fell.0 (entry_of client c r new.seen.calls)
    no_places refl (failed_row w old new jobs later client c r fell.0 answering f)
    (down_row w new jobs later client c r fell.0 answering served f.down f.replied)
decided_rows w old new jobs later client c r answering served fits (inr (inr was)) =
    let d = was.1 in
    subst (λ (v : VolumeView).
    HasEntered (stage_of w old jobs) client (entry_of client c r v.seen.calls)
    (stage_of (world_with w client c r) v later)) (sym d.same)
    (one_row _ _ client (entry_of client c r old.seen.calls) no_places refl
    (down_row w old jobs later client c r was.0 answering served d.down d.replied))

-- ---- the world after it

down_appears : (w : World) (client : ℕ) (c : Command) (r : Reply) (at : ℕ) → r ≡ down_reply at
    → MayAppear w client c r
down_appears w client c r at is =
    subst (λ (x : Reply). MayAppear w client c x) (sym is) (inl refl)

down_world : (w : World) (client : ℕ) (c : Command) (r : Reply) (at : ℕ) → r ≡ down_reply at
    → world_with w client c r ≡ w
down_world w client c r at is = ap (λ (x : Reply). world_with w client c x) is

decided_appears : (w : World) (old new : VolumeView) (client : ℕ) (c : Command) (r : Reply)
    → Decided w old new client c r → MayAppear w client c r
decided_appears w old new client c r (inl answered) = answered.1.may
decided_appears w old new client c r (inr (inl fell)) =
    down_appears w client c r fell.0 fell.1.replied
decided_appears w old new client c r (inr (inr was)) =
    down_appears w client c r was.0 was.1.replied

still_shown : (w x : World) (v u : VolumeTable) → x ≡ w → u ≡ v → ShowsFiles w v
    → ShowsFiles x u
still_shown w x v u same_world same_table shown =
    subst (λ (y : World). ShowsFiles y u) (sym same_world)
    (subst (λ (a : VolumeTable). ShowsFiles w a) (sym same_table) shown)

decided_files : (w : World) (s : SessionView) (new : VolumeView) (jobs later : Jobs)
    (client : ℕ) (c : Command) (r : Reply) → IsAnswering jobs later client c → IsServed c
    → FitsArea new.table → IsTable s.volume.table → IsTable new.table → ShowsWorld w s
    → Decided w s.volume new client c r → ShowsFiles (world_with w client c r) new.table
decided_files w s new jobs later client c r is served fits before after shows (inl answered) =
    row_shown _ (stage_of (world_with w client c r) new later) _
    (answered_row w s.volume new jobs later client c r answered.0 is served fits answered.1)
    before after shows.world shows.files
decided_files w s new jobs later client c r is served fits before after shows (inr (inl fell)) =
    still_shown w (world_with w client c r) s.volume.table new.table
    (down_world w client c r fell.0 fell.1.replied) fell.1.table shows.files
decided_files w s new jobs later client c r is served fits before after shows (inr (inr was)) =
    still_shown w (world_with w client c r) s.volume.table new.table
    (down_world w client c r was.0 was.1.replied)
    (ap (λ (v : VolumeView). v.table) was.1.same) shows.files

-- the session shows the next world
pub decided_shows : (w : World) (old new : SessionView) (jobs later : Jobs) (client : ℕ)
    (c : Command) (r : Reply) → IsAnswering jobs later client c → IsServed c
    → FitsArea new.volume.table → IsTable old.volume.table → IsTable new.volume.table
    → ShowsWorld w old → DecidesFor w old new client c r
    → ShowsWorld (world_with w client c r) new
decided_shows w old new jobs later client c r answering served fits before after shows d = record {
  world =
      world_appeared w client c r shows.world
      (decided_appears w old.volume new.volume client c r d.decided);
  files =
      decided_files w old new.volume jobs later client c r answering served fits before after shows
      d.decided;
  stands = d.stands;
  opens = d.opens;
  there = d.there;
}

-- ---- what is seen of the disk

-- a failed commit is the end
pub decided_down : (w : World) (old new : VolumeView) (client : ℕ) (c : Command) (r : Reply)
    (at : ℕ) → Decided w old new client c r → old.down ≡ Some at → new.down ≡ Some at
decided_down w old new client c r at (inl answered) is =
    absurd (let e = sym answered.1.was_up ∙ is in cc)
decided_down w old new client c r at (inr (inl fell)) is =
    absurd (let e = sym fell.1.was_up ∙ is in cc)
decided_down w old new client c r at (inr (inr was)) is =
    ap (λ (v : VolumeView). v.down) was.1.same ∙ is

pub decided_elapses : (w : World) (old new : VolumeView) (client : ℕ) (c : Command) (r : Reply)
    → Decided w old new client c r → Elapses old.seen new.seen
decided_elapses w old new client c r (inl answered) = answered.1.elapses
decided_elapses w old new client c r (inr (inl fell)) = fell.1.elapses
decided_elapses w old new client c r (inr (inr was)) =
    subst (λ (v : VolumeView). Elapses old.seen v.seen) (sym was.1.same) (no_calls old.seen)

-- its calls were for the command
pub decided_calls : (w : World) (old new : VolumeView) (jobs : Jobs) (client : ℕ) (c : Command)
    (r : Reply) → Decided w old new client c r → CallsFor (stage_of w old jobs) old new client c
decided_calls w old new jobs client c r (inl answered) = answered.1.needed jobs
decided_calls w old new jobs client c r (inr (inl fell)) = fell.1.needed jobs
decided_calls w old new jobs client c r (inr (inr was)) =
    subst (λ (v : VolumeView). CallsFor (stage_of w old jobs) old v client c) (sym was.1.same)
    (calls_none (stage_of w old jobs) old client c)

-- the first calls that a disk tells it tells still
front_on : (Are : List Call → Type 0) (n : ℕ) (was now : Option DiskRecord)
    → GoesOnBy Are was now → IfSome was (λ r. n ≤ length r.calls)
    → option_map (up_to n) now ≡ option_map (up_to n) was
front_on Are n None now goes le = ap (option_map (up_to n)) goes
front_on Are n (Some q) now goes le =
    ap (option_map (up_to n)) goes.1
    ∙ ap (λ (cs : List Call). Some (record { opening = q.opening; calls = cs }))
    (take-append-le n q.calls goes.0 le)

pub decided_front : (n : ℕ) (w : World) (old new : VolumeView) (client : ℕ) (c : Command)
    (r : Reply) → Decided w old new client c r → IfSome old.seen.told (λ r. n ≤ length r.calls)
    → option_map (up_to n) new.seen.told ≡ option_map (up_to n) old.seen.told
decided_front n w old new client c r (inl answered) le =
    front_on _ n old.seen.told new.seen.told answered.1.calls.told le
decided_front n w old new client c r (inr (inl fell)) le = elim fell.1.calls.told [
  | inl made ↦ front_on _ n old.seen.told new.seen.told made.1 le
  | inr none ↦ front_on _ n old.seen.told new.seen.told none.1 le
]
decided_front n w old new client c r (inr (inr was)) le =
    ap (λ (v : VolumeView). option_map (up_to n) v.seen.told) was.1.same
