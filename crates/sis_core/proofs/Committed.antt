-- What commands that commit are answered.
use Rattle.std.proofs.Common.{◌≡◌, inl, inr, ℕ, ◌+◌, ◌<◌, ◌≤◌, ◌&&◌, ◌||◌, not, Bool, true, false, if◌then◌else◌, List, [], filter, length, Option, None, Some, Result, Ok, Err, refl, sym, ap, subst, ◌∙◌, arith}
use Rattle.std.specs.Prelude.{IfErr, IfSome, IsOk, IsSomeAnd, OnErr, OnOk, ◌==◌}
use Rattle.sis_disk.specs.Causes.{GoesDown, GoesWell}
use Rattle.sis_disk.specs.Layout.{first_byte}
use Rattle.sis_disk.specs.Stops.{Elapses}
use Rattle.sis_disk.proofs.GoesOn.{up_well}
use Rattle.sis_history.specs.Appearing.{MayAppear}
use Rattle.sis_history.specs.Causes.{IsCarriedOut, commits, moves_data}
use Rattle.sis_history.specs.Changed.{changed_table, table_as}
use Rattle.sis_history.specs.Entering.{comes_first, is_down}
use Rattle.sis_history.specs.Needs.{IsUnhindered, Need, need_of, no_need}
use Rattle.sis_history.specs.Stage.{Stage}
use Rattle.sis_history.specs.Replies.{Fits, IsFate}
use Rattle.sis_history.proofs.ExactLemmas.{no_need_free}
use Rattle.sis_model.specs.Answer.{IsDone, MayReply, kind_of, refusal_of, refusal_of_open}
use Rattle.sis_model.specs.World.{World, OpenFile, is_open_as}
use Rattle.sis_model.specs.declared.command.Command.{Command}
use Rattle.sis_model.specs.declared.command.Command.TheVariants as command
use Rattle.sis_model.specs.declared.reply.Fate.{Fate}
use Rattle.sis_model.specs.declared.reply.Fate.TheVariants as fate
use Rattle.sis_model.specs.declared.reply.Hindrance.{Hindrance}
use Rattle.sis_model.specs.declared.reply.Hindrance.TheVariants as hindrance
use Rattle.sis_model.specs.declared.reply.Reply.{Reply}
use Rattle.sis_model.specs.declared.reply.Reply.TheVariants as reply
use Rattle.sis_model.specs.declared.unsettled.UnsettledFile.{UnsettledFile}
use Rattle.sis_name.specs.Files.{Files}
use Rattle.sis_table.specs.Content.{files_in}
use Rattle.sis_table.specs.Volume.{VolumeTable, IsTable, node_named}
use Rattle.sis_table.specs.declared.node.Node.{Node}
use Rattle.sis_volume.specs.Stopping.{IsCommitted}
use Rattle.sis_volume.specs.View.{VolumeView}
use Rattle.sis_core.specs.Costs.{CallsFor, FailsFor, step_calls}
use Rattle.sis_core.specs.Deciding.{Decided, DecidesFor, plain_job}
use Rattle.sis_core.specs.Opens.{fate_in, has_other_writer, is_as, is_of, open_as}
use Rattle.sis_core.specs.Session.{AreThere, FitsArea, Jobs, SessionView, ShowsWorld, session, stage_of}
use Rattle.sis_core.specs.declared.opens.Open.{Open}
use Rattle.sis_core.proofs.Opened.{IsOpened, is_opened}
use Rattle.sis_core.proofs.OpensLemmas.{count_shown, passing_shown, passing_there, writers_shown}
use Rattle.sis_core.proofs.Operated.{decides_same, different, if_some}
use Rattle.sis_core.proofs.Told.{carried, no_fresh}

-- what a commit ensures
pub record Commits {T : Type 0} (r : Result T Hindrance) (old new : VolumeView) : Type 0 where
  pub ok : OnOk r (IsCommitted old new)
  pub unchanged : old.down ≡ None → old.is_changed ≡ false → IsOk r × (new ≡ old)
  pub well : OnOk r (GoesWell (first_byte old.table.layout) old.seen new.seen)
  pub err : OnErr r (new ≡ record old { seen = new.seen; down = new.down })
  pub failed : IfErr r (λ h. (at : ℕ) × (h ≡ hindrance.Down at) × (new.down ≡ Some at)
      × (old.down ≡ None → GoesDown (first_byte old.table.layout) at old.seen new.seen))
  pub quiet : OnOk r (new.seen.faults ≡ old.seen.faults)
  pub files : files_in new.table new.seen ≡ files_in old.table old.seen
  pub elapses : Elapses old.seen new.seen
  pub calls : new.seen.calls ≤ old.seen.calls + 4
  pub number : old.down ≡ None
      → IfErr r (λ h. (at : ℕ) × (h ≡ hindrance.Down at) × (at < old.seen.calls + 4))

-- a command that commits is neither refused nor hindered, and needs nothing besides
pub record IsCommitting (w : World) (v : VolumeView) (client : ℕ) (c : Command) : Type 0 where
  pub accepted : refusal_of w client c ≡ None
  pub waits : commits c ≡ true
  pub needs : (jobs : Jobs) → need_of (stage_of w v jobs) client c ≡ no_need
  pub moves : (jobs : Jobs) → moves_data (stage_of w v jobs) client c ≡ false
  pub table : (jobs : Jobs) → changed_table (stage_of w v jobs) client c no_fresh ≡ v.table

-- a commit that failed was one of what was edited
failed_edited : {T : Type 0} (by : Hindrance) (old new : VolumeView) → old.down ≡ None
    → Commits {T = T} (Err by) old new → old.is_changed ≡ true
failed_edited by old new up h = edited old.is_changed refl
  where
    edited : (b : Bool) → old.is_changed ≡ b → old.is_changed ≡ true
    edited true is = is
    edited false is = absurd (different (sym (h.unchanged up is).0))

-- a commit's calls are for the command that commits
calls_committed : {T : Type 0} (r : Result T Hindrance) (s : Stage) (old new : VolumeView)
    (client : ℕ) (c : Command) → commits c ≡ true → old.down ≡ None → Commits r old new
    → CallsFor s old new client c
calls_committed {T = T} r s old new client c does up h = record {
  calls = by old.is_changed refl;
  still = λ waits. absurd (different (sym does ∙ waits));
  fell = λ e. fell r h;
}
  where
    by : (b : Bool) → old.is_changed ≡ b
        → new.seen.calls ≤ old.seen.calls + step_calls old s client c
    by true is = rw (does, is) h.calls
    by false is =
        let same = ap (λ (v : VolumeView). v.seen.calls) (h.unchanged up is).1 in
        rw (does, is) (omega (arith, same))

    soon : (at call : ℕ) → hindrance.Down at ≡ hindrance.Down call
        → call < old.seen.calls + 4 → at < old.seen.calls + 4
    soon at call same below = let one : at ≡ call = cc in omega (arith, one, below)

    fell : (q : Result T Hindrance) → Commits q old new
        → IfSome new.down (FailsFor s old client c)
    fell (Ok x) went =
        subst (λ (o : Option ℕ). IfSome o (FailsFor s old client c)) (sym went.ok.up) tt
    fell (Err hindered) went =
        let failed = went.failed in
        let number = went.number up in
        subst (λ (o : Option ℕ). IfSome o (FailsFor s old client c)) (sym failed.2)
        (record {
          soon = soon failed.0 number.0 (sym failed.1 ∙ number.1) number.2;
          edited = failed_edited hindered old new up went;
          lacked = λ waits. absurd (different (sym does ∙ waits));
        })

-- ---- a commit failed

pub commit_err : {T : Type 0} (r : Result T Hindrance) (w : World) (s : SessionView)
    (new : VolumeView) (client : ℕ) (c : Command) (by : Hindrance) → r ≡ Err by → ShowsWorld w s
    → s.volume.down ≡ None → IsTable s.volume.table → IsCommitting w s.volume client c
    → Commits r s.volume new → DecidesFor w s (session new s.opens) client c (reply.Hindered by)
commit_err {T = T} r w s new client c by is shows up t does h =
    subst (λ (x : Hindrance). DecidesFor w s (session new s.opens) client c (reply.Hindered x))
    (sym failed.1)
    (decides_same w s new client c (reply.Hindered (hindrance.Down failed.0)) shows refl table
    h.files (inr (inl (
      failed.0,
      record {
        was_up = up;
        down = failed.2;
        replied = refl;
        may = λ jobs. record {
          accepted = does.accepted;
          unhindered =
              subst (λ (n : Need). IsUnhindered s.volume.table n) (sym (does.needs jobs))
              (no_need_free s.volume.table t);
          edited = failed_edited by s.volume new up here;
          cause = inl does.waits;
        };
        table = table;
        changed = ap (λ (v : VolumeView). v.is_changed) here.err;
        needed = λ jobs.
            calls_committed (Err by) (stage_of w s.volume jobs) s.volume new client c does.waits
            up here;
        calls = failed.3 up;
        elapses = h.elapses;
      },
    ))))
  where
    here : Commits {T = T} (Err by) s.volume new
    here = subst (λ (q : Result T Hindrance). Commits q s.volume new) is h

    failed : (at : ℕ) × (by ≡ hindrance.Down at) × (new.down ≡ Some at)
        × (s.volume.down ≡ None
        → GoesDown (first_byte s.volume.table.layout) at s.volume.seen new.seen)
    failed = here.failed

    table : new.table ≡ s.volume.table
    table = ap (λ (v : VolumeView). v.table) here.err

-- ---- all was committed

idle : (a waits b first : Bool) → a ≡ false → waits ≡ true → first ≡ false
    → ((a || (waits && b)) && not first) ≡ false → b ≡ false
idle true waits b first none does last test = absurd (different none)
idle false false b first none does last test = absurd (different (sym does))
idle false true false first none does last test = refl
idle false true true true none does last test = absurd (different last)
idle false true true false none does last test = test

pub commit_ok : {T : Type 0} (r : Result T Hindrance) (x : T) (w : World) (v new : VolumeView)
    (client : ℕ) (c : Command) (answer : Reply) → r ≡ Ok x → v.down ≡ None → IsTable v.table
    → IsCommitting w v client c → kind_of answer ≡ IsDone → is_down answer ≡ false
    → comes_first answer ≡ false → MayAppear w client c answer → MayReply w client c answer
    → ((jobs later : Jobs) (next : World) → IsCarriedOut (stage_of w v jobs) client c no_fresh
    → Fits (stage_of w v jobs) no_fresh (stage_of next new later) client (plain_job c) answer)
    → Commits r v new → Decided w v new client c answer
commit_ok {T = T} r x w v new client c answer is up t does kind not_down last may reply_is fits h =
    inl (
      no_fresh,
      record {
        was_up = up;
        up = ok.up;
        not_down = not_down;
        may = may;
        told = if_some (MayReply w client c answer) new.seen.told reply_is;
        fits = λ area jobs later next. fits jobs later next
            (carried (stage_of w v jobs) client c t (does.needs jobs) (does.table jobs)
            (subst (λ (u : VolumeTable). FitsArea u) table area));
        uncalled = λ jobs test.
            ap (λ (u : VolumeView). u.seen) (h.unchanged up
            (idle (moves_data (stage_of w v jobs) client c) (commits c) v.is_changed
            (comes_first answer) (does.moves jobs) does.waits last test)).1;
        quiet = λ done. here.quiet;
        table = λ jobs.
            table
            ∙ sym (ap (table_as (stage_of w v jobs) client c no_fresh) kind ∙ does.table jobs);
        edits = record {
          durable = λ durable. saved;
          only = λ jobs is_changed. absurd (different (sym is_changed ∙ saved));
        };
        needed = λ jobs.
            calls_committed (Ok x) (stage_of w v jobs) v new client c does.waits up here;
        calls = up_well (first_byte v.table.layout) v.seen new.seen here.well;
        elapses = h.elapses;
      },
    )
  where
    here : Commits {T = T} (Ok x) v new
    here = subst (λ (q : Result T Hindrance). Commits q v new) is h

    ok : IsCommitted v new
    ok = here.ok

    table : new.table ≡ v.table
    table = ap (λ (u : VolumeView). u.table) ok.same

    saved : new.is_changed ≡ false
    saved = ap (λ (u : VolumeView). u.is_changed) ok.same

committed_table : {T : Type 0} (r : Result T Hindrance) (x : T) (v new : VolumeView) → r ≡ Ok x
    → Commits r v new → new.table ≡ v.table
committed_table {T = T} r x v new is h =
    let here : Commits {T = T} (Ok x) v new =
    subst (λ (q : Result T Hindrance). Commits q v new) is h in
    ap (λ (u : VolumeView). u.table) here.ok.same

-- the files stay as they were
files_stand : (w : World) (s : SessionView) (new : VolumeView) → ShowsWorld w s
    → files_in new.table new.seen ≡ files_in s.volume.table s.volume.seen
    → IfSome (files_in new.table new.seen) (λ files. files ≡ w.files)
files_stand w s new shows files =
    subst (λ (o : Option Files). IfSome o (λ fs. fs ≡ w.files)) (sym files) shows.stands

-- ---- sync

abbrev pub syncs : (w : World) (v : VolumeView) (client : ℕ) → IsCommitting w v client command.Sync
syncs w v client = record {
  accepted = refl;
  waits = refl;
  needs = λ jobs. refl;
  moves = λ jobs. refl;
  table = λ jobs. refl;
}

pub sync_done : {T : Type 0} (r : Result T Hindrance) (x : T) (w : World) (s : SessionView)
    (new : VolumeView) (client : ℕ) → r ≡ Ok x → ShowsWorld w s → s.volume.down ≡ None
    → IsTable s.volume.table → Commits r s.volume new
    → DecidesFor w s (session new s.opens) client command.Sync reply.Done
sync_done r x w s new client is shows up t h =
    decides_same w s new client command.Sync reply.Done shows refl
    (committed_table r x s.volume new is h) h.files
    (commit_ok r x w s.volume new client command.Sync reply.Done is up t (syncs w s.volume client)
    refl refl refl (refl, refl) (refl, refl) (λ jobs later next fits. fits) h)

-- ---- end

abbrev pub ends : (w : World) (v : VolumeView) (client : ℕ) → IsCommitting w v client command.End
ends w v client = record {
  accepted = refl;
  waits = refl;
  needs = λ jobs. refl;
  moves = λ jobs. refl;
  table = λ jobs. refl;
}

pub end_done : {T : Type 0} (r : Result T Hindrance) (x : T) (w : World) (s : SessionView)
    (new : VolumeView) (opens : List Open) (client closed : ℕ) (unsettled : List UnsettledFile)
    → r ≡ Ok x → ShowsWorld w s → s.volume.down ≡ None → IsTable s.volume.table
    → closed ≡ length (filter (is_of client) s.opens)
    → opens ≡ filter (λ o. not (is_of client o)) s.opens → unsettled ≡ []
    → Commits r s.volume new
    → DecidesFor w s (session new opens) client command.End (reply.Ended closed unsettled)
end_done r x w s new opens client closed unsettled is shows up t count left none h =
    let table = committed_table r x s.volume new is h in
    let may : MayReply w client command.End (reply.Ended closed unsettled) =
    (refl, count ∙ sym (count_shown w s client shows)) in
    subst (λ (os : List Open).
    DecidesFor w s (session new os) client command.End (reply.Ended closed unsettled)) (sym left)
    (record {
      decided =
          commit_ok r x w s.volume new client command.End (reply.Ended closed unsettled) is up t
          (ends w s.volume client) refl refl refl may may (λ jobs later next fits. (fits, none)) h;
      stands = files_stand w s new shows h.files;
      opens =
          passing_shown w s new.table (λ (o : OpenFile). not (o.client == client))
          (λ (o : Open). not (is_of client o)) shows table (λ o. refl);
      there =
          subst (λ (v : VolumeTable). AreThere v (filter (λ (o : Open). not (is_of client o)) s.opens))
          (sym table)
          (passing_there s.volume.table (λ (o : Open). not (is_of client o)) s.opens shows.there);
    })

-- ---- close

pub closes : (w : World) (s : SessionView) (client number : ℕ) (this : Open) (n : Node)
    → IsOpened w s client number this n
    → IsCommitting w s.volume client (command.Close number)
closes w s client number this n is = record {
  accepted = ap (λ (o : Option OpenFile). refusal_of_open o None) is.open';
  waits = refl;
  needs = λ jobs. refl;
  moves = λ jobs. refl;
  table = λ jobs. refl;
}

-- the fate that the opens say is the one that the world says
fate_is : (w : World) (s : SessionView) (client number : ℕ) (this : Open) (n : Node) (jobs : Jobs)
    → ShowsWorld w s → IsTable s.volume.table → IsOpened w s client number this n
    → IsFate (stage_of w s.volume jobs) (plain_job (command.Close number))
    (record { client = this.client; number = this.number; name = n.name; writes = this.writes }) n
    (fate_in s.opens this)
fate_is w s client number this n jobs shows t is =
    by this.writes refl (has_other_writer this s.opens) refl
  where
    file : OpenFile
    file =
        record { client = this.client; number = this.number; name = n.name; writes = this.writes }

    by : (a : Bool) → this.writes ≡ a → (b : Bool) → has_other_writer this s.opens ≡ b
        → IsFate (stage_of w s.volume jobs) (plain_job (command.Close number))
        (record { client = this.client; number = this.number; name = n.name; writes = this.writes })
        n (if not a then fate.Read else if b then fate.Writer else fate.Plain)
    by false a b c = a
    by true a true c = (a, writers_shown w s client number this n shows t is ∙ c)
    by true a false c = (
      record { writes = a; alone = writers_shown w s client number this n shows t is ∙ c },
      is.plain,
      refl,
    )

pub close_done : {T : Type 0} (r : Result T Hindrance) (x : T) (w : World) (s : SessionView)
    (new : VolumeView) (opens : List Open) (client number : ℕ) (this : Open) (left : Fate)
    → r ≡ Ok x → ShowsWorld w s → s.volume.down ≡ None → IsTable s.volume.table
    → open_as client number s.opens ≡ Some this → left ≡ fate_in s.opens this
    → opens ≡ filter (λ o. not (is_as client number o)) s.opens → Commits r s.volume new
    → DecidesFor w s (session new opens) client (command.Close number) (reply.Closed left)
close_done r x w s new opens client number this left is shows up t has left_is after h =
    let opened = is_opened w s client number this shows t has in
    let n = opened.0 in
    let there = opened.1 in
    let table = committed_table r x s.volume new is h in
    let does = closes w s client number this n there in
    let may : MayReply w client (command.Close number) (reply.Closed left) =
    (does.accepted, tt) in
    subst (λ (os : List Open).
    DecidesFor w s (session new os) client (command.Close number) (reply.Closed left)) (sym after)
    (record {
      decided =
          commit_ok r x w s.volume new client (command.Close number) (reply.Closed left) is up t
          does refl refl refl may may
          (λ jobs later next fits. (
            fits,
            subst (λ (o : Option OpenFile). IsSomeAnd o
                (λ o. IsSomeAnd (node_named s.volume.table o.name)
                (λ m. IsFate (stage_of w s.volume jobs) (plain_job (command.Close number)) o m
                left)))
                (sym there.open')
                (subst (λ (m : Option Node). IsSomeAnd m
                (λ m. IsFate (stage_of w s.volume jobs) (plain_job (command.Close number))
                (record {
                  client = this.client;
                  number = this.number;
                  name = n.name;
                  writes = this.writes;
                }) m left))
                (sym there.named)
                (subst (λ (f : Fate).
                IsFate (stage_of w s.volume jobs) (plain_job (command.Close number)) (record {
                  client = this.client;
                  number = this.number;
                  name = n.name;
                  writes = this.writes;
                }) n f) (sym left_is)
                (fate_is w s client number this n jobs shows t there))),
          )) h;
      stands = files_stand w s new shows h.files;
      opens =
          passing_shown w s new.table (λ (o : OpenFile). not (is_open_as client number o))
          (λ (o : Open). not (is_as client number o)) shows table (λ o. refl);
      there =
          subst
          (λ (v : VolumeTable). AreThere v (filter (λ (o : Open). not (is_as client number o)) s.opens))
          (sym table)
          (passing_there s.volume.table (λ (o : Open). not (is_as client number o)) s.opens
          shows.there);
    })
