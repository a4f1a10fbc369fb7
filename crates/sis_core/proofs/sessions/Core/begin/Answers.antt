use Rattle.std.proofs.Common.{subst, ◌≡◌, ◌∙◌, ap, sym, false, List}
use Rattle.std.specs.Prelude.{slice_set, Result, Ok, Err, is_err, OnOk, None, Some}
use Rattle.sis_model.specs.declared.history.Entry.{Entry}
use Rattle.sis_core.specs.declared.job.Job.TheVariants as job
use Rattle.sis_core.specs.View.{CoreView, core_view, job_of}
use Rattle.sis_core.proofs.Sounding.{begun_sound, spared_sound}
use Rattle.sis_core.proofs.sessions.Core.begin.Goals as goal

made_ok : {T E : Type 0} (r : Result T E) (P : Type 0) → is_err r ≡ false → OnOk r P → P
made_ok (Ok x) P e h = h
made_ok (Err x) P e h = absurd cc

pub invariant_of-self : goal.invariant_of-self
invariant_of-self g c =
    let i = c.self.inside in
    spared_sound (core_view i.volume i.opens i.history i.jobs i.synced i.start)
    (core_view i.volume i.opens c.make_room.new.history i.jobs i.synced i.start)
    c.self.invariant
    (ap (λ (es : List Entry).
    core_view i.volume i.opens (record {
      entries = es;
      spare = c.make_room.new.history.spare;
    }) i.jobs i.synced i.start) c.make_room.ensures.entries)
    c.make_room.ensures.spare

pub returns-then-is_err-clause-sound : goal.returns-then-is_err-clause-sound
returns-then-is_err-clause-sound g c = invariant_of-self g c

pub invariant_of-self-2 : goal.invariant_of-self-2
invariant_of-self-2 g c =
    let i = c.self.inside in
    let jobs = slice_set i.jobs c.args.client (Some (job.Begun c.args.command)) in
    begun_sound (core_view i.volume i.opens i.history i.jobs i.synced i.start)
    (core_view i.volume i.opens c.make_room.new.history jobs i.synced i.start)
    c.args.client c.args.command c.self.invariant (record {
      client_is = c.requires.client;
      idle =
          subst (λ (v : CoreView). job_of v.jobs c.args.client ≡ None) (sym c.self.view_is)
          c.requires.job;
      served = c.requires.served;
      next =
          ap (λ (es : List Entry).
          core_view i.volume i.opens (record {
            entries = es;
            spare = c.make_room.new.history.spare;
          }) jobs i.synced i.start) c.make_room.ensures.entries;
      room =
          made_ok c.make_room.result _ (sym c.is_err.ensures.value ∙ c.if-is_err.false)
          c.make_room.ensures.ok;
    })

pub returns-clause-sound : goal.returns-clause-sound
returns-clause-sound g c = invariant_of-self-2 g c
