-- Stops while a command is carried out.
use Rattle.std.proofs.Common.{◌≡◌, ⊎_elim, ℕ, ◌+◌, ◌≤◌, Bool, true, false, List, [], ◌∷◌, ◌++◌, Option, None, Some, refl, sym, ap, subst, ◌∙◌, arith}
use Rattle.std.specs.Prelude.{IfSome, is_some}
use Rattle.std.specs.Option.{option_map}
use Rattle.sis_disk.specs.Record.{DiskRecord, Seen, IsCounted, live_bytes, live_of}
use Rattle.sis_disk.specs.Stops.{GoesOnBy}
use Rattle.sis_history.specs.Durable.{is_durable}
use Rattle.sis_history.specs.Stops.{Survives, SurvivesStops}
use Rattle.sis_history.proofs.LoopLemmas.{committed_now, committed_push, leaves_safe_either, now_opens_with}
use Rattle.sis_history.proofs.StopLemmas.{survives_calls, survives_durable, survives_entry}
use Rattle.sis_journal.specs.Opening.{AreSyncedReads, IsSynced}
use Rattle.sis_journal.proofs.Behind.{image_behind}
use Rattle.sis_model.specs.Answer.{world_with}
use Rattle.sis_model.specs.History.{world_after}
use Rattle.sis_model.specs.World.{World}
use Rattle.sis_model.proofs.Histories.{world_after-push}
use Rattle.sis_model.specs.declared.history.Entry.{Entry}
use Rattle.sis_table.specs.Opens.{OpensAs}
use Rattle.sis_volume.specs.Stopping.{OpensNow, StopsWell}
use Rattle.sis_volume.specs.View.{VolumeView}
use Rattle.sis_volume.proofs.Stopping.{opens_table}
use Rattle.sis_core.specs.Deciding.{IsDurable}
use Rattle.sis_core.specs.Session.{SessionView, ShowsWorld}
use Rattle.sis_core.specs.Sound.{IsSurvived}

-- ---- a step

-- what the calls of a step keep, before an entry is added
pub calls_went : (first : ℕ) (w : World) (es : List Entry) (old : SessionView) (new : VolumeView)
    → ShowsWorld (world_after w es) old
    → ((at : ℕ) → old.volume.down ≡ Some at → new.down ≡ Some at) → StopsWell old.volume new
    → IsCounted new.seen → IsSurvived first w es old.volume → IsSurvived first w es new
calls_went first w es old new shows stays stops counted before = by old.volume.down refl
  where
    by : (o : Option ℕ) → old.volume.down ≡ o → IsSurvived first w es new
    by None is =
        let committed = before.committed is in
        let now = (world_after w es).files in
        let went =
        stops.up is committed.0 now (record { stands = shows.stands; opens = committed.2 }) in
        record {
          survives =
              survives_calls first w es old.volume.seen new.seen before.survives counted
              (leaves_safe_either new.seen.calls w es committed.0 now old.volume.seen new.seen
              committed.1 (committed_now w es) went.images);
          committed = λ up.
              ⊎_elim
              (λ opens. (committed.0, committed.1, opens))
              (λ opens. (now, committed_now w es, opens))
              (went.last up);
        }
    by (Some at) is = record {
      survives =
          subst (λ (s : Seen). Survives first w es s) (sym (stops.down (ap is_some is)))
          before.survives;
      committed = λ up. absurd (let e = sym up ∙ stays at is in cc);
    }

-- ---- an entry more

pub entry_added : (first : ℕ) (w : World) (es : List Entry) (e : Entry) (s : SessionView)
    → IsCounted s.volume.seen → e.decided ≡ s.volume.seen.calls
    → e.answered ≡ s.volume.seen.calls
    → ShowsWorld (world_with (world_after w es) e.client e.command e.reply) s
    → IsDurable s.volume e.command e.reply → IsSurvived first w es s.volume
    → IsSurvived first w (es ++ e ∷ []) s.volume
entry_added first w es e s counted decided answered shows durable before =
    by (is_durable e) refl
  where
    early : e.decided ≤ s.volume.seen.calls
    early = omega (arith, decided)

    late : s.volume.seen.calls ≤ e.answered
    late = omega (arith, answered)

    by : (b : Bool) → is_durable e ≡ b → IsSurvived first w (es ++ e ∷ []) s.volume
    by false is = record {
      survives = survives_entry first w es e s.volume.seen counted early is before.survives;
      committed = λ up.
          let c = before.committed up in
          (c.0, committed_push w es e c.0 is c.1, c.2);
    }
    by true is =
        let next = world_with (world_after w es) e.client e.command e.reply in
        let opens : OpensNow next.files s.volume.seen =
        opens_table s.volume.table s.volume.seen next.files (durable is) shows.stands in
        record {
          survives =
              survives_durable first w es e s.volume.seen counted early late
              (now_opens_with w es e s.volume.seen opens) before.survives;
          committed = λ up. (
            (world_after w (es ++ e ∷ [])).files,
            committed_now w (es ++ e ∷ []),
            subst (λ (x : World). OpensNow x.files s.volume.seen)
                (sym (world_after-push w es e)) opens,
          );
        }

-- ---- before the first entry

-- a disk that was synced and read has kept its files
survives_synced : (old new : Seen) (w : World) (before now : DiskRecord) → IsCounted old
    → IsSynced old new → old.told ≡ Some before → new.told ≡ Some now
    → OpensAs w.files (live_bytes before) → SurvivesStops (old.calls + 1) w [] now
survives_synced old new w before now counted synced was is opens k from upto m image = (
  0,
  record { decided = omega arith; none_lost = tt },
  subst (λ (x : List ℕ). OpensAs w.files x)
      (sym (image_behind old new before now k m counted synced was is from image)) opens,
)

-- what a run keeps at its start
pub opened_survives : (old : Seen) (v : VolumeView) (w : World) → IsCounted old
    → IsSynced old v.seen → IfSome (live_of old) (λ m. OpensAs w.files m)
    → OpensNow w.files v.seen → IsSurvived (old.calls + 1) w [] v
opened_survives old v w counted synced began opens = record {
  survives = record { told = λ r is. (by old.told refl r is, tt) };
  committed = λ up. (w.files, committed_now w [], opens);
}
  where
    untold : old.told ≡ None → v.seen.told ≡ None
    untold was =
        subst (λ (o : Option DiskRecord). GoesOnBy AreSyncedReads o v.seen.told) was synced.told

    by : (o : Option DiskRecord) → old.told ≡ o → (r : DiskRecord) → v.seen.told ≡ Some r
        → SurvivesStops (old.calls + 1) w [] r
    by None was r is = absurd (let e = sym (untold was) ∙ is in cc)
    by (Some q) was r is =
        survives_synced old v.seen w q r counted synced was is
        (subst (λ (o : Option DiskRecord). IfSome (option_map live_bytes o)
        (λ m. OpensAs w.files m)) was began)
