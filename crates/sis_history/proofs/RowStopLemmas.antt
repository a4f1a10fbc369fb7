-- What a stop leaves of a run.
use Rattle.std.proofs.Common.{◌≡◌, ℕ, ◌≤◌, Bool, true, false, List, [], ◌∷◌, ◌++◌, if◌then◌else◌, refl, sym, ap, subst, ◌∙◌, arith}
use Rattle.sis_disk.specs.Record.{IsCounted}
use Rattle.sis_disk.specs.Stops.{Leaves, Now, Shows}
use Rattle.sis_model.specs.Answer.{world_with}
use Rattle.sis_model.specs.History.{world_after}
use Rattle.sis_model.specs.World.{World}
use Rattle.sis_model.specs.declared.history.Entry.{Entry}
use Rattle.sis_model.proofs.Histories.{world_after-push}
use Rattle.sis_name.specs.Files.{Files}
use Rattle.sis_table.specs.Opens.{OpensAs}
use Rattle.sis_history.specs.Changed.{Fresh}
use Rattle.sis_history.specs.Durable.{is_durable}
use Rattle.sis_history.specs.Entries.{with_row}
use Rattle.sis_history.specs.Loop.{AreCommitted}
use Rattle.sis_history.specs.Rows.{Row, Begins, Enters, Fails}
use Rattle.sis_history.specs.Runs.{IsRow}
use Rattle.sis_history.specs.Stage.{Stage}
use Rattle.sis_history.specs.Stopping.{KeepsDurable, committed_by}
use Rattle.sis_history.specs.Stops.{IsSafe, Survives}
use Rattle.sis_history.proofs.LoopLemmas.{committed_now, committed_push, now_opens_with}
use Rattle.sis_history.proofs.StopLemmas.{survives_calls, survives_durable, survives_entry}

module _ (w : World) (es : List Entry) (s t : Stage) (e : Entry) (fresh : Fresh)
    (r : IsRow s (Enters e fresh) t) (is : s.world ≡ world_after w es) where
  next_world : t.world ≡ world_with (world_after w es) e.client e.command e.reply
  next_world = r.world ∙ ap (λ (v : World). world_with v e.client e.command e.reply) is

  entry_survives : (first : ℕ) → IsCounted t.seen → KeepsDurable (Enters e fresh) t
      → Survives first w es t.seen → Survives first w (es ++ e ∷ []) t.seen
  entry_survives first counted keeps before = by_test (is_durable e) refl
    where
      decided : e.decided ≤ t.seen.calls
      decided = omega (arith, r.may.decided)

      by_test : (b : Bool) → is_durable e ≡ b → Survives first w (es ++ e ∷ []) t.seen
      by_test true durable =
          let opens = subst (λ (v : World). Now (Shows (OpensAs v.files)) t.seen) next_world
          (keeps durable) in
          let answered : t.seen.calls ≤ e.answered = omega (arith, r.may.answered) in
          survives_durable first w es e t.seen counted decided answered
          (now_opens_with w es e t.seen opens) before
      by_test false not_durable =
          survives_entry first w es e t.seen counted decided not_durable before

  entry_commits : (files : Files) → AreCommitted w es files
      → AreCommitted w (es ++ e ∷ []) (committed_by files (Enters e fresh) t)
  entry_commits files before = by_test (is_durable e) refl
    where
      by_test : (b : Bool) → is_durable e ≡ b
          → AreCommitted w (es ++ e ∷ []) (if b then t.world.files else files)
      by_test true durable =
          let same = next_world ∙ sym (world_after-push w es e) in
          subst (λ (v : World). AreCommitted w (es ++ e ∷ []) v.files) (sym same)
          (committed_now w (es ++ e ∷ []))
      by_test false not_durable = committed_push w es e files not_durable before

pub row_survives : (first : ℕ) (w : World) (es : List Entry) (s t : Stage) (row : Row)
    → IsRow s row t → s.world ≡ world_after w es → IsCounted t.seen
    → Leaves (IsSafe t.seen.calls w es) s.seen t.seen → KeepsDurable row t
    → Survives first w es s.seen → Survives first w (with_row es row) t.seen
row_survives first w es s t (Begins client command) r is counted leaves keeps before =
    survives_calls first w es s.seen t.seen before counted leaves
row_survives first w es s t (Enters e fresh) r is counted leaves keeps before =
    entry_survives w es s t e fresh r is first counted keeps
    (survives_calls first w es s.seen t.seen before counted leaves)
row_survives first w es s t (Fails client file at) r is counted leaves keeps before =
    survives_calls first w es s.seen t.seen before counted leaves

pub row_commits : (w : World) (es : List Entry) (files : Files) (s t : Stage) (row : Row)
    → IsRow s row t → s.world ≡ world_after w es → AreCommitted w es files
    → AreCommitted w (with_row es row) (committed_by files row t)
row_commits w es files s t (Begins client command) r is before = before
row_commits w es files s t (Enters e fresh) r is before =
    entry_commits w es s t e fresh r is files before
row_commits w es files s t (Fails client file at) r is before = before
