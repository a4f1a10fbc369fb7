-- What a run keeps of its history between two commits.
use Rattle.std.proofs.Common.{◌≡◌, ◌⊎◌, ⊎_elim, ℕ, ◌+◌, ◌≤◌, false, List, [], ◌∷◌, ◌++◌, length, take, drop, sym, ap, subst, ◌∙◌, arith, length-append}
use Rattle.std.proofs.lemmas.List.{take_all, take-append-le, drop-append-le}
use Rattle.sis_disk.specs.Record.{Seen}
use Rattle.sis_disk.specs.Stops.{Leaves, Now, Shows}
use Rattle.sis_disk.proofs.Images.{leaves_weaker}
use Rattle.sis_model.specs.Answer.{world_with}
use Rattle.sis_model.specs.History.{world_after}
use Rattle.sis_model.specs.World.{World}
use Rattle.sis_model.specs.declared.history.Entry.{Entry}
use Rattle.sis_model.proofs.Histories.{world_after-push}
use Rattle.sis_name.specs.Files.{Files}
use Rattle.sis_table.specs.Opens.{OpensAs}
use Rattle.sis_history.specs.Durable.{is_durable}
use Rattle.sis_history.specs.Loop.{AreCommitted}
use Rattle.sis_history.specs.Stops.{IsSafe, NoneSure, OpensAfter}
use Rattle.sis_history.proofs.CountLemmas.{all_push, none_behind, none_durable_none_sure, none_sure_before}

-- ---- images that are safe

-- an image that opens as the files after some entries, where none behind them is sure
pub safe_at : (last : ℕ) (w : World) (es : List Entry) (p : ℕ) (m : List ℕ) (files : Files)
    → p ≤ length es → NoneSure last (drop p es)
    → files ≡ (world_after w (take p es)).files → OpensAs files m → IsSafe last w es m
safe_at last w es p m files within none same opens =
    (p, within, none, subst (λ (f : Files). OpensAs f m) same opens)

-- an image that opens as the files after the first p entries, where none behind them is sure
pub safe_after : (last : ℕ) (w : World) (es : List Entry) (p : ℕ) (m : List ℕ) → p ≤ length es
    → NoneSure last (drop p es) → OpensAfter w es p m → IsSafe last w es m
safe_after last w es p m within none opens = (p, within, none, opens)

-- fewer entries are sure at an earlier call
pub safe_before : (k last : ℕ) (w : World) (es : List Entry) (m : List ℕ) → k ≤ last
    → IsSafe last w es m → IsSafe k w es m
safe_before k last w es m le safe =
    (safe.0, safe.1, none_sure_before k last (drop safe.0 es) le safe.2, safe.3)

pub safe_committed : (last : ℕ) (w : World) (es : List Entry) (files : Files) (m : List ℕ)
    → AreCommitted w es files → OpensAs files m → IsSafe last w es m
safe_committed last w es files m c opens =
    let none = none_durable_none_sure last (drop c.count es) c.later in
    safe_at last w es c.count m files c.within none c.same opens

-- calls that leave images of these files are safe, and so are those of a commit to others
pub leaves_safe : (last : ℕ) (w : World) (es : List Entry) (files : Files) (old new : Seen)
    → AreCommitted w es files → Leaves (OpensAs files) old new → Leaves (IsSafe last w es) old new
leaves_safe last w es files old new c leaves =
    leaves_weaker (OpensAs files) (IsSafe last w es) old new
    (λ m opens. safe_committed last w es files m c opens) leaves

pub leaves_safe_either : (last : ℕ) (w : World) (es : List Entry) (before now : Files)
    (old new : Seen) → AreCommitted w es before → AreCommitted w es now
    → Leaves (λ m. OpensAs before m ⊎ OpensAs now m) old new → Leaves (IsSafe last w es) old new
leaves_safe_either last w es before now old new b n leaves =
    leaves_weaker (λ m. OpensAs before m ⊎ OpensAs now m) (IsSafe last w es) old new
    (λ m either. ⊎_elim
    (λ opens. safe_committed last w es before m b opens)
    (λ opens. safe_committed last w es now m n opens)
    either)
    leaves

-- ---- what each image has now

-- the files after an entry more are those after all entries
pub opens_with : (w : World) (es : List Entry) (e : Entry) (m : List ℕ)
    → OpensAs (world_with (world_after w es) e.client e.command e.reply).files m
    → OpensAfter w (es ++ e ∷ []) (length es + 1) m
opens_with w es e m opens =
    subst (λ (v : World). OpensAs v.files m) (sym (all ∙ world_after-push w es e)) opens
  where
    all : world_after w (take (length es + 1) (es ++ e ∷ [])) ≡ world_after w (es ++ e ∷ [])
    all =
        let le : length (es ++ e ∷ []) ≤ length es + 1 = omega (arith, length-append es (e ∷ [])) in
        ap (λ (ds : List Entry). world_after w ds) (take_all (length es + 1) (es ++ e ∷ []) le)

pub now_opens_with : (w : World) (es : List Entry) (e : Entry) (seen : Seen)
    → Now (Shows (OpensAs (world_with (world_after w es) e.client e.command e.reply).files)) seen
    → Now (Shows (OpensAfter w (es ++ e ∷ []) (length es + 1))) seen
now_opens_with w es e seen opens r is m image = opens_with w es e m (opens r is m image)

-- ---- what is committed

-- the files after all entries
pub committed_now : (w : World) (es : List Entry) → AreCommitted w es (world_after w es).files
committed_now w es = record {
  count = length es;
  within = omega arith;
  later = none_behind (λ e. is_durable e ≡ false) es;
  same =
      let all = take_all (length es) es (omega arith) in
      ap (λ (ds : List Entry). (world_after w ds).files) (sym all);
}

-- an entry more that isn't durable
pub committed_push : (w : World) (es : List Entry) (e : Entry) (files : Files)
    → is_durable e ≡ false → AreCommitted w es files → AreCommitted w (es ++ e ∷ []) files
committed_push w es e files not_durable c = record {
  count = c.count;
  within = omega (arith, c.within, length-append es (e ∷ []));
  later =
      rw (drop-append-le c.count es (e ∷ []) c.within)
      (all_push (λ d. is_durable d ≡ false) (drop c.count es) e c.later not_durable);
  same =
      let front = take-append-le c.count es (e ∷ []) c.within in
      c.same ∙ ap (λ (ds : List Entry). (world_after w ds).files) (sym front);
}
