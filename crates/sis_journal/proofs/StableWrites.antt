-- What a write and a sync behind it leave.
use Rattle.std.proofs.Common.{◌≡◌, ◌⊎◌, inl, inr, ℕ, ◌+◌, ◌≤◌, Bool, true, false, List, [], length, Option, Some, None, refl, sym, ap, subst, ◌∙◌}
use Rattle.std.specs.Prelude.{Result, Ok, Err}
use Rattle.std.specs.Option.{option_map}
use Rattle.sis_disk.specs.Record.{Call, DiskRecord, State, Seen, Made, Writes, Syncs, after, state_of, live_bytes, live_of, with_call, laid}
use Rattle.sis_disk.specs.Stops.{Shows, Leaves, Now, loosened}
use Rattle.sis_disk.proofs.Images.{leaves_made, leaves_none, leaves_trans, now_call, shows_after, shows_before}
use Rattle.sis_disk.proofs.Push.{live_with}
use Rattle.sis_journal.specs.Inside.{Failed, WritesStable}
use Rattle.sis_journal.proofs.ReadCalls.{call_live}

-- what holds of the one record that is told
pub now_of : (P : State → Type 0) (seen : Seen) (r : DiskRecord) → seen.told ≡ Some r → P (state_of r) → Now P seen
now_of P seen r is h q told = let same : r ≡ q = (let e = sym is ∙ told in cc) in subst (λ (x : DiskRecord). P (state_of x)) same h

module _ (P : List ℕ → Type 0) (at : ℕ) (bytes : List ℕ) (old : Seen)
    (here : Now (λ s. (at + length bytes ≤ length s.live) × Shows P (loosened at (length bytes) s)) old) where
  before : Now (Shows P) old
  before r is = shows_before P at bytes (state_of r) (here r is).0 (here r is).1

  write_leaves : (mid : Seen) → Made (Writes at bytes true) old mid → Leaves P old mid
  write_leaves mid made = leaves_made P (Writes at bytes true) old mid made (λ r is. (before r is, shows_after P at bytes (state_of r) (here r is).0 (here r is).1))

  written : (mid : Seen) → Made (Writes at bytes true) old mid → Now (Shows P) mid
  written mid made = now_call (Shows P) (Writes at bytes true) old mid made (λ r is. shows_after P at bytes (state_of r) (here r is).0 (here r is).1)

  sync_leaves : (mid new : Seen) → Made (Writes at bytes true) old mid → Made (Syncs true) mid new → Leaves P mid new
  sync_leaves mid new made synced =
      leaves_made P (Syncs true) mid new synced (λ r is. let shown = written mid made r is in (shown, λ m image. shown m (record { size = image.size; same = λ i lt _. image.same i lt refl })))

  sync_fails : (mid new : Seen) → Made (Writes at bytes true) old mid → Failed Syncs mid new → Leaves P mid new
  sync_fails mid new made (inl synced) = leaves_made P (Syncs false) mid new synced (λ r is. let shown = written mid made r is in (shown, shown))
  sync_fails mid new made (inr none) = leaves_none P mid new none (written mid made)

  -- a stop leaves what has P, where all that the write makes loose does
  pub leaves_stable : {T E : Type 0} (result : Result T E) (new : Seen) → WritesStable at bytes result old new → Leaves P old new
  leaves_stable (Ok x) new w = leaves_trans P old w.0 new (write_leaves w.0 w.1) (sync_leaves w.0 new w.1 w.2)
  leaves_stable (Err e) new (inl (inl made)) = leaves_made P (Writes at bytes false) old new made (λ r is. (before r is, (here r is).1))
  leaves_stable (Err e) new (inl (inr none)) = leaves_none P old new none before
  leaves_stable (Err e) new (inr w) = leaves_trans P old w.0 new (write_leaves w.0 w.1) (sync_fails w.0 new w.1 w.2)

-- the bytes are laid, and nothing is loose
abbrev pub written_stable : ℕ → List ℕ → State → State
written_stable at bytes s = record { live = laid s.live at bytes; loose = [] }

-- the state afterwards
pub now_stable : (P : State → Type 0) (at : ℕ) (bytes : List ℕ) (old mid new : Seen) → Made (Writes at bytes true) old mid → Made (Syncs true) mid new
    → Now (λ s. P (written_stable at bytes s)) old → Now P new
now_stable P at bytes old mid new made synced here =
    now_call P (Syncs true) mid new synced (now_call (λ s. P (after s (Syncs true))) (Writes at bytes true) old mid made here)

-- ---- the live bytes

live_laid : (at : ℕ) (bytes : List ℕ) (old new : Option DiskRecord) → new ≡ option_map (with_call (Writes at bytes true)) old
    → option_map live_bytes new ≡ option_map (λ live. laid live at bytes) (option_map live_bytes old)
live_laid at bytes None new e = ap (option_map live_bytes) e
live_laid at bytes (Some r) new e = ap (option_map live_bytes) e ∙ ap Some (live_with (Writes at bytes true) r)

live_failed : (call : Bool → Call) (old new : Seen) → ((s : State) → (after s (call false)).live ≡ s.live) → Failed call old new → live_of new ≡ live_of old
live_failed call old new same (inl made) = call_live (call false) old.told new.told same made.told
live_failed call old new same (inr none) = ap (option_map live_bytes) none.told

-- where both succeeded, the bytes were laid
pub live_written : (at : ℕ) (bytes : List ℕ) (old mid new : Seen) → Made (Writes at bytes true) old mid → Made (Syncs true) mid new
    → live_of new ≡ option_map (λ live. laid live at bytes) (live_of old)
live_written at bytes old mid new made synced =
    call_live (Syncs true) mid.told new.told (λ s. refl) synced.told ∙ live_laid at bytes old.told mid.told made.told

-- the bytes were laid or not
pub live_stable : {T E : Type 0} (at : ℕ) (bytes : List ℕ) (result : Result T E) (old new : Seen) → WritesStable at bytes result old new
    → (live_of new ≡ live_of old) ⊎ (live_of new ≡ option_map (λ live. laid live at bytes) (live_of old))
live_stable at bytes (Ok x) old new w = inr (live_written at bytes old w.0 new w.1 w.2)
live_stable at bytes (Err e) old new (inl failed) = inl (live_failed (Writes at bytes) old new (λ s. refl) failed)
live_stable at bytes (Err e) old new (inr w) = inr (live_failed Syncs w.0 new (λ s. refl) w.2 ∙ live_laid at bytes old.told w.0.told w.1.told)
