-- What the crates above need: which calls leave a text kept, and what a stop then leaves.
use Rattle.std.proofs.Common.{◌≡◌, inl, inr, ℕ, ◌+◌, ◌*◌, ◌≤◌, Bool, true, false, List, length, slice_index, Option, Some, refl, ap, ◌∙◌, subst, arith}
use Rattle.std.specs.Prelude.{Result, Ok, Err, ◌==◌}
use Rattle.sis_disk.specs.declared.layout.Layout.{Layout}
use Rattle.sis_disk.specs.Areas.{area_bytes, area_start}
use Rattle.sis_disk.specs.Layout.{IsLayout, first_place}
use Rattle.sis_disk.specs.Record.{Reads, Writes, Syncs, DiskRecord, Seen, State, IsImage, Went, after, laid, state_of}
use Rattle.sis_disk.specs.Stops.{Leaves, Now, Shows, loosened}
use Rattle.sis_disk.proofs.Areas.{area_end}
use Rattle.sis_disk.proofs.Images.{leaves_write, now_call}
use Rattle.sis_journal.specs.Texts.{HoldsText, KeepsText, KeepsData}
use Rattle.sis_journal.proofs.Commits.{area_fits, firm_loosened, held_by, kept_area, laid_image, narrower}
use Rattle.sis_journal.proofs.StableWrites.{now_of}

module _ (l : Layout) (is : IsLayout l) (second : Bool) (text : List ℕ) where
  kept_selector : (s : State) (m : List ℕ) → KeepsText l second text s → IsImage s m → (slice_index m 4096 == 1) ≡ second
  kept_selector s m keeps image =
      ap (λ (b : ℕ). b == 1) (image.same 4096 (omega (arith, image.size, keeps.holds.size, is.total_low)) (keeps.firm 4096 (omega arith) (omega arith))) ∙ keeps.selector

  -- each image of a state that keeps a text holds it
  pub kept_held : (s : State) (m : List ℕ) → KeepsText l second text s → IsImage s m → HoldsText l text m
  kept_held s m keeps image =
      let n = length (area_bytes text) in
      let end = area_end l second n (area_fits l is text keeps.holds.fits) in
      held_by l is s m text second image (narrower s 0 (4096 * first_place l) 0 4096 keeps.firm (omega arith) (omega arith))
      (narrower s 0 (4096 * first_place l) (area_start l second) n keeps.firm (omega arith) (omega arith))
      keeps.holds.size keeps.holds.superblock keeps.holds.fits (kept_selector s m keeps image) (kept_area l is second text s keeps)

  pub kept_shows : (s : State) → KeepsText l second text s → Shows (λ m. HoldsText l text m × KeepsData l s m) s
  kept_shows s keeps m image = (kept_held s m keeps image, record { size = image.size; same = λ i low lt firm. image.same i lt firm })

  -- data blocks may become loose
  pub kept_loosened : (s : State) (at n : ℕ) → KeepsText l second text s → 4096 * first_place l ≤ at → KeepsText l second text (loosened at n s)
  kept_loosened s at n keeps behind =
      record { holds = keeps.holds; selector = keeps.selector; firm = firm_loosened s at n 0 (4096 * first_place l) keeps.firm (inr (omega arith)) }

  -- and be written
  pub kept_laid : (s : State) (at : ℕ) (bytes : List ℕ) → KeepsText l second text s → 4096 * first_place l ≤ at → at + length bytes ≤ length s.live
      → KeepsText l second text (after s (Writes at bytes true))
  kept_laid s at bytes keeps behind within =
      let loose = kept_loosened s at (length bytes) keeps behind in
      let image = laid_image s at bytes within in
      record {
        holds = kept_held (loosened at (length bytes) s) (laid s.live at bytes) loose image;
        selector = kept_selector (loosened at (length bytes) s) (laid s.live at bytes) loose image;
        firm = loose.firm;
      }

  -- a text stays kept by a write to data blocks, whatever it answers
  pub kept_write : {T E : Type 0} (at : ℕ) (bytes : List ℕ) (result : Result T E) (old new : Seen) → Went (Writes at bytes) result old new
      → 4096 * first_place l ≤ at → at + length bytes ≤ 4096 * l.total → Now (KeepsText l second text) old → Now (KeepsText l second text) new
  kept_write at bytes (Ok x) old new went behind within here =
      now_call (KeepsText l second text) (Writes at bytes true) old new went.ok
      (λ r told. kept_laid (state_of r) at bytes (here r told) behind (omega (arith, within, (here r told).holds.size)))
  kept_write at bytes (Err e) old new went behind within here = elim went.err [
    | inl made ↦ now_call (KeepsText l second text) (Writes at bytes false) old new made (λ r told. kept_loosened (state_of r) at (length bytes) (here r told) behind)
    | inr none ↦ λ r told. here r (subst (λ (o : Option DiskRecord). o ≡ Some r) none.told told)
  ]

  -- and by a sync
  pub kept_sync : {T E : Type 0} (result : Result T E) (old new : Seen) → Went Syncs result old new → Now (KeepsText l second text) old → Now (KeepsText l second text) new
  kept_sync (Ok x) old new went here =
      now_call (KeepsText l second text) (Syncs true) old new went.ok (λ r told. record { holds = (here r told).holds; selector = (here r told).selector; firm = λ i lo hi. refl })
  kept_sync (Err e) old new went here = elim went.err [
    | inl made ↦ now_call (KeepsText l second text) (Syncs false) old new made here
    | inr none ↦ λ r told. here r (subst (λ (o : Option DiskRecord). o ≡ Some r) none.told told)
  ]

  -- and by a read
  pub kept_read : {T E : Type 0} (at len : ℕ) (result : Result T E) (old new : Seen) → Went (Reads at len) result old new → Now (KeepsText l second text) old → Now (KeepsText l second text) new
  kept_read at len (Ok x) old new went here = now_call (KeepsText l second text) (Reads at len true) old new went.ok here
  kept_read at len (Err e) old new went here = elim went.err [
    | inl made ↦ now_call (KeepsText l second text) (Reads at len false) old new made here
    | inr none ↦ λ r told. here r (subst (λ (o : Option DiskRecord). o ≡ Some r) none.told told)
  ]

  -- A stop while data blocks are written leaves the text, and the other data that were firm.
  pub leaves_data : {T E : Type 0} (at : ℕ) (bytes : List ℕ) (result : Result T E) (old new : Seen) (r : DiskRecord) → Went (Writes at bytes) result old new
      → 4096 * first_place l ≤ at → at + length bytes ≤ 4096 * l.total → old.told ≡ Some r → KeepsText l second text (state_of r)
      → Leaves (λ m. HoldsText l text m × KeepsData l (loosened at (length bytes) (state_of r)) m) old new
  leaves_data at bytes result old new r went behind within told keeps =
      let P = λ (m : List ℕ). HoldsText l text m × KeepsData l (loosened at (length bytes) (state_of r)) m in
      leaves_write P at bytes result old new went
      (now_of (λ s. (at + length bytes ≤ length s.live) × Shows P (loosened at (length bytes) s)) old r told
      (omega (arith, within, keeps.holds.size), kept_shows (loosened at (length bytes) (state_of r)) (kept_loosened (state_of r) at (length bytes) keeps behind)))
