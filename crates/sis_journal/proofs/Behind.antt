-- What a stop leaves behind the sync with which opening begins.
use Rattle.std.proofs.Common.{◌≡◌, ℕ, zero, suc, ◌+◌, ◌-◌, ◌≤◌, true, false, List, [], ◌∷◌, ◌++◌, length, take, Option, None, Some, refl, sym, ap, subst, ◌∙◌, arith, length-append}
use Rattle.std.specs.Prelude.{IfSome, slice_get}
use Rattle.std.specs.List.{AllByRecursion}
use Rattle.std.proofs.Math.Seq.{take-append-add}
use Rattle.std.proofs.lemmas.Option.{slice_get_within}
use Rattle.sis_disk.specs.Record.{Call, DiskRecord, Reads, Seen, State, Syncs, Writes, IsCounted, IsImage, IsImageAfter, after, after_all, live_bytes, state_at, state_of}
use Rattle.sis_disk.specs.Stops.{GoesOnBy, with_calls}
use Rattle.sis_disk.proofs.Firm.{firm_image}
use Rattle.sis_disk.proofs.GoesOn.{by_none}
use Rattle.sis_disk.proofs.Images.{after_all_append}
use Rattle.sis_journal.specs.Opening.{AreSyncThenReads, AreSyncedReads, IsRead, IsSynced, SyncThenReads}
use Rattle.sis_journal.proofs.ReadCalls.{state_reading}

-- no call went by
pub no_opening : (most : ℕ) (old new : Seen) → new ≡ old → SyncThenReads most old new
no_opening most old new same = subst (SyncThenReads most old) (sym same) (record {
  elapses = record { size = refl; calls = omega arith; faults = omega arith };
  calls = omega arith;
  told = by_none AreSyncThenReads old.told old.told tt refl;
  live = refl;
})

-- ---- the images behind a sync that succeeded

reads_front : (n : ℕ) (cs : List Call) → AllByRecursion IsRead cs
    → AllByRecursion IsRead (take n cs)
reads_front zero cs all = tt
reads_front (suc n) [] all = tt
reads_front (suc n) (c ∷ cs) all = (all.0, reads_front n cs all.1)

-- the state before any call
abbrev begun : DiskRecord → State
begun r = record { live = r.opening; loose = [] }

-- behind the sync, reads leave the state as it is
state_read : (r : DiskRecord) (reads : List Call) (j : ℕ) → AllByRecursion IsRead reads
    → state_at (with_calls (Syncs true ∷ reads) r) (length r.calls + suc j)
    ≡ after (state_of r) (Syncs true)
state_read r reads j all =
    ap (λ (cs : List Call). after_all (begun r) cs)
    (take-append-add r.calls (Syncs true ∷ reads) (suc j))
    ∙ after_all_append (begun r) r.calls (Syncs true ∷ take j reads)
    ∙ state_reading (after (state_of r) (Syncs true)) (take j reads) (reads_front j reads all)

-- so each image has the live bytes of before
image_read : (r : DiskRecord) (reads : List Call) (k : ℕ) (m : List ℕ) → length r.calls + 1 ≤ k
    → AllByRecursion IsRead reads → IsImageAfter (with_calls (Syncs true ∷ reads) r) k m
    → m ≡ live_bytes r
image_read r reads k m from all image =
    let j = k - length r.calls - 1 in
    let same : length r.calls + suc j ≡ k = omega arith in
    let state : state_at (with_calls (Syncs true ∷ reads) r) k ≡ after (state_of r) (Syncs true) =
    subst (λ (n : ℕ). state_at (with_calls (Syncs true ∷ reads) r) n
    ≡ after (state_of r) (Syncs true)) same (state_read r reads j all) in
    firm_image (after (state_of r) (Syncs true)) m refl
    (subst (λ (s : State). IsImage s m) state image)

image_synced : (r : DiskRecord) (more : List Call) (k : ℕ) (m : List ℕ) → length r.calls + 1 ≤ k
    → AreSyncedReads more → IsImageAfter (with_calls more r) k m → m ≡ live_bytes r
image_synced r [] k m from are image = absurd are
image_synced r (Syncs true ∷ reads) k m from are image = image_read r reads k m from are image
image_synced r (Syncs false ∷ reads) k m from are image = absurd are
image_synced r (Reads at len ok ∷ more) k m from are image = absurd are
image_synced r (Writes at bytes ok ∷ more) k m from are image = absurd are

-- behind a sync that succeeded, and with reads alone, a stop leaves the live bytes
pub image_behind : (old new : Seen) (before now : DiskRecord) (k : ℕ) (m : List ℕ)
    → IsCounted old → IsSynced old new → old.told ≡ Some before → new.told ≡ Some now
    → old.calls + 1 ≤ k → IsImageAfter now k m → m ≡ live_bytes before
image_behind old new before now k m counted synced was is from image =
    let goes = subst (λ (o : Option DiskRecord). GoesOnBy AreSyncedReads o new.told) was
    synced.told in
    let count : length before.calls ≡ old.calls =
    subst (λ (o : Option DiskRecord). IfSome o (λ r. length r.calls ≡ old.calls)) was counted in
    let same : now ≡ with_calls goes.0 before = some_same (sym is ∙ goes.1) in
    image_synced before goes.0 k m (omega (arith, count, from)) goes.2
    (subst (λ (r : DiskRecord). IsImageAfter r k m) same image)
  where
    some_same : {x y : DiskRecord} → Some x ≡ Some y → x ≡ y
    some_same e = cc

-- ---- where it shows that the sync succeeded

slice_get-seam : {X : Type 0} (xs : List X) (y : X) (ys : List X)
    → slice_get (xs ++ y ∷ ys) (length xs) ≡ Some y
slice_get-seam [] y ys = refl
slice_get-seam (x ∷ xs) y ys = slice_get-seam xs y ys

first_synced : (calls more : List Call) → AreSyncThenReads more
    → slice_get (calls ++ more) (length calls) ≡ Some (Syncs true) → AreSyncedReads more
first_synced calls [] are syncs =
    let lt = slice_get_within (calls ++ []) (length calls) (Syncs true) syncs in
    let none : List Call = [] in
    absurd (omega (arith, lt, length-append calls none))
first_synced calls (Syncs true ∷ reads) are syncs = are
first_synced calls (Syncs false ∷ reads) are syncs =
    absurd (let e = sym (slice_get-seam calls (Syncs false) reads) ∙ syncs in cc)
first_synced calls (Reads at len ok ∷ more) are syncs = absurd are
first_synced calls (Writes at bytes ok ∷ more) are syncs = absurd are

-- the first call is told, and is a sync that succeeded
pub synced_at : (most : ℕ) (old new : Seen) (now : DiskRecord) → IsCounted old
    → SyncThenReads most old new → new.told ≡ Some now
    → slice_get now.calls old.calls ≡ Some (Syncs true) → IsSynced old new
synced_at most old new now counted reads is syncs =
    record { told = by old.told counted reads.told }
  where
    some_same : {x y : DiskRecord} → Some x ≡ Some y → x ≡ y
    some_same e = cc

    by : (was : Option DiskRecord) → IfSome was (λ r. length r.calls ≡ old.calls)
        → GoesOnBy AreSyncThenReads was new.told → GoesOnBy AreSyncedReads was new.told
    by None count goes = goes
    by (Some r) count goes =
        let same : now ≡ with_calls goes.0 r = some_same (sym is ∙ goes.1) in
        let at : slice_get (r.calls ++ goes.0) (length r.calls) ≡ Some (Syncs true) =
        ap (λ (n : ℕ). slice_get (r.calls ++ goes.0) n) count
        ∙ ap (λ (x : DiskRecord). slice_get x.calls old.calls) (sym same) ∙ syncs in
        (goes.0, goes.1, first_synced r.calls goes.0 goes.2 at)
