-- What the crates above need: what stands while blocks are fetched.
use Rattle.std.proofs.Common.{◌≡◌, ℕ, ◌+◌, ◌≤◌, List, [], ◌∷◌, ◌++◌, Option, Some, None, refl, sym, subst, ◌∙◌, arith}
use Rattle.std.specs.List.{AllByRecursion}
use Rattle.sis_disk.specs.Causes.{NoneFails, StaysUp}
use Rattle.sis_disk.specs.Record.{Call, Reads, Writes, Syncs, DiskRecord, Seen, State, after_all, state_of}
use Rattle.sis_disk.specs.Stops.{GoesOn, GoesOnBy, Leaves, Now, Shows, ShowsAlong, with_calls}
use Rattle.sis_disk.proofs.GoesOn.{by_none, by_trans, by_weaker}
use Rattle.sis_disk.proofs.Images.{after_all_append}
use Rattle.sis_view.specs.Reading.{IsReadWithin, OnlyReads}

-- ---- calls

-- no call at all
pub reads_none : (most : ℕ) (seen : Seen) → OnlyReads most seen seen
reads_none most seen = record {
  elapses = record { size = refl; calls = omega arith; faults = omega arith };
  calls = omega arith;
  told = by_none (AllByRecursion (IsReadWithin seen.size)) seen.told seen.told tt refl;
  live = refl;
  loose = refl;
}

all_append : (size : ℕ) (xs ys : List Call) → AllByRecursion (IsReadWithin size) xs
    → AllByRecursion (IsReadWithin size) ys → AllByRecursion (IsReadWithin size) (xs ++ ys)
all_append size [] ys a b = b
all_append size (x ∷ xs) ys a b = (a.0, all_append size xs ys a.1 b)

-- reads, and reads behind them
pub reads_then : (m n most : ℕ) (old mid new : Seen) → m + n ≤ most → OnlyReads m old mid
    → OnlyReads n mid new → OnlyReads most old new
reads_then m n most old mid new few a b = record {
  elapses = record {
    size = b.elapses.size ∙ a.elapses.size;
    calls = omega (arith, a.elapses.calls, b.elapses.calls);
    faults = omega (arith, a.elapses.faults, b.elapses.faults);
  };
  calls = omega (arith, a.calls, b.calls);
  told = by_trans (AllByRecursion (IsReadWithin old.size)) (AllByRecursion (IsReadWithin mid.size))
      (AllByRecursion (IsReadWithin old.size)) old.told mid.told new.told
      (λ xs ys these those. all_append old.size xs ys these
      (subst (λ (size : ℕ). AllByRecursion (IsReadWithin size) ys) a.elapses.size those))
      a.told b.told;
  live = b.live ∙ a.live;
  loose = b.loose ∙ a.loose;
}

none_fails : (first size : ℕ) (calls : List Call) → AllByRecursion (IsReadWithin size) calls
    → NoneFails first calls
none_fails first size [] all = tt
none_fails first size (Reads at len ok ∷ calls) all = (refl, none_fails first size calls all.1)
none_fails first size (Writes at bytes ok ∷ calls) all = absurd all.0
none_fails first size (Syncs ok ∷ calls) all = absurd all.0

-- a read fails no commit, wherever the data blocks begin
pub up_reading : (first most : ℕ) (old new : Seen) → OnlyReads most old new
    → StaysUp first old new
up_reading first most old new reads = record {
  told = by_weaker (AllByRecursion (IsReadWithin old.size)) (NoneFails first) old.told new.told
      (none_fails first old.size) reads.told;
}

-- ---- states and images

state_reading : (size : ℕ) (s : State) (calls : List Call)
    → AllByRecursion (IsReadWithin size) calls → after_all s calls ≡ s
state_reading size s [] all = refl
state_reading size s (Reads at len ok ∷ calls) all = state_reading size s calls all.1
state_reading size s (Writes at bytes ok ∷ calls) all = absurd all.0
state_reading size s (Syncs ok ∷ calls) all = absurd all.0

still_told : (P : State → Type 0) (size : ℕ) (old new : Option DiskRecord)
    → GoesOnBy (AllByRecursion (IsReadWithin size)) old new
    → ((r : DiskRecord) → old ≡ Some r → P (state_of r))
    → (r : DiskRecord) → new ≡ Some r → P (state_of r)
still_told P size None new went here r is = absurd cc
still_told P size (Some q) new went here r is =
    let same : with_calls went.0 q ≡ r = (let e = went.1 in cc) in
    let state : state_of (with_calls went.0 q) ≡ state_of q =
    after_all_append (record { live = q.opening; loose = [] }) q.calls went.0
    ∙ state_reading size (state_of q) went.0 went.2 in
    subst (λ (x : DiskRecord). P (state_of x)) same (subst P (sym state) (here q refl))

-- what holds of the live bytes and the loose positions holds after reads
pub now_reading : (P : State → Type 0) (most : ℕ) (old new : Seen) → OnlyReads most old new
    → Now P old → Now P new
now_reading P most old new reads here = still_told P old.size old.told new.told reads.told here

shows_reading : (P : List ℕ → Type 0) (size : ℕ) (s : State) (calls : List Call)
    → AllByRecursion (IsReadWithin size) calls → Shows P s → ShowsAlong P s calls
shows_reading P size s [] all shows = shows
shows_reading P size s (Reads at len ok ∷ calls) all shows =
    (shows, shows_reading P size s calls all.1 shows)
shows_reading P size s (Writes at bytes ok ∷ calls) all shows = absurd all.0
shows_reading P size s (Syncs ok ∷ calls) all shows = absurd all.0

goes_on_reading : (P : List ℕ → Type 0) (size : ℕ) (old new : Option DiskRecord)
    → GoesOnBy (AllByRecursion (IsReadWithin size)) old new
    → ((r : DiskRecord) → old ≡ Some r → Shows P (state_of r)) → GoesOn P old new
goes_on_reading P size None new went here = went
goes_on_reading P size (Some r) new went here =
    (went.0, went.1, shows_reading P size (state_of r) went.0 went.2 (here r refl))

-- a stop while blocks are fetched leaves nothing that a stop before wouldn't
pub leaves_reading : (P : List ℕ → Type 0) (most : ℕ) (old new : Seen) → OnlyReads most old new
    → Now (Shows P) old → Leaves P old new
leaves_reading P most old new reads here =
    record { told = goes_on_reading P old.size old.told new.told reads.told here }
