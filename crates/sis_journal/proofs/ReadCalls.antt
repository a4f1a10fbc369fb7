-- Reads change no byte, and what a sync before them leaves.
use Rattle.std.proofs.Common.{◌≡◌, inl, inr, ℕ, ◌+◌, ◌≤◌, true, false, List, [], ◌∷◌, ◌++◌, Option, Some, None, refl, sym, ap, subst, ◌∙◌, arith}
use Rattle.std.specs.Prelude.{Result, Ok, Err, OnOk}
use Rattle.std.specs.List.{AllByRecursion}
use Rattle.std.specs.Option.{option_map}
use Rattle.sis_disk.specs.Record.{Call, Reads, Writes, Syncs, State, state_of, after, after_all, DiskRecord, Seen, Went, with_call, live_bytes, live_of}
use Rattle.sis_disk.specs.Stops.{with_calls, Shows, ShowsAlong, GoesOn, Leaves, Now}
use Rattle.sis_disk.proofs.GoesOn.{by_trans, calls_more, no_calls}
use Rattle.sis_disk.proofs.Images.{after_all_append, now_call}
use Rattle.sis_disk.proofs.Push.{live_with}
use Rattle.sis_journal.specs.Inside.{OnlyReads}
use Rattle.sis_journal.specs.Opening.{IsRead, AreSyncThenReads, AreSyncedReads, IsSynced, SyncThenReads}
use Rattle.sis_disk.specs.Stops.{GoesOnBy}

-- a call that leaves the live bytes
pub call_live : (c : Call) (old new : Option DiskRecord) → ((s : State) → (after s c).live ≡ s.live) → new ≡ option_map (with_call c) old → option_map live_bytes new ≡ option_map live_bytes old
call_live c None new same e = ap (option_map live_bytes) e
call_live c (Some r) new same e = ap (option_map live_bytes) e ∙ ap (λ (b : List ℕ). Some b) (live_with c r ∙ same (state_of r))

told_call : (Are : List Call → Type 0) (c : Call) (old new : Option DiskRecord) → Are (c ∷ []) → ((s : State) → (after s c).live ≡ s.live) → new ≡ option_map (with_call c) old
    → GoesOnBy Are old new × (option_map live_bytes new ≡ option_map live_bytes old)
told_call Are c None new are same e = (e, call_live c None new same e)
told_call Are c (Some r) new are same e = ((c ∷ [], e, are), call_live c (Some r) new same e)

told_same : (Are : List Call → Type 0) (old new : Option DiskRecord) → Are [] → new ≡ old
    → GoesOnBy Are old new × (option_map live_bytes new ≡ option_map live_bytes old)
told_same Are None new are e = (e, ap (option_map live_bytes) e)
told_same Are (Some r) new are e = (([], e ∙ no_calls r, are), ap (option_map live_bytes) e)

-- a read, whatever it answered
pub one_read : {T E : Type 0} (at len : ℕ) (result : Result T E) (old new : Seen) → Went (Reads at len) result old new → OnlyReads 1 old new
one_read at len (Ok x) old new went =
    let t = told_call (AllByRecursion IsRead) (Reads at len true) old.told new.told (tt, tt) (λ s. refl) went.ok.told in
    record { elapses = record { size = went.size; calls = omega (arith, went.ok.calls); faults = went.faults }; calls = omega (arith, went.ok.calls); told = t.0; live = t.1 }
one_read at len (Err e) old new went = elim went.err [
  | inl made ↦
      let t = told_call (AllByRecursion IsRead) (Reads at len false) old.told new.told (tt, tt) (λ s. refl) made.told in
      record { elapses = record { size = went.size; calls = omega (arith, made.calls); faults = went.faults }; calls = omega (arith, made.calls); told = t.0; live = t.1 }
  | inr none ↦
      let t = told_same (AllByRecursion IsRead) old.told new.told tt none.told in
      record { elapses = record { size = went.size; calls = omega (arith, none.calls); faults = went.faults }; calls = omega (arith, none.calls); told = t.0; live = t.1 }
]

all_append : (xs ys : List Call) → AllByRecursion IsRead xs → AllByRecursion IsRead ys → AllByRecursion IsRead (xs ++ ys)
all_append [] ys a b = b
all_append (x ∷ xs) ys a b = (a.0, all_append xs ys a.1 b)

-- reads, and reads behind them
pub reads_then : (m n k : ℕ) (old mid new : Seen) → m + n ≤ k → OnlyReads m old mid → OnlyReads n mid new → OnlyReads k old new
reads_then m n k old mid new le a b = record {
  elapses = record { size = b.elapses.size ∙ a.elapses.size; calls = omega arith; faults = omega arith };
  calls = omega arith;
  told = by_trans _ _ (AllByRecursion IsRead) old.told mid.told new.told all_append a.told b.told;
  live = b.live ∙ a.live;
}

-- ---- a sync before them

-- a sync that failed is all
pub sync_failed : {T E : Type 0} (most : ℕ) (e : E) (old new : Seen) → Went {T = T} Syncs (Err e) old new → SyncThenReads most old new
sync_failed most e old new went = elim went.err [
  | inl made ↦
      let t = told_call AreSyncThenReads (Syncs false) old.told new.told refl (λ s. refl) made.told in
      record { elapses = record { size = went.size; calls = omega (arith, made.calls); faults = went.faults }; calls = omega (arith, made.calls); told = t.0; live = t.1 }
  | inr none ↦
      let t = told_same AreSyncThenReads old.told new.told tt none.told in
      record { elapses = record { size = went.size; calls = omega (arith, none.calls); faults = went.faults }; calls = omega (arith, none.calls); told = t.0; live = t.1 }
]

then_reads : (old mid new : Option DiskRecord) → mid ≡ option_map (with_call (Syncs true)) old → GoesOnBy (AllByRecursion IsRead) mid new → GoesOnBy AreSyncThenReads old new
then_reads None mid new e b = subst (λ (m : Option DiskRecord). GoesOnBy (AllByRecursion IsRead) m new) e b
then_reads (Some r) mid new e b =
    let h : GoesOnBy (AllByRecursion IsRead) (Some (with_call (Syncs true) r)) new = subst (λ (m : Option DiskRecord). GoesOnBy (AllByRecursion IsRead) m new) e b in
    (Syncs true ∷ h.0, h.1 ∙ calls_more r (Syncs true ∷ []) h.0, h.2)

-- a sync that succeeded, and reads behind it
pub synced_reads : {T E : Type 0} (most : ℕ) (x : T) (old mid new : Seen)
    → Went {E = E} Syncs (Ok x) old mid → OnlyReads most mid new → IsSynced old new
synced_reads most x old mid new went reads =
    record { told = by old.told mid.told went.ok.told reads.told }
  where
    by : (was after : Option DiskRecord) → after ≡ option_map (with_call (Syncs true)) was
        → GoesOnBy (AllByRecursion IsRead) after new.told → GoesOnBy AreSyncedReads was new.told
    by None after e b =
        subst (λ (m : Option DiskRecord). GoesOnBy (AllByRecursion IsRead) m new.told) e b
    by (Some r) after e b =
        let h : GoesOnBy (AllByRecursion IsRead) (Some (with_call (Syncs true) r)) new.told =
        subst (λ (m : Option DiskRecord). GoesOnBy (AllByRecursion IsRead) m new.told) e b in
        (Syncs true ∷ h.0, h.1 ∙ calls_more r (Syncs true ∷ []) h.0, h.2)

-- a sync changes no byte
pub sync_live : {T E : Type 0} (result : Result T E) (old new : Seen) → Went Syncs result old new → live_of new ≡ live_of old
sync_live (Ok x) old new went = call_live (Syncs true) old.told new.told (λ s. refl) went.ok.told
sync_live (Err e) old new went = elim went.err [
  | inl made ↦ call_live (Syncs false) old.told new.told (λ s. refl) made.told
  | inr none ↦ ap (option_map live_bytes) none.told
]

-- where it succeeded, nothing is loose
pub sync_stable : {T E : Type 0} (result : Result T E) (old new : Seen) → Went Syncs result old new → OnOk result (Now (λ s. s.loose ≡ []) new)
sync_stable (Ok x) old new went = now_call (λ s. s.loose ≡ []) (Syncs true) old new went.ok (λ r is. refl)
sync_stable (Err e) old new went = tt

pub ruleset syncs = (sync_live, sync_stable)

-- a sync that succeeded, and reads behind it
pub sync_and_reads : {T E : Type 0} (most : ℕ) (x : T) (old mid new : Seen) → Went {E = E} Syncs (Ok x) old mid → OnlyReads most mid new → SyncThenReads most old new
sync_and_reads most x old mid new went reads = record {
  elapses = record { size = reads.elapses.size ∙ went.size; calls = omega (arith, went.ok.calls, reads.elapses.calls); faults = omega (arith, went.faults, reads.elapses.faults) };
  calls = omega (arith, went.ok.calls, reads.calls);
  told = then_reads old.told mid.told new.told went.ok.told reads.told;
  live = reads.live ∙ sync_live (Ok x) old mid went;
}

-- ---- what stands while reads go by

pub state_reading : (s : State) (cs : List Call) → AllByRecursion IsRead cs → after_all s cs ≡ s
state_reading s [] a = refl
state_reading s (Reads at len ok ∷ cs) a = state_reading s cs a.1
state_reading s (Writes at bytes ok ∷ cs) a = absurd a.0
state_reading s (Syncs ok ∷ cs) a = absurd a.0

still_told : (P : State → Type 0) (old new : Option DiskRecord) → GoesOnBy (AllByRecursion IsRead) old new → ((r : DiskRecord) → old ≡ Some r → P (state_of r)) → (r : DiskRecord) → new ≡ Some r → P (state_of r)
still_told P None new h here r is = absurd cc
still_told P (Some q) new h here r is =
    let same : with_calls h.0 q ≡ r = (let e = h.1 in cc) in
    let state : state_of (with_calls h.0 q) ≡ state_of q = after_all_append (record { live = q.opening; loose = [] }) q.calls h.0 ∙ state_reading (state_of q) h.0 h.2 in
    subst (λ (x : DiskRecord). P (state_of x)) same (subst P (sym state) (here q refl))

-- reads change no state
pub now_reading : (P : State → Type 0) (most : ℕ) (old new : Seen) → OnlyReads most old new → Now P old → Now P new
now_reading P most old new reads here = still_told P old.told new.told reads.told here

all_along : (P : List ℕ → Type 0) (s : State) (cs : List Call) → AllByRecursion IsRead cs → Shows P s → ShowsAlong P s cs
all_along P s [] a h = h
all_along P s (Reads at len ok ∷ cs) a h = (h, all_along P s cs a.1 h)
all_along P s (Writes at bytes ok ∷ cs) a h = absurd a.0
all_along P s (Syncs ok ∷ cs) a h = absurd a.0

-- a sync and reads show nothing new
opening_along : (P : List ℕ → Type 0) (s : State) (cs : List Call) → AreSyncThenReads cs → Shows P s → ShowsAlong P s cs
opening_along P s [] a h = h
opening_along P s (Syncs true ∷ cs) a h = (h, all_along P (after s (Syncs true)) cs a (λ m image. h m (record { size = image.size; same = λ i lt firm. image.same i lt refl })))
opening_along P s (Syncs false ∷ cs) a h = (h, subst (λ (more : List Call). ShowsAlong P s more) (sym a) h)
opening_along P s (Reads at len ok ∷ cs) a h = absurd a
opening_along P s (Writes at bytes ok ∷ cs) a h = absurd a

goes_on_opening : (P : List ℕ → Type 0) (old new : Option DiskRecord) → GoesOnBy AreSyncThenReads old new → ((r : DiskRecord) → old ≡ Some r → Shows P (state_of r)) → GoesOn P old new
goes_on_opening P None new h here = h
goes_on_opening P (Some r) new h here = (h.0, h.1, opening_along P (state_of r) h.0 h.2 (here r refl))

-- a stop while a disk is opened leaves what a stop before leaves
pub leaves_opening : (P : List ℕ → Type 0) (most : ℕ) (old new : Seen) → SyncThenReads most old new → Now (Shows P) old → Leaves P old new
leaves_opening P most old new opened here = record { told = goes_on_opening P old.told new.told opened.told here }
