-- How a record goes on by calls of some kind, and which of them fail a commit.
use Rattle.std.proofs.Common.{◌≡◌, ◌⊎◌, inl, inr, ℕ, ◌+◌, ◌≤◌, true, false, List, [], ◌∷◌, ◌++◌, Option, Some, None, refl, sym, ap, subst, ◌∙◌, arith, append_assoc, append-nil}
use Rattle.std.specs.Prelude.{Result, Ok, Err}
use Rattle.std.specs.Option.{option_map}
use Rattle.std.proofs.lemmas.Bool.{le-ltb}
use Rattle.sis_disk.specs.Causes.{fails_commit, serves_commit, NoneFails, AllServe, LastFails, StaysUp, GoesWell, GoesDown}
use Rattle.sis_disk.specs.Record.{Call, Reads, Writes, Syncs, DiskRecord, Seen, Made, NotMade, Went, Rose, with_call}
use Rattle.sis_disk.specs.Stops.{GoesOnBy, Elapses, with_calls}

-- ---- records

-- the record with further calls, and others behind them
pub calls_more : (r : DiskRecord) (xs ys : List Call)
    → Some (with_calls ys (with_calls xs r)) ≡ Some (with_calls (xs ++ ys) r)
calls_more r xs ys =
    ap (λ (cs : List Call). Some (record { opening = r.opening; calls = cs }))
    (append_assoc r.calls xs ys)

pub no_calls : (r : DiskRecord) → Some r ≡ Some (with_calls [] r)
no_calls r =
    ap (λ (cs : List Call). Some (record { opening = r.opening; calls = cs }))
    (sym (append-nil r.calls))

-- no call was made
pub by_none : (Are : List Call → Type 0) (old new : Option DiskRecord) → Are [] → new ≡ old
    → GoesOnBy Are old new
by_none Are None new are e = e
by_none Are (Some r) new are e = ([], e ∙ no_calls r, are)

-- one call was made
pub by_call : (Are : List Call → Type 0) (c : Call) (old new : Option DiskRecord) → Are (c ∷ [])
    → new ≡ option_map (with_call c) old → GoesOnBy Are old new
by_call Are c None new are e = e
by_call Are c (Some r) new are e = (c ∷ [], e, are)

-- calls, and calls behind them
pub by_trans : (As Bs Cs : List Call → Type 0) (old mid new : Option DiskRecord)
    → ((xs ys : List Call) → As xs → Bs ys → Cs (xs ++ ys)) → GoesOnBy As old mid
    → GoesOnBy Bs mid new → GoesOnBy Cs old new
by_trans As Bs Cs None None new f a b = b
by_trans As Bs Cs None (Some r) new f a b = absurd cc
by_trans As Bs Cs (Some r) mid new f a b =
    let h : GoesOnBy Bs (Some (with_calls a.0 r)) new =
    subst (λ (m : Option DiskRecord). GoesOnBy Bs m new) a.1 b in
    (a.0 ++ h.0, h.1 ∙ calls_more r a.0 h.0, f a.0 h.0 a.2 h.2)

-- the same calls are of a wider kind
pub by_weaker : (As Bs : List Call → Type 0) (old new : Option DiskRecord)
    → ((xs : List Call) → As xs → Bs xs) → GoesOnBy As old new → GoesOnBy Bs old new
by_weaker As Bs None new f a = a
by_weaker As Bs (Some r) new f a = (a.0, a.1, f a.0 a.2)

-- ---- calls that fail no commit

pub none_append : (first : ℕ) (xs ys : List Call) → NoneFails first xs → NoneFails first ys
    → NoneFails first (xs ++ ys)
none_append first [] ys a b = b
none_append first (x ∷ xs) ys a b = (a.0, none_append first xs ys a.1 b)

pub up_same : (first : ℕ) (old new : Seen) → new.told ≡ old.told → StaysUp first old new
up_same first old new same =
    record { told = by_none (NoneFails first) old.told new.told tt same }

pub up_refl : (first : ℕ) (seen : Seen) → StaysUp first seen seen
up_refl first seen = up_same first seen seen refl

pub up_trans : (first : ℕ) (old mid new : Seen) → StaysUp first old mid → StaysUp first mid new
    → StaysUp first old new
up_trans first old mid new a b = record {
  told = by_trans (NoneFails first) (NoneFails first) (NoneFails first) old.told mid.told new.told
      (none_append first) a.told b.told;
}

-- a call that was made, and isn't one that fails a commit
pub up_made : (first : ℕ) (c : Call) (old new : Seen) → fails_commit first c ≡ false
    → Made c old new → StaysUp first old new
up_made first c old new fine made =
    record { told = by_call (NoneFails first) c old.told new.told (fine, tt) made.told }

-- a read, whatever it answered
pub up_read : {T E : Type 0} (first at len : ℕ) (result : Result T E) (old new : Seen)
    → Went (Reads at len) result old new → StaysUp first old new
up_read first at len (Ok x) old new went = up_made first (Reads at len true) old new refl went.ok
up_read first at len (Err e) old new went = elim went.err [
  | inl made ↦ up_made first (Reads at len false) old new refl made
  | inr none ↦ up_same first old new none.told
]

-- a write of data blocks, whatever it answered
pub up_write : {T E : Type 0} (first at : ℕ) (bytes : List ℕ) (result : Result T E) (old new : Seen)
    → first ≤ at → Went (Writes at bytes) result old new → StaysUp first old new
up_write first at bytes (Ok x) old new behind went =
    up_made first (Writes at bytes true) old new refl went.ok
up_write first at bytes (Err e) old new behind went = elim went.err [
  | inl made ↦ up_made first (Writes at bytes false) old new (le-ltb at first behind) made
  | inr none ↦ up_same first old new none.told
]

-- ---- calls that serve a commit

pub serve_append : (first : ℕ) (xs ys : List Call) → AllServe first xs → AllServe first ys
    → AllServe first (xs ++ ys)
serve_append first [] ys a b = b
serve_append first (x ∷ xs) ys a b = (a.0, serve_append first xs ys a.1 b)

-- such a call doesn't fail one
serves_none : (first : ℕ) (c : Call) → serves_commit first c ≡ true → fails_commit first c ≡ false
serves_none first (Reads at len ok) e = refl
serves_none first (Writes at bytes true) e = refl
serves_none first (Writes at bytes false) e = absurd cc
serves_none first (Syncs true) e = refl
serves_none first (Syncs false) e = absurd cc

all_none : (first : ℕ) (cs : List Call) → AllServe first cs → NoneFails first cs
all_none first [] all = tt
all_none first (c ∷ cs) all = (serves_none first c all.0, all_none first cs all.1)

pub up_well : (first : ℕ) (old new : Seen) → GoesWell first old new → StaysUp first old new
up_well first old new well = record {
  told = by_weaker (AllServe first) (NoneFails first) old.told new.told (all_none first) well.told;
}

pub well_refl : (first : ℕ) (seen : Seen) → GoesWell first seen seen
well_refl first seen = record { told = by_none (AllServe first) seen.told seen.told tt refl }

pub well_trans : (first : ℕ) (old mid new : Seen) → GoesWell first old mid → GoesWell first mid new
    → GoesWell first old new
well_trans first old mid new a b = record {
  told = by_trans (AllServe first) (AllServe first) (AllServe first) old.told mid.told new.told
      (serve_append first) a.told b.told;
}

-- a call that was made
pub well_made : (first : ℕ) (c : Call) (old new : Seen) → serves_commit first c ≡ true
    → Made c old new → GoesWell first old new
well_made first c old new serves made =
    record { told = by_call (AllServe first) c old.told new.told (serves, tt) made.told }

-- ---- calls of which the last one fails a commit

pub last_append : (first : ℕ) (xs ys : List Call) → AllServe first xs → LastFails first ys
    → LastFails first (xs ++ ys)
last_append first xs ys a b = (
  xs ++ b.0,
  b.1,
  ap (λ (cs : List Call). xs ++ cs) b.2 ∙ sym (append_assoc xs b.0 (b.1 ∷ [])),
  serve_append first xs b.0 a b.3,
  b.4,
)

-- a call that was made, or refused
pub down_by : (first : ℕ) (c : Call) (old new : Seen) → fails_commit first c ≡ true
    → Rose old.faults new.faults → new.faults ≤ old.faults + 1
    → Made c old new ⊎ NotMade old new → GoesDown first old.calls old new
down_by first c old new fails rose once (inl made) = record {
  rose = rose;
  once = once;
  low = omega arith;
  told = inl (
    made.calls,
    by_call (LastFails first) c old.told new.told ([], c, refl, tt, fails) made.told,
  );
}
down_by first c old new fails rose once (inr none) = record {
  rose = rose;
  once = once;
  low = omega arith;
  told = inr (none.calls, by_none (AllServe first) old.told new.told tt none.told);
}

-- calls that served a commit, and then one that failed it
pub well_down : (first at : ℕ) (old mid new : Seen) → Elapses old mid → mid.faults ≡ old.faults
    → GoesWell first old mid → GoesDown first at mid new → GoesDown first at old new
well_down first at old mid new elapses quiet well down = record {
  rose = (let rose = down.rose in omega (arith, quiet));
  once = (let once = down.once in omega (arith, quiet));
  low = omega (arith, elapses.calls, down.low);
  told = elim down.told [
    | inl made ↦ inl (
      made.0,
      by_trans (AllServe first) (LastFails first) (LastFails first) old.told mid.told new.told
          (last_append first) well.told made.1,
    )
    | inr none ↦ inr (
      none.0,
      by_trans (AllServe first) (AllServe first) (AllServe first) old.told mid.told new.told
          (serve_append first) well.told none.1,
    )
  ];
}
