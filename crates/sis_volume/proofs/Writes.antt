-- Writes to the places that pass a test: which positions they leave as they were, at every moment.
use Rattle.std.proofs.Common.{◌≡◌, inl, inr, ℕ, ◌+◌, ◌/◌, ◌<◌, ◌≤◌, Bool, true, false, List, [], ◌∷◌, ◌++◌, length, Option, Some, None, refl, sym, ap, ◌∙◌, subst, arith}
use Rattle.std.specs.Prelude.{nat_le, nat_lt, ◌&&◌, ◌||◌, Result, Ok, Err, IfSome}
use Rattle.std.specs.List.{AllByRecursion}
use Rattle.std.specs.Option.{option_map}
use Rattle.std.proofs.lemmas.Bool.{cases_lt}
use Rattle.sis_disk.proofs.GoesOn.{by_call, by_none, by_trans, up_refl, up_trans, up_write}
use Rattle.sis_disk.specs.Record.{Call, Reads, Writes, Syncs, DiskRecord, Made, Seen, State, Went, after, live_bytes, state_of, with_call}
use Rattle.sis_disk.specs.Stops.{GoesOnBy, Leaves, Shows, loosened}
use Rattle.sis_disk.proofs.Images.{leaves_trans, leaves_weaker, leaves_write}
use Rattle.sis_disk.proofs.Laid.{laid_elsewhere, length-laid, not_inside}
use Rattle.sis_disk.proofs.Push.{state_with}
use Rattle.sis_volume.specs.Keeping.{AgreesOut, KeepsOut, WritesOnly}
use Rattle.sis_volume.specs.Staging.{WritesTo}

-- one record is told
pub same_record : (o : Option DiskRecord) (r q : DiskRecord) → o ≡ Some r → o ≡ Some q → r ≡ q
same_record o r q is is_q = let both : Some r ≡ Some q = sym is ∙ is_q in cc

or_false : (a b : Bool) → a ≡ false → b ≡ false → (a || b) ≡ false
or_false a b is_a is_b = rw (is_a, is_b) refl

-- the places that pass the first test pass the second
abbrev pub IsNarrower : (ℕ → Bool) → (ℕ → Bool) → Type 0
IsNarrower narrow wide = (place : ℕ) → wide place ≡ false → narrow place ≡ false

module _ (test : ℕ → Bool) where
  pub keeps-refl : (s : State) → KeepsOut test s s
  keeps-refl s = record { size = refl; live = λ i lt out. refl; loose = λ i lt out firm. firm }

  pub keeps-trans : (s t u : State) → KeepsOut test s t → KeepsOut test t u → KeepsOut test s u
  keeps-trans s t u one two =
      let size = one.size in record {
        size = two.size ∙ size;
        live = λ i lt out. two.live i (omega arith) out ∙ one.live i lt out;
        loose = λ i lt out firm. two.loose i (omega arith) out (one.loose i lt out firm);
      }

  -- what agrees with a later state agrees with the earlier one
  pub agrees-back : (s t : State) (m : List ℕ) → KeepsOut test s t → AgreesOut test t m
      → AgreesOut test s m
  agrees-back s t m keeps agrees =
      let size = keeps.size in
      let long = agrees.size in record {
        size = long ∙ size;
        same = λ i lt out firm.
            agrees.same i lt out (keeps.loose i (omega arith) out firm) ∙ keeps.live i (omega arith) out;
      }

  -- a range of positions of such places
  abbrev pub IsRange : ℕ → ℕ → Type 0
  IsRange at n = (i : ℕ) → at ≤ i → i < at + n → test (i / 4096) ≡ true

  out_of : (at n i : ℕ) → IsRange at n → test (i / 4096) ≡ false
      → (nat_le at i && nat_lt i (at + n)) ≡ false
  out_of at n i range out = elim (cases_lt i at) [
    | inl before ↦ not_inside at n i (inl before)
    | inr behind ↦ elim (cases_lt i (at + n)) [
      | inl inside ↦ absurd (let is = range i behind inside in let both : true ≡ false = sym is ∙ out in cc)
      | inr after' ↦ not_inside at n i (inr after')
    ]
  ]

  module _ (at : ℕ) (bytes : List ℕ) (range : IsRange at (length bytes)) where
    keeps-write : (s : State) (ok : Bool) → at + length bytes ≤ length s.live
        → KeepsOut test s (after s (Writes at bytes ok))
    keeps-write s true within = record {
      size = length-laid at bytes s.live within;
      live = λ i lt out. laid_elsewhere at bytes s.live i within (out_of at (length bytes) i range out);
      loose = λ i lt out firm. or_false _ _ (out_of at (length bytes) i range out) firm;
    }
    keeps-write s false within = record {
      size = refl;
      live = λ i lt out. refl;
      loose = λ i lt out firm. or_false _ _ (out_of at (length bytes) i range out) firm;
    }

    shows-write : (s : State) → Shows (AgreesOut test s) (loosened at (length bytes) s)
    shows-write s m image = record {
      size = image.size;
      same = λ i lt out firm. image.same i lt (or_false _ _ (out_of at (length bytes) i range out) firm);
    }

    call_keeps : (ok : Bool) (r : DiskRecord) (new : Option DiskRecord)
        → new ≡ Some (with_call (Writes at bytes ok) r) → at + length bytes ≤ length (live_bytes r)
        → (s : DiskRecord) × (new ≡ Some s) × KeepsOut test (state_of r) (state_of s)
    call_keeps ok r new is within = (
      with_call (Writes at bytes ok) r,
      is,
      subst (λ (s : State). KeepsOut test (state_of r) s) (sym (state_with (Writes at bytes ok) r))
          (keeps-write (state_of r) ok within),
    )

    made_keeps : (ok : Bool) (old new : Seen) → Made (Writes at bytes ok) old new
        → (r : DiskRecord) → old.told ≡ Some r → at + length bytes ≤ length (live_bytes r)
        → (s : DiskRecord) × (new.told ≡ Some s) × KeepsOut test (state_of r) (state_of s)
    made_keeps ok old new made r is within =
        call_keeps ok r new.told
        (made.told ∙ ap (option_map (with_call (Writes at bytes ok))) is) within

    write_keeps : {T E : Type 0} (result : Result T E) (old new : Seen)
        → Went (Writes at bytes) result old new → (r : DiskRecord) → old.told ≡ Some r
        → at + length bytes ≤ length (live_bytes r)
        → (s : DiskRecord) × (new.told ≡ Some s) × KeepsOut test (state_of r) (state_of s)
    write_keeps (Ok x) old new went r is within = made_keeps true old new went.ok r is within
    write_keeps (Err e) old new went r is within = elim went.err [
      | inl made ↦ made_keeps false old new made r is within
      | inr not_made ↦ (r, not_made.told ∙ is, keeps-refl (state_of r))
    ]

    none_told : {T E : Type 0} (result : Result T E) (old new : Seen)
        → Went (Writes at bytes) result old new → old.told ≡ None → new.told ≡ None
    none_told (Ok x) old new went none =
        let made = went.ok in made.told ∙ ap (option_map (with_call (Writes at bytes true))) none
    none_told (Err e) old new went none = elim went.err [
      | inl made ↦ made.told ∙ ap (option_map (with_call (Writes at bytes false))) none
      | inr not_made ↦ not_made.told ∙ none
    ]

    rises : {T E : Type 0} (result : Result T E) (old new : Seen)
        → Went (Writes at bytes) result old new → old.calls ≤ new.calls
    rises (Ok x) old new went = let made = went.ok in let more = made.calls in omega arith
    rises (Err e) old new went = elim went.err [
      | inl made ↦ (let more = made.calls in omega arith)
      | inr not_made ↦ (let same = not_made.calls in omega arith)
    ]

    tells : {T E : Type 0} (result : Result T E) (old new : Seen)
        → Went (Writes at bytes) result old new
        → GoesOnBy (AllByRecursion (WritesTo test)) old.told new.told
    tells (Ok x) old new went =
        let made = went.ok in
        by_call (AllByRecursion (WritesTo test)) (Writes at bytes true) old.told new.told
        (range, tt) made.told
    tells (Err e) old new went = elim went.err [
      | inl made ↦
          by_call (AllByRecursion (WritesTo test)) (Writes at bytes false) old.told new.told
          (range, tt) made.told
      | inr not_made ↦
          by_none (AllByRecursion (WritesTo test)) old.told new.told tt not_made.told
    ]

    some_is : (P : DiskRecord → Type 0) (o : Option DiskRecord) (r : DiskRecord) → o ≡ Some r
        → IfSome o P → P r
    some_is P o r is h = subst (λ (x : Option DiskRecord). IfSome x P) is h

    -- a write to such a range, whatever it answers
    pub write_only : {T E : Type 0} (first : ℕ) (result : Result T E) (old new : Seen)
        → Went (Writes at bytes) result old new
        → IfSome old.told (λ r. length (live_bytes r) ≡ old.size) → first ≤ at
        → at + length bytes ≤ old.size → WritesOnly first test old new
    write_only first result old new went sized behind within =
        let fits : (r : DiskRecord) → old.told ≡ Some r → at + length bytes ≤ length (live_bytes r) =
        λ r is. (let len = some_is (λ x. length (live_bytes x) ≡ old.size) old.told r is sized in omega arith) in
        record {
          elapses = record { size = went.size; calls = rises result old new went; faults = went.faults };
          up = up_write first at bytes result old new behind went;
          told = tells result old new went;
          untold = none_told result old new went;
          keeps = λ r is. write_keeps result old new went r is (fits r is);
          images = λ r is. leaves_write (AgreesOut test (state_of r)) at bytes result old new went (λ q is_q.
              (fits q is_q, subst (λ (x : DiskRecord). Shows (AgreesOut test (state_of r)) (loosened at (length bytes) (state_of x))) (same_record old.told r q is is_q) (shows-write (state_of r))));
        }

  -- nothing was written
  pub writes_none : (first : ℕ) (seen : Seen)
      → ((r : DiskRecord) → seen.told ≡ Some r → Leaves (AgreesOut test (state_of r)) seen seen)
      → WritesOnly first test seen seen
  writes_none first seen leaves = record {
    elapses = record { size = refl; calls = omega arith; faults = omega arith };
    up = up_refl first seen;
    told = by_none (AllByRecursion (WritesTo test)) seen.told seen.told tt refl;
    untold = λ none. none;
    keeps = λ r is. (r, is, keeps-refl (state_of r));
    images = leaves;
  }

module _ (narrow wide : ℕ → Bool) (narrower : IsNarrower narrow wide) where
  keeps-wider : (s t : State) → KeepsOut narrow s t → KeepsOut wide s t
  keeps-wider s t keeps = record {
    size = keeps.size;
    live = λ i lt out. keeps.live i lt (narrower (i / 4096) out);
    loose = λ i lt out firm. keeps.loose i lt (narrower (i / 4096) out) firm;
  }

  agrees-wider : (s : State) (m : List ℕ) → AgreesOut narrow s m → AgreesOut wide s m
  agrees-wider s m agrees = record {
    size = agrees.size;
    same = λ i lt out firm. agrees.same i lt (narrower (i / 4096) out) firm;
  }

  place-wider : (place : ℕ) → narrow place ≡ true → wide place ≡ true
  place-wider place is = by (wide place) refl
    where
      by : (b : Bool) → wide place ≡ b → wide place ≡ true
      by true e = e
      by false e = absurd (let both : true ≡ false = sym is ∙ narrower place e in cc)

  calls-wider : (calls : List Call) → AllByRecursion (WritesTo narrow) calls
      → AllByRecursion (WritesTo wide) calls
  calls-wider [] all = tt
  calls-wider (Reads at len ok ∷ calls) all = absurd all.0
  calls-wider (Writes at bytes ok ∷ calls) all =
      (λ i ge lt. place-wider (i / 4096) (all.0 i ge lt), calls-wider calls all.1)
  calls-wider (Syncs ok ∷ calls) all = absurd all.0

  calls-behind : (xs ys : List Call) → AllByRecursion (WritesTo wide) xs
      → AllByRecursion (WritesTo narrow) ys → AllByRecursion (WritesTo wide) (xs ++ ys)
  calls-behind [] ys these those = calls-wider ys those
  calls-behind (x ∷ xs) ys these those = (these.0, calls-behind xs ys these.1 those)

  -- writes one after the other
  pub writes_trans : (first : ℕ) (old now new : Seen) → WritesOnly first wide old now
      → WritesOnly first narrow now new → WritesOnly first wide old new
  writes_trans first old now new one two =
      let a = one.elapses in
      let b = two.elapses in
      let early = a.calls in
      let late = b.calls in
      let few = a.faults in
      let more = b.faults in
      record {
        elapses = record { size = b.size ∙ a.size; calls = omega arith; faults = omega arith };
        up = up_trans first old now new one.up two.up;
        told = by_trans (AllByRecursion (WritesTo wide)) (AllByRecursion (WritesTo narrow))
            (AllByRecursion (WritesTo wide)) old.told now.told new.told calls-behind one.told two.told;
        untold = λ none. two.untold (one.untold none);
        keeps = λ r is. (let s = one.keeps r is in let t = two.keeps s.0 s.1 in
            (t.0, t.1, keeps-trans wide (state_of r) (state_of s.0) (state_of t.0) s.2 (keeps-wider (state_of s.0) (state_of t.0) t.2)));
        images = λ r is. (let s = one.keeps r is in
            leaves_trans (AgreesOut wide (state_of r)) old now new (one.images r is)
            (leaves_weaker (AgreesOut narrow (state_of s.0)) (AgreesOut wide (state_of r)) now new
            (λ m agrees. agrees-back wide (state_of r) (state_of s.0) m s.2 (agrees-wider (state_of s.0) m agrees)) (two.images s.0 s.1)));
      }
