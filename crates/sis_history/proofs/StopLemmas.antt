-- Stops while calls are made and entries are added.
use Rattle.std.proofs.Common.{◌≡◌, ◌⊎◌, inl, inr, ⊎_elim, ℕ, zero, suc, ◌+◌, ◌-◌, ◌<◌, ◌≤◌, Bool, true, false, List, [], ◌∷◌, ◌++◌, length, take, drop, refl, sym, ap, subst, ◌∙◌, arith, length-append}
use Rattle.std.specs.Prelude.{nat_le, Option, Some, None, IfSome}
use Rattle.std.proofs.lemmas.List.{take_all, take-append-le, drop-append-le}
use Rattle.std.proofs.lemmas.Bool.Decides.{nat_tests}
use Rattle.std.proofs.Math.Seq.{take-append-add}
use Rattle.sis_disk.specs.Record.{Call, DiskRecord, State, Seen, IsImage, after, after_all, state_at, state_of}
use Rattle.sis_disk.specs.Stops.{Shows, ShowsAlong, GoesOn, Leaves, Now, with_calls}
use Rattle.sis_disk.proofs.Images.{after_all_append}
use Rattle.sis_model.specs.World.{World}
use Rattle.sis_model.specs.declared.history.Entry.{Entry}
use Rattle.sis_table.specs.Opens.{OpensAs}
use Rattle.sis_history.specs.Durable.{is_durable, is_sure}
use Rattle.sis_history.specs.Stops.{OpensAfter, SurvivesStop, SurvivesStops, AreWithin, IsSafe, Survives}
use Rattle.sis_history.proofs.CountLemmas.{all_push, none_behind, within_later, within_push, decided_bound, decided_push, all_decided, none_sure_before, not_durable_unsure, unanswered_unsure}

-- ---- states of a record

abbrev start_of : DiskRecord → State
start_of r = record { live = r.opening; loose = [] }

state_now : (r : DiskRecord) (k : ℕ) → length r.calls ≤ k → state_at r k ≡ state_of r
state_now r k le = ap (λ (cs : List Call). after_all (start_of r) cs) (take_all k r.calls le)

-- a moment that was before stays as it was
state_older : (r : DiskRecord) (more : List Call) (k : ℕ) → k ≤ length r.calls
    → state_at (with_calls more r) k ≡ state_at r k
state_older r more k le =
    ap (λ (cs : List Call). after_all (start_of r) cs) (take-append-le k r.calls more le)

state_newer : (r : DiskRecord) (more : List Call) (j : ℕ)
    → state_at (with_calls more r) (length r.calls + j) ≡ after_all (state_of r) (take j more)
state_newer r more j =
    ap (λ (cs : List Call). after_all (start_of r) cs) (take-append-add r.calls more j)
    ∙ after_all_append (start_of r) r.calls (take j more)

along_at : (P : List ℕ → Type 0) (s : State) (cs : List Call) (j : ℕ) → ShowsAlong P s cs
    → j ≤ length cs → Shows P (after_all s (take j cs))
along_at P s [] zero along le = along
along_at P s [] (suc j) along le = absurd (omega arith)
along_at P s (c ∷ cs) zero along le = along.0
along_at P s (c ∷ cs) (suc j) along le = along_at P (after s c) cs j along.1 (omega arith)

-- ---- calls more

survives_older : (w : World) (es : List Entry) (r : DiskRecord) (more : List Call) (k : ℕ)
    → k ≤ length r.calls
    → SurvivesStop w es r k → SurvivesStop w es (with_calls more r) k
survives_older w es r more k le before m image =
    before m (subst (λ (s : State). IsImage s m) (state_older r more k le) image)

survives_newer : (w : World) (es : List Entry) (r : DiskRecord) (more : List Call) (j : ℕ)
    → j ≤ length more
    → AreWithin (length r.calls) es
    → ShowsAlong (IsSafe (length r.calls + length more) w es) (state_of r) more
    → SurvivesStop w es (with_calls more r) (length r.calls + j)
survives_newer w es r more j le within along m image =
    let last = length r.calls + length more in
    let k = length r.calls + j in
    let then = subst (λ (s : State). IsImage s m) (state_newer r more j) image in
    let safe = along_at (IsSafe last w es) (state_of r) more j along le m then in
    let all : AreWithin k es = within_later (length r.calls) k es (omega arith) within in (
      safe.0,
      record {
        decided = rw (all_decided k es all) safe.1;
        none_lost = none_sure_before k last (drop safe.0 es) (omega arith) safe.2;
      },
      safe.3,
    )

either : (b : Bool) → (b ≡ true) ⊎ (b ≡ false)
either true = inl refl
either false = inr refl

-- a call of the first record, or one of those that came
older_or_newer : (k n extra : ℕ) → k ≤ n + extra → (k ≤ n) ⊎ ((j : ℕ) × (n + j ≡ k) × (j ≤ extra))
older_or_newer k n extra le = elim (either (nat_le k n)) [
  | inl older ↦ inl (grind (arith, nat_tests))
  | inr newer ↦ inr (k - n, grind (arith, nat_tests), omega arith)
]

earlier_or_now : (k n : ℕ) → (k < n) ⊎ (n ≤ k)
earlier_or_now k n = elim (either (nat_le n k)) [
  | inl now ↦ inr (grind (arith, nat_tests))
  | inr earlier ↦ inl (grind (arith, nat_tests))
]

survives_more : (first : ℕ) (w : World) (es : List Entry) (r : DiskRecord) (more : List Call)
    → SurvivesStops first w es r
    → AreWithin (length r.calls) es
    → ShowsAlong (IsSafe (length r.calls + length more) w es) (state_of r) more
    → SurvivesStops first w es (with_calls more r)
survives_more first w es r more before within along k from upto =
    ⊎_elim
    (λ older. survives_older w es r more k older (before k from older))
    (λ newer.
    let at = survives_newer w es r more newer.0 newer.2 within along in
    subst (λ (n : ℕ). SurvivesStop w es (with_calls more r) n) newer.1 at)
    (older_or_newer k (length r.calls) (length more) (omega (arith, length-append r.calls more)))

-- what holds of the record that a disk tells
pub if_some : (P : DiskRecord → Type 0) (o : Option DiskRecord) (r : DiskRecord) → IfSome o P
    → o ≡ Some r → P r
if_some P o r holds is = subst (λ (v : Option DiskRecord). IfSome v P) is holds

-- what each image has while calls go by carries the law over them
pub survives_calls : (first : ℕ) (w : World) (es : List Entry) (old new : Seen)
    → Survives first w es old
    → IfSome new.told (λ r. length r.calls ≡ new.calls) → Leaves (IsSafe new.calls w es) old new
    → Survives first w es new
survives_calls first w es old new before counted leaves = record {
  told = λ r is.
      by_told old.told new.told before.told leaves.told r is (if_some _ new.told r counted is);
}
  where
    Carried : DiskRecord → Type 0
    Carried r = SurvivesStops first w es r × AreWithin (length r.calls) es

    by_told : (was now : Option DiskRecord) → ((r : DiskRecord) → was ≡ Some r → Carried r)
        → GoesOn (IsSafe new.calls w es) was now → (r : DiskRecord) → now ≡ Some r
        → length r.calls ≡ new.calls → Carried r
    by_told None now before goes r is count = absurd cc
    by_told (Some q) now before goes r is count =
        let same : with_calls goes.0 q ≡ r = cc in
        let both = length-append q.calls goes.0 in
        let lengths = ap (λ (x : DiskRecord). length x.calls) same in
        let total : length q.calls + length goes.0 ≡ new.calls =
        omega (arith, both, lengths, count) in
        let all = before q refl in
        let at = λ (last : ℕ). ShowsAlong (IsSafe last w es) (state_of q) goes.0 in
        let safe = subst at (sym total) goes.2 in
        subst Carried same (
          survives_more first w es q goes.0 all.0 all.1 safe,
          within_later (length q.calls) (length (q.calls ++ goes.0)) es (omega (arith, both)) all.1,
        )

-- ---- the first moment

-- before the first entry each image opens as the files that there are
pub survives_start : (first : ℕ) (w : World) (seen : Seen) → seen.calls ≤ first
    → IfSome seen.told (λ r. length r.calls ≡ seen.calls)
    → Now (Shows (OpensAs w.files)) seen → Survives first w [] seen
survives_start first w seen le counted opens = record { told = λ r is. (here r is, tt) }
  where
    here : (r : DiskRecord) → seen.told ≡ Some r → SurvivesStops first w [] r
    here r is k from upto m image =
        let count : length r.calls ≡ seen.calls = if_some _ seen.told r counted is in
        let now : IsImage (state_of r) m =
        subst (λ (s : State). IsImage s m) (state_now r k (omega arith)) image in
        (0, record { decided = omega arith; none_lost = tt }, opens r is m now)

-- ---- an entry more

-- an entry that isn't sure may be missing
survives_unsure : (w : World) (es : List Entry) (e : Entry) (r : DiskRecord) (k : ℕ)
    → is_sure k e ≡ false → SurvivesStop w es r k → SurvivesStop w (es ++ e ∷ []) r k
survives_unsure w es e r k unsure before m image =
    let cut = before m image in
    let le : cut.0 ≤ length es = omega (arith, cut.1.decided, decided_bound k es) in (
      cut.0,
      record {
        decided = omega (arith, cut.1.decided, decided_push k es e);
        none_lost =
            rw (drop-append-le cut.0 es (e ∷ []) le)
            (all_push (λ d. is_sure k d ≡ false) (drop cut.0 es) e cut.1.none_lost unsure);
      },
      rw (take-append-le cut.0 es (e ∷ []) le) cut.2,
    )

-- an entry that isn't durable
pub survives_entry : (first : ℕ) (w : World) (es : List Entry) (e : Entry) (seen : Seen)
    → IfSome seen.told (λ r. length r.calls ≡ seen.calls)
    → e.decided ≤ seen.calls → is_durable e ≡ false → Survives first w es seen
    → Survives first w (es ++ e ∷ []) seen
survives_entry first w es e seen counted decided not_durable before = record {
  told = λ r is.
      let count = if_some _ seen.told r counted is in
      let was = before.told r is in (
        λ k from upto.
            survives_unsure w es e r k (not_durable_unsure k e not_durable) (was.0 k from upto),
        within_push (length r.calls) es e (omega (arith, count)) was.1,
      );
}

-- where each image opens as the files after all entries, none is lost
survives_all : (w : World) (es : List Entry) (r : DiskRecord) (k : ℕ) → length r.calls ≤ k
    → AreWithin k es
    → Shows (OpensAfter w es (length es)) (state_of r) → SurvivesStop w es r k
survives_all w es r k le within opens m image = (
  length es,
  record {
    decided = rw (all_decided k es within) (omega arith);
    none_lost = none_behind (λ e. is_sure k e ≡ false) es;
  },
  opens m (subst (λ (s : State). IsImage s m) (state_now r k le) image),
)

-- an entry that was answered only now, where each image has it
pub survives_durable : (first : ℕ) (w : World) (es : List Entry) (e : Entry) (seen : Seen)
    → IfSome seen.told (λ r. length r.calls ≡ seen.calls)
    → e.decided ≤ seen.calls → seen.calls ≤ e.answered
    → Now (Shows (OpensAfter w (es ++ e ∷ []) (length es + 1))) seen
    → Survives first w es seen → Survives first w (es ++ e ∷ []) seen
survives_durable first w es e seen counted decided answered opens before =
    record { told = λ r is. (at r is, within r is) }
  where
    count : (r : DiskRecord) → seen.told ≡ Some r → length r.calls ≡ seen.calls
    count r is = if_some _ seen.told r counted is

    within : (r : DiskRecord) → seen.told ≡ Some r → AreWithin (length r.calls) (es ++ e ∷ [])
    within r is = within_push (length r.calls) es e (omega (arith, count r is)) (before.told r is).1

    all : (r : DiskRecord) → seen.told ≡ Some r
        → Shows (OpensAfter w (es ++ e ∷ []) (length (es ++ e ∷ []))) (state_of r)
    all r is = rw (length-append es (e ∷ [])) (opens r is)

    at : (r : DiskRecord) → seen.told ≡ Some r → SurvivesStops first w (es ++ e ∷ []) r
    at r is k from upto =
        ⊎_elim
        (λ earlier.
        let unsure = unanswered_unsure k e (omega (arith, count r is)) in
        survives_unsure w es e r k unsure ((before.told r is).0 k from upto))
        (λ now.
        let by_now = within_later (length r.calls) k (es ++ e ∷ []) now (within r is) in
        survives_all w (es ++ e ∷ []) r k now by_now (all r is))
        (earlier_or_now k (length r.calls))

-- ---- the public form

pub survives_stops : (first : ℕ) (w : World) (es : List Entry) (seen : Seen) (r : DiskRecord)
    → Survives first w es seen → seen.told ≡ Some r → SurvivesStops first w es r
survives_stops first w es seen r before is = (before.told r is).0
