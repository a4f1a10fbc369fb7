-- How images go on, from call to call.
use Rattle.std.proofs.Common.{◌≡◌, inl, inr, ℕ, ◌+◌, ◌≤◌, Bool, true, false, List, [], ◌∷◌, ◌++◌, length, Option, Some, None, refl, sym, ap, subst, ◌∙◌, append_assoc}
use Rattle.std.specs.Prelude.{Result, Ok, Err}
use Rattle.std.specs.Option.{option_map}
use Rattle.sis_disk.proofs.Laid.{length-laid, laid_elsewhere, or_left, or_right}
use Rattle.std.proofs.lemmas.List.{append-nil}
use Rattle.sis_disk.specs.Record.{Call, DiskRecord, State, Seen, Made, NotMade, Went, Reads, Writes, Syncs, after, after_all, state_of, with_call}
use Rattle.sis_disk.proofs.Push.{state_with}
use Rattle.sis_disk.specs.Stops.{Shows, ShowsAlong, GoesOn, Leaves, with_calls, loosened, Now}

pub along_append : (P : List ℕ → Type 0) (s : State) (xs ys : List Call) → ShowsAlong P s xs → ShowsAlong P (after_all s xs) ys → ShowsAlong P s (xs ++ ys)
along_append P s [] ys a b = b
along_append P s (x ∷ xs) ys a b = (a.0, along_append P (after s x) xs ys a.1 b)

pub after_all_append : (s : State) (xs ys : List Call) → after_all s (xs ++ ys) ≡ after_all (after_all s xs) ys
after_all_append s [] ys = refl
after_all_append s (x ∷ xs) ys = after_all_append (after s x) xs ys

pub goes_on_trans : (P : List ℕ → Type 0) (old mid new : Option DiskRecord) → GoesOn P old mid → GoesOn P mid new → GoesOn P old new
goes_on_trans P None None new a b = b
goes_on_trans P None (Some r) new a b = cc
goes_on_trans P (Some r) mid new a b =
    let h : GoesOn P (Some (with_calls a.0 r)) new = subst (λ (m : Option DiskRecord). GoesOn P m new) a.1 b in (
      a.0 ++ h.0,
      h.1 ∙ ap (λ (cs : List Call). Some (record { opening = r.opening; calls = cs })) (append_assoc r.calls a.0 h.0),
      along_append P (state_of r) a.0 h.0 a.2 (subst (λ (s : State). ShowsAlong P s h.0) (after_all_append _ r.calls a.0) h.2),
    )

pub leaves_trans : (P : List ℕ → Type 0) (old mid new : Seen) → Leaves P old mid → Leaves P mid new → Leaves P old new
leaves_trans P old mid new a b = record { told = goes_on_trans P old.told mid.told new.told a.told b.told }

-- no call was made
told_same : (P : List ℕ → Type 0) (old new : Option DiskRecord) → new ≡ old → ((r : DiskRecord) → old ≡ Some r → Shows P (state_of r)) → GoesOn P old new
told_same P None new e h = e
told_same P (Some r) new e h = ([], e ∙ ap (λ (cs : List Call). Some (record { opening = r.opening; calls = cs })) (sym (append-nil r.calls)), h r refl)

told_call : (P : List ℕ → Type 0) (c : Call) (old new : Option DiskRecord) → new ≡ option_map (with_call c) old → ((r : DiskRecord) → old ≡ Some r → Shows P (state_of r) × Shows P (after (state_of r) c)) → GoesOn P old new
told_call P c None new e h = e
told_call P c (Some r) new e h = (c ∷ [], e, h r refl)

-- A call whose images all have P, whatever it answered.
pub leaves_by : {T E : Type 0} (P : List ℕ → Type 0) (call : Bool → Call) (result : Result T E) (old new : Seen) → Went call result old new
    → Now (λ s. Shows P s × Shows P (after s (call true)) × Shows P (after s (call false))) old → Leaves P old new
leaves_by P call (Ok x) old new went here = record { told = told_call P (call true) old.told new.told went.ok.told (λ r is. ((here r is).0, (here r is).1)) }
leaves_by P call (Err e) old new went here = elim went.err [
  | inl made ↦ record { told = told_call P (call false) old.told new.told made.told (λ r is. ((here r is).0, (here r is).2)) }
  | inr not_made ↦ record { told = told_same P old.told new.told not_made.told (λ r is. (here r is).0) }
]

-- a sync or a read shows nothing new
pub leaves_sync : {T E : Type 0} (P : List ℕ → Type 0) (result : Result T E) (old new : Seen) → Went Syncs result old new → Now (Shows P) old → Leaves P old new
leaves_sync P result old new went here = leaves_by P Syncs result old new went (λ r is. (here r is, λ m image. here r is m (record { size = image.size; same = λ i lt _. image.same i lt refl }), here r is))

pub leaves_read : {T E : Type 0} (P : List ℕ → Type 0) (at len : ℕ) (result : Result T E) (old new : Seen) → Went (Reads at len) result old new → Now (Shows P) old → Leaves P old new
leaves_read P at len result old new went here = leaves_by P (Reads at len) result old new went (λ r is. (here r is, here r is, here r is))

module _ (P : List ℕ → Type 0) (at : ℕ) (bytes : List ℕ) (s : State) (within : at + length bytes ≤ length s.live) (all : Shows P (loosened at (length bytes) s)) where
  pub shows_before : Shows P s
  shows_before m image = all m (record { size = image.size; same = λ i lt firm. image.same i lt (or_right _ _ firm) })

  pub shows_after : Shows P (after s (Writes at bytes true))
  shows_after m image = all m (record {
    size = image.size ∙ length-laid at bytes s.live within;
    same = λ i lt firm. image.same i lt firm ∙ laid_elsewhere at bytes s.live i within (or_left _ _ firm);
  })

-- a write shows what has P, where all that it makes loose does
pub leaves_write : {T E : Type 0} (P : List ℕ → Type 0) (at : ℕ) (bytes : List ℕ) (result : Result T E) (old new : Seen) → Went (Writes at bytes) result old new
    → Now (λ s. (at + length bytes ≤ length s.live) × Shows P (loosened at (length bytes) s)) old → Leaves P old new
leaves_write P at bytes result old new went here = leaves_by P (Writes at bytes) result old new went (λ r is.
    (shows_before P at bytes (state_of r) (here r is).0 (here r is).1, shows_after P at bytes (state_of r) (here r is).0 (here r is).1, (here r is).1))

now_told : (P : State → Type 0) (c : Call) (old new : Option DiskRecord) → new ≡ option_map (with_call c) old → ((r : DiskRecord) → old ≡ Some r → P (after (state_of r) c)) → (r : DiskRecord) → new ≡ Some r → P (state_of r)
now_told P c None new e h r is = absurd cc
now_told P c (Some q) new e h r is =
    let same : with_call c q ≡ r = cc in
    subst (λ (x : DiskRecord). P (state_of x)) same (subst P (sym (state_with c q)) (h q refl))

-- what holds of the state after a call holds then
pub now_call : (P : State → Type 0) (c : Call) (old new : Seen) → Made c old new → Now (λ s. P (after s c)) old → Now P new
now_call P c old new made here = now_told P c old.told new.told made.told here

along_weaker : (P Q : List ℕ → Type 0) (s : State) (cs : List Call) → ((m : List ℕ) → P m → Q m) → ShowsAlong P s cs → ShowsAlong Q s cs
along_weaker P Q s [] f h = λ m image. f m (h m image)
along_weaker P Q s (c ∷ cs) f h = (λ m image. f m (h.0 m image), along_weaker P Q (after s c) cs f h.1)

goes_on_weaker : (P Q : List ℕ → Type 0) (old new : Option DiskRecord) → ((m : List ℕ) → P m → Q m) → GoesOn P old new → GoesOn Q old new
goes_on_weaker P Q None new f h = h
goes_on_weaker P Q (Some r) new f h = (h.0, h.1, along_weaker P Q (state_of r) h.0 f h.2)

pub leaves_weaker : (P Q : List ℕ → Type 0) (old new : Seen) → ((m : List ℕ) → P m → Q m) → Leaves P old new → Leaves Q old new
leaves_weaker P Q old new f h = record { told = goes_on_weaker P Q old.told new.told f h.told }

-- a call that was made, where the images before it and after it have P
pub leaves_made : (P : List ℕ → Type 0) (c : Call) (old new : Seen) → Made c old new → Now (λ s. Shows P s × Shows P (after s c)) old → Leaves P old new
leaves_made P c old new made here = record { told = told_call P c old.told new.told made.told here }

-- a call that was refused
pub leaves_none : (P : List ℕ → Type 0) (old new : Seen) → NotMade old new → Now (Shows P) old → Leaves P old new
leaves_none P old new none here = record { told = told_same P old.told new.told none.told here }
