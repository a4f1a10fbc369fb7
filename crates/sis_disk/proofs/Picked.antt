-- What is picked is one of the images that a stop may leave.
use Rattle.std.proofs.Common.{◌≡◌, ℕ, zero, suc, ◌+◌, ◌<◌, inl, inr, Bool, true, false, List, [], ◌∷◌, length, take, get_or, refl, sym, ap, ◌∙◌, arith}
use Rattle.std.specs.Prelude.{Result, Ok, Err}
use Rattle.std.specs.List.{AllByRecursion}
use Rattle.std.proofs.lemmas.List.FromFn.{get_or-map-range_with_len, length-map-range_with_len}
use Rattle.sis_disk.specs.Record.{Call, Reads, Writes, Syncs, DiskRecord, State, IsImage, IsImageAfter, after, after_all, is_loose, live_bytes, state_at, with_call}
use Rattle.sis_disk.specs.Memory.{MemoryView, Answers}
use Rattle.sis_disk.specs.Picks.{loose_bits, picked, picked_from, synced_at, synced_by, synced_after}
use Rattle.sis_disk.specs.Replay.{Replayed, Fits, AllFit, replayed_after, unplayed}
use Rattle.sis_disk.specs.declared.pick.Pick.{Pick}
use Rattle.sis_disk.specs.declared.pick.Pick.TheVariants.{Old, New}
use Rattle.sis_disk.proofs.Laid.{length-laid, laid_elsewhere, or_left, or_right}
use Rattle.sis_disk.proofs.Replays.{agrees_at, all-push, all-take, size_after, size_by}

-- ---- BYTES

length-picked : (pick : Pick) (before : ℕ) (loose : List Bool) (old live : List ℕ)
    → length loose ≡ length live → length old ≡ length live
    → length (picked_from pick before loose old live) ≡ length live
length-picked pick before [] old live a b = a
length-picked pick before (l ∷ loose) [] live a b = b
length-picked pick before (l ∷ loose) (o ∷ old) [] a b = refl
length-picked pick before (true ∷ loose) (o ∷ old) (x ∷ live) a b =
    let e = length-picked pick (before + 1) loose old live (omega (arith, a)) (omega (arith, b)) in
    omega (arith, e)
length-picked pick before (false ∷ loose) (o ∷ old) (x ∷ live) a b =
    let e = length-picked pick before loose old live (omega (arith, a)) (omega (arith, b)) in
    omega (arith, e)

-- a byte that isn't loose is the live one
firm-picked : (pick : Pick) (before : ℕ) (loose : List Bool) (old live : List ℕ) (i : ℕ)
    → length loose ≡ length live → length old ≡ length live
    → get_or loose i false ≡ false
    → get_or (picked_from pick before loose old live) i 0 ≡ get_or live i 0
firm-picked pick before [] old [] i a b firm = refl
firm-picked pick before [] old (x ∷ live) i a b firm = absurd (omega (arith, a))
firm-picked pick before (l ∷ loose) [] [] i a b firm = refl
firm-picked pick before (l ∷ loose) [] (x ∷ live) i a b firm = absurd (omega (arith, b))
firm-picked pick before (l ∷ loose) (o ∷ old) [] i a b firm = refl
firm-picked pick before (true ∷ loose) (o ∷ old) (x ∷ live) zero a b firm = absurd cc
firm-picked pick before (false ∷ loose) (o ∷ old) (x ∷ live) zero a b firm = refl
firm-picked pick before (true ∷ loose) (o ∷ old) (x ∷ live) (suc i) a b firm =
    firm-picked pick (before + 1) loose old live i (omega (arith, a)) (omega (arith, b)) firm
firm-picked pick before (false ∷ loose) (o ∷ old) (x ∷ live) (suc i) a b firm =
    firm-picked pick before loose old live i (omega (arith, a)) (omega (arith, b)) firm

new-picked : (before : ℕ) (loose : List Bool) (old live : List ℕ)
    → length loose ≡ length live → length old ≡ length live
    → picked_from New before loose old live ≡ live
new-picked before [] old [] a b = refl
new-picked before [] old (x ∷ live) a b = absurd (omega (arith, a))
new-picked before (l ∷ loose) [] [] a b = refl
new-picked before (l ∷ loose) [] (x ∷ live) a b = absurd (omega (arith, b))
new-picked before (l ∷ loose) (o ∷ old) [] a b = refl
new-picked before (true ∷ loose) (o ∷ old) (x ∷ live) a b =
    ap (λ (xs : List ℕ). x ∷ xs)
    (new-picked (before + 1) loose old live (omega (arith, a)) (omega (arith, b)))
new-picked before (false ∷ loose) (o ∷ old) (x ∷ live) a b =
    ap (λ (xs : List ℕ). x ∷ xs)
    (new-picked before loose old live (omega (arith, a)) (omega (arith, b)))

-- where the old bytes are the live ones at each position that isn't loose
old-picked : (before : ℕ) (loose : List Bool) (old live : List ℕ)
    → length loose ≡ length live → length old ≡ length live
    → ((i : ℕ) → i < length live → get_or loose i false ≡ false → get_or old i 0 ≡ get_or live i 0)
    → picked_from Old before loose old live ≡ old
old-picked before [] [] live a b same = refl
old-picked before [] (o ∷ old) live a b same = absurd (omega (arith, a, b))
old-picked before (l ∷ loose) [] live a b same = refl
old-picked before (l ∷ loose) (o ∷ old) [] a b same = absurd (omega (arith, a))
old-picked before (true ∷ loose) (o ∷ old) (x ∷ live) a b same =
    ap (λ (xs : List ℕ). o ∷ xs)
    (old-picked (before + 1) loose old live (omega (arith, a)) (omega (arith, b))
    (λ i lt firm. same (suc i) (omega (arith, lt)) firm))
old-picked before (false ∷ loose) (o ∷ old) (x ∷ live) a b same =
    let head : o ≡ x = same zero (omega arith) refl in
    let tail =
    old-picked before loose old live (omega (arith, a)) (omega (arith, b))
    (λ i lt firm. same (suc i) (omega (arith, lt)) firm) in
    rw (tail, head)

-- ---- IMAGES

module _ (s : State) (old : List ℕ) (image : IsImage s old) where
  bits : length (loose_bits s) ≡ length s.live
  bits = length-map-range_with_len (is_loose s.loose) 0 (length s.live)

  bit : (i : ℕ) → i < length s.live → get_or (loose_bits s) i false ≡ is_loose s.loose i
  bit i lt =
      get_or-map-range_with_len (is_loose s.loose) 0 (length s.live) i i false lt (omega arith)

  is_image : (pick : Pick) → IsImage s (picked pick s old)
  is_image pick =
      let size = length-picked pick 0 (loose_bits s) old s.live bits image.size in
      record {
        size = size;
        same = λ i lt firm.
            firm-picked pick 0 (loose_bits s) old s.live i bits image.size
            (bit i (omega (arith, size, lt)) ∙ firm);
      }

  is_old : picked Old s old ≡ old
  is_old =
      old-picked 0 (loose_bits s) old s.live bits image.size
      (λ i lt firm. image.same i (omega (arith, image.size, lt)) (sym (bit i lt) ∙ firm))

  is_new : picked New s old ≡ s.live
  is_new = new-picked 0 (loose_bits s) old s.live bits image.size

-- the bytes at the last sync are an image
image_by : (c : Call) (s : State) (old : List ℕ) → Fits (length s.live) c → IsImage s old
    → IsImage (after s c) (synced_by c s old)
image_by (Reads at len ok) s old fits image = image
image_by (Writes at bytes true) s old fits image = record {
  size = image.size ∙ sym (length-laid at bytes s.live fits);
  same =
      λ i lt firm. image.same i lt (or_right _ _ firm)
      ∙ sym (laid_elsewhere at bytes s.live i fits (or_left _ _ firm));
}
image_by (Writes at bytes false) s old fits image =
    record { size = image.size; same = λ i lt firm. image.same i lt (or_right _ _ firm) }
image_by (Syncs true) s old fits image = record { size = refl; same = λ i lt firm. refl }
image_by (Syncs false) s old fits image = image

image_after : (s : State) (old : List ℕ) (cs : List Call) → AllByRecursion (Fits (length s.live)) cs
    → IsImage s old → IsImage (after_all s cs) (synced_after old s cs)
image_after s old [] fit image = image
image_after s old (c ∷ cs) fit image =
    let same : length (after s c).live ≡ length s.live = size_by c s fit.0 in
    image_after (after s c) (synced_by c s old) cs (rw same fit.1) (image_by c s old fit.0 image)

synced_image : (r : DiskRecord) (k : ℕ) → AllFit r → IsImageAfter r k (synced_at r k)
synced_image r k fit =
    image_after (record { live = r.opening; loose = [] }) r.opening (take k r.calls)
    (all-take _ k r.calls fit) (record { size = refl; same = λ i lt firm. refl })

-- what is picked after a replay of the first k calls
module _ (r : DiskRecord) (k : ℕ) (pick : Pick) (a : Replayed) (fit : AllFit r)
    (is : a ≡ replayed_after (unplayed r.opening) (take k r.calls)) where
  pub replay_picked :
      picked_from pick 0 a.loose a.synced a.live ≡ picked pick (state_at r k) (synced_at r k)
  replay_picked = let g = agrees_at r k fit in rw (is, g.loose, g.synced, g.live)

  pub replay_image : IsImageAfter r k (picked_from pick 0 a.loose a.synced a.live)
  replay_image =
      rw replay_picked (is_image (state_at r k) (synced_at r k) (synced_image r k fit) pick)

  pub replay_old : pick ≡ Old → picked_from pick 0 a.loose a.synced a.live ≡ synced_at r k
  replay_old old =
      replay_picked ∙ ap (λ (p : Pick). picked p (state_at r k) (synced_at r k)) old
      ∙ is_old (state_at r k) (synced_at r k) (synced_image r k fit)

  pub replay_new : pick ≡ New → picked_from pick 0 a.loose a.synced a.live ≡ (state_at r k).live
  replay_new new =
      replay_picked ∙ ap (λ (p : Pick). picked p (state_at r k) (synced_at r k)) new
      ∙ is_new (state_at r k) (synced_at r k) (synced_image r k fit)

-- ---- ANSWERS

told_fits : (c : Call) (old new : DiskRecord) → new ≡ with_call c old → AllFit old
    → Fits (length (live_bytes old)) c → AllFit new
told_fits c old new is fit fits =
    let size : length (live_bytes old) ≡ length old.opening =
    size_after (record { live = old.opening; loose = [] }) old.calls fit in
    rw is (all-push (Fits (length old.opening)) old.calls c fit (rw (← size) fits))

-- after an answer each write fits, where this one does
pub answered_fits :
    {T E : Type 0} (call : Bool → Call) (cost : ℕ) (result : Result T E) (old new : MemoryView)
    → ((ok : Bool) → Fits (length (live_bytes old.told)) (call ok)) → AllFit old.told
    → Answers call cost result old new → AllFit new.told
answered_fits call cost (Ok x) old new fits fit a =
    told_fits (call true) old.told new.told a.ok.1.told fit (fits true)
answered_fits call cost (Err e) old new fits fit a = elim a.err [
  | inl entered ↦ told_fits (call false) old.told new.told entered.1.told fit (fits false)
  | inr refused ↦ rw refused.told fit
]
