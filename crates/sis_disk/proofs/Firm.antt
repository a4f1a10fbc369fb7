-- What a stop leaves where nothing is loose.
use Rattle.std.proofs.Common.{◌≡◌, ℕ, List, [], true, refl, ap, subst}
use Rattle.std.proofs.lemmas.List.{ext_get_or}
use Rattle.sis_disk.specs.Record.{DiskRecord, State, Syncs, IsImage, IsImageAfter, is_loose, live_bytes, state_at, state_of, with_call}
use Rattle.sis_disk.proofs.Push.{state_with}

pub firm_image : (s : State) (m : List ℕ) → s.loose ≡ [] → IsImage s m → m ≡ s.live
firm_image s m none image = ext_get_or 0 m s.live image.size (λ i lt. image.same i lt (ap (λ (l : List (ℕ × ℕ)). is_loose l i) none))

pub synced_image : (r : DiskRecord) (m : List ℕ) → IsImage (state_of (with_call (Syncs true) r)) m → m ≡ live_bytes r
synced_image r m image = firm_image _ m refl (subst (λ (s : State). IsImage s m) (state_with (Syncs true) r) image)

pub live_image : (r : DiskRecord) (k : ℕ) → IsImageAfter r k (state_at r k).live
live_image r k = record { size = refl; same = λ i lt firm. refl }
