-- How many data blocks are used, and how many are spare.
use Rattle.std.proofs.Common.{◌≡◌, ℕ, zero, suc, ◌+◌, ◌-◌, ◌<◌, ◌≤◌, Bool, cond, List, length, refl, sym, ap, ap₂, ◌∙◌, arith}
use Rattle.std.specs.Prelude.{◌&&◌}
use Rattle.sis_disk.specs.declared.layout.Layout.{Layout}
use Rattle.sis_disk.specs.Layout.{IsLayout, first_place, data_blocks}
use Rattle.sis_places.specs.Places.{PlacesView}
use Rattle.sis_places.specs.Places as bits
use Rattle.sis_places.proofs.CallerLemmas.{used_and_spare, used_and_spare-commit}
use Rattle.sis_places.proofs.Tally.{tally, count-tally}
use Rattle.sis_table.specs.Volume.{VolumeTable, IsTable, used, used_places}
use Rattle.sis_table.proofs.CallerLemmas.{length-used_places}
use Rattle.sis_volume.specs.Stopping.{IsCommitted}
use Rattle.sis_volume.specs.View.{VolumeView, count_of, held, is_spare, spare}
use Rattle.sis_volume.proofs.Freshness.{data_at}

-- the same tests from another number on
tally-moved : (f g : ℕ → Bool) (a b n : ℕ) → ((i : ℕ) → i < n → f (a + i) ≡ g (b + i)) → tally f a n ≡ tally g b n
tally-moved f g a b zero h = refl
tally-moved f g a b (suc n) h =
    let here : f a ≡ g b = ap f (let e : a ≡ a + 0 = omega arith in e) ∙ h 0 (omega arith) ∙ ap g (let e : b + 0 ≡ b = omega arith in e) in
    let rest = tally-moved f g (a + 1) (b + 1) n (λ i lt.
    ap f (let e : a + 1 + i ≡ a + (i + 1) = omega arith in e) ∙ h (i + 1) (omega arith) ∙ ap g (let e : b + (i + 1) ≡ b + 1 + i = omega arith in e)) in
    ap₂ (λ (x : Bool) (k : ℕ). cond x 1 0 + k) here rest

-- the spare bits are the spare data blocks
pub spare_bits-is : (l : Layout) (p : PlacesView) → IsLayout l → length p.current ≡ data_blocks l
    → bits.spare p ≡ count_of l (is_spare l p)
spare_bits-is l p layout len =
    count-tally (bits.is_spare p) 0 (length p.current)
    ∙ ap (tally (bits.is_spare p) 0) len
    ∙ tally-moved (bits.is_spare p) (is_spare l p) 0 (first_place l) (data_blocks l) (λ i lt.
    (let back : first_place l + i - first_place l ≡ i = omega arith in
    let front : 0 + i ≡ i = omega arith in
    ap (bits.is_spare p) front
    ∙ sym (ap (λ (b : Bool). b && bits.is_spare p (first_place l + i - first_place l)) (data_at l p i layout lt)
    ∙ ap (bits.is_spare p) back)))
    ∙ sym (count-tally (is_spare l p) (first_place l) (data_blocks l))

-- bits that say what a table maps
pub held_is : (v : VolumeTable) (p : PlacesView) → p.current ≡ used_places v
    → p ≡ record { current = used_places v; committed = p.committed }
held_is v p is = ap (λ (bs : List Bool). record { current = bs; committed = p.committed }) is

-- what is used and what is spare are apart
pub used_apart : (v : VolumeView) → IsTable v.table → used v.table + spare v ≤ data_blocks v.table.layout
used_apart v table =
    let len = length-used_places v.table in
    omega (arith, used_and_spare (held v), spare_bits-is v.table.layout (held v) table.layout len)

-- and after a commit all
pub spare-committed : (old new : VolumeView) → IsTable old.table → IsCommitted old new
    → used old.table + spare new ≡ data_blocks old.table.layout
spare-committed old new table done =
    let len = length-used_places old.table in
    let p : PlacesView = record { current = used_places old.table; committed = used_places old.table } in
    let is : spare new ≡ count_of old.table.layout (is_spare old.table.layout p) = ap spare done.same in
    omega (arith, used_and_spare-commit (held old), spare_bits-is old.table.layout p table.layout len)
