-- Where the areas of an image lie, and what a write leaves of the one that is selected.
use Rattle.std.proofs.Common.{◌≡◌, ◌⊎◌, inl, inr, ℕ, ◌+◌, ◌*◌, ◌≤◌, Bool, true, false, List, length, slice_index, ap, arith, length-append}
use Rattle.std.specs.Prelude.{◌==◌}
use Rattle.byteorder.specs.Endian.{little_bytes}
use Rattle.sis_disk.specs.declared.layout.Layout.{Layout}
use Rattle.sis_disk.specs.Layout.{first_place}
use Rattle.sis_disk.specs.Record.{laid}
use Rattle.sis_disk.specs.Areas.{area_bytes, area_start, selected_at}
use Rattle.sis_disk.proofs.LaidRanges.{index-laid_out}

-- the length, and the text
pub length-area_bytes : (text : List ℕ) → length (area_bytes text) ≡ 8 + length text
unfolding area_bytes
length-area_bytes text = omega (arith, length-append (little_bytes 8 (length text)) text)

-- a write that leaves the selector's byte leaves the selected area's place
pub selected_at-laid : (l : Layout) (live : List ℕ) (at : ℕ) (bytes : List ℕ) → at + length bytes ≤ length live → (4097 ≤ at) ⊎ (at + length bytes ≤ 4096)
    → selected_at l (laid live at bytes) ≡ selected_at l live
selected_at-laid l live at bytes within (inl behind) = ap (λ (b : ℕ). area_start l (b == 1)) (index-laid_out live at bytes 4096 within (inl (omega arith)))
selected_at-laid l live at bytes within (inr before) = ap (λ (b : ℕ). area_start l (b == 1)) (index-laid_out live at bytes 4096 within (inr before))

-- the selected area ends before the data blocks
pub selected_at-below : (l : Layout) (m : List ℕ) → selected_at l m + 4096 * l.area ≤ 4096 * first_place l
selected_at-below l m =
    elim (slice_index m 4096 == 1) as (λ b. area_start l b + 4096 * l.area ≤ 4096 * first_place l) [
      | true ↦ omega arith
      | false ↦ omega arith
    ]

-- an area begins behind the selector's block
pub area_low : (l : Layout) (second : Bool) → 8192 ≤ area_start l second
area_low l true = omega arith
area_low l false = omega arith

-- an area ends before the data blocks
pub area_end : (l : Layout) (second : Bool) (n : ℕ) → n ≤ 4096 * l.area → area_start l second + n ≤ 4096 * first_place l
area_end l true n le = omega arith
area_end l false n le = omega arith
