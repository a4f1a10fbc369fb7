-- What a stop leaves while an area is written and selected.
use Rattle.std.proofs.Common.{◌≡◌, ◌⊎◌, inl, inr, ℕ, ◌+◌, ◌-◌, ◌*◌, ◌<◌, ◌≤◌, Bool, true, false, not, List, [], ◌∷◌, length, take, drop, slice_index, Option, Some, None, refl, sym, ap, subst, ◌∙◌, arith}
use Rattle.std.specs.Prelude.{Result, Ok, Err, OnOk, IfSome, slice_range, ◌==◌}
use Rattle.std.specs.Option.{option_map}
use Rattle.std.proofs.lemmas.List.{get_or-take, get_or-drop, length-take-le, length-drop}
use Rattle.std.proofs.lemmas.Grind.{same_number_lists}
use Rattle.sis_disk.specs.declared.layout.Layout.{Layout}
use Rattle.sis_disk.specs.Areas.{area_bytes, area_start, selected_at}
use Rattle.sis_disk.specs.Layout.{IsLayout, first_place, table_cap}
use Rattle.sis_disk.specs.Record.{DiskRecord, State, Seen, IsImage, is_loose, laid, live_bytes, live_of, state_of}
use Rattle.sis_disk.specs.Stops.{IsFirm, Leaves, Now, Shows, loosened}
use Rattle.sis_disk.specs.Superblock.{superblock}
use Rattle.sis_disk.proofs.Areas.{area_end, area_low, length-area_bytes}
use Rattle.sis_disk.proofs.Laid.{laid_at, laid_elsewhere, length-laid, not_inside, or_left}
use Rattle.sis_disk.proofs.LaidRanges.{drop-laid_above, slice-laid_in, slice-laid_out, take-laid_below}
use Rattle.sis_journal.specs.Committing.{Both, KeepsRest}
use Rattle.sis_journal.specs.Inside.{IsReady, WritesStable}
use Rattle.sis_journal.specs.Texts.{HoldsText, KeepsText, KeepsData, OldOrNew, made_stable}
use Rattle.sis_journal.proofs.Readings.{live_sized}
use Rattle.sis_journal.proofs.StableWrites.{leaves_stable, live_stable, now_of, now_stable, written_stable}

-- ---- firm ranges

length_slice : (m : List ℕ) (a b : ℕ) → a ≤ b → b ≤ length m → length (slice_range m a b) ≡ b - a
length_slice m a b le in_m = length-take-le (b - a) (drop a m) (omega (arith, length-drop a m))

slice_at : (m : List ℕ) (a b i : ℕ) → i < b - a → slice_index (slice_range m a b) i ≡ slice_index m (a + i)
slice_at m a b i lt = get_or-take (b - a) (drop a m) i 0 lt ∙ get_or-drop a m i 0

-- a firm range is the same in each image
pub slice_firm : (s : State) (m : List ℕ) (at n : ℕ) → IsImage s m → at + n ≤ length s.live → IsFirm s.loose at n → slice_range m at (at + n) ≡ slice_range s.live at (at + n)
slice_firm s m at n image within firm =
    let long : at + n ≤ length m = omega (arith, image.size) in
    let len = length_slice m at (at + n) (omega arith) long in
    same_number_lists (slice_range m at (at + n)) (slice_range s.live at (at + n)) (len ∙ sym (length_slice s.live at (at + n) (omega arith) within))
    (λ i lt.
    let small : i < at + n - at = omega (arith, len) in
    slice_at m at (at + n) i small ∙ image.same (at + i) (omega (arith, long)) (firm (at + i) (omega arith) (omega arith)) ∙ sym (slice_at s.live at (at + n) i small))

-- a range stays firm where others become loose
pub firm_loosened : (s : State) (at n p q : ℕ) → IsFirm s.loose p q → (at + n ≤ p) ⊎ (p + q ≤ at) → IsFirm (loosened at n s).loose p q
firm_loosened s at n p q firm apart i lo hi =
    let out = not_inside at n i (elim apart [ inl a ↦ inr (omega arith) | inr b ↦ inl (omega arith) ]) in
    rw out (firm i lo hi)

pub narrower : (s : State) (a n p q : ℕ) → IsFirm s.loose a n → a ≤ p → p + q ≤ a + n → IsFirm s.loose p q
narrower s a n p q firm lo hi i l h = firm i (omega arith) (omega arith)

-- live bytes over which a write was laid are one of the images that it may leave
pub laid_image : (s : State) (at : ℕ) (bytes : List ℕ) → at + length bytes ≤ length s.live → IsImage (loosened at (length bytes) s) (laid s.live at bytes)
laid_image s at bytes within = record {
  size = length-laid at bytes s.live within;
  same = λ i lt firm. laid_elsewhere at bytes s.live i within (or_left _ _ firm);
}

-- ---- where the areas lie

module _ (l : Layout) (is : IsLayout l) where
  area_inside : (second : Bool) (n size : ℕ) → n ≤ 4096 * l.area → size ≡ 4096 * l.total → area_start l second + n ≤ size
  area_inside second n size le e =
      let end = area_end l second n le in
      let some = is.has_data in
      omega arith

  pub area_fits : (text : List ℕ) → length text ≤ table_cap l → length (area_bytes text) ≤ 4096 * l.area
  area_fits text fits =
      let low = is.area_low in
      omega (arith, length-area_bytes text)

  areas_apart : (second : Bool) (n k : ℕ) → n ≤ 4096 * l.area → k ≤ 4096 * l.area
      → (area_start l (not second) + n ≤ area_start l second) ⊎ (area_start l second + k ≤ area_start l (not second))
  areas_apart true n k small short = inl (omega arith)
  areas_apart false n k small short = inr (omega arith)

  -- an image whose superblock and area are the live ones
  pub held_by : (s : State) (m text : List ℕ) (second : Bool) → IsImage s m → IsFirm s.loose 0 4096 → IsFirm s.loose (area_start l second) (length (area_bytes text))
      → length s.live ≡ 4096 * l.total → take 4096 s.live ≡ superblock l → length text ≤ table_cap l → (slice_index m 4096 == 1) ≡ second
      → slice_range s.live (area_start l second) (area_start l second + length (area_bytes text)) ≡ area_bytes text → HoldsText l text m
  held_by s m text second image block_firm firm size block fits selector area =
      let n = length (area_bytes text) in
      let inside = area_inside second n (length s.live) (area_fits text fits) size in
      let start : selected_at l m ≡ area_start l second = ap (area_start l) selector in
      let total = is.total_low in
      record {
        size = image.size ∙ size;
        superblock = slice_firm s m 0 4096 image (omega arith) block_firm ∙ block;
        fits = fits;
        area = ap (λ (at : ℕ). slice_range m at (at + n)) start ∙ slice_firm s m (area_start l second) n image inside firm ∙ area;
      }

  -- the selected area's bytes
  pub kept_area : (second : Bool) (text : List ℕ) (s : State) → KeepsText l second text s
      → slice_range s.live (area_start l second) (area_start l second + length (area_bytes text)) ≡ area_bytes text
  kept_area second text s keeps = ap (λ (b : Bool). slice_range s.live (area_start l b) (area_start l b + length (area_bytes text))) (sym keeps.selector) ∙ keeps.holds.area

  -- ---- the area that isn't selected is written

  module _ (second : Bool) (old : List ℕ) (n : ℕ) (small : n ≤ 4096 * l.area) where
    old_selector : (s : State) (m : List ℕ) → KeepsText l second old s → IsImage (loosened (area_start l (not second)) n s) m → (slice_index m 4096 == 1) ≡ second
    old_selector s m keeps image =
        let low = area_low l (not second) in
        let total = is.total_low in
        let size = keeps.holds.size in
        let firm = firm_loosened s (area_start l (not second)) n 4096 1 (narrower s 0 (4096 * first_place l) 4096 1 keeps.firm (omega arith) (omega arith)) (inr (omega arith)) in
        ap (λ (b : ℕ). b == 1) (image.same 4096 (omega (arith, image.size)) (firm 4096 (omega arith) (omega arith))) ∙ keeps.selector

    old_held : (s : State) (m : List ℕ) → KeepsText l second old s → IsImage (loosened (area_start l (not second)) n s) m → HoldsText l old m
    old_held s m keeps image =
        let at = area_start l (not second) in
        let k = length (area_bytes old) in
        let short = area_fits old keeps.holds.fits in
        let end = area_end l second k short in
        held_by (loosened at n s) m old second image
        (firm_loosened s at n 0 4096 (narrower s 0 (4096 * first_place l) 0 4096 keeps.firm (omega arith) (omega arith)) (inr (omega (arith, area_low l (not second)))))
        (firm_loosened s at n (area_start l second) k (narrower s 0 (4096 * first_place l) (area_start l second) k keeps.firm (omega arith) (omega arith)) (areas_apart second n k small short))
        keeps.holds.size keeps.holds.superblock keeps.holds.fits (old_selector s m keeps image) (kept_area second old s keeps)

    data_kept : (s : State) (m : List ℕ) → IsImage (loosened (area_start l (not second)) n s) m → KeepsData l s m
    data_kept s m image =
        let end = area_end l (not second) n small in
        record {
          size = image.size;
          same = λ i low lt firm. image.same i lt (rw (not_inside (area_start l (not second)) n i (inr (omega arith))) firm);
        }

    -- whatever the area has, the old text and the data stay
    pub area_shows : (s : State) → KeepsText l second old s → Shows (λ m. HoldsText l old m × KeepsData l s m) (loosened (area_start l (not second)) n s)
    area_shows s keeps m image = (old_held s m keeps image, data_kept s m image)

  stable_keeps_text : (second : Bool) (text : List ℕ) (s : State) → KeepsText l second text s → KeepsText l second text (made_stable s)
  stable_keeps_text second text s keeps = record { holds = keeps.holds; selector = keeps.selector; firm = λ i lo hi. refl }

  -- the other area has the new text, and may be selected
  ready : (second : Bool) (old new : List ℕ) (s : State) → KeepsText l second old s → length new ≤ table_cap l
      → IsReady l second old new s (written_stable (area_start l (not second)) (area_bytes new) s)
  ready second old new s keeps fits =
      let at = area_start l (not second) in
      let n = length (area_bytes new) in
      let small = area_fits new fits in
      let within = area_inside (not second) n (length s.live) small keeps.holds.size in
      let image : IsImage (loosened at n (made_stable s)) (laid s.live at (area_bytes new)) = laid_image (made_stable s) at (area_bytes new) within in
      let still = stable_keeps_text second old s keeps in
      record {
        keeps = record {
          holds = old_held second old n small (made_stable s) (laid s.live at (area_bytes new)) still image;
          selector = old_selector second old n small (made_stable s) (laid s.live at (area_bytes new)) still image;
          firm = λ i lo hi. refl;
        };
        fits = fits;
        area = slice-laid_in s.live at (area_bytes new) within;
        stable = refl;
        blocks = data_kept second old n small (made_stable s) (laid s.live at (area_bytes new)) image;
      }

  pub area_leaves : {T E : Type 0} (second : Bool) (bytes : List ℕ) (result : Result T E) (was now : Seen) → length bytes ≤ 4096 * l.area
      → WritesStable (area_start l (not second)) bytes result was now
      → (r : DiskRecord) (old : List ℕ) → was.told ≡ Some r → KeepsText l second old (state_of r)
      → Leaves (λ m. HoldsText l old m × KeepsData l (state_of r) m) was now
  area_leaves second bytes result was now small went r old told keeps =
      leaves_stable (λ m. HoldsText l old m × KeepsData l (state_of r) m) (area_start l (not second)) bytes was
      (now_of (λ s. (area_start l (not second) + length bytes ≤ length s.live) × Shows (λ m. HoldsText l old m × KeepsData l (state_of r) m) (loosened (area_start l (not second)) (length bytes) s))
      was r told (area_inside (not second) (length bytes) _ small keeps.holds.size, area_shows second old (length bytes) small (state_of r) keeps))
      result now went

  pub area_ready : {T E : Type 0} (second : Bool) (bytes : List ℕ) (result : Result T E) (was now : Seen) → WritesStable (area_start l (not second)) bytes result was now
      → OnOk result ((r : DiskRecord) (old new : List ℕ) → was.told ≡ Some r → KeepsText l second old (state_of r) → bytes ≡ area_bytes new → length new ≤ table_cap l
      → Now (IsReady l second old new (state_of r)) now)
  area_ready second bytes (Ok x) was now went = λ r old new told keeps text fits.
      now_stable (IsReady l second old new (state_of r)) (area_start l (not second)) bytes was went.0 now went.1 went.2
      (now_of (λ s. IsReady l second old new (state_of r) (written_stable (area_start l (not second)) bytes s)) was r told
      (subst (λ (b : List ℕ). IsReady l second old new (state_of r) (written_stable (area_start l (not second)) b (state_of r))) (sym text) (ready second old new (state_of r) keeps fits)))
  area_ready second bytes (Err e) was now went = tt

  -- ---- it is selected

  module _ (second : Bool) (old new : List ℕ) (before s : State) (ready : IsReady l second old new before s) where
    none_loose : (i : ℕ) → is_loose s.loose i ≡ false
    none_loose i = ap (λ (loose : List (ℕ × ℕ)). is_loose loose i) ready.stable

    beside : (p q : ℕ) → (4097 ≤ p) ⊎ (p + q ≤ 4096) → IsFirm (loosened 4096 1 s).loose p q
    beside p q apart = firm_loosened s 4096 1 p q (λ i lo hi. none_loose i) apart

    blocks_kept : (m : List ℕ) → IsImage (loosened 4096 1 s) m → KeepsData l (made_stable before) m
    blocks_kept m image = record {
      size = image.size ∙ ready.blocks.size;
      same = λ i low lt firm. image.same i lt (rw (not_inside 4096 1 i (inr (omega arith)), none_loose i) refl) ∙ ready.blocks.same i low (omega (arith, image.size)) refl;
    }

    blocks_weaker : (m : List ℕ) → KeepsData l (made_stable before) m → KeepsData l before m
    blocks_weaker m keeps = record { size = keeps.size; same = λ i low lt firm. keeps.same i low lt refl }

    old_still : (m : List ℕ) → IsImage (loosened 4096 1 s) m → (slice_index m 4096 == 1) ≡ second → HoldsText l old m
    old_still m image selector =
        held_by (loosened 4096 1 s) m old second image (beside 0 4096 (inr (omega arith))) (beside (area_start l second) (length (area_bytes old)) (inl (omega (arith, area_low l second))))
        ready.keeps.holds.size ready.keeps.holds.superblock ready.keeps.holds.fits selector (kept_area second old s ready.keeps)

    new_now : (m : List ℕ) → IsImage (loosened 4096 1 s) m → (slice_index m 4096 == 1) ≡ not second → HoldsText l new m
    new_now m image selector =
        held_by (loosened 4096 1 s) m new (not second) image (beside 0 4096 (inr (omega arith))) (beside (area_start l (not second)) (length (area_bytes new)) (inl (omega (arith, area_low l (not second)))))
        ready.keeps.holds.size ready.keeps.holds.superblock ready.fits selector ready.area

    -- whatever the selector's byte is
    selector_shows : Shows (OldOrNew l old new before) (loosened 4096 1 s)
    selector_shows m image = elim (either second (slice_index m 4096 == 1)) [
      | inl same ↦ inl (old_still m image same, blocks_weaker m (blocks_kept m image))
      | inr other ↦ inr (new_now m image other, blocks_kept m image)
    ]
      where
        either : (a b : Bool) → (b ≡ a) ⊎ (b ≡ not a)
        either true true = inl refl
        either true false = inr refl
        either false true = inr refl
        either false false = inl refl

    selector_inside : 4096 + 1 ≤ length s.live
    selector_inside = omega (arith, ready.keeps.holds.size, is.total_low)

    selected : (byte : ℕ) → (byte == 1) ≡ not second → KeepsText l (not second) new (written_stable 4096 (byte ∷ []) s) × ((written_stable 4096 (byte ∷ []) s).loose ≡ [])
    selected byte is_other =
        let there : (slice_index (laid s.live 4096 (byte ∷ [])) 4096 == 1) ≡ not second = ap (λ (b : ℕ). b == 1) (laid_at 4096 (byte ∷ []) s.live 0 selector_inside (omega arith)) ∙ is_other in
        (record { holds = new_now (laid s.live 4096 (byte ∷ [])) (laid_image s 4096 (byte ∷ []) selector_inside) there; selector = there; firm = λ i lo hi. refl }, refl)

  pub selector_leaves : {T E : Type 0} (second : Bool) (byte : ℕ) (result : Result T E) (was now : Seen) → WritesStable 4096 (byte ∷ []) result was now
      → (before : State) (old new : List ℕ) → Now (IsReady l second old new before) was → Leaves (OldOrNew l old new before) was now
  selector_leaves second byte result was now went before old new here =
      leaves_stable (OldOrNew l old new before) 4096 (byte ∷ []) was
      (λ r told. (selector_inside second old new before (state_of r) (here r told), selector_shows second old new before (state_of r) (here r told)))
      result now went

  pub selector_kept : {T E : Type 0} (second : Bool) (byte : ℕ) (result : Result T E) (was now : Seen) → (byte == 1) ≡ not second → WritesStable 4096 (byte ∷ []) result was now
      → OnOk result ((before : State) (old new : List ℕ) → Now (IsReady l second old new before) was → Now (λ s. KeepsText l (not second) new s × (s.loose ≡ [])) now)
  selector_kept second byte (Ok x) was now is_other went = λ before old new here.
      now_stable (λ s. KeepsText l (not second) new s × (s.loose ≡ [])) 4096 (byte ∷ []) was went.0 now went.1 went.2
      (λ r told. selected second old new before (state_of r) (here r told) byte is_other)
  selector_kept second byte (Err e) was now is_other went = tt

  -- ---- what neither of them touches

  laid_keeps : (second : Bool) (at : ℕ) (bytes live : List ℕ) → length live ≡ 4096 * l.total → 4096 ≤ at → (at + length bytes ≤ 4097) ⊎ (8192 ≤ at)
      → at + length bytes ≤ 4096 * first_place l → (at + length bytes ≤ area_start l second) ⊎ (area_start l second + 4096 * l.area ≤ at) → KeepsRest l second live (laid live at bytes)
  laid_keeps second at bytes live size low selector high apart =
      let some = is.has_data in
      let within : at + length bytes ≤ length live = omega arith in
      record {
        size = length-laid at bytes live within;
        first_block = take-laid_below live at bytes 4096 within low;
        behind_selector = slice-laid_out live at bytes 4097 8192 within (turned selector);
        area = slice-laid_out live at bytes (area_start l second) (area_start l second + 4096 * l.area) within (turned apart);
        blocks = drop-laid_above live at bytes (4096 * first_place l) within high;
      }
    where
      turned : {A B : Type 0} → A ⊎ B → B ⊎ A
      turned (inl a) = inr a
      turned (inr b) = inl b

  some_keeps : (second : Bool) (at : ℕ) (bytes : List ℕ) (live : Option (List ℕ)) → IfSome live (λ now. length now ≡ 4096 * l.total) → 4096 ≤ at → (at + length bytes ≤ 4097) ⊎ (8192 ≤ at)
      → at + length bytes ≤ 4096 * first_place l → (at + length bytes ≤ area_start l second) ⊎ (area_start l second + 4096 * l.area ≤ at) → Both (KeepsRest l second) live (option_map (λ now. laid now at bytes) live)
  some_keeps second at bytes None size low selector high apart = tt
  some_keeps second at bytes (Some live) size low selector high apart = laid_keeps second at bytes live size low selector high apart

  pub rest_refl : (second : Bool) (live : Option (List ℕ)) → Both (KeepsRest l second) live live
  rest_refl second None = tt
  rest_refl second (Some live) = record { size = refl; first_block = refl; behind_selector = refl; area = refl; blocks = refl }

  pub rest_trans : (second : Bool) (a b c : Option (List ℕ)) → Both (KeepsRest l second) a b → Both (KeepsRest l second) b c → Both (KeepsRest l second) a c
  rest_trans second None None c one two = two
  rest_trans second None (Some b) c one two = absurd one
  rest_trans second (Some a) None c one two = absurd one
  rest_trans second (Some a) (Some b) None one two = two
  rest_trans second (Some a) (Some b) (Some c) one two =
      record {
        size = two.size ∙ one.size;
        first_block = two.first_block ∙ one.first_block;
        behind_selector = two.behind_selector ∙ one.behind_selector;
        area = two.area ∙ one.area;
        blocks = two.blocks ∙ one.blocks;
      }

  stable_keeps : {T E : Type 0} (second : Bool) (at : ℕ) (bytes : List ℕ) (result : Result T E) (was now : Seen) → WritesStable at bytes result was now
      → IfSome was.told (λ r. length (live_bytes r) ≡ was.size) → was.size ≡ 4096 * l.total → 4096 ≤ at → (at + length bytes ≤ 4097) ⊎ (8192 ≤ at)
      → at + length bytes ≤ 4096 * first_place l → (at + length bytes ≤ area_start l second) ⊎ (area_start l second + 4096 * l.area ≤ at) → Both (KeepsRest l second) (live_of was) (live_of now)
  stable_keeps second at bytes result was now went sized size low selector high apart = elim (live_stable at bytes result was now went) [
    | inl same ↦ subst (λ (o : Option (List ℕ)). Both (KeepsRest l second) (live_of was) o) (sym same) (rest_refl second (live_of was))
    | inr wrote ↦ subst (λ (o : Option (List ℕ)). Both (KeepsRest l second) (live_of was) o) (sym wrote)
        (some_keeps second at bytes (live_of was) (subst (λ (k : ℕ). IfSome (live_of was) (λ now. length now ≡ k)) size (live_sized was.told was.size sized)) low selector high apart)
  ]

  pub area_rest : {T E : Type 0} (second : Bool) (bytes : List ℕ) (result : Result T E) (was now : Seen) → length bytes ≤ 4096 * l.area → WritesStable (area_start l (not second)) bytes result was now
      → IfSome was.told (λ r. length (live_bytes r) ≡ was.size) → was.size ≡ 4096 * l.total → Both (KeepsRest l second) (live_of was) (live_of now)
  area_rest second bytes result was now small went sized size =
      let low = area_low l (not second) in
      let end = area_end l (not second) (length bytes) small in
      stable_keeps second (area_start l (not second)) bytes result was now went sized size (omega arith) (inr (omega arith)) (omega arith) (areas_apart second (length bytes) (4096 * l.area) small (omega arith))

  pub selector_rest : {T E : Type 0} (second : Bool) (byte : ℕ) (result : Result T E) (was now : Seen) → WritesStable 4096 (byte ∷ []) result was now
      → IfSome was.told (λ r. length (live_bytes r) ≡ was.size) → was.size ≡ 4096 * l.total → Both (KeepsRest l second) (live_of was) (live_of now)
  selector_rest second byte result was now went sized size =
      let low = area_low l second in
      stable_keeps second 4096 (byte ∷ []) result was now went sized size (omega arith) (inl (omega arith)) (omega arith) (inl (omega arith))
