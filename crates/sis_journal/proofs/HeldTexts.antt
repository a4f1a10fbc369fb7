-- The text that was read is the one that the image holds, and the other way round.
use Rattle.std.proofs.Common.{◌≡◌, ℕ, ◌+◌, ◌-◌, ◌*◌, ◌≤◌, Bool, false, List, [], ◌++◌, length, take, drop, slice_index, Option, None, Some, refl, sym, ap, ap₂, subst, ◌∙◌, arith, append_assoc}
use Rattle.std.specs.Prelude.{IfSome, Result, Ok, nat_lt, ◌==◌, slice_range}
use Rattle.std.specs.Option.{option_map}
use Rattle.std.proofs.lemmas.Bool.{le-ltb}
use Rattle.std.proofs.lemmas.List.{take_at, drop_at, drop-drop, take-append-drop}
use Rattle.byteorder.specs.Endian.{little_bytes, little_number}
use Rattle.byteorder.specs.Numbers.{little_number-reads_back, length-bytes_low_first}
use Rattle.sis_disk.specs.declared.layout.ImageKind.TheVariants as kind
use Rattle.sis_disk.specs.declared.layout.Layout.{Layout}
use Rattle.sis_disk.specs.Areas.{TextFault, area_bytes, area_start, read_by, selected_at, shifted, stated_len, text_at, text_bytes}
use Rattle.sis_disk.specs.Layout.{IsLayout, table_cap}
use Rattle.sis_disk.specs.Record.{DiskRecord, Seen, is_loose, live_of, live_bytes}
use Rattle.sis_disk.specs.Stops.{Now}
use Rattle.sis_disk.specs.Superblock.{ImageFault, superblock, superblock_at}
use Rattle.sis_reading.specs.Steps.{◌>>=◌, guard}
use Rattle.sis_journal.specs.Texts.{HoldsText, KeepsText}
use Rattle.sis_journal.proofs.Readings.{moved, selected_is}
use Rattle.sis_journal.proofs.SuperblockLaws.{superblock_at-only}

-- ---- what was read is held

-- the text of an area that was read is what the image holds
text_held : (l : Layout) (second : Bool) (at : ℕ) (text m : List ℕ) → at ≡ area_start l second
    → length text ≤ table_cap l → length m ≡ 4096 * l.total → take 4096 m ≡ superblock l
    → (slice_index m 4096 == 1) ≡ second
    → slice_range m at (at + length (area_bytes text)) ≡ area_bytes text → HoldsText l text m
text_held l second at text m place fits size first sel there = record {
  size = size;
  superblock = first;
  fits = fits;
  area = ap (λ (s : ℕ). slice_range m s (s + length (area_bytes text)))
      (selected_is l m second sel ∙ sym place) ∙ there;
}

-- the same, where the disk tells its bytes, and selector and area were read behind the first block
pub image_held : (old mid : Option (List ℕ)) (l : Layout) (second : Bool) (at : ℕ)
    (bytes text : List ℕ) → mid ≡ old → at ≡ area_start l second → length text ≤ table_cap l
    → text ≡ bytes → IfSome old (λ m. length m ≡ 4096 * l.total)
    → IfSome old (λ m. take 4096 m ≡ superblock l)
    → IfSome mid (λ m. (slice_index m 4096 == 1) ≡ second)
    → IfSome mid (λ m. slice_range m at (at + length (area_bytes bytes)) ≡ area_bytes bytes)
    → IfSome old (HoldsText l text)
image_held None mid l second at bytes text same place fits is size first sel there = tt
image_held (Some m) mid l second at bytes text same place fits is size first sel there =
    text_held l second at text m place fits size first
    (moved mid (Some m) (λ m. (slice_index m 4096 == 1) ≡ second) same sel)
    (subst (λ (t : List ℕ). slice_range m at (at + length (area_bytes t)) ≡ area_bytes t) (sym is)
    (moved mid (Some m)
    (λ m. slice_range m at (at + length (area_bytes bytes)) ≡ area_bytes bytes) same there))

none_loose : (loose : List (ℕ × ℕ)) (i : ℕ) → loose ≡ [] → is_loose loose i ≡ false
none_loose loose i e = ap (λ (l : List (ℕ × ℕ)). is_loose l i) e

told_live : (told : Option DiskRecord) (P : List ℕ → Type 0) (r : DiskRecord) → told ≡ Some r → IfSome (option_map live_bytes told) P → P (live_bytes r)
told_live told P r e h = subst (λ (o : Option DiskRecord). IfSome (option_map live_bytes o) P) e h

-- what the live bytes hold is kept where nothing is loose
pub text_kept : (l : Layout) (second : Bool) (text : List ℕ) (seen : Seen) → IfSome (live_of seen) (HoldsText l text) → IfSome (live_of seen) (λ m. (slice_index m 4096 == 1) ≡ second)
    → Now (λ s. s.loose ≡ []) seen → Now (KeepsText l second text) seen
text_kept l second text seen holds sel stable r is = record {
  holds = told_live seen.told (HoldsText l text) r is holds;
  selector = told_live seen.told (λ m. (slice_index m 4096 == 1) ≡ second) r is sel;
  firm = λ i low high. none_loose _ i (stable r is);
}

-- ---- what is held is read

-- from where the selected area begins, an image goes on with the text's length and the text
goes_on : (l : Layout) (text m : List ℕ) → HoldsText l text m
    → drop (selected_at l m) m ≡ little_bytes 8 (length text) ++ (text ++ drop (length (area_bytes text)) (drop (selected_at l m) m))
unfolding area_bytes
goes_on l text m h =
    let at = selected_at l m in
    let len = length (area_bytes text) in
    let rest = drop len (drop at m) in
    let n : at + len - at ≡ len = omega arith in
    let front : take len (drop at m) ≡ area_bytes text = ap (λ (k : ℕ). take k (drop at m)) (sym n) ∙ h.area in
    sym (take-append-drop len (drop at m)) ∙ ap (λ (x : List ℕ). x ++ rest) front ∙ append_assoc (little_bytes 8 (length text)) text rest

stated_is : (l : Layout) (text m : List ℕ) → IsLayout l → HoldsText l text m → stated_len l m ≡ length text
stated_is l text m is h =
    let fits = h.fits in
    let high = is.area_high in
    let rest = text ++ drop (length (area_bytes text)) (drop (selected_at l m) m) in
    ap (little_number 8) (goes_on l text m h) ∙ little_number-reads_back 8 (length text) rest (omega arith)

-- the bytes of the selected area's text are the text
pub text_bytes-held : (l : Layout) (text m : List ℕ) → IsLayout l → HoldsText l text m → text_bytes l m ≡ text
text_bytes-held l text m is h =
    let at = selected_at l m in
    let len = length text in
    let rest = drop (length (area_bytes text)) (drop at m) in
    let n : at + 8 + len - (at + 8) ≡ len = omega arith in
    ap (λ (k : ℕ). slice_range m (at + 8) (at + 8 + k)) (stated_is l text m is h)
    ∙ ap (λ (k : ℕ). take k (drop (at + 8) m)) n
    ∙ ap (take len) (sym (drop-drop 8 at m) ∙ ap (drop 8) (goes_on l text m h) ∙ drop_at (little_bytes 8 len) (text ++ rest) 8 (length-bytes_low_first 0 8 len))
    ∙ take_at text rest len refl

-- an image that holds a text is read as the value that the text is read as
pub read_by-held : {V : Type 0} (read : Layout → List ℕ → Result V TextFault) (l : Layout) (text m : List ℕ) (value : V) → IsLayout l → l.log ≡ 0 → HoldsText l text m
    → read l text ≡ Ok value → read_by read m ≡ Ok value
unfolding read_by
read_by-held read l text m value is log h found =
    let at = selected_at l m in
    let block : superblock_at (length m) (take 4096 m) ≡ Ok l = ap₂ (λ (n : ℕ) (block : List ℕ). superblock_at n block) h.size h.superblock ∙ superblock_at-only l is log in
    let short : nat_lt (table_cap l) (stated_len l m) ≡ false = ap (nat_lt (table_cap l)) (stated_is l text m is h) ∙ le-ltb (table_cap l) (length text) h.fits in
    ap (λ (r : Result Layout ImageFault). r >>= λ layout. text_at layout m
    >>= λ t. shifted (selected_at layout m + 8) (read layout t)) block
    ∙ ap (λ (wrong : Bool). guard (at, kind.TableLength) wrong (text_bytes l m)
    >>= λ t. shifted (at + 8) (read l t)) short
    ∙ ap (λ (bytes : List ℕ). shifted (at + 8) (read l bytes)) (text_bytes-held l text m is h)
    ∙ ap (shifted (at + 8)) found
