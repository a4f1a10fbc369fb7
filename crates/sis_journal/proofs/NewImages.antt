-- A new image holds its text.
use Rattle.std.proofs.Common.{◌≡◌, ◌⊎◌, inl, inr, ℕ, ◌+◌, ◌-◌, ◌*◌, ◌≤◌, true, List, [], ◌++◌, length, take, drop, replicate, slice_index, Option, Some, None, refl, sym, ap, ap₂, ◌∙◌, subst, arith, append_assoc, length-append}
use Rattle.std.specs.Prelude.{IfSome, ◌==◌, slice_range, Result}
use Rattle.std.specs.Int.{next_multiple_of}
use Rattle.std.specs.Option.{option_map}
use Rattle.std.proofs.lemmas.List.{take_all, take_at, drop_at, length-replicate, get_or-append_right, get_or_append_left, get_or-replicate}
use Rattle.byteorder.specs.Endian.{little_bytes}
use Rattle.sis_disk.specs.declared.layout.Layout.{Layout}
use Rattle.sis_disk.specs.Areas.{area_bytes, area_start, selected_at}
use Rattle.sis_disk.specs.Layout.{IsLayout, table_cap}
use Rattle.sis_disk.specs.Record.{Seen, Made, Writes, Syncs, laid, live_of, live_bytes}
use Rattle.sis_disk.specs.Stops.{Now}
use Rattle.sis_disk.specs.Superblock.{superblock, magic}
use Rattle.sis_disk.proofs.Areas.{length-area_bytes}
use Rattle.sis_disk.proofs.Laid.{length-laid}
use Rattle.sis_journal.specs.Formatting.{new_blocks, padded}
use Rattle.sis_journal.specs.Texts.{HoldsText}
use Rattle.sis_journal.proofs.Readings.{live_sized}
use Rattle.sis_journal.specs.Inside.{WritesStable}
use Rattle.sis_journal.proofs.StableWrites.{live_stable, live_written, now_stable}

-- ---- lengths

length_superblock : (l : Layout) → length (superblock l) ≡ 4096
unfolding superblock
length_superblock l =
    let zeros = length-replicate {A = ℕ} 4056 0 in
    length-append (magic ++ little_bytes 4 1 ++ little_bytes 4 l.letter ++ little_bytes 8 l.total ++ little_bytes 8 l.area ++ little_bytes 8 l.log) (replicate 4056 0)
    ∙ ap (λ (n : ℕ). 40 + n) zeros

rounded : (n k : ℕ) → n ≤ 4096 * k → next_multiple_of n 4096 ≤ 4096 * k
rounded n k le = omega arith

rounded_up : (n : ℕ) → n ≤ next_multiple_of n 4096
rounded_up n = omega arith

length-padded : (bytes : List ℕ) → length (padded bytes) ≡ next_multiple_of (length bytes) 4096
length-padded bytes =
    let n = length bytes in
    let up = rounded_up n in
    let zeros = length-replicate {A = ℕ} (next_multiple_of n 4096 - n) 0 in
    length-append bytes (replicate (next_multiple_of n 4096 - n) 0) ∙ omega arith

length-new_blocks : (l : Layout) (text : List ℕ) → length (new_blocks l text) ≡ 8192 + next_multiple_of (length (area_bytes text)) 4096
length-new_blocks l text =
    let front = length_superblock l in
    let zeros : length (replicate {A = ℕ} 4096 0) ≡ 4096 = length-replicate {A = ℕ} 4096 0 in
    let both = length-append (superblock l) (replicate 4096 0) in
    let all = length-append (superblock l ++ replicate 4096 0) (padded (area_bytes text)) in
    let back = length-padded (area_bytes text) in
    omega arith

-- the first blocks of a new image have room before the data blocks
pub new_blocks_fit : (l : Layout) (text : List ℕ) → IsLayout l → length text ≤ table_cap l → length (new_blocks l text) ≤ 4096 * l.total
new_blocks_fit l text is fits =
    let n = length (area_bytes text) in
    let low = is.area_low in
    let some = is.has_data in
    let small : n ≤ 4096 * l.area = omega (arith, length-area_bytes text) in
    let area = rounded n l.area small in
    omega (arith, length-new_blocks l text)

-- ---- what is written

-- so many zeros more
grown : (xs : List ℕ) (size end k : ℕ) → length xs ≡ size → size + k ≡ end → take end xs ++ replicate (end - size) 0 ≡ xs ++ replicate k 0
grown xs size end k len e =
    let more : end - size ≡ k = omega arith in
    ap₂ (λ (ys : List ℕ) (n : ℕ). ys ++ replicate n 0) (take_all end xs (omega arith)) more

-- superblock, selector's block and area, with zeros up to a block's end
pub spelled : (l : Layout) (text front both whole items : List ℕ) (size end : ℕ) → front ≡ superblock l → both ≡ front ++ replicate 4096 0 → whole ≡ both ++ area_bytes text
    → items ≡ take end whole ++ replicate (end - size) 0 → length whole ≡ size → end ≡ 8192 + next_multiple_of (length (area_bytes text)) 4096 → items ≡ new_blocks l text
spelled l text front both whole items size end front_is both_is whole_is items_is len end_is =
    let n = length (area_bytes text) in
    let up = rounded_up n in
    let blocks : List ℕ = superblock l ++ replicate 4096 0 in
    let pad : List ℕ = replicate (next_multiple_of n 4096 - n) 0 in
    let is : whole ≡ blocks ++ area_bytes text = whole_is ∙ ap (λ (xs : List ℕ). xs ++ area_bytes text) (both_is ∙ ap (λ (xs : List ℕ). xs ++ replicate 4096 0) front_is) in
    let first = length_superblock l in
    let zeros : length (replicate {A = ℕ} 4096 0) ≡ 4096 = length-replicate {A = ℕ} 4096 0 in
    let start = length-append (superblock l) (replicate 4096 0) in
    let area = length-append blocks (area_bytes text) in
    let long : length whole ≡ 8192 + n = ap length is ∙ omega arith in
    items_is ∙ grown whole size end (next_multiple_of n 4096 - n) len (omega arith)
    ∙ ap (λ (xs : List ℕ). xs ++ pad) is ∙ append_assoc blocks (area_bytes text) pad

-- ---- what it holds

regrouped : (a b c d e : List ℕ) → ((a ++ b) ++ (c ++ d)) ++ e ≡ (a ++ b) ++ (c ++ (d ++ e))
regrouped a b c d e = append_assoc (a ++ b) (c ++ d) e ∙ ap (λ (xs : List ℕ). (a ++ b) ++ xs) (append_assoc c d e)

holds_new : (l : Layout) (text live : List ℕ) → IsLayout l → length text ≤ table_cap l → length live ≡ 4096 * l.total → HoldsText l text (laid live 0 (new_blocks l text))
holds_new l text live is fits size =
    let front = superblock l in
    let zeros : List ℕ = replicate 4096 0 in
    let area = area_bytes text in
    let n = length area in
    let pad : List ℕ = replicate (next_multiple_of n 4096 - n) 0 in
    let rest = drop (0 + length (new_blocks l text)) live in
    let m = laid live 0 (new_blocks l text) in
    let within = new_blocks_fit l text is fits in
    let first = length_superblock l in
    let selector : length zeros ≡ 4096 = length-replicate {A = ℕ} 4096 0 in
    let start : length (front ++ zeros) ≡ 8192 = length-append front zeros ∙ omega arith in
    let behind : m ≡ (front ++ zeros) ++ (area ++ (pad ++ rest)) = regrouped front zeros area pad rest in
    let parts : m ≡ front ++ (zeros ++ (area ++ (pad ++ rest))) = behind ∙ append_assoc front zeros (area ++ (pad ++ rest)) in
    let zero : slice_index m 4096 ≡ 0 =
    ap (λ (xs : List ℕ). slice_index xs 4096) parts
    ∙ get_or-append_right front (zeros ++ (area ++ (pad ++ rest))) 4096 4096 0 first (omega arith)
    ∙ get_or_append_left zeros (area ++ (pad ++ rest)) 0 0 (omega arith)
    ∙ get_or-replicate 4096 0 0 0 (omega arith) in
    let selected : selected_at l m ≡ 8192 = ap (λ (b : ℕ). area_start l (b == 1)) zero in
    let len : 8192 + n - 8192 ≡ n = omega arith in
    record {
      size = length-laid 0 (new_blocks l text) live (omega arith) ∙ size;
      superblock = ap (take 4096) parts ∙ take_at front (zeros ++ (area ++ (pad ++ rest))) 4096 first;
      fits = fits;
      area = ap (λ (at : ℕ). slice_range m at (at + n)) selected
          ∙ ap (λ (k : ℕ). take k (drop 8192 m)) len
          ∙ ap (λ (xs : List ℕ). take n (drop 8192 xs)) behind
          ∙ ap (take n) (drop_at (front ++ zeros) (area ++ (pad ++ rest)) 8192 start)
          ∙ take_at area (pad ++ rest) n refl;
    }

some_new : (l : Layout) (text : List ℕ) (live : Option (List ℕ)) → IsLayout l → length text ≤ table_cap l → IfSome live (λ m. length m ≡ 4096 * l.total)
    → IfSome (option_map (λ m. laid m 0 (new_blocks l text)) live) (HoldsText l text)
some_new l text None is fits size = tt
some_new l text (Some live) is fits size = holds_new l text live is fits size

-- the disk holds the text after the write and the sync
pub new_held : (l : Layout) (text : List ℕ) (old new : Seen) → IsLayout l → length text ≤ table_cap l → old.size ≡ 4096 * l.total → IfSome old.told (λ r. length (live_bytes r) ≡ old.size)
    → live_of new ≡ option_map (λ live. laid live 0 (new_blocks l text)) (live_of old) → IfSome (live_of new) (HoldsText l text)
new_held l text old new is fits size told wrote =
    subst (λ (o : Option (List ℕ)). IfSome o (HoldsText l text)) (sym wrote)
    (some_new l text (live_of old) is fits (subst (λ (n : ℕ). IfSome (live_of old) (λ m. length m ≡ n)) size (live_sized old.told old.size told)))

-- and its live bytes are these
pub new_live : (l : Layout) (text bytes : List ℕ) (old mid new : Seen) → bytes ≡ new_blocks l text → Made (Writes 0 bytes true) old mid → Made (Syncs true) mid new
    → live_of new ≡ option_map (λ live. laid live 0 (new_blocks l text)) (live_of old)
new_live l text bytes old mid new is made synced =
    live_written 0 bytes old mid new made synced ∙ ap (λ (xs : List ℕ). option_map (λ live. laid live 0 xs) (live_of old)) is

-- nothing is loose
pub new_stable : (bytes : List ℕ) (old mid new : Seen) → Made (Writes 0 bytes true) old mid → Made (Syncs true) mid new → Now (λ s. s.loose ≡ []) new
new_stable bytes old mid new made synced = now_stable (λ s. s.loose ≡ []) 0 bytes old mid new made synced (λ r told. refl)

drop_laid : (bytes live : List ℕ) → drop (length bytes) (laid live 0 bytes) ≡ drop (length bytes) live
drop_laid bytes live =
    let same : 0 + length bytes ≡ length bytes = omega arith in
    drop_at bytes (drop (0 + length bytes) live) (length bytes) refl ∙ ap (λ (n : ℕ). drop n live) same

rest_laid : (bytes : List ℕ) (live : Option (List ℕ)) → option_map (drop (length bytes)) (option_map (λ m. laid m 0 bytes) live) ≡ option_map (drop (length bytes)) live
rest_laid bytes None = refl
rest_laid bytes (Some live) = ap Some (drop_laid bytes live)

-- the bytes behind them are the old ones, also where the write or the sync failed
pub new_rest : {T E : Type 0} (l : Layout) (text bytes : List ℕ) (result : Result T E) (old new : Seen) → bytes ≡ new_blocks l text → WritesStable 0 bytes result old new
    → option_map (drop (length (new_blocks l text))) (live_of new) ≡ option_map (drop (length (new_blocks l text))) (live_of old)
new_rest l text bytes result old new is w =
    subst (λ (xs : List ℕ). option_map (drop (length xs)) (live_of new) ≡ option_map (drop (length xs)) (live_of old)) is
    (elim (live_stable 0 bytes result old new w) [
      | inl same ↦ ap (option_map (drop (length bytes))) same
      | inr wrote ↦ ap (option_map (drop (length bytes))) wrote ∙ rest_laid bytes (live_of old)
    ])

-- none of the bytes has changed, or the new ones were laid
pub new_either : {T E : Type 0} (l : Layout) (text bytes : List ℕ) (result : Result T E) (old new : Seen) → bytes ≡ new_blocks l text → WritesStable 0 bytes result old new
    → (live_of new ≡ live_of old) ⊎ (live_of new ≡ option_map (λ live. laid live 0 (new_blocks l text)) (live_of old))
new_either l text bytes result old new is w =
    subst (λ (xs : List ℕ). (live_of new ≡ live_of old) ⊎ (live_of new ≡ option_map (λ live. laid live 0 xs) (live_of old))) is (live_stable 0 bytes result old new w)
