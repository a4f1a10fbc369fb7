-- From runs, and the bytes that were written to them, to blocks and places.
use Rattle.std.proofs.Common.{◌≡◌, ℕ, zero, suc, ◌+◌, ◌-◌, ◌*◌, ◌/◌, ◌%◌, ◌<◌, ◌≤◌, true, false, not, ◌&&◌, List, [], ◌∷◌, ◌++◌, length, drop, flat_map, Some, refl, sym, ap, ap₂, ◌∙◌, subst, inl, inr, arith, length-append}
use Rattle.std.specs.Prelude.{◌==◌}
use Rattle.std.specs.List.{AllByRecursion, range_with_len}
use Rattle.std.proofs.lemmas.Bool.{and_from, and_parts, cases_lt, eq-eqb, not_from_false, not-true, or_from, or_left, or_right}
use Rattle.std.proofs.lemmas.List.{ext_get_or, get_or-append_right, get_or-drop, get_or_append_left, get_or_past, map-append}
use Rattle.std.proofs.lemmas.List.Concat.{flat_map-append}
use Rattle.std.proofs.lemmas.List.Folds.{list_any-append}
use Rattle.sis_ranges.specs.declared.run.Run.{Run}
use Rattle.sis_ranges.specs.Extents.{IsChain, block_end, run_places}
use Rattle.sis_model.specs.World.{overwritten, resized}
use Rattle.sis_table.specs.Content.{block_at, run_bytes}
use Rattle.sis_table.specs.Good.{is_among}
use Rattle.sis_table.specs.Volume.{VolumeTable, blocks_of}
use Rattle.sis_table.specs.Changes.{AreFreeRuns, AreWritten, are_free, block_text, blocks_by, is_free, places_by, run_blocks, touched_blocks}
use Rattle.sis_table.proofs.ContentLemmas.{blocks_joined, length-mapped_block, range_join}
use Rattle.sis_table.proofs.PutLemmas.{chain_rises}
use Rattle.sis_table.proofs.ChangesNodes.{some_is}
use Rattle.sis_table.proofs.ChangesBlocks.{once_range, range_has}
use Rattle.sis_table.proofs.ChangesMaps.{AreBelow, length-places_by}
use Rattle.sis_table.proofs.ChangesUses.{free_among}
use Rattle.sis_table.proofs.ChangesBytes.{byte, byte-block_text, byte-blocks, byte-resized, byte-unwritten, byte-written, length-block_text, length-resized}

-- ---- blocks and places of runs

pub blocks_by-append : (runs more : List Run) → blocks_by (runs ++ more) ≡ blocks_by runs ++ blocks_by more
blocks_by-append runs more = flat_map-append run_blocks runs more

pub places_by-append : (runs more : List Run) → places_by (runs ++ more) ≡ places_by runs ++ places_by more
places_by-append runs more = flat_map-append run_places runs more

-- a chain has its blocks in order, and no run of it is empty
pub blocks_by-chain : (first end : ℕ) (runs : List Run) → IsChain first end runs → blocks_by runs ≡ range_with_len first (end - first)
blocks_by-chain first end [] h = let none : 0 ≡ end - first = omega arith in ap (range_with_len first) none
blocks_by-chain first end (r ∷ rs) h =
    let rises = chain_rises (block_end r) end rs h.2 in
    let begins = h.0 in
    let all : r.count + (end - block_end r) ≡ end - first = omega arith in
    ap (λ (bs : List ℕ). run_blocks r ++ bs) (blocks_by-chain (block_end r) end rs h.2)
    ∙ sym (range_join r.first r.count (end - block_end r))
    ∙ ap₂ range_with_len begins all

pub some-chain : (first end : ℕ) (runs : List Run) → IsChain first end runs → AllByRecursion (λ r. 1 ≤ r.count) runs
some-chain first end [] h = tt
some-chain first end (r ∷ rs) h = (h.1, some-chain (block_end r) end rs h.2)

-- ---- free places

-- Free places behind free ones are free, where none of them stands before.
pub are_free-append : (v : VolumeTable) (xs ys : List ℕ) → are_free v xs ≡ true → are_free v ys ≡ true → ((p : ℕ) → is_among xs p ≡ true → is_among ys p ≡ false) → are_free v (xs ++ ys) ≡ true
are_free-append v [] ys front back apart = back
are_free-append v (x ∷ xs) ys front back apart =
    let parts = and_parts (is_free v x && not (is_among xs x)) (are_free v xs) front in
    let here = and_parts (is_free v x) (not (is_among xs x)) parts.0 in
    and_from (is_free v x && not (is_among (xs ++ ys) x)) (are_free v (xs ++ ys))
    (and_from (is_free v x) (not (is_among (xs ++ ys) x)) here.0 (not_from_false (is_among (xs ++ ys) x)
    (list_any-append (λ q. q == x) xs ys ∙ or_from (is_among xs x) (is_among ys x) (not-true _ here.1) (apart x (itself x xs)))))
    (are_free-append v xs ys parts.1 back (λ p p_in. apart p (or_right (x == p) (is_among xs p) p_in)))
  where
    itself : (x : ℕ) (xs : List ℕ) → is_among (x ∷ xs) x ≡ true
    itself x xs = or_left (x == x) (is_among xs x) (eq-eqb x x refl)

-- neighbouring places are free where each is
pub are_free-range : (v : VolumeTable) (first count : ℕ) → ((p : ℕ) → first ≤ p → p < first + count → is_free v p ≡ true) → are_free v (range_with_len first count) ≡ true
are_free-range v first zero each = refl
are_free-range v first (suc n) each =
    and_from (is_free v first && not (is_among (range_with_len (first + 1) n) first)) (are_free v (range_with_len (first + 1) n))
    (and_from (is_free v first) (not (is_among (range_with_len (first + 1) n) first)) (each first (omega arith) (omega arith)) (not_from_false _ (once_range first (suc n)).0))
    (are_free-range v (first + 1) n (λ p low high. each p (omega arith) (omega arith)))

-- A chain at free places has its blocks there.
pub free_chain : (v : VolumeTable) (first count : ℕ) (runs : List Run) → IsChain first (first + count) runs → are_free v (places_by runs) ≡ true → AreFreeRuns v (range_with_len first count) runs
free_chain v first count runs chain free = record {
  some = some-chain first (first + count) runs chain;
  order = blocks_by-chain first (first + count) runs chain ∙ (let all : first + count - first ≡ count = omega arith in ap (range_with_len first) all);
  free = free;
}

-- Runs behind others have their blocks behind those of the others.
pub free_runs-append : (v : VolumeTable) (blocks more : List ℕ) (runs rest : List Run) → AreFreeRuns v blocks runs → AreFreeRuns v more rest
    → ((p : ℕ) → is_among (places_by runs) p ≡ true → is_among (places_by rest) p ≡ false) → AreFreeRuns v (blocks ++ more) (runs ++ rest)
free_runs-append v blocks more runs rest f g apart = record {
  some = both runs f.some;
  order = blocks_by-append runs rest ∙ ap₂ (λ (x y : List ℕ). x ++ y) f.order g.order;
  free = ap (are_free v) (places_by-append runs rest) ∙ are_free-append v (places_by runs) (places_by rest) f.free g.free apart;
}
  where
    both : (rs : List Run) → AllByRecursion (λ r. 1 ≤ r.count) rs → AllByRecursion (λ r. 1 ≤ r.count) (rs ++ rest)
    both [] h = g.some
    both (r ∷ rs) h = (h.0, both rs h.1)

-- ---- written blocks

-- the bytes of runs are those of their blocks
pub run_bytes-blocks : (live : List ℕ) (runs : List Run) → flat_map (run_bytes live) runs ≡ flat_map (block_at live) (places_by runs)
run_bytes-blocks live [] = refl
run_bytes-blocks live (r ∷ rs) =
    ap₂ (λ (x y : List ℕ). x ++ y) (sym (blocks_joined live (block_at live) r.place r.place r.count (λ i lt. refl))) (run_bytes-blocks live rs)
    ∙ sym (flat_map-append (block_at live) (run_places r) (places_by rs))

same_front : (xs ys us ws : List ℕ) → length xs ≡ length ys → xs ++ us ≡ ys ++ ws → (xs ≡ ys) × (us ≡ ws)
same_front [] [] us ws size h = (refl, h)
same_front [] (y ∷ ys) us ws size h = absurd (omega (arith, size))
same_front (x ∷ xs) [] us ws size h = absurd (omega (arith, size))
same_front (x ∷ xs) (y ∷ ys) us ws size h =
    let first : x ≡ y = cc in
    let rest : xs ++ us ≡ ys ++ ws = cc in
    let both = same_front xs ys us ws (omega (arith, size)) rest in
    (ap₂ (λ (a : ℕ) (l : List ℕ). a ∷ l) first both.0, both.1)

-- The blocks of a file were written, where the places have their bytes one behind the other.
pub AreWritten-from : (live : List ℕ) (total : ℕ) (blocks places bytes : List ℕ) → length live ≡ 4096 * total → AreBelow total places → length places ≡ length blocks
    → flat_map (block_at live) places ≡ flat_map (block_text bytes) blocks → AreWritten live blocks places bytes
AreWritten-from live total [] [] bytes whole inside size h = refl
AreWritten-from live total [] (p ∷ ps) bytes whole inside size h = absurd (omega (arith, size))
AreWritten-from live total (b ∷ bs) [] bytes whole inside size h = absurd (omega (arith, size))
AreWritten-from live total (b ∷ bs) (p ∷ ps) bytes whole inside size h =
    let long : length (block_at live p) ≡ 4096 = length-mapped_block live total (Some p) whole (λ q is. subst (λ (k : ℕ). k < total) (some_is p q is) inside.0) in
    let both = same_front (block_at live p) (block_text bytes b) (flat_map (block_at live) ps) (flat_map (block_text bytes) bs) (long ∙ sym (length-block_text bytes b)) h in
    ap₂ (λ (x : List ℕ) (xs : List (List ℕ)). x ∷ xs) both.0 (AreWritten-from live total bs ps bytes whole inside.1 (omega (arith, size)) both.1)

below_total : (v : VolumeTable) (places : List ℕ) → ((p : ℕ) → is_among places p ≡ true → p < v.layout.total) → AreBelow v.layout.total places
below_total v [] each = tt
below_total v (p ∷ ps) each = (each p (or_left (p == p) (is_among ps p) (eq-eqb p p refl)), below_total v ps (λ q q_in. each q (or_right (p == q) (is_among ps q) q_in)))

-- Runs at free places were written, where they have the blocks' bytes one behind the other.
pub runs_written : (v : VolumeTable) (blocks : List ℕ) (runs : List Run) (live bytes : List ℕ) → AreFreeRuns v blocks runs → length live ≡ 4096 * v.layout.total
    → flat_map (run_bytes live) runs ≡ flat_map (block_text bytes) blocks → AreWritten live blocks (places_by runs) bytes
runs_written v blocks runs live bytes free whole is =
    AreWritten-from live v.layout.total blocks (places_by runs) bytes whole (below_total v (places_by runs) (λ p p_in. (free_among v (places_by runs) p free.free p_in).high))
    (length-places_by runs ∙ ap (λ (bs : List ℕ). length bs) free.order)
    (sym (run_bytes-blocks live runs) ∙ is)

pub AreWritten-append : (live blocks more places rest bytes : List ℕ) → AreWritten live blocks places bytes → AreWritten live more rest bytes → AreWritten live (blocks ++ more) (places ++ rest) bytes
AreWritten-append live blocks more places rest bytes first second =
    map-append (block_at live) places rest ∙ ap₂ (λ (x y : List (List ℕ)). x ++ y) first second ∙ sym (map-append (block_text bytes) blocks more)

-- ---- texts of blocks

-- neighbouring blocks of a file, with zeros behind its end
pub block_texts : (bytes : List ℕ) (first count : ℕ) → flat_map (block_text bytes) (range_with_len first count) ≡ resized (4096 * count) (drop (4096 * first) bytes)
block_texts bytes first count = ext_get_or 0 _ _ (long first count ∙ sym (length-resized (4096 * count) (drop (4096 * first) bytes))) (λ i lt. at i (omega (arith, lt, long first count)))
  where
    long : (first count : ℕ) → length (flat_map (block_text bytes) (range_with_len first count)) ≡ 4096 * count
    long first zero = refl
    long first (suc n) = omega (arith, length-block_text bytes first, long (first + 1) n, length-append (block_text bytes first) (flat_map (block_text bytes) (range_with_len (first + 1) n)))

    place : (i : ℕ) → 4096 * (first + i / 4096) + i % 4096 ≡ 4096 * first + i
    place i = omega arith

    below : (i : ℕ) → i % 4096 < 4096
    below i = omega arith

    at : (i : ℕ) → i < 4096 * count → byte (flat_map (block_text bytes) (range_with_len first count)) i ≡ byte (resized (4096 * count) (drop (4096 * first) bytes)) i
    at i lt =
        byte-blocks (block_text bytes) first count i (length-block_text bytes) lt
        ∙ byte-block_text bytes (first + i / 4096) (i % 4096) (below i)
        ∙ ap (byte bytes) (place i)
        ∙ sym (byte-resized (4096 * count) (drop (4096 * first) bytes) i lt ∙ get_or-drop (4096 * first) bytes i 0)

-- two contents that agree in a block have one text there
pub block_text-like : (bytes more : List ℕ) (block : ℕ) → ((i : ℕ) → 4096 * block ≤ i → i < 4096 * block + 4096 → byte bytes i ≡ byte more i) → block_text bytes block ≡ block_text more block
block_text-like bytes more block same = ext_get_or 0 _ _ (length-block_text bytes block ∙ sym (length-block_text more block)) (λ i lt. at i (omega (arith, lt, length-block_text bytes block)))
  where
    at : (i : ℕ) → i < 4096 → byte (block_text bytes block) i ≡ byte (block_text more block) i
    at i lt = byte-block_text bytes block i lt ∙ same (4096 * block + i) (omega arith) (omega (arith, lt)) ∙ sym (byte-block_text more block i lt)

module _ (at : ℕ) (more bytes : List ℕ) (some : 0 < length more) where
  abbrev first_touched : ℕ
  first_touched = at / 4096

  abbrev count_touched : ℕ
  count_touched = blocks_of (at + length more) - at / 4096

  -- what of the old bytes stands before and behind the written ones in the blocks that they touch
  abbrev before_them : List ℕ
  before_them = resized (at % 4096) (drop (4096 * first_touched) bytes)

  abbrev behind_them : List ℕ
  behind_them = resized (4096 * (first_touched + count_touched) - (at + length more)) (drop (at + length more) bytes)

  begins : 4096 * first_touched + at % 4096 ≡ at
  begins = omega arith

  ends_in : at + length more ≤ 4096 * (first_touched + count_touched)
  ends_in = omega (arith, some)

  length-first : length (before_them ++ more) ≡ at % 4096 + length more
  length-first = omega (arith, length-append before_them more, length-resized (at % 4096) (drop (4096 * first_touched) bytes))

  length-touched : length (before_them ++ more ++ behind_them) ≡ 4096 * count_touched
  length-touched =
      omega (
        arith,
        some,
        begins,
        ends_in,
        length-append (before_them ++ more) behind_them,
        length-first,
        length-resized (4096 * (first_touched + count_touched) - (at + length more)) (drop (at + length more) bytes),
      )

  touched_byte : (i : ℕ) → i < 4096 * count_touched → byte (overwritten at more bytes) (4096 * first_touched + i) ≡ byte (before_them ++ more ++ behind_them) i
  touched_byte i lt = elim (cases_lt i (at % 4096)) [
    | inl low ↦
        byte-unwritten at more bytes (4096 * first_touched + i) (λ ge high. absurd (omega (arith, ge, low, begins)))
        ∙ sym (get_or_append_left (before_them ++ more) behind_them 0 i (omega (arith, low, length-first))
        ∙ get_or_append_left before_them more 0 i (omega (arith, low, length-resized (at % 4096) (drop (4096 * first_touched) bytes)))
        ∙ byte-resized (at % 4096) (drop (4096 * first_touched) bytes) i low
        ∙ get_or-drop (4096 * first_touched) bytes i 0)
    | inr ge ↦ elim (cases_lt i (at % 4096 + length more)) [
      | inl inside ↦
          let place : 4096 * first_touched + i - at ≡ i - at % 4096 = omega (arith, ge, begins) in
          byte-written at more bytes (4096 * first_touched + i) (omega (arith, ge, begins)) (omega (arith, inside, begins))
          ∙ ap (byte more) place
          ∙ sym (get_or_append_left (before_them ++ more) behind_them 0 i (omega (arith, inside, length-first))
          ∙ get_or-append_right before_them more (at % 4096) i 0 (length-resized (at % 4096) (drop (4096 * first_touched) bytes)) ge)
      | inr past ↦
          let place : at + length more + (i - (at % 4096 + length more)) ≡ 4096 * first_touched + i = omega (arith, past, begins) in
          byte-unwritten at more bytes (4096 * first_touched + i) (λ low high. absurd (omega (arith, high, past, begins)))
          ∙ sym (get_or-append_right (before_them ++ more) behind_them (at % 4096 + length more) i 0 length-first past
          ∙ byte-resized (4096 * (first_touched + count_touched) - (at + length more)) (drop (at + length more) bytes) (i - (at % 4096 + length more)) (omega (arith, past, lt, begins))
          ∙ get_or-drop (at + length more) bytes (i - (at % 4096 + length more)) 0
          ∙ ap (byte bytes) place)
    ]
  ]

  -- The blocks that a write touches have the written bytes, and around them the old ones.
  pub touched_texts : flat_map (block_text (overwritten at more bytes)) (touched_blocks at (length more)) ≡ before_them ++ more ++ behind_them
  touched_texts =
      block_texts (overwritten at more bytes) first_touched count_touched
      ∙ ext_get_or 0 _ _ (length-resized (4096 * count_touched) (drop (4096 * first_touched) (overwritten at more bytes)) ∙ sym length-touched) (λ i lt.
      each i (omega (arith, lt, length-resized (4096 * count_touched) (drop (4096 * first_touched) (overwritten at more bytes)))))
    where
      each : (i : ℕ) → i < 4096 * count_touched → byte (resized (4096 * count_touched) (drop (4096 * first_touched) (overwritten at more bytes))) i ≡ byte (before_them ++ more ++ behind_them) i
      each i lt =
          byte-resized (4096 * count_touched) (drop (4096 * first_touched) (overwritten at more bytes)) i lt
          ∙ get_or-drop (4096 * first_touched) (overwritten at more bytes) i 0
          ∙ touched_byte i lt

-- The block at the old end has the old bytes after a write that doesn't touch it, and after a growth.
pub end_text-write : (at : ℕ) (more bytes : List ℕ) (block : ℕ) → is_among (touched_blocks at (length more)) block ≡ false → block_text (overwritten at more bytes) block ≡ block_text bytes block
end_text-write at more bytes block out = block_text-like (overwritten at more bytes) bytes block (λ i low high. byte-unwritten at more bytes i (λ ge lt. untouched i low high ge lt))
  where
    untouched : (i : ℕ) → 4096 * block ≤ i → i < 4096 * block + 4096 → at ≤ i → i < at + length more → ⊥
    untouched i low high ge lt =
        let touched : is_among (touched_blocks at (length more)) block ≡ true = range_has (at / 4096) (blocks_of (at + length more) - at / 4096) block (omega (arith, high, ge)) (omega (arith, low, lt)) in
        absurd (cc)

pub end_text-size : (len : ℕ) (bytes : List ℕ) (block : ℕ) → length bytes ≤ len → block_text (resized len bytes) block ≡ block_text bytes block
end_text-size len bytes block le = block_text-like (resized len bytes) bytes block (λ i low high. elim (cases_lt i len) [
  | inl lt ↦ byte-resized len bytes i lt
  | inr ge ↦ get_or_past (resized len bytes) i 0 (omega (arith, ge, length-resized len bytes)) ∙ sym (get_or_past bytes i 0 (omega (arith, ge, le)))
])
