-- The bytes of files, byte by byte.
use Rattle.std.proofs.Common.{◌≡◌, ℕ, zero, suc, ◌+◌, ◌-◌, ◌*◌, ◌/◌, ◌%◌, ◌<◌, ◌≤◌, List, ◌++◌, length, drop, flat_map, get_or, refl, sym, ap, ap₂, ◌∙◌, inl, inr, arith, length-append, length-take, length-drop}
use Rattle.std.specs.Prelude.{replicate, max}
use Rattle.std.specs.List.{range_with_len}
use Rattle.std.specs.FinMap.{get}
use Rattle.std.proofs.lemmas.List.{ext_get_or, get_or-append_right, get_or-drop, get_or-replicate, get_or-take, get_or_append_left, get_or_past, length-replicate}
use Rattle.std.proofs.lemmas.Bool.{cases_lt}
use Rattle.sis_disk.specs.declared.layout.Layout.{Layout}
use Rattle.sis_model.specs.World.{overwritten, resized}
use Rattle.sis_table.specs.declared.node.Node.{Node}
use Rattle.sis_table.specs.Content.{mapped_block, own_content}
use Rattle.sis_table.specs.Volume.{IsNode, blocks_of, empty_table}
use Rattle.sis_table.specs.Changes.{block_text}
use Rattle.sis_table.proofs.ContentLemmas.{content_of-plain, length-content_of, length-mapped_block}

-- ---- texts of blocks

abbrev pub byte : List ℕ → ℕ → ℕ
byte bytes i = get_or bytes i 0

pub zero_byte : (n i : ℕ) → byte (replicate n 0) i ≡ 0
zero_byte n i = elim (cases_lt i n) [
  | inl lt ↦ get_or-replicate n i 0 0 lt
  | inr ge ↦ get_or_past (replicate n 0) i 0 (omega (arith, ge, length-replicate {A = ℕ} n 0))
]

-- zeros behind bytes change no byte
byte-filled : (bytes : List ℕ) (n i : ℕ) → byte (bytes ++ replicate n 0) i ≡ byte bytes i
byte-filled bytes n i = elim (cases_lt i (length bytes)) [
  | inl lt ↦ get_or_append_left bytes (replicate n 0) 0 i lt
  | inr ge ↦ get_or-append_right bytes (replicate n 0) (length bytes) i 0 refl ge ∙ zero_byte n (i - length bytes) ∙ sym (get_or_past bytes i 0 ge)
]

pub byte-block_text : (bytes : List ℕ) (block i : ℕ) → i < 4096 → byte (block_text bytes block) i ≡ byte bytes (4096 * block + i)
byte-block_text bytes block i lt =
    get_or-take 4096 (drop (4096 * block) bytes ++ replicate 4096 0) i 0 lt
    ∙ byte-filled (drop (4096 * block) bytes) 4096 i
    ∙ get_or-drop (4096 * block) bytes i 0

pub length-block_text : (bytes : List ℕ) (block : ℕ) → length (block_text bytes block) ≡ 4096
length-block_text bytes block =
    omega (arith, length-take 4096 (drop (4096 * block) bytes ++ replicate 4096 0), length-append (drop (4096 * block) bytes) (replicate 4096 0), length-replicate {A = ℕ} 4096 0)

-- ---- sizes and writes

pub length-resized : (len : ℕ) (bytes : List ℕ) → length (resized len bytes) ≡ len
length-resized len bytes = omega (arith, length-take len (bytes ++ replicate len 0), length-append bytes (replicate len 0), length-replicate {A = ℕ} len 0)

pub byte-resized : (len : ℕ) (bytes : List ℕ) (i : ℕ) → i < len → byte (resized len bytes) i ≡ byte bytes i
byte-resized len bytes i lt = get_or-take len (bytes ++ replicate len 0) i 0 lt ∙ byte-filled bytes len i

module _ (at : ℕ) (more bytes : List ℕ) where
  abbrev head : List ℕ
  head = resized at bytes ++ more

  length-head : length head ≡ at + length more
  length-head = omega (arith, length-append (resized at bytes) more, length-resized at bytes)

  pub length-overwritten : length (overwritten at more bytes) ≡ max (length bytes) (at + length more)
  length-overwritten = omega (arith, length-append head (drop (at + length more) bytes), length-head, length-drop (at + length more) bytes)

  byte-behind : (i : ℕ) → at + length more ≤ i → byte (overwritten at more bytes) i ≡ byte bytes i
  byte-behind i ge =
      let there : at + length more + (i - (at + length more)) ≡ i = omega (arith, ge) in
      get_or-append_right head (drop (at + length more) bytes) (at + length more) i 0 length-head ge
      ∙ get_or-drop (at + length more) bytes (i - (at + length more)) 0
      ∙ ap (byte bytes) there

  byte-head : (i : ℕ) → i < at + length more → byte (overwritten at more bytes) i ≡ byte head i
  byte-head i lt = get_or_append_left head (drop (at + length more) bytes) 0 i (omega (arith, lt, length-head))

  -- a byte outside the written ones is the old one
  pub byte-unwritten : (i : ℕ) → (at ≤ i → i < at + length more → ⊥) → byte (overwritten at more bytes) i ≡ byte bytes i
  byte-unwritten i out = elim (cases_lt i at) [
    | inl low ↦ byte-head i (omega (arith, low)) ∙ get_or_append_left (resized at bytes) more 0 i (omega (arith, low, length-resized at bytes)) ∙ byte-resized at bytes i low
    | inr ge ↦ elim (cases_lt i (at + length more)) [
      | inl lt ↦ absurd (out ge lt)
      | inr behind ↦ byte-behind i behind
    ]
  ]

  -- and one of the written ones is the new one
  pub byte-written : (i : ℕ) → at ≤ i → i < at + length more → byte (overwritten at more bytes) i ≡ byte more (i - at)
  byte-written i ge lt = byte-head i lt ∙ get_or-append_right (resized at bytes) more at i 0 (length-resized at bytes) ge

-- ---- files

pub byte-blocks : (f : ℕ → List ℕ) (first count i : ℕ) → ((b : ℕ) → length (f b) ≡ 4096) → i < 4096 * count → byte (flat_map f (range_with_len first count)) i ≡ byte (f (first + i / 4096)) (i % 4096)
byte-blocks f first zero i long lt = absurd (omega (arith, lt))
byte-blocks f first (suc n) i long lt = elim (cases_lt i 4096) [
  | inl here ↦
      let block : first ≡ first + i / 4096 = omega (arith, here) in
      let place : i ≡ i % 4096 = omega (arith, here) in
      get_or_append_left (f first) (flat_map f (range_with_len (first + 1) n)) 0 i (omega (arith, here, long first)) ∙ ap₂ (λ (b j : ℕ). byte (f b) j) block place
  | inr later ↦
      let block : first + 1 + (i - 4096) / 4096 ≡ first + i / 4096 = omega (arith, later) in
      let place : (i - 4096) % 4096 ≡ i % 4096 = omega (arith, later) in
      get_or-append_right (f first) (flat_map f (range_with_len (first + 1) n)) 4096 i 0 (long first) later
      ∙ byte-blocks f (first + 1) n (i - 4096) long (omega (arith, lt, later))
      ∙ ap₂ (λ (b j : ℕ). byte (f b) j) block place
]

module _ (l : Layout) (n : Node) (live : List ℕ) (h : IsNode l n) (whole : length live ≡ 4096 * l.total) where
  each_long : (block : ℕ) → length (mapped_block live (get n.map block)) ≡ 4096
  each_long block = length-mapped_block live l.total (get n.map block) whole (λ place is. (h.placed block place is).high)

  enough : n.size ≤ 4096 * blocks_of n.size
  enough = omega arith

  pub length-own : length (own_content live n) ≡ n.size
  length-own = ap (λ (xs : List ℕ). length xs) (sym (content_of-plain (empty_table l) live n)) ∙ length-content_of (empty_table l) n live h whole

  -- a byte of a file is the one of its block
  pub byte-own : (i : ℕ) → i < n.size → byte (own_content live n) i ≡ byte (mapped_block live (get n.map (i / 4096))) (i % 4096)
  byte-own i lt =
      let first : 0 + i / 4096 ≡ i / 4096 = omega arith in
      get_or-take n.size (flat_map (λ block. mapped_block live (get n.map block)) (range_with_len 0 (blocks_of n.size))) i 0 lt
      ∙ byte-blocks (λ block. mapped_block live (get n.map block)) 0 (blocks_of n.size) i each_long (omega (arith, lt, enough))
      ∙ ap (λ (b : ℕ). byte (mapped_block live (get n.map b)) (i % 4096)) first

  -- so a file's bytes are those that its blocks have
  pub own_content-is : (bytes : List ℕ) → length bytes ≡ n.size → ((i : ℕ) → i < n.size → byte (mapped_block live (get n.map (i / 4096))) (i % 4096) ≡ byte bytes i) → own_content live n ≡ bytes
  own_content-is bytes size same =
      ext_get_or 0 (own_content live n) bytes (length-own ∙ sym size) (λ i lt. let inside : i < n.size = omega (arith, lt, length-own) in byte-own i inside ∙ same i inside)
