-- Reading a file part by part.
use Rattle.std.proofs.Common.{◌≡◌, inl, inr, ℕ, zero, suc, ◌+◌, ◌-◌, ◌*◌, ◌/◌, ◌%◌, ◌<◌, ◌≤◌, Bool, true, false, cond, List, [], ◌++◌, length, take, drop, replicate, Option, None, Some, refl, sym, ap, ap₂, ◌∙◌, subst, arith, append_assoc, append-nil, length-append, length-drop}
use Rattle.std.specs.FinMap.{get}
use Rattle.std.specs.List.{range_with_len}
use Rattle.std.specs.Prelude.{IfErr, IfOk, IfSome, IsSome, count_by, is_some, OnErr, OnOk, Ok, Err, Result, ◌==◌, min, max, nat_lt, slice_range}
use Rattle.std.specs.Result.{IsErrAnd}
use Rattle.std.proofs.Math.Seq.{take-append-add}
use Rattle.std.proofs.lemmas.Bool.{cases_lt}
use Rattle.std.proofs.lemmas.Bool.Decides.{nat_tests}
use Rattle.std.proofs.lemmas.List.{length-replicate, length-take-le, take-append-le, take-replicate, take_all, take-take}
use Rattle.std.proofs.lemmas.List.Sums.{sum_by-cons}
use Rattle.sis_history.specs.Needs.{read_end, reads_between, reads_in}
use Rattle.sis_disk.specs.Record.{Seen, live_of}
use Rattle.sis_model.specs.World.{resized}
use Rattle.sis_model.specs.declared.reply.Hindrance.{Hindrance}
use Rattle.sis_model.specs.declared.reply.Hindrance.TheVariants as hindrance
use Rattle.sis_places.proofs.Tally.{tally, tally-split}
use Rattle.sis_ranges.specs.Extents.{is_mapped}
use Rattle.sis_table.specs.Content.{content_of}
use Rattle.sis_table.specs.Edits.{IfThere}
use Rattle.sis_table.specs.Kinds.{plain_node}
use Rattle.sis_table.specs.Volume.{VolumeTable, IsTable, blocks_of, node_with}
use Rattle.sis_table.specs.declared.node.Node.{Node}
use Rattle.sis_table.proofs.ContentLemmas.{slice_range-join}
use Rattle.sis_view.specs.Reading.{OnlyReads}
use Rattle.sis_view.specs.declared.piece.Piece.{Piece}
use Rattle.sis_view.specs.declared.piece.Piece.TheVariants as piece
use Rattle.sis_table.specs.Opens.{OpensAs}
use Rattle.sis_view.proofs.CallerLemmas.{leaves_reading, reads_none, reads_then}
use Rattle.sis_volume.specs.Lending.{IsPiece, Looks, calls_of_piece, piece_bytes, piece_len}
use Rattle.sis_volume.specs.Stopping.{StopsWell}
use Rattle.sis_volume.specs.View.{VolumeView}
use Rattle.sis_volume.proofs.Stopping.{stops_none}
use Rattle.sis_copyclose.specs.Calls.{one_if, stands_before, stands_behind}
use Rattle.sis_copyclose.specs.Inside.{AddsBytes, AddsOld, AddsPart, ReadsFew, Works}
use Rattle.sis_copyclose.specs.Reading.{Appends, HindersReading, OnlyLooks}
use Rattle.sis_model.specs.declared.range.ByteRange.{ByteRange}
use Rattle.sis_copyclose.proofs.Operations.{answered_down, given_up, never_down}
use Rattle.sis_copyclose.proofs.FileBytes.{found_by, long, there_has, there_is, there_map}
use Rattle.sis_copyclose.proofs.Works.{reading_wider, stops_then, works_reads}

-- ---- stretches of bytes

-- the front of one
slice_front : (xs : List ℕ) (a n m : ℕ) → n ≤ m
    → take n (slice_range xs a (a + m)) ≡ slice_range xs a (a + n)
slice_front xs a n m le =
    let m_is : a + m - a ≡ m = omega arith in
    let n_is : a + n - a ≡ n = omega arith in
    ap (λ (k : ℕ). take n (take k (drop a xs))) m_is
    ∙ take-take n m (drop a xs) le
    ∙ sym (ap (λ (k : ℕ). take k (drop a xs)) n_is)

some_both : (o : Option (List ℕ)) (P Q R : List ℕ → Type 0) → ((m : List ℕ) → P m → Q m → R m)
    → IfSome o P → IfSome o Q → IfSome o R
some_both None P Q R f p q = tt
some_both (Some m) P Q R f p q = f m p q

some_map : (o : Option (List ℕ)) (P Q : List ℕ → Type 0) → ((m : List ℕ) → P m → Q m)
    → IfSome o P → IfSome o Q
some_map None P Q f p = tt
some_map (Some m) P Q f p = f m p

-- ---- bytes behind bytes

module _ (v : VolumeTable) (n : Node) (live : Option (List ℕ)) where
  adds_none : (at : ℕ) (out : List ℕ) → AddsBytes v n at at live out out
  adds_none at out = record {
    bytes = [];
    added = sym (append-nil out);
    size = omega arith;
    told = none live;
  }
    where
      none : (o : Option (List ℕ)) → IfSome o (λ now. [] ≡ slice_range (content_of v now n) at at)
      none None = tt
      none (Some m) = (let e : 0 ≡ at - at = omega arith in ap (λ (k : ℕ). take k (drop at (content_of v m n))) e)

  adds_then : (a b c : ℕ) (x y z : List ℕ) → a ≤ b → b ≤ c → AddsBytes v n a b live x y
      → AddsBytes v n b c live y z → AddsBytes v n a c live x z
  adds_then a b c x y z one two first second = record {
    bytes = first.bytes ++ second.bytes;
    added =
        second.added ∙ ap (λ (ys : List ℕ). ys ++ second.bytes) first.added
        ∙ append_assoc x first.bytes second.bytes;
    size = omega (arith, first.size, second.size, one, two, length-append first.bytes second.bytes);
    told =
        some_both live _ _ _ (λ m p q. ap₂ (λ (ys zs : List ℕ). ys ++ zs) p q ∙ slice_range-join (content_of v m n) a b c one two)
        first.told second.told;
  }

  -- up to another end that comes to the same
  adds_until : (at next end : ℕ) (x y : List ℕ) → next - at ≡ end - at → AddsBytes v n at next live x y
      → AddsBytes v n at end live x y
  adds_until at next end x y same adds = record {
    bytes = adds.bytes;
    added = adds.added;
    size = adds.size ∙ same;
    told =
        some_map live _ _ (λ m p. p ∙ ap (λ (k : ℕ). take k (drop at (content_of v m n))) same)
        adds.told;
  }

-- ---- how many blocks are read

tallied : (f : ℕ → Bool) (a k : ℕ) → count_by f (range_with_len a k) ≡ tally f a k
tallied f a zero = refl
tallied f a (suc k) =
    sum_by-cons (λ (b : ℕ). cond (f b) 1 0) a (range_with_len (a + 1) k)
    ∙ ap (λ (x : ℕ). cond (f a) 1 0 + x) (tallied f (a + 1) k)

between_some : (n : Node) (at end : ℕ) → at < end → reads_between n at end
    ≡ tally (is_mapped n.map) (at / 4096) (blocks_of end - at / 4096)
between_some n at end lt =
    let is : nat_lt at end ≡ true = grind (arith, nat_tests) in
    let all : at + (end - at) ≡ end = omega (arith, lt) in
    rw is
    (ap (λ (k : ℕ). count_by (is_mapped n.map) (range_with_len (at / 4096) (blocks_of k - at / 4096))) all
    ∙ tallied (is_mapped n.map) (at / 4096) (blocks_of end - at / 4096))

between_none : (n : Node) (at end : ℕ) → end ≤ at → reads_between n at end ≡ 0
between_none n at end le =
    let no : nat_lt at end ≡ false = grind (arith, nat_tests) in
    rw no refl

-- they split at a later byte that begins a block
between_split : (n : Node) (at next end : ℕ) → at ≤ next → next ≤ end
    → (next < end → next % 4096 ≡ 0)
    → reads_between n at end ≡ reads_between n at next + reads_between n next end
between_split n at next end low high begins = elim (cases_lt at next) [
  | inl some ↦ elim (cases_lt next end) [
    | inl more ↦
        (let begin = begins more in
        let split = tally-split (is_mapped n.map) (blocks_of next - at / 4096)
        (blocks_of end - next / 4096) (blocks_of end - at / 4096) (at / 4096) (next / 4096)
        (omega (arith, begin, some, more)) (omega (arith, begin, some)) in
        omega (
          arith,
          split,
          between_some n at end (omega (arith, some, more)),
          between_some n at next some,
          between_some n next end more,
        ))
    | inr none ↦
        (let same : end ≡ next = omega (arith, high, none) in
        omega (arith, ap (reads_between n at) same, between_none n next end none))
  ]
  | inr none ↦
      (let same : at ≡ next = omega (arith, low, none) in
      omega (arith, ap (λ (k : ℕ). reads_between n k end) same, between_none n at next none))
]

-- the block of a byte is one of those from it on
between_first : (n : Node) (at end : ℕ) → at < end
    → reads_between n at (at + 1) ≤ reads_between n at end
between_first n at end lt =
    let one : blocks_of (at + 1) - at / 4096 ≡ 1 = omega arith in
    omega (
      arith,
      between_some n at (at + 1) (omega arith),
      between_some n at end lt,
      ap (tally (is_mapped n.map) (at / 4096)) one,
      first (is_mapped n.map) (at / 4096) (blocks_of end - at / 4096) (omega (arith, lt)),
    )
  where
    first : (f : ℕ → Bool) (a k : ℕ) → 1 ≤ k → tally f a 1 ≤ tally f a k
    first f a zero some = absurd (omega (arith, some))
    first f a (suc k) some = omega arith

-- one read where the byte's block is mapped, and else none
between_one : (n : Node) (at : ℕ) (b : Bool) → is_mapped n.map (at / 4096) ≡ b
    → reads_between n at (at + 1) ≡ one_if b
between_one n at b is =
    let one : blocks_of (at + 1) - at / 4096 ≡ 1 = omega arith in
    between_some n at (at + 1) (omega arith)
    ∙ ap (tally (is_mapped n.map) (at / 4096)) one
    ∙ ap (λ (x : Bool). cond x 1 0 + 0) is ∙ by b
  where
    by : (x : Bool) → cond x 1 0 + 0 ≡ one_if x
    by true = refl
    by false = refl

-- A part that ends with a block or with what is left takes a read for its first byte's block.
part_reads : (n : Node) (next count end : ℕ) → next < end → 1 ≤ count → next + count ≤ end
    → (next + count < end → (next + count) % 4096 ≡ 0)
    → reads_between n next (next + 1) + reads_between n (next + count) end ≤ reads_between n next end
part_reads n next count end lt some within begins =
    omega (
      arith,
      between_split n next (next + count) end (omega arith) within begins,
      between_first n next (next + count) (omega (arith, some)),
    )

-- ---- one part

piece_some : (n : Node) (at : ℕ) (lent : Piece) → IsPiece n at lent → 1 ≤ piece_len lent
piece_some n at (piece.Bytes bytes) is = is.some
piece_some n at (piece.Zeros count) is = is.some

-- a piece that doesn't end with the file ends with a block
piece_ends : (n : Node) (at : ℕ) (lent : Piece) → IsPiece n at lent → at + piece_len lent < n.size
    → (at + piece_len lent) % 4096 ≡ 0
piece_ends n at (piece.Bytes bytes) is more = let ends = is.ends in omega arith
piece_ends n at (piece.Zeros count) is more = (is.ends more).0

piece_long : (lent : Piece) → length (piece_bytes lent) ≡ piece_len lent
piece_long (piece.Bytes bytes) = refl
piece_long (piece.Zeros count) = length-replicate {A = ℕ} count 0

-- the front of a piece
pub adds_piece : (v : VolumeTable) (n : Node) (at most count : ℕ) (lent : Piece)
    (live : Option (List ℕ)) (out new : List ℕ) → 1 ≤ most → at + most ≤ n.size → IsPiece n at lent
    → count ≡ min most (piece_len lent) → new ≡ out ++ take count (piece_bytes lent)
    → IfSome live (λ now. piece_bytes lent ≡ slice_range (content_of v now n) at (at + piece_len lent))
    → AddsPart v n at most count live out new
adds_piece v n at most count lent live out new some inside is count_is new_is told =
    let some_lent = piece_some n at lent is in
    let len = piece_long lent in
    let within : count ≤ piece_len lent = omega arith in
    record {
      some = omega arith;
      few = omega arith;
      ends = λ less.
          (let all : count ≡ piece_len lent = omega arith in
          ap (λ (k : ℕ). (at + k) % 4096) all ∙ piece_ends n at lent is (omega arith));
      bytes = record {
        bytes = take count (piece_bytes lent);
        added = new_is;
        size = length-take-le count (piece_bytes lent) (omega arith) ∙ omega arith;
        told =
            some_map live _ _ (λ m p.
            ap (take count) p ∙ slice_front (content_of v m n) at count (piece_len lent) within) told;
      };
    }

-- ---- all parts

-- So much was read, and what is left takes no more reads than all may.
pub record IsReading (v : VolumeTable) (n : Node) (at next end : ℕ) (live : Option (List ℕ))
    (out now : List ℕ) (before after' : Seen) : Type 0 where
  pub low : at ≤ next
  pub stop : next ≤ max at end
  pub bytes : AddsBytes v n at next live out now
  pub used : ℕ
  pub few : used + reads_between n next end ≤ reads_between n at end
  pub reads : OnlyReads used before after'
  pub quiet : after'.faults ≡ before.faults
  pub idle : used ≡ 0 → after' ≡ before

pub reading_none : (v : VolumeTable) (n : Node) (at end : ℕ) (live : Option (List ℕ)) (out : List ℕ)
    (seen : Seen) → IsReading v n at at end live out out seen seen
reading_none v n at end live out seen = record {
  low = omega arith;
  stop = omega arith;
  bytes = adds_none v n live at out;
  used = 0;
  few = omega arith;
  reads = reads_none 0 seen;
  quiet = refl;
  idle = λ none. refl;
}

pub reading_more : (v : VolumeTable) (n : Node) (at next end count : ℕ) (live : Option (List ℕ))
    (out mid new : List ℕ) (before between after' : Seen) → next < end
    → IsReading v n at next end live out mid before between
    → AddsPart v n next (end - next) count (live_of between) mid new
    → ReadsFew (reads_between n next (next + 1)) between after'
    → after'.faults ≡ between.faults → live_of between ≡ live
    → IsReading v n at (next + count) end live out new before after'
reading_more v n at next end count live out mid new before between after' lt so_far part reads still
    same =
    let low = so_far.low in
    let some = part.some in
    let less = part.few in
    let few = so_far.few in
    let one = reads_between n next (next + 1) in
    let rest = part_reads n next count end lt some (omega (arith, lt, less))
    (λ more. part.ends (omega (arith, more))) in
    let bytes : AddsBytes v n next (next + count) live mid new =
    subst (λ (o : Option (List ℕ)). AddsBytes v n next (next + count) o mid new) same part.bytes in
    record {
      low = omega arith;
      stop = omega arith;
      bytes = adds_then v n live at next (next + count) out mid new low (omega arith) so_far.bytes bytes;
      used = so_far.used + one;
      few = omega (arith, few, rest);
      reads = reads_then so_far.used one (so_far.used + one) before between after' (omega arith) so_far.reads reads.reads;
      quiet = still ∙ so_far.quiet;
      idle = λ none. reads.idle (omega (arith, none)) ∙ so_far.idle (omega (arith, none));
    }

pub reading_all : (v : VolumeTable) (n : Node) (at next end : ℕ) (live : Option (List ℕ))
    (out now : List ℕ) (before after' : Seen) → end ≤ next
    → IsReading v n at next end live out now before after' → AddsBytes v n at end live out now
reading_all v n at next end live out now before after' le reading =
    let low = reading.low in
    let stop = reading.stop in
    adds_until v n live at next end out now (omega arith) reading.bytes

-- what was read until now, in the reads that all may take
pub reading_reads : (v : VolumeTable) (n : Node) (at next end : ℕ) (live : Option (List ℕ))
    (out now : List ℕ) (before after' : Seen)
    → IsReading v n at next end live out now before after'
    → ReadsFew (reads_between n at end) before after'
reading_reads v n at next end live out now before after' reading = record {
  reads = reads_then reading.used 0 (reads_between n at end) before after' after'
      (omega (arith, reading.few)) reading.reads (reads_none 0 after');
  idle = λ none. reading.idle (omega (arith, none, reading.few));
}

-- ---- the file that is read

-- a piece that was lent, or zeros of it
pub added_part : (v : VolumeTable) (file at most count : ℕ) (lent : Piece) (live : Option (List ℕ))
    (out new : List ℕ) → 1 ≤ most
    → IfThere (node_with v file) (λ n. (plain_node n ≡ true) × (at + most ≤ n.size))
    → IfThere (node_with v file) (λ n. IsPiece n at lent)
    → IfSome live (λ now. IfThere (node_with v file) (λ n. plain_node n ≡ true
    → piece_bytes lent ≡ slice_range (content_of v now n) at (at + piece_len lent)))
    → count ≡ min most (piece_len lent) → new ≡ out ++ take count (piece_bytes lent)
    → IfThere (node_with v file) (λ n. AddsPart v n at most count live out new)
added_part v file at most count lent live out new some there is told count_is new_is =
    there_map (node_with v file) _ _ (λ n n_is here.
    adds_piece v n at most count lent live out new some here.1
    (there_has (node_with v file) n (λ m. IsPiece m at lent) n_is is) count_is new_is
    (some_map live _ _ (λ now h.
    there_has (node_with v file) n (λ m. plain_node m ≡ true
    → piece_bytes lent ≡ slice_range (content_of v now m) at (at + piece_len lent)) n_is h here.0) told)) there

pub added_zeros : (v : VolumeTable) (file at most count zeros : ℕ) (live : Option (List ℕ))
    (out new : List ℕ) → 1 ≤ most
    → IfThere (node_with v file) (λ n. (plain_node n ≡ true) × (at + most ≤ n.size))
    → IfThere (node_with v file) (λ n. IsPiece n at (piece.Zeros zeros))
    → IfSome live (λ now. IfThere (node_with v file) (λ n. plain_node n ≡ true
    → piece_bytes (piece.Zeros zeros) ≡ slice_range (content_of v now n) at (at + piece_len (piece.Zeros zeros))))
    → count ≡ min most zeros → new ≡ out ++ replicate count 0
    → IfThere (node_with v file) (λ n. AddsPart v n at most count live out new)
added_zeros v file at most count zeros live out new some there is told count_is new_is =
    let few : count ≤ zeros = omega (arith, count_is) in
    added_part v file at most count (piece.Zeros zeros) live out new some there is told count_is
    (new_is ∙ ap (λ (xs : List ℕ). out ++ xs) (sym (take-replicate count zeros 0 few)))

-- what a part of it leaves
abbrev pub ReadsPart : VolumeView → VolumeView → ℕ → ℕ → Type 0
ReadsPart old new file at =
    IfThere (node_with old.table file)
    (λ n. ReadsFew (reads_between n at (at + 1)) old.seen new.seen)

-- Lending a piece takes a call where its first block is mapped, and else none.
lent_reads : {E : Type 0} (r : Result Piece E) (n : Node) (at : ℕ) (old new : VolumeView)
    → IfOk r (IsPiece n at) → OnErr r (IsSome (get n.map (at / 4096)))
    → Looks (calls_of_piece r) r old new
    → ReadsFew (reads_between n at (at + 1)) old.seen new.seen
lent_reads (Ok (piece.Bytes bytes)) n at old new is mapped looks =
    let one : reads_between n at (at + 1) ≡ 1 = between_one n at true is.mapped in
    subst (λ (k : ℕ). ReadsFew k old.seen new.seen) (sym one)
    (record { reads = looks.fetched.reads; idle = looks.idle })
lent_reads (Ok (piece.Zeros count)) n at old new is mapped looks =
    let hole = is.unmapped (at / 4096) (omega arith) (omega (arith, is.some)) in
    let none : reads_between n at (at + 1) ≡ 0 = between_one n at false (ap is_some hole) in
    subst (λ (k : ℕ). ReadsFew k old.seen new.seen) (sym none)
    (record { reads = looks.fetched.reads; idle = looks.idle })
lent_reads (Err fault) n at old new is mapped looks =
    let one : reads_between n at (at + 1) ≡ 1 = between_one n at true mapped in
    subst (λ (k : ℕ). ReadsFew k old.seen new.seen) (sym one)
    (record { reads = looks.fetched.reads; idle = looks.idle })

pub piece_reads : {E : Type 0} (r : Result Piece E) (file at : ℕ) (old new : VolumeView)
    (P : Node → Type 0) → IfThere (node_with old.table file) P
    → IfOk r (λ lent. IfThere (node_with old.table file) (λ n. IsPiece n at lent))
    → OnErr r (IfThere (node_with old.table file) (λ n. IsSome (get n.map (at / 4096))))
    → Looks (calls_of_piece r) r old new → ReadsPart old new file at
piece_reads r file at old new P there is mapped looks =
    there_map (node_with old.table file) P _ (λ n n_is here.
    lent_reads r n at old new (ok_there r n n_is is) (err_mapped r n n_is mapped) looks) there
  where
    o : Option Node
    o = node_with old.table file

    ok_there : {E : Type 0} (q : Result Piece E) (n : Node) → o ≡ Some n
        → IfOk q (λ lent. IfThere o (λ m. IsPiece m at lent)) → IfOk q (IsPiece n at)
    ok_there (Ok lent) n n_is h = there_has o n (λ m. IsPiece m at lent) n_is h
    ok_there (Err fault) n n_is h = tt

    err_mapped : {E : Type 0} (q : Result Piece E) (n : Node) → o ≡ Some n
        → OnErr q (IfThere o (λ m. IsSome (get m.map (at / 4096))))
        → OnErr q (IsSome (get n.map (at / 4096)))
    err_mapped (Ok lent) n n_is h = tt
    err_mapped (Err fault) n n_is h = there_has o n (λ m. IsSome (get m.map (at / 4096))) n_is h

-- what was read, and the volume, whose disk alone went on
abbrev pub ReadsOn : VolumeView → VolumeView → ℕ → ℕ → ℕ → ℕ → List ℕ → List ℕ → Type 0
ReadsOn old now file at next end out mid =
    IfThere (node_with old.table file) (λ n. IsReading old.table n at next end
    (live_of old.seen) out mid old.seen now.seen)

part_there : (old now later : VolumeView) (file next : ℕ) (n : Node)
    → now ≡ record old { seen = now.seen } → node_with old.table file ≡ Some n
    → ReadsPart now later file next
    → ReadsFew (reads_between n next (next + 1)) now.seen later.seen
part_there old now later file next n same is part =
    there_has (node_with now.table file) n
    (λ m. ReadsFew (reads_between m next (next + 1)) now.seen later.seen)
    (ap (λ (v : VolumeView). node_with v.table file) same ∙ is) part

pub pieces_none : (old : VolumeView) (file at end : ℕ) (out : List ℕ) (P : Node → Type 0)
    → IfThere (node_with old.table file) P → ReadsOn old old file at at end out out
pieces_none old file at end out P there =
    there_map (node_with old.table file) P _
    (λ n n_is here. reading_none old.table n at end (live_of old.seen) out old.seen) there

pub pieces_more : (old now later : VolumeView) (file at next end count : ℕ) (out mid new : List ℕ)
    → next < end → now ≡ record old { seen = now.seen }
    → ReadsOn old now file at next end out mid
    → IfThere (node_with now.table file) (λ n. AddsPart now.table n next (end - next) count
    (live_of now.seen) mid new)
    → ReadsPart now later file next → later.seen.faults ≡ now.seen.faults
    → ReadsOn old later file at (next + count) end out new
pieces_more old now later file at next end count out mid new lt same reading part reads still =
    let table : now.table ≡ old.table = ap (λ (v : VolumeView). v.table) same in
    let there = subst (λ (v : VolumeTable). IfThere (node_with v file) (λ n. AddsPart v n next (end - next) count (live_of now.seen) mid new)) table part in
    there_map (node_with old.table file) _ _ (λ n n_is r.
    reading_more old.table n at next end count (live_of old.seen) out mid new old.seen now.seen later.seen lt r
    (there_has (node_with old.table file) n (λ m. AddsPart old.table m next (end - next) count (live_of now.seen) mid new) n_is there)
    (part_there old now later file next n same n_is reads) still r.reads.live) reading

-- the count of a part is above 0, and no greater than what is left
pub part_count : (v : VolumeTable) (file next most count : ℕ) (live : Option (List ℕ))
    (mid new : List ℕ) → IfThere (node_with v file) (λ n. AddsPart v n next most count live mid new)
    → (1 ≤ count) × (count ≤ most)
part_count v file next most count live mid new part =
    let it = there_is (node_with v file) _ part in
    (it.2.some, it.2.few)

pub pieces_quiet : (old now : VolumeView) (file at next end : ℕ) (out mid : List ℕ)
    → ReadsOn old now file at next end out mid → now.seen.faults ≡ old.seen.faults
pieces_quiet old now file at next end out mid reading =
    (there_is (node_with old.table file) _ reading).2.quiet

-- reading a piece failed
pub pieces_failed : (old now later : VolumeView) (file at next end : ℕ) (out mid : List ℕ)
    (by : Hindrance) → now ≡ record old { seen = now.seen }
    → ReadsOn old now file at next end out mid → next < end
    → IfThere (node_with now.table file)
    (λ n. HindersReading (reads_between n next (next + 1)) now.seen later.seen by)
    → IfThere (node_with old.table file)
    (λ n. HindersReading (reads_between n at end) old.seen later.seen by)
pieces_failed old now later file at next end out mid by same reading lt cause =
    there_map (node_with old.table file) _ _ (λ n is r.
    reading_wider (reads_between n next (next + 1)) (reads_between n at end) old.seen now.seen later.seen by
    (omega (arith, r.few, between_first n next end lt)) r.quiet
    (there_has (node_with now.table file) n
    (λ m. HindersReading (reads_between m next (next + 1)) now.seen later.seen by)
    (ap (λ (v : VolumeView). node_with v.table file) same ∙ is) cause)) reading

-- what is left can be read
pub pieces_there : (old now : VolumeView) (file next end : ℕ) → now ≡ record old { seen = now.seen }
    → next < end → IfThere (node_with old.table file) (λ n. (plain_node n ≡ true) × (end ≤ n.size))
    → IfThere (node_with now.table file) (λ n. (plain_node n ≡ true) × (next + (end - next) ≤ n.size))
pieces_there old now file next end same lt there =
    subst (λ (v : VolumeTable). IfThere (node_with v file) (λ n. (plain_node n ≡ true) × (next + (end - next) ≤ n.size)))
    (sym (ap (λ (v : VolumeView). v.table) same))
    (there_map (node_with old.table file) _ _ (λ n n_is here. (here.0, omega (arith, lt, here.1))) there)

pub pieces_all : (old now : VolumeView) (file at next end : ℕ) (out mid : List ℕ) → end ≤ next
    → ReadsOn old now file at next end out mid
    → IfThere (node_with old.table file) (λ n. AddsBytes old.table n at end (live_of old.seen) out mid)
pieces_all old now file at next end out mid le reading =
    there_map (node_with old.table file) _ _ (λ n n_is r.
    reading_all old.table n at next end (live_of old.seen) out mid old.seen now.seen le r) reading

pub pieces_front : (old now : VolumeView) (file at next end : ℕ) (out mid : List ℕ)
    → ReadsOn old now file at next end out mid → take (length out) mid ≡ out
pieces_front old now file at next end out mid reading =
    let it = there_is (node_with old.table file) _ reading in
    ap (take (length out)) it.2.bytes.added ∙ take-append-le (length out) out it.2.bytes.bytes (omega arith)
    ∙ take_all (length out) out (omega arith)

-- what the reads of all parts leave
abbrev pub ReadsParts : VolumeView → VolumeView → ℕ → ℕ → ℕ → Type 0
ReadsParts old new file at end =
    IfThere (node_with old.table file) (λ n. ReadsFew (reads_between n at end) old.seen new.seen)

pub pieces_reads : (old now : VolumeView) (file at next end : ℕ) (out mid : List ℕ)
    → ReadsOn old now file at next end out mid → ReadsParts old now file at end
pieces_reads old now file at next end out mid reading =
    there_map (node_with old.table file) _ _ (λ n is r.
    reading_reads old.table n at next end (live_of old.seen) out mid old.seen now.seen r) reading

-- one part more, where some is left
pub pieces_last : (old now later : VolumeView) (file at next end : ℕ) (out mid : List ℕ) → next < end
    → now ≡ record old { seen = now.seen }
    → ReadsOn old now file at next end out mid → ReadsPart now later file next
    → ReadsParts old later file at end
pieces_last old now later file at next end out mid lt same reading reads =
    there_map (node_with old.table file) _ _ (λ n is r.
    let part = part_there old now later file next n same is reads in
    let first = between_first n next end lt in
    record {
      reads = reads_then r.used (reads_between n next (next + 1)) (reads_between n at end)
          old.seen now.seen later.seen (omega (arith, r.few, first)) r.reads part.reads;
      idle = λ none.
          part.idle (omega (arith, none, r.few, first)) ∙ r.idle (omega (arith, none, r.few));
    }) reading

-- ---- a range

-- up to its end in the bytes
range_cut : (xs : List ℕ) (at len : ℕ)
    → slice_range xs at (min (at + len) (length xs)) ≡ take len (drop at xs)
range_cut xs at len =
    let rest = length-drop at xs in
    elim (cases_lt (length xs) (at + len)) [
      | inl past ↦
          (let all : min (at + len) (length xs) - at ≡ length xs - at = omega arith in
          ap (λ (k : ℕ). take k (drop at xs)) all
          ∙ take_all (length xs - at) (drop at xs) (omega arith)
          ∙ sym (take_all len (drop at xs) (omega arith)))
      | inr within ↦
          (let all : min (at + len) (length xs) - at ≡ len = omega arith in
          ap (λ (k : ℕ). take k (drop at xs)) all)
    ]

pub appended : (v : VolumeTable) (n : Node) (range : ByteRange) (live : Option (List ℕ))
    (out new : List ℕ) → IfSome live (λ m. length (content_of v m n) ≡ n.size)
    → AddsBytes v n range.at (read_end n range) live out new → Appends v n range live out new
appended v n range live out new long adds = record {
  bytes = adds.bytes;
  appended = adds.added;
  size = omega (arith, adds.size);
  told =
      some_both live _ _ _ (λ m p whole.
      p ∙ ap (λ (k : ℕ). slice_range (content_of v m n) range.at (min (range.at + range.len) k)) (sym whole)
      ∙ range_cut (content_of v m n) range.at range.len) adds.told long;
}

-- the same of the file with an id
pub read_appended : (v : VolumeTable) (file end : ℕ) (range : ByteRange) (live : Option (List ℕ))
    (out new : List ℕ) → IsTable v → IfSome live (λ m. length m ≡ 4096 * v.layout.total)
    → IfThere (node_with v file) (λ n. end ≡ read_end n range)
    → IfThere (node_with v file) (λ n. AddsBytes v n range.at end live out new)
    → IfThere (node_with v file) (λ n. Appends v n range live out new)
read_appended v file end range live out new table sized ends adds =
    there_map (node_with v file) _ _ (λ n is e.
    appended v n range live out new
    (some_map live _ _ (λ m whole. long v n table (found_by v file n is) m whole) sized)
    (subst (λ (k : ℕ). AddsBytes v n range.at k live out new) e
    (there_has (node_with v file) n (λ m. AddsBytes v m range.at end live out new) is adds))) ends

-- it is no longer than the range
pub appended_few : (v : VolumeTable) (file : ℕ) (range : ByteRange) (live : Option (List ℕ))
    (out new : List ℕ) → IfThere (node_with v file) (λ n. Appends v n range live out new)
    → (length out ≤ length new) × (length new - length out ≤ range.len)
appended_few v file range live out new adds =
    let it = there_is (node_with v file) _ adds in
    let size = it.2.size in
    let len : length new ≡ length out + length it.2.bytes =
    ap (λ (xs : List ℕ). length xs) it.2.appended ∙ length-append out it.2.bytes in
    (omega (arith, len), omega (arith, len, size))

-- ---- what reading leaves

-- a fault is one
one_fault : (most : ℕ) (old new : Seen) (by : Hindrance) → HindersReading most old new by
    → new.faults ≤ old.faults + 1
one_fault most old new hindrance.Memory h = omega (arith, h)
one_fault most old new hindrance.Disk h = h.2
one_fault most old new (hindrance.Limit kind) h = absurd h
one_fault most old new (hindrance.Full needed mapped total) h = absurd h
one_fault most old new (hindrance.TableFull needed cap) h = absurd h
one_fault most old new (hindrance.Down at) h = absurd h

failed_once : {T : Type 0} (most : ℕ) (r : Result T Hindrance) (old new : Seen)
    → IfErr r (HindersReading most old new) → OnErr r (new.faults ≤ old.faults + 1)
failed_once most (Ok x) old new cause = tt
failed_once most (Err by) old new cause = one_fault most old new by cause

-- the volume is up, and only its disk was read
pub only_looked : {T : Type 0} (most : ℕ) (r : Result T Hindrance) (old new : VolumeView)
    → old.down ≡ None → new ≡ record old { seen = new.seen } → OnlyReads most old.seen new.seen
    → (most ≡ 0 → new.seen ≡ old.seen) → OnOk r (new.seen.faults ≡ old.seen.faults)
    → IfErr r (HindersReading most old.seen new.seen) → OnlyLooks most r old new
only_looked most r old new up same reads idle quiet cause = record {
  same = same;
  reads = reads;
  idle = idle;
  quiet = quiet;
  once = failed_once most r old.seen new.seen cause;
  cause = λ still. cause;
  down = never_down r old new up;
}

-- why it failed, of the file that is there
err_there : {T : Type 0} (r : Result T Hindrance) (o : Option Node) (n : Node)
    (P : Node → Hindrance → Type 0) → o ≡ Some n → IfErr r (λ by. IfThere o (λ m. P m by))
    → IfErr r (P n)
err_there (Ok x) o n P is h = tt
err_there (Err by) o n P is h = there_has o n (λ m. P m by) is h

-- the same of the file with an id
pub read_looked : {T : Type 0} (r : Result T Hindrance) (old new : VolumeView) (file end : ℕ)
    (range : ByteRange) → old.down ≡ None → new ≡ record old { seen = new.seen }
    → IfThere (node_with old.table file) (λ n. end ≡ read_end n range)
    → ReadsParts old new file range.at end → OnOk r (new.seen.faults ≡ old.seen.faults)
    → IfErr r (λ by. IfThere (node_with old.table file)
    (λ n. HindersReading (reads_between n range.at end) old.seen new.seen by))
    → IfThere (node_with old.table file) (λ n. OnlyLooks (reads_in range n) r old new)
read_looked r old new file end range up same ends reads quiet cause =
    there_map (node_with old.table file) _ _ (λ n is e.
    let few = there_has (node_with old.table file) n
    (λ m. ReadsFew (reads_between m range.at end) old.seen new.seen) is reads in
    subst (λ (k : ℕ). OnlyLooks (reads_between n range.at k) r old new) e
    (only_looked (reads_between n range.at end) r old new up same few.reads few.idle quiet
    (err_there r (node_with old.table file) n
    (λ m by. HindersReading (reads_between m range.at end) old.seen new.seen by) is cause))) ends

all_quiet : {T : Type 0} (r : Result T Hindrance) (v : VolumeView)
    → OnOk r (v.seen.faults ≡ v.seen.faults)
all_quiet (Ok x) v = refl
all_quiet (Err by) v = tt

-- there was no memory
pub read_short : {T : Type 0} (r : Result T Hindrance) (v : VolumeView) (file : ℕ) (range : ByteRange)
    (P : Node → Type 0) → v.down ≡ None → IfThere (node_with v.table file) P
    → IsErrAnd r (λ h. h ≡ hindrance.Memory)
    → IfThere (node_with v.table file) (λ n. OnlyLooks (reads_in range n) r v v)
read_short r v file range P up there short =
    there_map (node_with v.table file) P _ (λ n is here.
    only_looked (reads_in range n) r v v up refl (reads_none (reads_in range n) v.seen)
    (λ none. refl) (all_quiet r v)
    (given_up r hindrance.Memory (HindersReading (reads_in range n) v.seen v.seen) short refl))
    there

-- ---- within a block

-- a range within a block takes one read at most, and none where it has no byte or isn't mapped
few_reads : (n : Node) (range : ByteRange) (b : Bool) → range.at % 4096 + range.len ≤ 4096
    → ((range.at < n.size) → 1 ≤ range.len → is_mapped n.map (range.at / 4096) ≡ true → b ≡ true)
    → reads_in range n ≤ one_if b
few_reads n range b short has = elim (cases_lt range.at (read_end n range)) [
  | inl some ↦
      (let one : blocks_of (read_end n range) - range.at / 4096 ≡ 1 = omega (arith, short, some) in
      let all : reads_in range n ≡ tally (is_mapped n.map) (range.at / 4096) 1 =
      between_some n range.at (read_end n range) some
      ∙ ap (tally (is_mapped n.map) (range.at / 4096)) one in
      let least = by (is_mapped n.map (range.at / 4096)) b
      (has (omega (arith, some)) (omega (arith, some))) in
      omega (arith, all, least))
  | inr none ↦ omega (arith, between_none n range.at (read_end n range) none)
]
  where
    by : (m b : Bool) → (m ≡ true → b ≡ true) → cond m 1 0 + 0 ≤ one_if b
    by true true imp = omega arith
    by true false imp = absurd (let no = imp refl in cc)
    by false b imp = omega arith

stops_read : (most : ℕ) (old new : VolumeView) → old.down ≡ None
    → OnlyReads most old.seen new.seen → StopsWell old new
stops_read most old new up reads =
    stops_then old old new up up (stops_none old)
    (λ files opens. leaves_reading (OpensAs files) most old.seen new.seen reads opens)

pub stops_parts : (old new : VolumeView) (file at end : ℕ) → old.down ≡ None
    → ReadsParts old new file at end → StopsWell old new
stops_parts old new file at end up reads =
    let it = there_is (node_with old.table file) _ reads in
    stops_read (reads_between it.0 at end) old new up it.2.reads

-- the volume was down
pub looked_down : {T : Type 0} (most : ℕ) (v : VolumeView) (at : ℕ) → v.down ≡ Some at
    → OnlyLooks {T = T} most (Err (hindrance.Down at)) v v
looked_down {T = T} most v at is = record {
  same = refl;
  reads = reads_none most v.seen;
  idle = λ none. refl;
  quiet = tt;
  once = omega arith;
  cause = λ up. absurd (let e = sym up ∙ is in cc);
  down = answered_down {T = T} (Err (hindrance.Down at)) v v at is refl refl;
}

-- ---- bytes with zeros behind them

-- so many bytes, and zeros for those that are missing
resized_fill : (xs : List ℕ) (len : ℕ)
    → take len xs ++ replicate (len - length (take len xs)) 0 ≡ resized len xs
resized_fill xs len = elim (cases_lt (length xs) len) [
  | inl short ↦
      (let all : take len xs ≡ xs = take_all len xs (omega arith) in
      let split : length xs + (len - length xs) ≡ len = omega arith in
      ap (λ (ys : List ℕ). ys ++ replicate (len - length ys) 0) all
      ∙ ap (λ (ys : List ℕ). xs ++ ys) (sym (take-replicate (len - length xs) len 0 (omega arith)))
      ∙ sym (take-append-add xs (replicate len 0) (len - length xs))
      ∙ ap (λ (k : ℕ). take k (xs ++ replicate len 0)) split)
  | inr long ↦
      (let none : len - length (take len xs) ≡ 0 = omega (arith, length-take-le len xs long) in
      ap (λ (k : ℕ). take len xs ++ replicate k 0) none
      ∙ append-nil (take len xs)
      ∙ sym (take-append-le len xs (replicate len 0) long))
]

pub resized_vec : (xs : List ℕ) (size : ℕ) → length xs ≤ size
    → take size xs ++ replicate (size - length xs) 0 ≡ resized size xs
resized_vec xs size le =
    let same : length (take size xs) ≡ length xs = ap (λ (ys : List ℕ). length ys) (take_all size xs le) in
    ap (λ (k : ℕ). take size xs ++ replicate (size - k) 0) (sym same) ∙ resized_fill xs size

-- what was read of a range, with zeros behind it
pub add_filled : (v : VolumeTable) (n : Node) (range : ByteRange) (live : Option (List ℕ))
    (out mid new : List ℕ) (count : ℕ) → Appends v n range live out mid
    → count ≡ range.len - (length mid - length out) → new ≡ mid ++ replicate count 0
    → AddsOld v n range live out new
add_filled v n range live out mid new count read count_is new_is =
    let size = read.size in
    let mid_len : length mid ≡ length out + length read.bytes =
    ap (λ (xs : List ℕ). length xs) read.appended ∙ length-append out read.bytes in
    let zeros = length-replicate {A = ℕ} count 0 in
    let rest : count ≡ range.len - length read.bytes = omega arith in
    record {
      bytes = read.bytes ++ replicate count 0;
      added =
          new_is ∙ ap (λ (xs : List ℕ). xs ++ replicate count 0) read.appended
          ∙ append_assoc out read.bytes (replicate count 0);
      size = length-append read.bytes (replicate count 0) ∙ omega arith;
      told =
          some_map live _ _ (λ m p.
          ap (λ (k : ℕ). read.bytes ++ replicate k 0) rest
          ∙ ap (λ (xs : List ℕ). xs ++ replicate (range.len - length xs) 0) p
          ∙ resized_fill (drop range.at (content_of v m n)) range.len) read.told;
    }

-- the same of the file with an id, and what it leaves
pub old_added : (v : VolumeTable) (file : ℕ) (range : ByteRange) (live : Option (List ℕ))
    (out mid new : List ℕ) (count : ℕ)
    → IfThere (node_with v file) (λ n. Appends v n range live out mid)
    → count ≡ range.len - (length mid - length out) → new ≡ mid ++ replicate count 0
    → IfThere (node_with v file) (λ n. AddsOld v n range live out new)
old_added v file range live out mid new count read count_is new_is =
    there_map (node_with v file) _ _ (λ n is h.
    add_filled v n range live out mid new count h count_is new_is) read

pub looked_works : {T : Type 0} (r : Result T Hindrance) (old new : VolumeView) (file : ℕ)
    (range : ByteRange) → IfThere (node_with old.table file) (λ n. OnlyLooks (reads_in range n) r old new)
    → IfThere (node_with old.table file) (λ n. Works (reads_in range n) old new)
looked_works r old new file range looks =
    there_map (node_with old.table file) _ _
    (λ n is h. works_reads (reads_in range n) old new h.same h.reads h.idle) looks

pub looked_quiet : {T : Type 0} (r : Result T Hindrance) (old new : VolumeView) (file : ℕ)
    (range : ByteRange) (x : T) → r ≡ Ok x
    → IfThere (node_with old.table file) (λ n. OnlyLooks (reads_in range n) r old new)
    → new.seen.faults ≡ old.seen.faults
looked_quiet {T = T} r old new file range x is looks =
    let it = there_is (node_with old.table file) _ looks in
    subst (λ (q : Result T Hindrance). OnOk q (new.seen.faults ≡ old.seen.faults)) is it.2.quiet

pub looked_memory : {T : Type 0} (r : Result T Hindrance) (old new : VolumeView) (file : ℕ)
    (range : ByteRange) (x : T) → r ≡ Ok x
    → IfThere (node_with old.table file) (λ n. OnlyLooks (reads_in range n) r old new)
    → IfThere (node_with old.table file)
    (λ n. HindersReading (reads_in range n) old.seen new.seen hindrance.Memory)
looked_memory r old new file range x is looks =
    there_map (node_with old.table file) _ _
    (λ n n_is h. looked_quiet r old new file range x is looks) looks

pub looked_cause : {T : Type 0} (r : Result T Hindrance) (old new : VolumeView) (file : ℕ)
    (range : ByteRange) (by : Hindrance) → r ≡ Err by → old.down ≡ None
    → IfThere (node_with old.table file) (λ n. OnlyLooks (reads_in range n) r old new)
    → IfThere (node_with old.table file)
    (λ n. HindersReading (reads_in range n) old.seen new.seen by)
looked_cause {T = T} r old new file range by is up looks =
    there_map (node_with old.table file) _ _ (λ n n_is h.
    subst
    (λ (q : Result T Hindrance). IfErr q (HindersReading (reads_in range n) old.seen new.seen))
    is (h.cause up)) looks

-- the block at the old end, which is written or not
pub end_reads : (n : Node) (range : ByteRange) (ends : ℕ) → range.at % 4096 ≡ 0 → ends ≤ 1
    → range.len ≡ 4096 * ends → reads_in range n ≤ ends
end_reads n range ends start few len =
    let most = few_reads n range (nat_lt 0 ends) (omega (arith, start, few, len))
    (λ lt some is. (let more : 0 < ends = omega (arith, some, len) in grind (arith, nat_tests))) in
    elim (cases_lt 0 ends) [
      | inl some ↦ (let is : nat_lt 0 ends ≡ true = grind (arith, nat_tests) in
          omega (arith, most, ap one_if is, some))
      | inr none ↦ (let is : nat_lt 0 ends ≡ false = grind (arith, nat_tests) in
          omega (arith, most, ap one_if is))
    ]

pub before_reads : (n : Node) (range : ByteRange) (at : ℕ) → range.at ≡ 4096 * (at / 4096)
    → range.len ≡ at % 4096 → reads_in range n ≤ one_if (stands_before n at)
before_reads n range at start len =
    few_reads n range (stands_before n at) (omega (arith, start, len))
    (λ lt some is.
    (let block : range.at / 4096 ≡ at / 4096 = omega (arith, start) in
    let there : is_mapped n.map (at / 4096) ≡ true = ap (is_mapped n.map) (sym block) ∙ is in
    let inside : nat_lt (4096 * (at / 4096)) n.size ≡ true =
    (let less : 4096 * (at / 4096) < n.size = omega (arith, lt, start) in grind (arith, nat_tests)) in
    let part : (at % 4096 == 0) ≡ false = (let more : 0 < at % 4096 = omega (arith, some, len) in grind (arith, nat_tests)) in
    rw (part, inside, there) refl))

pub behind_reads : (n : Node) (range : ByteRange) (end : ℕ) → range.at ≡ end
    → range.len ≡ 4096 * blocks_of end - end → reads_in range n ≤ one_if (stands_behind n end)
behind_reads n range end start len =
    few_reads n range (stands_behind n end) (omega (arith, start, len))
    (λ lt some is.
    (let block : range.at / 4096 ≡ end / 4096 = omega (arith, start) in
    let there : is_mapped n.map (end / 4096) ≡ true = ap (is_mapped n.map) (sym block) ∙ is in
    let inside : nat_lt end n.size ≡ true =
    (let less : end < n.size = omega (arith, lt, start) in grind (arith, nat_tests)) in
    let part : (end % 4096 == 0) ≡ false = (let more : 0 < end % 4096 = omega (arith, some, len) in grind (arith, nat_tests)) in
    rw (part, inside, there) refl))
