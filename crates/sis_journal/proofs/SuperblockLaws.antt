-- The first block that is read as a layout is spelled so, and the other way round.
use Rattle.std.proofs.Common.{◌≡◌, ℕ, ◌+◌, ◌*◌, ◌<◌, ◌≤◌, Bool, true, false, cond, List, ◌++◌, length, take, drop, replicate, slice_index, Option, Some, None, refl, sym, ap, subst, ◌∙◌, arith}
use Rattle.std.specs.Prelude.{Result, Ok, Err, IfOk, nat_lt, nat_le, nat_eq, not, ◌==◌, ◌||◌, position}
use Rattle.std.specs.Cmp.Lexicographic.{pointwise, same_text}
use Rattle.std.specs.List.{position_or_len}
use Rattle.std.proofs.lemmas.List.{take-append-drop, length-drop, drop-drop, length-replicate, get_or-replicate}
use Rattle.std.proofs.lemmas.List.Sums.{fails_before_first}
use Rattle.std.proofs.lemmas.Grind.{same_number_lists}
use Rattle.std.proofs.lemmas.Bool.Decides.{nat_tests}
use Rattle.byteorder.specs.Endian.{little_bytes}
use Rattle.byteorder.specs.Numbers.{little_number-reads_back}
use Rattle.std.proofs.lemmas.List.Folds.{prefix_len-replicate}
use Rattle.sis_disk.specs.declared.layout.Layout.{Layout}
use Rattle.sis_disk.specs.declared.layout.ImageKind.TheVariants as kind
use Rattle.sis_disk.specs.Layout.{IsLayout}
use Rattle.sis_disk.specs.Superblock.{ImageFault, field, zero_fault, magic, superblock, superblock_at}
use Rattle.sis_reading.specs.Steps.{◌>>=◌, guard}
use Rattle.sis_disk.proofs.Bytes.{IsBytes, IsBytes-drop, bytes_again}

-- the field at an offset, and the bytes behind it
field4_back : (at : ℕ) (bytes : List ℕ) → IsBytes bytes → at + 4 ≤ length bytes → drop at bytes ≡ little_bytes 4 (field 4 at bytes) ++ drop (at + 4) bytes
field4_back at bytes fits long =
    sym (take-append-drop 4 (drop at bytes))
    ∙ ap (λ (l : List ℕ). l ++ drop 4 (drop at bytes)) (sym (bytes_again 4 (drop at bytes) (IsBytes-drop at bytes fits) (omega (arith, length-drop at bytes))))
    ∙ ap (λ (l : List ℕ). little_bytes 4 (field 4 at bytes) ++ l) (drop-drop 4 at bytes)

field8_back : (at : ℕ) (bytes : List ℕ) → IsBytes bytes → at + 8 ≤ length bytes → drop at bytes ≡ little_bytes 8 (field 8 at bytes) ++ drop (at + 8) bytes
field8_back at bytes fits long =
    sym (take-append-drop 8 (drop at bytes))
    ∙ ap (λ (l : List ℕ). l ++ drop 8 (drop at bytes)) (sym (bytes_again 8 (drop at bytes) (IsBytes-drop at bytes fits) (omega (arith, length-drop at bytes))))
    ∙ ap (λ (l : List ℕ). little_bytes 8 (field 8 at bytes) ++ l) (drop-drop 8 at bytes)

not_set : (b : ℕ) → not (b == 0) ≡ false → b ≡ 0
not_set b e = grind (arith, nat_tests)

past_end : (k n : ℕ) → cond (nat_lt k n) (Some k) None ≡ None → n ≤ k
past_end k n e = grind (arith, nat_tests)

-- where no byte is set, all are 0
none_set : (xs : List ℕ) → position (λ b. not (b == 0)) xs ≡ None → xs ≡ replicate (length xs) 0
none_set xs e =
    let end : length xs ≤ position_or_len (λ b. not (b == 0)) xs = past_end _ _ e in
    same_number_lists xs (replicate (length xs) 0) (sym (length-replicate (length xs) 0))
    (λ i lt. not_set (slice_index xs i) (fails_before_first (λ b. not (b == 0)) xs i 0 (omega arith)) ∙ sym (get_or-replicate (length xs) i 0 0 lt))

-- each field was judged right
record Passed (a b c d e f g h : Bool) (z : Option ℕ) (x l : Layout) : Type 0 where
  pub size : a ≡ false
  pub text : b ≡ false
  pub version : c ≡ false
  pub letter : d ≡ false
  pub total : e ≡ false
  pub stated : f ≡ false
  pub area : g ≡ false
  pub log : h ≡ false
  pub zeros : z ≡ None
  pub value : x ≡ l

passed : (a b c d e f g h : Bool) (z : Option ℕ) (x l : Layout)
    → (guard (0, kind.Length) a (tt {0}) >>= λ _. guard (0, kind.Magic) b (tt {0}) >>= λ _. guard (8, kind.Version) c (tt {0}) >>= λ _. guard (12, kind.Letter) d (tt {0}) >>= λ _. guard (16, kind.Total) e (tt {0}) >>= λ _. guard (16, kind.Length) f (tt {0}) >>= λ _. guard (24, kind.Area) g (tt {0}) >>= λ _. guard (32, kind.Log) h (tt {0}) >>= λ _. zero_fault z >>= λ _. Ok x) ≡ Ok l
    → Passed a b c d e f g h z x l
passed true b c d e f g h z x l is = absurd cc
passed false true c d e f g h z x l is = absurd cc
passed false false true d e f g h z x l is = absurd cc
passed false false false true e f g h z x l is = absurd cc
passed false false false false true f g h z x l is = absurd cc
passed false false false false false true g h z x l is = absurd cc
passed false false false false false false true h z x l is = absurd cc
passed false false false false false false false true z x l is = absurd cc
passed false false false false false false false false (Some at) x l is = absurd cc
passed false false false false false false false false None x l is =
    record { size = refl; text = refl; version = refl; letter = refl; total = refl; stated = refl; area = refl; log = refl; zeros = refl; value = cc }

is_text : (xs ys : List ℕ) → not (pointwise nat_eq xs ys) ≡ false → xs ≡ ys
is_text xs ys e = same_text xs ys (not_false (pointwise nat_eq xs ys) e)
  where
    not_false : (b : Bool) → not b ≡ false → true ≡ b
    not_false true e = refl
    not_false false e = absurd cc

is_number : (m n : ℕ) → not (m == n) ≡ false → m ≡ n
is_number m n e = grind (arith, nat_tests)

is_within : (n low high : ℕ) → (nat_lt n low || nat_lt high n) ≡ false → (low ≤ n) × (n ≤ high)
is_within n low high e = grind (arith, nat_tests)

is_area : (area total : ℕ) → (nat_lt area 1 || nat_lt 16384 area || nat_le total (2 + 2 * area)) ≡ false
    → (1 ≤ area) × (area ≤ 16384) × (2 + 2 * area < total)
is_area area total e = grind (arith, nat_tests)

abbrev stated : List ℕ → Layout
stated block = record { total = field 8 16 block; area = field 8 24 block; log = field 8 32 block; letter = field 4 12 block }

-- What is read as a layout is its superblock.
pub superblock_at-found : (size : ℕ) (block : List ℕ) (l : Layout) → IsBytes block → length block ≡ 4096
    → superblock_at size block ≡ Ok l → (block ≡ superblock l) × IsLayout l × (size ≡ 4096 * l.total)
unfolding superblock_at superblock
superblock_at-found size block l fits long e =
    let p = passed (nat_lt size 4096) (not (pointwise nat_eq (take 8 block) magic)) (not (field 4 8 block == 1)) (nat_lt (field 4 12 block) 65 || nat_lt 90 (field 4 12 block))
    (nat_lt (field 8 16 block) 16 || nat_lt 1048576 (field 8 16 block)) (not (size == 4096 * field 8 16 block))
    (nat_lt (field 8 24 block) 1 || nat_lt 16384 (field 8 24 block) || nat_le (field 8 16 block) (2 + 2 * field 8 24 block))
    (not (field 8 32 block == 0)) (position (λ b. not (b == 0)) (drop 40 block)) (stated block) l e in
    let zeros : drop 40 block ≡ replicate 4056 0 =
    none_set (drop 40 block) p.zeros ∙ (let n : length (drop 40 block) ≡ 4056 = omega (arith, length-drop 40 block) in ap (λ (n : ℕ). replicate n 0) n) in
    let from_area : drop 24 block ≡ little_bytes 8 (field 8 24 block) ++ little_bytes 8 (field 8 32 block) ++ replicate 4056 0 =
    field8_back 24 block fits (omega arith) ∙ ap (λ (x : List ℕ). little_bytes 8 (field 8 24 block) ++ x)
    (field8_back 32 block fits (omega arith) ∙ ap (λ (x : List ℕ). little_bytes 8 (field 8 32 block) ++ x) zeros) in
    let from_letter : drop 12 block ≡ little_bytes 4 (field 4 12 block) ++ little_bytes 8 (field 8 16 block) ++ little_bytes 8 (field 8 24 block) ++ little_bytes 8 (field 8 32 block) ++ replicate 4056 0 =
    field4_back 12 block fits (omega arith) ∙ ap (λ (x : List ℕ). little_bytes 4 (field 4 12 block) ++ x)
    (field8_back 16 block fits (omega arith) ∙ ap (λ (x : List ℕ). little_bytes 8 (field 8 16 block) ++ x) from_area) in
    let whole : block ≡ superblock (stated block) =
    sym (take-append-drop 8 block) ∙ ap (λ (x : List ℕ). x ++ drop 8 block) (is_text _ _ p.text)
    ∙ ap (λ (x : List ℕ). magic ++ x)
    (field4_back 8 block fits (omega arith) ∙ ap (λ (n : ℕ). little_bytes 4 n ++ drop 12 block) (is_number _ _ p.version)
    ∙ ap (λ (x : List ℕ). little_bytes 4 1 ++ x) from_letter) in
    let letter = is_within (field 4 12 block) 65 90 p.letter in
    let total = is_within (field 8 16 block) 16 1048576 p.total in
    let area = is_area (field 8 24 block) (field 8 16 block) p.area in
    let log = is_number (field 8 32 block) 0 p.log in
    let limits : IsLayout (stated block) = record {
      total_low = total.0;
      total_high = total.1;
      area_low = area.0;
      area_high = area.1;
      log_high = omega (arith, log);
      letter_low = letter.0;
      letter_high = letter.1;
      has_data = omega (arith, log, area.2);
    } in
    subst (λ (x : Layout). (block ≡ superblock x) × IsLayout x × (size ≡ 4096 * x.total)) p.value (whole, limits, is_number _ _ p.stated)

-- the same of what a function returned
pub is_found : (size : ℕ) (block : List ℕ) (r : Result Layout ImageFault) → IsBytes block → length block ≡ 4096
    → r ≡ superblock_at size block → IfOk r (λ l. (block ≡ superblock l) × IsLayout l × (size ≡ 4096 * l.total))
is_found size block (Ok l) fits long e = superblock_at-found size block l fits long (sym e)
is_found size block (Err fault) fits long e = tt

-- an image that is shorter than a block
pub superblock_at-short : (size : ℕ) (block : List ℕ) → size < 4096 → superblock_at size block ≡ Err (0, kind.Length)
unfolding superblock_at
superblock_at-short size block short = let e : nat_lt size 4096 ≡ true = grind (arith, nat_tests) in rw e refl

goes : (a b c d e f g h : Bool) (z : Option ℕ) (x l : Layout) → a ≡ false → b ≡ false → c ≡ false → d ≡ false → e ≡ false → f ≡ false → g ≡ false → h ≡ false → z ≡ None → x ≡ l
    → (guard (0, kind.Length) a (tt {0}) >>= λ _. guard (0, kind.Magic) b (tt {0}) >>= λ _. guard (8, kind.Version) c (tt {0}) >>= λ _. guard (12, kind.Letter) d (tt {0}) >>= λ _. guard (16, kind.Total) e (tt {0}) >>= λ _. guard (16, kind.Length) f (tt {0}) >>= λ _. guard (24, kind.Area) g (tt {0}) >>= λ _. guard (32, kind.Log) h (tt {0}) >>= λ _. zero_fault z >>= λ _. Ok x) ≡ Ok l
goes a b c d e f g h z x l pa pb pc pd pe pf pg ph pz px = rw (pa, pb, pc, pd, pe, pf, pg, ph, pz, px) refl

at_end : (k n : ℕ) → n ≤ k → cond (nat_lt k n) (Some k) None ≡ None
at_end k n le = grind (arith, nat_tests)

none_set_in_zeros : (n : ℕ) → position (λ b. not (b == 0)) (replicate n 0) ≡ None
none_set_in_zeros n =
    let zeros : List ℕ = replicate n 0 in
    let len : length zeros ≡ n = length-replicate {A = ℕ} n 0 in
    let end : position_or_len (λ b. not (b == 0)) zeros ≡ n = prefix_len-replicate (λ b. not (not (b == 0))) n 0 refl in
    at_end _ _ (omega arith)

abbrev built : ℕ → ℕ → ℕ → ℕ → Layout
built total area log letter = record { total = total; area = area; log = log; letter = letter }

same_layout : (a b c d : ℕ) (l : Layout) → a ≡ l.total → b ≡ l.area → c ≡ l.log → d ≡ l.letter → built a b c d ≡ l
same_layout a b c d l p q r s = rw (p, q, r, s) refl

right_range : (n x low high : ℕ) → n ≡ x → low ≤ x → x ≤ high → (nat_lt n low || nat_lt high n) ≡ false
right_range n x low high e lo hi = grind (arith, nat_tests)

right_number : (m n : ℕ) → m ≡ n → not (m == n) ≡ false
right_number m n e = grind (arith, nat_tests)

right_area : (m n area total : ℕ) → m ≡ area → n ≡ total → 1 ≤ area → area ≤ 16384 → 2 + 2 * area < total
    → (nat_lt m 1 || nat_lt 16384 m || nat_le n (2 + 2 * m)) ≡ false
right_area m n area total p q lo hi le = grind (arith, nat_tests)

long_enough : (size : ℕ) → 4096 ≤ size → nat_lt size 4096 ≡ false
long_enough size le = grind (arith, nat_tests)

-- A layout's superblock is read as the layout.
pub superblock_at-only : (l : Layout) → IsLayout l → l.log ≡ 0 → superblock_at (4096 * l.total) (superblock l) ≡ Ok l
unfolding superblock_at superblock
superblock_at-only l is log =
    let from_log : List ℕ = little_bytes 8 l.log ++ replicate 4056 0 in
    let from_area : List ℕ = little_bytes 8 l.area ++ from_log in
    let from_total : List ℕ = little_bytes 8 l.total ++ from_area in
    let letter : field 4 12 (superblock l) ≡ l.letter = little_number-reads_back 4 l.letter from_total (omega (arith, is.letter_high)) in
    let total : field 8 16 (superblock l) ≡ l.total = little_number-reads_back 8 l.total from_area (omega (arith, is.total_high)) in
    let area : field 8 24 (superblock l) ≡ l.area = little_number-reads_back 8 l.area from_log (omega (arith, is.area_high)) in
    let log_is : field 8 32 (superblock l) ≡ l.log = little_number-reads_back 8 l.log (replicate 4056 0) (omega (arith, log)) in
    goes _ _ _ _ _ _ _ _ _ _ l (long_enough _ (omega (arith, is.total_low))) refl refl (right_range _ l.letter 65 90 letter is.letter_low is.letter_high)
    (right_range _ l.total 16 1048576 total is.total_low is.total_high) (right_number _ _ (ap (λ (n : ℕ). 4096 * n) (sym total)))
    (right_area _ _ l.area l.total area total is.area_low is.area_high (omega (arith, is.has_data))) (right_number _ 0 (log_is ∙ log)) (none_set_in_zeros 4056) (same_layout _ _ _ _ l total area log_is letter)
