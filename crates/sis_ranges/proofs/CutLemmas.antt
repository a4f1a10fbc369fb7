-- Runs up to before a block, and from a block on.
use Rattle.std.proofs.Common.{◌≡◌, ℕ, zero, suc, ◌+◌, ◌-◌, ◌<◌, ◌≤◌, Bool, true, false, cond, List, [], ◌∷◌, length, take, drop, get_or, drop-cons, set, None, Some, refl, ap, ap₂, sym, ◌∙◌, subst, arith}
use Rattle.std.specs.Prelude.{◌==◌, ◌&&◌, nat_le, nat_lt, min}
use Rattle.std.specs.List.{AllByRecursion}
use Rattle.std.proofs.lemmas.List.{drop-drop}
use Rattle.std.proofs.lemmas.Bool.Decides.{nat_tests}
use Rattle.sis_ranges.specs.declared.run.Run.{Run}
use Rattle.sis_ranges.specs.Extents.{block_end, place_end, has_block, place_of, can_join, IsApart, AreRuns, IsWithin}
use Rattle.sis_ranges.specs.Inside.{passed_by, run_before, run_from, from_block, before, first_of, from, IsNext}

pub split : {A : Type 0} (a b : ℕ) → (a ≤ b → A) → (b < a → A) → A
split {A} a b f g = elim (nat_le a b) as (λ t. nat_le a b ≡ t → A) [
  | true ↦ λ e. f (grind (arith, nat_tests, e))
  | false ↦ λ e. g (grind (arith, nat_tests, e))
] refl

pub le_yes : (a b : ℕ) → a ≤ b → nat_le a b ≡ true
le_yes a b h = grind (arith, nat_tests, h)

pub le_no : (a b : ℕ) → b < a → nat_le a b ≡ false
le_no a b h = grind (arith, nat_tests, h)

pub lt_yes : (a b : ℕ) → a < b → nat_lt a b ≡ true
lt_yes a b h = grind (arith, nat_tests, h)

pub lt_no : (a b : ℕ) → b ≤ a → nat_lt a b ≡ false
lt_no a b h = grind (arith, nat_tests, h)

pub has_yes : (r : Run) (block : ℕ) → r.first ≤ block → block < block_end r → has_block block r ≡ true
has_yes r block low high = grind (arith, nat_tests, low, high)

pub has_no-low : (r : Run) (block : ℕ) → block < r.first → has_block block r ≡ false
has_no-low r block low = grind (arith, nat_tests, low)

pub has_no-high : (r : Run) (block : ℕ) → block_end r ≤ block → has_block block r ≡ false
has_no-high r block high = grind (arith, nat_tests, high)

-- runs that end alike can be joined with the same runs
pub can_join-same : (r t s : Run) → block_end r ≡ block_end t → place_end r ≡ place_end t → can_join r s ≡ false → can_join t s ≡ false
can_join-same r t s blocks places h = ap₂ (λ (a b : ℕ). (a == s.first) && (b == s.place)) (sym blocks) (sym places) ∙ h

-- ---- where runs begin

-- the runs begin at this block or behind it
abbrev pub IsBehind : ℕ → List Run → Type 0
IsBehind block [] = Unit {0}
IsBehind block (r ∷ rs) = block ≤ r.first

pub apart_behind : (r : Run) (rs : List Run) (block : ℕ) → IsApart r rs → block ≤ block_end r → IsBehind block rs
apart_behind r [] block apart le = tt
apart_behind r (s ∷ rs) block apart le = omega (arith, apart.0, le)

pub later_behind : (r : Run) (rs : List Run) (block : ℕ) → AreRuns (r ∷ rs) → block ≤ r.first → IsBehind block rs
later_behind r rs block h le = apart_behind r rs block h.1 (omega (arith, le))

first_behind : (rs : List Run) (i block : ℕ) (d : Run) → AreRuns rs → i < length rs → IsBehind block rs → block ≤ (get_or rs i d).first
first_behind [] i block d h lt behind = absurd (omega (arith, lt))
first_behind (r ∷ rs) zero block d h lt behind = behind
first_behind (r ∷ rs) (suc i) block d h lt behind = first_behind rs i block d h.2 (omega (arith, lt)) (later_behind r rs block h behind)

-- no block below the runs is mapped
pub place_of-low : (rs : List Run) (block below : ℕ) → AreRuns rs → IsBehind below rs → block < below → place_of rs block ≡ None
place_of-low [] block below h behind lt = refl
place_of-low (r ∷ rs) block below h behind lt =
    ap (λ (b : Bool). cond b (Some (r.place + (block - r.first))) (place_of rs block)) (has_no-low r block (omega (arith, behind, lt)))
    ∙ place_of-low rs block below h.2 (later_behind r rs below h behind) lt

pub place_of-in : (r : Run) (rs : List Run) (block : ℕ) → r.first ≤ block → block < block_end r → place_of (r ∷ rs) block ≡ Some (r.place + (block - r.first))
place_of-in r rs block low high =
    ap (λ (b : Bool). cond b (Some (r.place + (block - r.first))) (place_of rs block)) (has_yes r block low high)

pub place_of-past : (r : Run) (rs : List Run) (block : ℕ) → block_end r ≤ block → place_of (r ∷ rs) block ≡ place_of rs block
place_of-past r rs block past =
    ap (λ (b : Bool). cond b (Some (r.place + (block - r.first))) (place_of rs block)) (has_no-high r block past)

-- ---- how many runs end by a block

pub passed-yes : (r : Run) (rs : List Run) (block : ℕ) → block_end r ≤ block → passed_by block (r ∷ rs) ≡ suc (passed_by block rs)
passed-yes r rs block le = ap (λ (b : Bool). cond b (suc (passed_by block rs)) 0) (le_yes (block_end r) block le)

pub passed-no : (r : Run) (rs : List Run) (block : ℕ) → block < block_end r → passed_by block (r ∷ rs) ≡ 0
passed-no r rs block lt = ap (λ (b : Bool). cond b (suc (passed_by block rs)) 0) (le_no (block_end r) block lt)

pub passed-bound : (rs : List Run) (block : ℕ) → passed_by block rs ≤ length rs
passed-bound [] block = omega arith
passed-bound (r ∷ rs) block = split (block_end r) block
    (λ le. omega (arith, passed-yes r rs block le, passed-bound rs block))
    (λ lt. omega (arith, passed-no r rs block lt))

passed-more : (rs : List Run) (block i : ℕ) (d : Run) → AreRuns rs → i < length rs → block_end (get_or rs i d) ≤ block → i < passed_by block rs
passed-more [] block i d h lt le = absurd (omega (arith, lt))
passed-more (r ∷ rs) block zero d h lt le = omega (arith, passed-yes r rs block le)
passed-more (r ∷ rs) block (suc i) d h lt le =
    let sooner : block_end r ≤ (get_or rs i d).first = first_behind rs i (block_end r) d h.2 (omega (arith, lt)) (apart_behind r rs (block_end r) h.1 (omega arith)) in
    let more : i < passed_by block rs = passed-more rs block i d h.2 (omega (arith, lt)) le in
    omega (arith, passed-yes r rs block (omega (arith, sooner, le)), more)

passed-less : (rs : List Run) (block i : ℕ) (d : Run) → i < length rs → block < block_end (get_or rs i d) → passed_by block rs ≤ i
passed-less [] block i d lt less = absurd (omega (arith, lt))
passed-less (r ∷ rs) block zero d lt less = omega (arith, passed-no r rs block less)
passed-less (r ∷ rs) block (suc i) d lt less = split (block_end r) block
    (λ le. omega (arith, passed-yes r rs block le, passed-less rs block i d (omega (arith, lt)) less))
    (λ lt. omega (arith, passed-no r rs block lt))

pub within_at : (rs : List Run) (i : ℕ) (d : Run) → AllByRecursion IsWithin rs → i < length rs → IsWithin (get_or rs i d)
within_at [] i d within lt = absurd (omega (arith, lt))
within_at (r ∷ rs) zero d within lt = within.0
within_at (r ∷ rs) (suc i) d within lt = within_at rs i d within.1 (omega (arith, lt))

pub passed-true : (rs : List Run) (block i : ℕ) (d : Run) → AreRuns rs → i < length rs → nat_le (block_end (get_or rs i d)) block ≡ true → i < passed_by block rs
passed-true rs block i d h lt is = passed-more rs block i d h lt (grind (arith, nat_tests, is))

pub passed-false : (rs : List Run) (block i : ℕ) (d : Run) → i < length rs → nat_le (block_end (get_or rs i d)) block ≡ false → passed_by block rs ≤ i
passed-false rs block i d lt is = passed-less rs block i d lt (grind (arith, nat_tests, is))

-- the next run doesn't go on where one ends
ends_there : (r : Run) (rs : List Run) → AreRuns (r ∷ rs) → place_of rs (block_end r) ≡ Some (place_end r) → ⊥
ends_there r [] h is = absurd cc
ends_there r (s ∷ rs) h is = split s.first (block_end r)
    (λ le.
    let here : block_end r ≡ s.first = omega (arith, le, h.1.0) in
    let place : Some (s.place + (block_end r - s.first)) ≡ Some (place_end r) = sym (place_of-in s rs (block_end r) le (omega (arith, here, h.2.0))) ∙ is in
    let same : s.place + (block_end r - s.first) ≡ place_end r = cc in
    let there : s.place ≡ place_end r = omega (arith, same, here) in
    let joined : can_join r s ≡ true = grind (arith, nat_tests, here, there) in
    let none : can_join r s ≡ false = h.1.1 in
    cc)
    (λ lt. let none = place_of-low (s ∷ rs) (block_end r) s.first h.2 (omega arith) lt in cc)

-- the run behind those that end by a block
pub next_at : (runs : List Run) (block i : ℕ) (d : Run) → AreRuns runs → AllByRecursion IsWithin runs → i ≡ passed_by block runs → i < length runs → IsNext runs block (get_or runs i d)
next_at [] block i d h within is lt = absurd (omega (arith, lt))
next_at (r ∷ rs) block zero d h within is lt = split (block_end r) block
    (λ le. absurd (omega (arith, is, passed-yes r rs block le)))
    (λ less. record {
      some = h.0;
      later = less;
      within = within.0;
      low = λ q ge below. place_of-low (r ∷ rs) q r.first h (omega arith) below;
      mapped = λ q ge below. place_of-in r rs q ge below;
      whole = λ is. ends_there r rs h (sym (place_of-past r rs (block_end r) (omega arith)) ∙ is);
    })
next_at (r ∷ rs) block (suc i) d h within is lt = split (block_end r) block
    (λ le.
    let n = next_at rs block i d h.2 within.1 (omega (arith, is, passed-yes r rs block le)) (omega (arith, lt)) in
    let sooner : block_end r ≤ (get_or rs i d).first = first_behind rs i (block_end r) d h.2 (omega (arith, lt)) (apart_behind r rs (block_end r) h.1 (omega arith)) in
    record {
      some = n.some;
      later = n.later;
      within = n.within;
      low = λ q ge below. place_of-past r rs q (omega (arith, le, ge)) ∙ n.low q ge below;
      mapped = λ q ge below. place_of-past r rs q (omega (arith, sooner, ge)) ∙ n.mapped q ge below;
      whole = λ is. n.whole (sym (place_of-past r rs (block_end (get_or rs i d)) (omega (arith, sooner))) ∙ is);
    })
    (λ less. absurd (omega (arith, is, passed-no r rs block less)))

pub none_next : (runs : List Run) (block i q : ℕ) → i ≡ passed_by block runs → length runs ≤ i → block ≤ q → place_of runs q ≡ None
none_next [] block i q is all ge = refl
none_next (r ∷ rs) block i q is all ge = split (block_end r) block
    (λ le. place_of-past r rs q (omega (arith, le, ge)) ∙ none_next rs block (passed_by block rs) q refl (omega (arith, is, all, passed-yes r rs block le)) ge)
    (λ less. absurd (omega (arith, is, all, passed-no r rs block less)))

-- ---- up to before a block

pub before-yes : (r : Run) (rs : List Run) (block : ℕ) → block_end r ≤ block → before block (r ∷ rs) ≡ r ∷ before block rs
before-yes r rs block le = ap (λ (b : Bool). cond b (r ∷ before block rs) (cond (nat_lt r.first block) (run_before block r ∷ []) [])) (le_yes (block_end r) block le)

pub before-in : (r : Run) (rs : List Run) (block : ℕ) → r.first < block → block < block_end r → before block (r ∷ rs) ≡ run_before block r ∷ []
before-in r rs block low high =
    ap (λ (b : Bool). cond b (r ∷ before block rs) (cond (nat_lt r.first block) (run_before block r ∷ []) [])) (le_no (block_end r) block high)
    ∙ ap (λ (b : Bool). cond b (run_before block r ∷ []) []) (lt_yes r.first block low)

pub before-no : (r : Run) (rs : List Run) (block : ℕ) → block ≤ r.first → block < block_end r → before block (r ∷ rs) ≡ []
before-no r rs block low high =
    ap (λ (b : Bool). cond b (r ∷ before block rs) (cond (nat_lt r.first block) (run_before block r ∷ []) [])) (le_no (block_end r) block high)
    ∙ ap (λ (b : Bool). cond b (run_before block r ∷ []) []) (lt_no r.first block low)

-- two reads of one place give one run
pub same_there : (rs : List Run) (i : ℕ) (r s : Run) → i < length rs → r ≡ get_or rs i r → s ≡ get_or rs i s → r ≡ s
same_there [] i r s lt at_r at_s = absurd (omega (arith, lt))
same_there (q ∷ qs) zero r s lt at_r at_s = at_r ∙ sym at_s
same_there (q ∷ qs) (suc i) r s lt at_r at_s = same_there qs i r s (omega (arith, lt)) at_r at_s

nothing : (rs : List Run) → length rs ≡ 0 → rs ≡ []
nothing [] e = refl
nothing (r ∷ rs) e = absurd (omega (arith, e))

-- how many begin before a block
pub begun-in : (rs : List Run) (block i : ℕ) (d : Run) → i ≡ passed_by block rs → i < length rs → (get_or rs i d).first < block → length (before block rs) ≡ suc i
begun-in [] block i d is lt low = absurd (omega (arith, lt))
begun-in (r ∷ rs) block zero d is lt low = split (block_end r) block
    (λ le. absurd (omega (arith, is, passed-yes r rs block le)))
    (λ less. ap (λ (l : List Run). length l) (before-in r rs block low less))
begun-in (r ∷ rs) block (suc i) d is lt low = split (block_end r) block
    (λ le. ap (λ (l : List Run). length l) (before-yes r rs block le)
    ∙ ap suc (begun-in rs block i d (omega (arith, is, passed-yes r rs block le)) (omega (arith, lt)) low))
    (λ less. absurd (omega (arith, is, passed-no r rs block less)))

pub begun-out : (rs : List Run) (block i : ℕ) (d : Run) → i ≡ passed_by block rs → (i < length rs → block ≤ (get_or rs i d).first) → length (before block rs) ≡ i
begun-out [] block zero d is low = refl
begun-out [] block (suc i) d is low = absurd (omega (arith, is))
begun-out (r ∷ rs) block zero d is low = split (block_end r) block
    (λ le. absurd (omega (arith, is, passed-yes r rs block le)))
    (λ less. ap (λ (l : List Run). length l) (before-no r rs block (low (omega arith)) less))
begun-out (r ∷ rs) block (suc i) d is low = split (block_end r) block
    (λ le. ap (λ (l : List Run). length l) (before-yes r rs block le)
    ∙ ap suc (begun-out rs block i d (omega (arith, is, passed-yes r rs block le)) (λ lt. low (omega (arith, lt)))))
    (λ less. absurd (omega (arith, is, passed-no r rs block less)))

-- the last of them begins by the block
pub begun-first : (rs : List Run) (block n : ℕ) (d : Run) → suc n ≡ length (before block rs) → (get_or rs n d).first ≤ block
begun-first [] block n d is = absurd (omega (arith, is))
begun-first (r ∷ rs) block zero d is = split (block_end r) block
    (λ le. omega (arith, le))
    (λ less. split block r.first
    (λ ge. absurd (omega (arith, is, ap (λ (l : List Run). length l) (before-no r rs block ge less))))
    (λ below. omega (arith, below)))
begun-first (r ∷ rs) block (suc n) d is = split (block_end r) block
    (λ le. begun-first rs block n d (omega (arith, is, ap (λ (l : List Run). length l) (before-yes r rs block le))))
    (λ less. split block r.first
    (λ ge. absurd (omega (arith, is, ap (λ (l : List Run). length l) (before-no r rs block ge less))))
    (λ below. absurd (omega (arith, is, ap (λ (l : List Run). length l) (before-in r rs block below less)))))

-- it is cut, where it ends behind the block
trim-cut : (rs : List Run) (block n : ℕ) (d : Run) → suc n ≡ length (before block rs) → block < block_end (get_or rs n d)
    → take (suc n) (set rs n (run_before block (get_or rs n d))) ≡ before block rs
trim-cut [] block n d is past = absurd (omega (arith, is))
trim-cut (r ∷ rs) block zero d is past = split block r.first
    (λ ge. absurd (omega (arith, is, ap (λ (l : List Run). length l) (before-no r rs block ge past))))
    (λ below. sym (before-in r rs block below past))
trim-cut (r ∷ rs) block (suc n) d is past = split (block_end r) block
    (λ le. ap (λ (l : List Run). r ∷ l) (trim-cut rs block n d (omega (arith, is, ap (λ (l : List Run). length l) (before-yes r rs block le))) past) ∙ sym (before-yes r rs block le))
    (λ less. split block r.first
    (λ ge. absurd (omega (arith, is, ap (λ (l : List Run). length l) (before-no r rs block ge less))))
    (λ below. absurd (omega (arith, is, ap (λ (l : List Run). length l) (before-in r rs block below less)))))

-- and stays, where it ends by the block
pub trim-keep : (rs : List Run) (block n : ℕ) (d : Run) → suc n ≡ length (before block rs) → block_end (get_or rs n d) ≤ block
    → take (suc n) rs ≡ before block rs
trim-keep [] block n d is by = absurd (omega (arith, is))
trim-keep (r ∷ rs) block zero d is by =
    ap (λ (l : List Run). r ∷ l) (sym (nothing (before block rs) (omega (arith, is, ap (λ (l : List Run). length l) (before-yes r rs block by)))))
    ∙ sym (before-yes r rs block by)
trim-keep (r ∷ rs) block (suc n) d is by = split (block_end r) block
    (λ le. ap (λ (l : List Run). r ∷ l) (trim-keep rs block n d (omega (arith, is, ap (λ (l : List Run). length l) (before-yes r rs block le))) by) ∙ sym (before-yes r rs block le))
    (λ less. split block r.first
    (λ ge. absurd (omega (arith, is, ap (λ (l : List Run). length l) (before-no r rs block ge less))))
    (λ below. absurd (omega (arith, is, ap (λ (l : List Run). length l) (before-in r rs block below less)))))

pub trim-none : (rs : List Run) (block : ℕ) → 0 ≡ length (before block rs) → take 0 rs ≡ before block rs
trim-none [] block is = refl
trim-none (r ∷ rs) block is = sym (nothing (before block (r ∷ rs)) (sym is))

pub trim-set : (rs : List Run) (block k n : ℕ) (r s t : Run) → k ≡ suc n → k ≡ length (before block rs) → n < length rs
    → r ≡ get_or rs n r → s ≡ get_or rs n s → t ≡ get_or rs n t → block < block_end s
    → take k (set rs n (record { first = r.first; count = block - t.first; place = r.place })) ≡ before block rs
trim-set rs block k n r s t next is lt at_r at_s at_t past =
    ap₂ (λ (j m : ℕ). take j (set rs n (record { first = r.first; count = block - m; place = r.place }))) next (ap (λ (q : Run). q.first) (same_there rs n t r lt at_t at_r))
    ∙ ap (λ (q : Run). take (suc n) (set rs n (run_before block q))) at_r
    ∙ trim-cut rs block n r (sym next ∙ is) (subst (λ (q : Run). block < block_end q) (same_there rs n s r lt at_s at_r ∙ at_r) past)

-- ---- from a block on

pub from-yes : (r : Run) (rs : List Run) (block : ℕ) → block_end r ≤ block → from block (r ∷ rs) ≡ from block rs
from-yes r rs block le = ap (λ (b : Bool). cond b (from block rs) (from_block block r ∷ rs)) (le_yes (block_end r) block le)

from-less : (r : Run) (rs : List Run) (block : ℕ) → block < block_end r → from block (r ∷ rs) ≡ from_block block r ∷ rs
from-less r rs block less = ap (λ (b : Bool). cond b (from block rs) (from_block block r ∷ rs)) (le_no (block_end r) block less)

pub from-in : (r : Run) (rs : List Run) (block : ℕ) → r.first < block → block < block_end r → from block (r ∷ rs) ≡ run_from block r ∷ rs
from-in r rs block low high =
    from-less r rs block high ∙ ap (λ (b : Bool). cond b (run_from block r) r ∷ rs) (lt_yes r.first block low)

pub from-no : (r : Run) (rs : List Run) (block : ℕ) → block ≤ r.first → block < block_end r → from block (r ∷ rs) ≡ r ∷ rs
from-no r rs block low high =
    from-less r rs block high ∙ ap (λ (b : Bool). cond b (run_from block r) r ∷ rs) (lt_no r.first block low)

-- the first of them, by how many end before it
pub first-from : (runs : List Run) (block i : ℕ) (r : Run) → i ≡ passed_by block runs → i < length runs → r ≡ get_or runs i r
    → first_of (from block runs) ≡ Some (from_block block r)
first-from [] block i r is lt there = absurd (omega (arith, lt))
first-from (s ∷ rs) block zero r is lt there = split (block_end s) block
    (λ le. absurd (omega (arith, is, passed-yes s rs block le)))
    (λ less. ap first_of (from-less s rs block less) ∙ ap (λ (q : Run). Some (from_block block q)) (sym there))
first-from (s ∷ rs) block (suc i) r is lt there = split (block_end s) block
    (λ le. ap first_of (from-yes s rs block le) ∙ first-from rs block i r (omega (arith, is, passed-yes s rs block le)) (omega (arith, lt)) there)
    (λ less. absurd (omega (arith, is, passed-no s rs block less)))

pub from-none : (runs : List Run) (block : ℕ) → length runs ≤ passed_by block runs → from block runs ≡ []
from-none [] block all = refl
from-none (s ∷ rs) block all = split (block_end s) block
    (λ le. from-yes s rs block le ∙ from-none rs block (omega (arith, all, passed-yes s rs block le)))
    (λ less. absurd (omega (arith, all, passed-no s rs block less)))

-- those behind the first
pub rest-from : (runs : List Run) (block : ℕ) → drop (suc (passed_by block runs)) runs ≡ drop 1 (from block runs)
rest-from [] block = refl
rest-from (s ∷ rs) block = split (block_end s) block
    (λ le. ap (λ (n : ℕ). drop (suc n) (s ∷ rs)) (passed-yes s rs block le) ∙ rest-from rs block ∙ ap (λ (l : List Run). drop 1 l) (sym (from-yes s rs block le)))
    (λ less. ap (λ (n : ℕ). drop (suc n) (s ∷ rs)) (passed-no s rs block less) ∙ ap (λ (l : List Run). drop 1 l) (sym (from-less s rs block less)))

pub drop_all : (rs : List Run) (i : ℕ) → length rs ≤ i → drop i rs ≡ []
drop_all [] zero le = refl
drop_all [] (suc i) le = refl
drop_all (r ∷ rs) zero le = absurd (omega (arith, le))
drop_all (r ∷ rs) (suc i) le = drop_all rs i (omega (arith, le))

pub rest-from-by : (runs : List Run) (block stop : ℕ) → stop ≡ min (passed_by block runs + 1) (length runs) → drop stop runs ≡ drop 1 (from block runs)
rest-from-by runs block stop is = split (length runs) (passed_by block runs)
    (λ all. drop_all runs stop (omega (arith, is, all)) ∙ ap (λ (l : List Run). drop 1 l) (sym (from-none runs block all)))
    (λ some.
    let next : stop ≡ suc (passed_by block runs) = omega (arith, is, some) in
    ap (λ (n : ℕ). drop n runs) next ∙ rest-from runs block)

-- ---- their number

pub length-before : (rs : List Run) (block : ℕ) → length (before block rs) ≤ length rs
length-before [] block = omega arith
length-before (r ∷ rs) block = split (block_end r) block
    (λ le. subst (λ l. length l ≤ suc (length rs)) (sym (before-yes r rs block le)) (omega (arith, length-before rs block)))
    (λ less. split block r.first
    (λ ge. subst (λ l. length l ≤ suc (length rs)) (sym (before-no r rs block ge less)) (omega arith))
    (λ below. subst (λ l. length l ≤ suc (length rs)) (sym (before-in r rs block below less)) (omega arith)))

-- ---- where a stretch begins and ends

pub length-before-passed : (rs : List Run) (block : ℕ) → length (before block rs) ≤ passed_by block rs + 1
length-before-passed [] block = omega arith
length-before-passed (r ∷ rs) block = split (block_end r) block
    (λ le. omega (arith, ap (λ (l : List Run). length l) (before-yes r rs block le), passed-yes r rs block le, length-before-passed rs block))
    (λ less. split block r.first
    (λ ge. omega (arith, ap (λ (l : List Run). length l) (before-no r rs block ge less)))
    (λ below. omega (arith, ap (λ (l : List Run). length l) (before-in r rs block below less))))

pub passed-rises : (rs : List Run) (first end : ℕ) → first ≤ end → passed_by first rs ≤ passed_by end rs
passed-rises [] first end le = omega arith
passed-rises (r ∷ rs) first end le = split (block_end r) first
    (λ by. omega (arith, passed-yes r rs first by, passed-yes r rs end (omega (arith, by, le)), passed-rises rs first end le))
    (λ less. omega (arith, passed-no r rs first less))

pub stretch-order : (rs : List Run) (first end stop : ℕ) → first ≤ end → stop ≡ min (passed_by end rs + 1) (length rs) → length (before first rs) ≤ stop
stretch-order rs first end stop le is =
    let a : length (before first rs) ≤ passed_by first rs + 1 = length-before-passed rs first in
    let b : passed_by first rs ≤ passed_by end rs = passed-rises rs first end le in
    let c : length (before first rs) ≤ length rs = length-before rs first in
    omega (arith, a, b, c, is)

pub drop_next : (rs : List Run) (i : ℕ) (d : Run) → i < length rs → drop i rs ≡ get_or rs i d ∷ drop (i + 1) rs
drop_next rs i d lt =
    let e : suc i ≡ i + 1 = omega arith in
    drop-cons rs i d lt ∙ ap (λ (k : ℕ). get_or rs i d ∷ drop k rs) e

-- the run that stands somewhere, by any other default
pub there_at : (rs : List Run) (i : ℕ) (d : Run) → i < length rs → get_or rs i d ≡ get_or rs i (get_or rs i d)
there_at [] i d lt = absurd (omega (arith, lt))
there_at (r ∷ rs) zero d lt = refl
there_at (r ∷ rs) (suc i) d lt = there_at rs i d (omega (arith, lt))

-- what is the same from a place on is so from a later one on
pub later_drop : (xs ys : List Run) (i j : ℕ) → i ≤ j → drop i xs ≡ drop i ys → drop j xs ≡ drop j ys
later_drop xs ys i j le same =
    let sum : j ≡ i + (j - i) = omega (arith, le) in
    ap (λ (n : ℕ). drop n xs) sum ∙ sym (drop-drop (j - i) i xs) ∙ ap (λ (l : List Run). drop (j - i) l) same
    ∙ drop-drop (j - i) i ys ∙ sym (ap (λ (n : ℕ). drop n ys) sum)
