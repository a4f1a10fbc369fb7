-- Runs with others in place of some, and what map they stand for.
use Rattle.std.proofs.Common.{◌≡◌, ℕ, zero, suc, ◌+◌, ◌-◌, ◌<◌, ◌≤◌, Bool, true, false, cond, List, [], ◌∷◌, length, drop, get_or, Option, None, Some, refl, sym, ap, ap₂, ◌∙◌, subst, arith}
use Rattle.std.specs.Prelude.{◌^◌, min, nat_lt, not, IfSome}
use Rattle.std.specs.List.{AllByRecursion}
use Rattle.std.specs.Option.{option_or}
use Rattle.std.proofs.lemmas.Bool.Decides.{nat_tests}
use Rattle.std.proofs.lemmas.Cmp.{nat_cmp_total}
use Rattle.std.specs.FinMap.{retain_keys, same_map, nat_cmp-IsAntisymmetric}
use Rattle.sis_ranges.specs.declared.run.Run.{Run}
use Rattle.sis_ranges.specs.Extents.{block_end, in_stretch, has_block, place_of, map_of, with_blocks, IsApart, AreRuns, IsWithin}
use Rattle.sis_ranges.specs.Inside.{blocks_in, blocks_between, shared, before, first_of, from, passed_by, run_before, run_from, with_some, put_over, AreExtents, AreCounted}
use Rattle.sis_ranges.proofs.CutLemmas.{can_join-same, split, IsBehind, apart_behind, later_behind, passed-yes, passed-no, place_of-low, place_of-in, place_of-past, has_yes, has_no-low, has_no-high, lt_yes, lt_no, drop_next, before-yes, before-in, before-no, from-yes, from-in, from-no}
use Rattle.sis_ranges.proofs.JoinLemmas.{end_of, AreRuns-with_run, AreRuns-with_runs, end_of-with_run, length-with_run, length-with_runs, blocks-with_run, blocks-with_runs, within-with_run, within-with_runs, place_of-append, place_of-with_run, place_of-with_runs}
use Rattle.sis_ranges.proofs.MapLemmas.{blocks_bound, get-map_of, get-with_blocks, get-without_stretch, get-front}

-- ---- up to before a block

apart-before : (r : Run) (rs : List Run) (block : ℕ) → IsApart r rs → IsApart r (before block rs)
apart-before r [] block apart = tt
apart-before r (s ∷ rs) block apart = split (block_end s) block
    (λ le. subst (IsApart r) (sym (before-yes s rs block le)) apart)
    (λ less. split block s.first
    (λ ge. subst (IsApart r) (sym (before-no s rs block ge less)) tt)
    (λ below. subst (IsApart r) (sym (before-in s rs block below less)) apart))

pub AreRuns-before : (rs : List Run) (block : ℕ) → AreRuns rs → AreRuns (before block rs)
AreRuns-before [] block h = tt
AreRuns-before (r ∷ rs) block h = split (block_end r) block
    (λ le. subst AreRuns (sym (before-yes r rs block le)) (h.0, apart-before r rs block h.1, AreRuns-before rs block h.2))
    (λ less. split block r.first
    (λ ge. subst AreRuns (sym (before-no r rs block ge less)) tt)
    (λ below. subst AreRuns (sym (before-in r rs block below less)) (omega (arith, below), tt, tt)))

pub within-before : (rs : List Run) (block : ℕ) → AllByRecursion IsWithin rs → AllByRecursion IsWithin (before block rs)
within-before [] block h = tt
within-before (r ∷ rs) block h = split (block_end r) block
    (λ le. subst (AllByRecursion IsWithin) (sym (before-yes r rs block le)) (h.0, within-before rs block h.1))
    (λ less. split block r.first
    (λ ge. subst (AllByRecursion IsWithin) (sym (before-no r rs block ge less)) tt)
    (λ below. subst (AllByRecursion IsWithin) (sym (before-in r rs block below less))
    (record { blocks = omega (arith, below, less, h.0.blocks); places = omega (arith, below, less, h.0.places) }, tt)))

ends_by_both : (r : Run) (rs : List Run) (block : ℕ) → block_end r ≤ block → end_of rs ≤ block → end_of (r ∷ rs) ≤ block
ends_by_both r [] block one others = one
ends_by_both r (s ∷ rs) block one others = others

pub end_of-before : (rs : List Run) (block : ℕ) → end_of (before block rs) ≤ block
end_of-before [] block = omega arith
end_of-before (r ∷ rs) block = split (block_end r) block
    (λ le. subst (λ l. end_of l ≤ block) (sym (before-yes r rs block le)) (ends_by_both r (before block rs) block le (end_of-before rs block)))
    (λ less. split block r.first
    (λ ge. subst (λ l. end_of l ≤ block) (sym (before-no r rs block ge less)) (omega arith))
    (λ below. subst (λ l. end_of l ≤ block) (sym (before-in r rs block below less)) (omega (arith, below))))

pub place_of-before-low : (rs : List Run) (block q : ℕ) → AreRuns rs → q < block → place_of (before block rs) q ≡ place_of rs q
place_of-before-low [] block q h lt = refl
place_of-before-low (r ∷ rs) block q h lt = split (block_end r) block
    (λ le. ap (λ (l : List Run). place_of l q) (before-yes r rs block le) ∙ ap (cond (has_block q r) (Some (r.place + (q - r.first)))) (place_of-before-low rs block q h.2 lt))
    (λ less. split block r.first
    (λ ge. ap (λ (l : List Run). place_of l q) (before-no r rs block ge less) ∙ sym (place_of-low (r ∷ rs) q block h ge lt))
    (λ below. ap (λ (l : List Run). place_of l q) (before-in r rs block below less) ∙ split r.first q
    (λ ge. place_of-in (run_before block r) [] q ge (omega (arith, lt)) ∙ sym (place_of-in r rs q ge (omega (arith, lt, less))))
    (λ low. ap (λ (b : Bool). cond b (Some (r.place + (q - r.first))) None) (has_no-low (run_before block r) q low)
    ∙ sym (place_of-low (r ∷ rs) q r.first h (omega arith) low))))

pub place_of-before-high : (rs : List Run) (block q : ℕ) → block ≤ q → place_of (before block rs) q ≡ None
place_of-before-high [] block q ge = refl
place_of-before-high (r ∷ rs) block q ge = split (block_end r) block
    (λ le. ap (λ (l : List Run). place_of l q) (before-yes r rs block le) ∙ place_of-past r (before block rs) q (omega (arith, le, ge)) ∙ place_of-before-high rs block q ge)
    (λ less. split block r.first
    (λ low. ap (λ (l : List Run). place_of l q) (before-no r rs block low less))
    (λ below. ap (λ (l : List Run). place_of l q) (before-in r rs block below less) ∙ place_of-past (run_before block r) [] q (omega (arith, below, ge))))

-- ---- from a block on

AreRuns-run_from : (r : Run) (rs : List Run) (block : ℕ) → r.first < block → block < block_end r → AreRuns (r ∷ rs) → AreRuns (run_from block r ∷ rs)
AreRuns-run_from r [] block below less h = (omega (arith, below, less), tt, tt)
AreRuns-run_from r (s ∷ rs) block below less h = (
  omega (arith, below, less),
  (omega (arith, below, less, h.1.0), can_join-same r (run_from block r) s (omega (arith, below, less)) (omega (arith, below, less)) h.1.1),
  h.2,
)

pub AreRuns-from : (rs : List Run) (block : ℕ) → AreRuns rs → AreRuns (from block rs)
AreRuns-from [] block h = tt
AreRuns-from (r ∷ rs) block h = split (block_end r) block
    (λ le. subst AreRuns (sym (from-yes r rs block le)) (AreRuns-from rs block h.2))
    (λ less. split block r.first
    (λ ge. subst AreRuns (sym (from-no r rs block ge less)) h)
    (λ below. subst AreRuns (sym (from-in r rs block below less)) (AreRuns-run_from r rs block below less h)))

pub within-from : (rs : List Run) (block : ℕ) → AllByRecursion IsWithin rs → AllByRecursion IsWithin (from block rs)
within-from [] block h = tt
within-from (r ∷ rs) block h = split (block_end r) block
    (λ le. subst (AllByRecursion IsWithin) (sym (from-yes r rs block le)) (within-from rs block h.1))
    (λ less. split block r.first
    (λ ge. subst (AllByRecursion IsWithin) (sym (from-no r rs block ge less)) h)
    (λ below. subst (AllByRecursion IsWithin) (sym (from-in r rs block below less))
    (record { blocks = omega (arith, below, less, h.0.blocks); places = omega (arith, below, less, h.0.places) }, h.1)))

pub behind-from : (rs : List Run) (block : ℕ) → AreRuns rs → IsBehind block (from block rs)
behind-from [] block h = tt
behind-from (r ∷ rs) block h = split (block_end r) block
    (λ le. subst (IsBehind block) (sym (from-yes r rs block le)) (behind-from rs block h.2))
    (λ less. split block r.first
    (λ ge. subst (IsBehind block) (sym (from-no r rs block ge less)) ge)
    (λ below. subst (IsBehind block) (sym (from-in r rs block below less)) (omega arith)))

pub behind-less : (rs : List Run) (m n : ℕ) → m ≤ n → IsBehind n rs → IsBehind m rs
behind-less [] m n le behind = tt
behind-less (r ∷ rs) m n le behind = omega (arith, le, behind)

pub place_of-from-low : (rs : List Run) (block q : ℕ) → AreRuns rs → q < block → place_of (from block rs) q ≡ None
place_of-from-low rs block q h lt = place_of-low (from block rs) q block (AreRuns-from rs block h) (behind-from rs block h) lt

pub place_of-from-high : (rs : List Run) (block q : ℕ) → block ≤ q → place_of (from block rs) q ≡ place_of rs q
place_of-from-high [] block q ge = refl
place_of-from-high (r ∷ rs) block q ge = split (block_end r) block
    (λ le. ap (λ (l : List Run). place_of l q) (from-yes r rs block le) ∙ place_of-from-high rs block q ge ∙ sym (place_of-past r rs q (omega (arith, le, ge))))
    (λ less. split block r.first
    (λ low. ap (λ (l : List Run). place_of l q) (from-no r rs block low less))
    (λ below. ap (λ (l : List Run). place_of l q) (from-in r rs block below less) ∙ split (block_end r) q
    (λ past. place_of-past (run_from block r) rs q (omega (arith, below, less, past)) ∙ sym (place_of-past r rs q past))
    (λ inside. place_of-in (run_from block r) rs q ge (omega (arith, below, less, inside))
    ∙ ap (λ (n : ℕ). Some n) (omega (arith, below, ge)) ∙ sym (place_of-in r rs q (omega (arith, below, ge)) inside))))

-- ---- how many blocks lie where

between-none : (rs : List Run) (first end : ℕ) → AreRuns rs → IsBehind end rs → blocks_between first end rs ≡ 0
between-none [] first end h behind = refl
between-none (r ∷ rs) first end h behind =
    let rest : blocks_between first end rs ≡ 0 = between-none rs first end h.2 (later_behind r rs end h behind) in
    let one : shared first end r ≡ 0 = omega (arith, behind) in
    omega (arith, rest, one)

between-behind : (rs : List Run) (first end : ℕ) → AreRuns rs → IsBehind first rs → blocks_between first end rs + blocks_in (from end rs) ≡ blocks_in rs
between-behind [] first end h behind = refl
between-behind (r ∷ rs) first end h behind = split (block_end r) end
    (λ le.
    let one : shared first end r ≡ r.count = omega (arith, behind, le) in
    omega (arith, one, ap blocks_in (from-yes r rs end le), between-behind rs first end h.2 (later_behind r rs first h behind)))
    (λ less.
    let rest : blocks_between first end rs ≡ 0 = between-none rs first end h.2 (apart_behind r rs end h.1 (omega (arith, less))) in
    split end r.first
    (λ ge.
    let one : shared first end r ≡ 0 = omega (arith, ge, less) in
    omega (arith, one, rest, ap blocks_in (from-no r rs end ge less)))
    (λ below.
    let one : shared first end r ≡ end - r.first = omega (arith, behind, below, less) in
    omega (arith, one, rest, below, less, ap blocks_in (from-in r rs end below less))))

-- before a stretch, in it, and from its end on
pub blocks-parts : (rs : List Run) (first end : ℕ) → AreRuns rs → first ≤ end
    → blocks_in (before first rs) + blocks_between first end rs + blocks_in (from end rs) ≡ blocks_in rs
blocks-parts [] first end h le = refl
blocks-parts (r ∷ rs) first end h le = split (block_end r) first
    (λ by.
    let one : shared first end r ≡ 0 = omega (arith, by) in
    omega (arith, one, ap blocks_in (before-yes r rs first by), ap blocks_in (from-yes r rs end (omega (arith, by, le))), blocks-parts rs first end h.2 le))
    (λ less. split first r.first
    (λ ge. omega (arith, ap blocks_in (before-no r rs first ge less), between-behind (r ∷ rs) first end h ge))
    (λ below. split (block_end r) end
    (λ by.
    let one : shared first end r ≡ block_end r - first = omega (arith, by, below, less) in
    omega (
      arith,
      one,
      below,
      less,
      ap blocks_in (before-in r rs first below less),
      ap blocks_in (from-yes r rs end by),
      between-behind rs first end h.2 (apart_behind r rs first h.1 (omega (arith, less))),
    ))
    (λ past.
    let one : shared first end r ≡ end - first = omega (arith, past, below, le) in
    let rest : blocks_between first end rs ≡ 0 = between-none rs first end h.2 (apart_behind r rs end h.1 (omega (arith, past))) in
    omega (arith, one, rest, le, below, past, ap blocks_in (before-in r rs first below less), ap blocks_in (from-in r rs end (omega (arith, below, le)) past)))))

between-bound : (rs : List Run) (first end : ℕ) → blocks_between first end rs ≤ blocks_in rs
between-bound [] first end = omega arith
between-bound (r ∷ rs) first end =
    let one : shared first end r ≤ r.count = omega arith in
    omega (arith, one, between-bound rs first end)

-- the runs that end by its start have none
pub between-passed : (rs : List Run) (first end : ℕ) → blocks_between first end (drop (passed_by first rs) rs) ≡ blocks_between first end rs
between-passed [] first end = refl
between-passed (r ∷ rs) first end = split (block_end r) first
    (λ by.
    let one : shared first end r ≡ 0 = omega (arith, by) in
    let rest : blocks_between first end (drop (passed_by first rs) rs) ≡ blocks_between first end rs = between-passed rs first end in
    ap (λ (n : ℕ). blocks_between first end (drop n (r ∷ rs))) (passed-yes r rs first by) ∙ omega (arith, one, rest))
    (λ less. ap (λ (n : ℕ). blocks_between first end (drop n (r ∷ rs))) (passed-no r rs first less))

-- no run reaches behind the limit
from-limit : (rs : List Run) (end : ℕ) → AllByRecursion IsWithin rs → 2 ^ 24 ≤ end → from end rs ≡ []
from-limit [] end within le = refl
from-limit (r ∷ rs) end within le = from-yes r rs end (omega (arith, le, within.0.blocks)) ∙ from-limit rs end within.1 le

pub AreCounted-before : (rs : List Run) (blocks first end gone : ℕ) → AreCounted rs blocks → first ≤ end → 2 ^ 24 ≤ end → gone ≡ blocks_between first end rs → AreCounted (before first rs) (blocks - gone)
AreCounted-before rs blocks first end gone h le limit is = record {
  extents = record { maximal = AreRuns-before rs first h.extents.maximal; within = within-before rs first h.extents.within };
  count = omega (arith, h.count, is, blocks-parts rs first end h.extents.maximal le, ap blocks_in (from-limit rs end h.extents.within limit));
}

pub gone-bound : (rs : List Run) (blocks first end gone : ℕ) → AreCounted rs blocks → gone ≡ blocks_between first end rs → gone ≤ blocks
gone-bound rs blocks first end gone h is = omega (arith, h.count, is, between-bound rs first end)

AreRuns-drop : (rs : List Run) (i : ℕ) → AreRuns rs → AreRuns (drop i rs)
AreRuns-drop [] zero h = tt
AreRuns-drop [] (suc i) h = tt
AreRuns-drop (r ∷ rs) zero h = h
AreRuns-drop (r ∷ rs) (suc i) h = AreRuns-drop rs i h.2

within-drop : (rs : List Run) (i : ℕ) → AllByRecursion IsWithin rs → AllByRecursion IsWithin (drop i rs)
within-drop [] zero h = tt
within-drop [] (suc i) h = tt
within-drop (r ∷ rs) zero h = h
within-drop (r ∷ rs) (suc i) h = within-drop rs i h.1

pub AreExtents-drop : (rs : List Run) (i : ℕ) → AreExtents rs → AreExtents (drop i rs)
AreExtents-drop rs i h = record { maximal = AreRuns-drop rs i h.maximal; within = within-drop rs i h.within }

-- one run of a stretch after another
pub between-next : (rs : List Run) (first end i : ℕ) (d : Run) → i < length rs
    → blocks_between first end (drop i rs) ≡ shared first end (get_or rs i d) + blocks_between first end (drop (i + 1) rs)
between-next rs first end i d lt = ap (blocks_between first end) (drop_next rs i d lt)

pub between-stop : (rs : List Run) (first end i : ℕ) (d : Run) → AreExtents (drop i rs) → i < length rs → end ≤ (get_or rs i d).first
    → blocks_between first end (drop i rs) ≡ 0
between-stop rs first end i d h lt ge =
    let next : drop i rs ≡ get_or rs i d ∷ drop (i + 1) rs = drop_next rs i d lt in
    ap (blocks_between first end) next
    ∙ between-none (get_or rs i d ∷ drop (i + 1) rs) first end (subst AreRuns next h.maximal) ge

pub between-total : (rs : List Run) (first end : ℕ) → AreExtents rs → blocks_between first end rs ≤ 2 ^ 24
between-total rs first end h = omega (arith, between-bound rs first end, blocks_bound rs h)

-- ---- another run in place of a stretch

-- the run, where there is one
abbrev pub listed : Option Run → List Run
listed None = []
listed (Some x) = x ∷ []

or_none : (o : Option ℕ) → option_or o None ≡ o
or_none None = refl
or_none (Some n) = refl

place_of-with_some : (runs : List Run) (new : Option Run) (q : ℕ) → place_of (with_some runs new) q ≡ option_or (place_of runs q) (place_of (listed new) q)
place_of-with_some runs None q = sym (or_none (place_of runs q))
place_of-with_some runs (Some x) q = place_of-with_run runs x q ∙ place_of-append runs (x ∷ []) q

parts : (first end : ℕ) (new : Option Run) (runs : List Run) (q : ℕ) → place_of (put_over first end new runs) q
    ≡ option_or (option_or (place_of (before first runs) q) (place_of (listed new) q)) (place_of (from end runs) q)
parts first end new runs q =
    place_of-with_runs (with_some (before first runs) new) (from end runs) q
    ∙ place_of-append (with_some (before first runs) new) (from end runs) q
    ∙ ap (λ (o : Option ℕ). option_or o (place_of (from end runs) q)) (place_of-with_some (before first runs) new q)

three : (a b c x y z : Option ℕ) → a ≡ x → b ≡ y → c ≡ z → option_or (option_or a b) c ≡ option_or (option_or x y) z
three a b c x y z at_a at_b at_c = ap₂ (λ (u v : Option ℕ). option_or (option_or u v) c) at_a at_b ∙ ap (λ (w : Option ℕ). option_or (option_or x y) w) at_c

front_part : (o : Option ℕ) → option_or (option_or o None) None ≡ o
front_part None = refl
front_part (Some n) = refl

place_of-set : (r : Run) (runs : List Run) (q : ℕ) → AreRuns runs
    → place_of (put_over r.first (block_end r) (Some r) runs) q ≡ cond (has_block q r) (Some (r.place + (q - r.first))) (place_of runs q)
place_of-set r runs q h =
    parts r.first (block_end r) (Some r) runs q ∙ split r.first q
    (λ ge. split (block_end r) q
    (λ past. three _ _ _ None None (place_of runs q) (place_of-before-high runs r.first q ge) (place_of-past r [] q past) (place_of-from-high runs (block_end r) q past)
    ∙ sym (ap (λ (b : Bool). cond b (Some (r.place + (q - r.first))) (place_of runs q)) (has_no-high r q past)))
    (λ inside. three _ _ _ None (Some (r.place + (q - r.first))) None (place_of-before-high runs r.first q ge) (place_of-in r [] q ge inside) (place_of-from-low runs (block_end r) q h inside)
    ∙ sym (ap (λ (b : Bool). cond b (Some (r.place + (q - r.first))) (place_of runs q)) (has_yes r q ge inside))))
    (λ low. three _ _ _ (place_of runs q) None None (place_of-before-low runs r.first q h low)
    (ap (λ (b : Bool). cond b (Some (r.place + (q - r.first))) None) (has_no-low r q low))
    (place_of-from-low runs (block_end r) q h (omega (arith, low)))
    ∙ front_part (place_of runs q)
    ∙ sym (ap (λ (b : Bool). cond b (Some (r.place + (q - r.first))) (place_of runs q)) (has_no-low r q low)))

-- a stretch as a run, at any place
abbrev stretch : ℕ → ℕ → Run
stretch first count = record { first = first; count = count; place = 0 }

place_of-clear : (first count : ℕ) (runs : List Run) (q : ℕ) → AreRuns runs
    → place_of (put_over first (first + count) None runs) q ≡ cond (in_stretch first count q) None (place_of runs q)
place_of-clear first count runs q h =
    parts first (first + count) None runs q ∙ split first q
    (λ ge. split (first + count) q
    (λ past. three _ _ _ None None (place_of runs q) (place_of-before-high runs first q ge) refl (place_of-from-high runs (first + count) q past)
    ∙ sym (ap (λ (b : Bool). cond b None (place_of runs q)) (has_no-high (stretch first count) q past)))
    (λ inside. three _ _ _ None None None (place_of-before-high runs first q ge) refl (place_of-from-low runs (first + count) q h inside)
    ∙ sym (ap (λ (b : Bool). cond b None (place_of runs q)) (has_yes (stretch first count) q ge inside))))
    (λ low. three _ _ _ (place_of runs q) None None (place_of-before-low runs first q h low) refl (place_of-from-low runs (first + count) q h (omega (arith, low)))
    ∙ front_part (place_of runs q)
    ∙ sym (ap (λ (b : Bool). cond b None (place_of runs q)) (has_no-low (stretch first count) q low)))

pub map_of-set : (r : Run) (runs : List Run) → AreRuns runs → map_of (put_over r.first (block_end r) (Some r) runs) ≡ with_blocks (map_of runs) r
map_of-set r runs h = same_map nat_cmp_total nat_cmp-IsAntisymmetric _ _ (λ q.
    get-map_of (put_over r.first (block_end r) (Some r) runs) q
    ∙ place_of-set r runs q h
    ∙ sym (get-with_blocks (map_of runs) r q ∙ ap (cond (has_block q r) (Some (r.place + (q - r.first)))) (get-map_of runs q)))

pub map_of-clear : (first count : ℕ) (runs : List Run) → AreRuns runs
    → map_of (put_over first (first + count) None runs) ≡ retain_keys (map_of runs) (λ k. not (in_stretch first count k))
map_of-clear first count runs h = same_map nat_cmp_total nat_cmp-IsAntisymmetric _ _ (λ q.
    get-map_of (put_over first (first + count) None runs) q
    ∙ place_of-clear first count runs q h
    ∙ sym (get-without_stretch (map_of runs) first count q ∙ ap (cond (in_stretch first count q) None) (get-map_of runs q)))

-- no block is mapped at the limit or behind it
place_of-limit : (rs : List Run) (q : ℕ) → AllByRecursion IsWithin rs → 2 ^ 24 ≤ q → place_of rs q ≡ None
place_of-limit [] q within le = refl
place_of-limit (r ∷ rs) q within le = place_of-past r rs q (omega (arith, le, within.0.blocks)) ∙ place_of-limit rs q within.1 le

either_none : (b c : Bool) (o : Option ℕ) → o ≡ None → cond b None o ≡ cond c None o
either_none b c o none = either b ∙ sym (either c)
  where
    either : (b : Bool) → ◌≡◌ {A = Option ℕ} (cond b None o) None
    either true = refl
    either false = none

module _ (first count end : ℕ) (runs : List Run) (fits : first < 2 ^ 64) (is : end ≡ min (first + count) (2 ^ 64 - 1)) (h : AreExtents runs) where
  place_of-cut : (q : ℕ) → place_of (put_over first end None runs) q ≡ cond (in_stretch first count q) None (place_of runs q)
  place_of-cut q =
      let sum : end ≡ first + (end - first) = omega (arith, fits, is) in
      ap (λ (n : ℕ). place_of (put_over first n None runs) q) sum
      ∙ place_of-clear first (end - first) runs q h.maximal
      ∙ split (2 ^ 24) q
      (λ ge. either_none (in_stretch first (end - first) q) (in_stretch first count q) (place_of runs q) (place_of-limit runs q h.within ge))
      (λ lt. ap (λ (b : Bool). cond b None (place_of runs q)) (grind (arith, nat_tests, lt, fits, is)))

  -- a stretch that is cut at the greatest number of 64 bits
  pub map_of-cut : map_of (put_over first end None runs) ≡ retain_keys (map_of runs) (λ k. not (in_stretch first count k))
  map_of-cut = same_map nat_cmp_total nat_cmp-IsAntisymmetric _ _ (λ q.
      get-map_of (put_over first end None runs) q
      ∙ place_of-cut q
      ∙ sym (get-without_stretch (map_of runs) first count q ∙ ap (cond (in_stretch first count q) None) (get-map_of runs q)))

-- what a run must be to be put in place of a stretch
abbrev pub Fills : ℕ → ℕ → Option Run → Type 0
Fills first end None = first ≤ end
Fills first end (Some x) = (1 ≤ x.count) × (x.first ≡ first) × (block_end x ≡ end)

abbrev pub count_of : Option Run → ℕ
count_of None = 0
count_of (Some x) = x.count

fills_order : (first end : ℕ) (new : Option Run) → Fills first end new → first ≤ end
fills_order first end None h = h
fills_order first end (Some x) h = omega (arith, h.1, h.2)

AreRuns-new : (first end : ℕ) (new : Option Run) (runs : List Run) → AreRuns runs → Fills first end new → AreRuns (with_some (before first runs) new)
AreRuns-new first end None runs h fills = AreRuns-before runs first h
AreRuns-new first end (Some x) runs h fills =
    AreRuns-with_run (before first runs) x (AreRuns-before runs first h) (record { some = fills.0; behind = omega (arith, end_of-before runs first, fills.1) })

end_of-new : (first end : ℕ) (new : Option Run) (runs : List Run) → Fills first end new → end_of (with_some (before first runs) new) ≤ end
end_of-new first end None runs fills = omega (arith, end_of-before runs first, fills)
end_of-new first end (Some x) runs fills = omega (arith, end_of-with_run (before first runs) x, fills.2)

pub AreRuns-put_over : (first end : ℕ) (new : Option Run) (runs : List Run) → AreRuns runs → Fills first end new → AreRuns (put_over first end new runs)
AreRuns-put_over first end new runs h fills =
    AreRuns-with_runs (with_some (before first runs) new) (from end runs) (AreRuns-new first end new runs h fills) (AreRuns-from runs end h)
    (behind-less (from end runs) _ end (end_of-new first end new runs fills) (behind-from runs end h))

within-with_some : (runs : List Run) (new : Option Run) → AllByRecursion IsWithin runs → IfSome new (λ x. IsWithin x) → AllByRecursion IsWithin (with_some runs new)
within-with_some runs None all one = all
within-with_some runs (Some x) all one = within-with_run runs x all one

blocks-with_some : (runs : List Run) (new : Option Run) → blocks_in (with_some runs new) ≡ blocks_in runs + count_of new
blocks-with_some runs None = omega arith
blocks-with_some runs (Some x) = blocks-with_run runs x

-- the fields keep what they must
pub AreCounted-put_over : (first end blocks gone left : ℕ) (new : Option Run) (runs : List Run) → AreCounted runs blocks → Fills first end new → IfSome new (λ x. IsWithin x)
    → gone ≡ blocks_between first end runs → left ≡ blocks - gone + count_of new → AreCounted (put_over first end new runs) left
AreCounted-put_over first end blocks gone left new runs h fills one is after = record {
  extents = record {
    maximal = AreRuns-put_over first end new runs h.extents.maximal fills;
    within = within-with_runs (with_some (before first runs) new) (from end runs)
        (within-with_some (before first runs) new (within-before runs first h.extents.within) one) (within-from runs end h.extents.within);
  };
  count =
      let all = blocks-parts runs first end h.extents.maximal (fills_order first end new fills) in
      let new_all = blocks-with_runs (with_some (before first runs) new) (from end runs) in
      let new_front = blocks-with_some (before first runs) new in
      omega (arith, h.count, is, all, new_all, new_front, after);
}

-- ---- their number

length-parts : (rs : List Run) (first end : ℕ) → AreRuns rs → first ≤ end → length (before first rs) + length (from end rs) ≤ length rs + 1
length-parts [] first end h le = omega arith
length-parts (r ∷ rs) first end h le = split (block_end r) first
    (λ by. omega (arith, ap (λ (l : List Run). length l) (before-yes r rs first by), ap (λ (l : List Run). length l) (from-yes r rs end (omega (arith, by, le))), length-parts rs first end h.2 le))
    (λ less. split first r.first
    (λ ge. omega (arith, ap (λ (l : List Run). length l) (before-no r rs first ge less), length-from (r ∷ rs) end))
    (λ below. omega (arith, ap (λ (l : List Run). length l) (before-in r rs first below less), length-from (r ∷ rs) end)))
  where
    length-from : (rs : List Run) (end : ℕ) → length (from end rs) ≤ length rs
    length-from [] end = omega arith
    length-from (r ∷ rs) end = split (block_end r) end
        (λ by. omega (arith, ap (λ (l : List Run). length l) (from-yes r rs end by), length-from rs end))
        (λ less. split end r.first
        (λ ge. omega (arith, ap (λ (l : List Run). length l) (from-no r rs end ge less)))
        (λ below. omega (arith, ap (λ (l : List Run). length l) (from-in r rs end below less))))

pub length-put_over : (first end : ℕ) (new : Option Run) (runs : List Run) → AreRuns runs → first ≤ end
    → length (put_over first end new runs) ≤ length runs + 1 + length (listed new)
length-put_over first end new runs h le =
    let parts : length (before first runs) + length (from end runs) ≤ length runs + 1 = length-parts runs first end h le in
    let whole : length (put_over first end new runs) ≤ length (with_some (before first runs) new) + length (from end runs) = length-with_runs (with_some (before first runs) new) (from end runs) in
    let front : length (with_some (before first runs) new) ≤ length (before first runs) + length (listed new) = longer (before first runs) new in
    omega (arith, parts, whole, front)
  where
    longer : (runs : List Run) (new : Option Run) → length (with_some runs new) ≤ length runs + length (listed new)
    longer runs None = omega arith
    longer runs (Some x) = (length-with_run runs x).1

-- ---- without the blocks from one on

place_of-before : (block : ℕ) (runs : List Run) (q : ℕ) → AreRuns runs → place_of (before block runs) q ≡ cond (nat_lt q block) (place_of runs q) None
place_of-before block runs q h = split block q
    (λ ge. place_of-before-high runs block q ge ∙ sym (ap (λ (b : Bool). cond b (place_of runs q) None) (lt_no q block ge)))
    (λ lt. place_of-before-low runs block q h lt ∙ sym (ap (λ (b : Bool). cond b (place_of runs q) None) (lt_yes q block lt)))

pub map_of-before : (block : ℕ) (runs : List Run) → AreRuns runs → map_of (before block runs) ≡ retain_keys (map_of runs) (λ k. nat_lt k block)
map_of-before block runs h = same_map nat_cmp_total nat_cmp-IsAntisymmetric _ _ (λ q.
    get-map_of (before block runs) q
    ∙ place_of-before block runs q h
    ∙ sym (get-front (map_of runs) block q ∙ ap (λ (o : Option ℕ). cond (nat_lt q block) o None) (get-map_of runs q)))

pub first_fits : (rs : List Run) (block : ℕ) (r : Run) → AllByRecursion IsWithin rs → Some r ≡ first_of (from block rs) → IsWithin r
first_fits rs block r within is = subst (λ (o : Option Run). IfSome o (λ x. IsWithin x)) (sym is) (read (from block rs) (within-from rs block within))
  where
    read : (xs : List Run) → AllByRecursion IsWithin xs → IfSome (first_of xs) (λ x. IsWithin x)
    read [] all = tt
    read (x ∷ xs) all = all.0
