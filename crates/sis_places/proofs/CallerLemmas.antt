-- What the two tables map, and what is spare, after `take`, `free` and `commit`: for callers.
use Rattle.std.proofs.Common.{◌≡◌, ℕ, zero, suc, ◌+◌, ◌-◌, ◌<◌, ◌≤◌, Bool, true, false, not, cond, length, get_or, refl, ap, sym, ◌∙◌, arith}
use Rattle.std.specs.Prelude.{◌&&◌, count_by}
use Rattle.std.proofs.lemmas.List.{get_or_past}
use Rattle.std.proofs.lemmas.List.FromFn.{get_or-map-range_with_len, length-map-range_with_len, fill_by_all}
use Rattle.std.proofs.lemmas.Bool.{true≢false}
use Rattle.sis_places.specs.Places.{PlacesView, after_commit, is_spare, spare, spare_bits, used, with_bits}
use Rattle.sis_places.proofs.WordLemmas.{split, among_yes, among_no-low, among_no-high}
use Rattle.sis_places.proofs.BitLemmas.{length-set_bits, get_or-set_bits}
use Rattle.sis_places.proofs.PlacesLemmas.{same_twice}
use Rattle.sis_places.proofs.Tally.{tally, count-tally, tally-same, tally-not, tally-all, tally-none, tally-split}

-- ---- a place's bit

pub length-spare_bits : (p : PlacesView) → length (spare_bits p) ≡ length p.current
length-spare_bits p = length-map-range_with_len (is_spare p) 0 (length p.current)

pub get_or-spare_bits : (p : PlacesView) (i : ℕ) → i < length p.current → get_or (spare_bits p) i false ≡ is_spare p i
get_or-spare_bits p i lt = get_or-map-range_with_len (is_spare p) 0 (length p.current) i i false lt (omega arith)

pub spare-within : (p : PlacesView) (i : ℕ) → get_or (spare_bits p) i false ≡ true → i < length p.current
spare-within p i is =
    split (length p.current) i
    (λ past. absurd (true≢false (sym is ∙ get_or_past (spare_bits p) i false (omega (arith, length-spare_bits p, past)))))
    (λ lt. lt)

both_unset : (a b : Bool) → (not a && not b) ≡ true → (a ≡ false) × (b ≡ false)
both_unset true b h = absurd (true≢false (sym h))
both_unset false true h = absurd (true≢false (sym h))
both_unset false false h = (refl, refl)

-- neither table maps a spare place
pub spare-unmapped : (p : PlacesView) (i : ℕ) → get_or (spare_bits p) i false ≡ true
    → (get_or p.current i false ≡ false) × (get_or p.committed i false ≡ false)
spare-unmapped p i is = both_unset _ _ (sym (get_or-spare_bits p i (spare-within p i is)) ∙ is)

-- a place that the committed table maps isn't spare, whatever the current one maps
pub committed-unspare : (p : PlacesView) (i : ℕ) → get_or p.committed i false ≡ true → get_or (spare_bits p) i false ≡ false
committed-unspare p i is =
    split (length p.current) i
    (λ past. get_or_past (spare_bits p) i false (omega (arith, length-spare_bits p, past)))
    (λ lt. get_or-spare_bits p i lt ∙ ap (λ (b : Bool). not (get_or p.current i false) && not b) is ∙ second (not (get_or p.current i false)))
  where
    second : (b : Bool) → (b && false) ≡ false
    second true = refl
    second false = refl

pub current-unspare : (p : PlacesView) (i : ℕ) → get_or p.current i false ≡ true → get_or (spare_bits p) i false ≡ false
current-unspare p i is =
    split (length p.current) i
    (λ past. get_or_past (spare_bits p) i false (omega (arith, length-spare_bits p, past)))
    (λ lt. get_or-spare_bits p i lt ∙ ap (λ (b : Bool). not b && not (get_or p.committed i false)) is)

-- ---- after `take` and `free`

pub length-with_bits : (p : PlacesView) (start count : ℕ) (value : Bool) → start + count ≤ length p.current → length (with_bits start count value p).current ≡ length p.current
length-with_bits p start count value fits = length-set_bits start count value p.current fits

pub with_bits-in : (p : PlacesView) (start count : ℕ) (value : Bool) (i : ℕ) → start + count ≤ length p.current → start ≤ i → i < start + count
    → get_or (with_bits start count value p).current i false ≡ value
with_bits-in p start count value i fits ge lt =
    get_or-set_bits start count value p.current i fits ∙ ap (λ (b : Bool). cond b value (get_or p.current i false)) (among_yes start count i ge lt)

pub with_bits-low : (p : PlacesView) (start count : ℕ) (value : Bool) (i : ℕ) → start + count ≤ length p.current → i < start
    → get_or (with_bits start count value p).current i false ≡ get_or p.current i false
with_bits-low p start count value i fits lt =
    get_or-set_bits start count value p.current i fits ∙ ap (λ (b : Bool). cond b value (get_or p.current i false)) (among_no-low start count i lt)

pub with_bits-high : (p : PlacesView) (start count : ℕ) (value : Bool) (i : ℕ) → start + count ≤ length p.current → start + count ≤ i
    → get_or (with_bits start count value p).current i false ≡ get_or p.current i false
with_bits-high p start count value i fits ge =
    get_or-set_bits start count value p.current i fits ∙ ap (λ (b : Bool). cond b value (get_or p.current i false)) (among_no-high start count i ge)

-- ---- the counts

used-tally : (p : PlacesView) → used p ≡ tally (λ i. get_or p.current i false) 0 (length p.current)
used-tally p =
    ap (count_by (λ (b : Bool). b)) (fill_by_all (λ i. get_or p.current i false) p.current (length p.current) false refl (λ k lt. refl))
    ∙ count-tally (λ i. get_or p.current i false) 0 (length p.current)

spare-tally : (p : PlacesView) → spare p ≡ tally (is_spare p) 0 (length p.current)
spare-tally p = count-tally (is_spare p) 0 (length p.current)

-- fewer pass a test that asks for more
tally-le : (f g : ℕ → Bool) (a n : ℕ) → ((i : ℕ) → f i ≡ true → g i ≡ true) → tally f a n ≤ tally g a n
tally-le f g a zero h = omega arith
tally-le f g a (suc n) h = step (tally f (a + 1) n) (tally g (a + 1) n) (f a) (g a) (h a) (tally-le f g (a + 1) n h)
  where
    step : (x y : ℕ) (b d : Bool) → (b ≡ true → d ≡ true) → x ≤ y → cond b 1 0 + x ≤ cond d 1 0 + y
    step x y true true imp le = omega (arith, le)
    step x y true false imp le = absurd (true≢false (sym (imp refl)))
    step x y false true imp le = omega (arith, le)
    step x y false false imp le = omega (arith, le)

first_unset : (a b : Bool) → (not a && not b) ≡ true → not a ≡ true
first_unset true b h = h
first_unset false b h = refl

-- what is used and what is spare are apart
pub used_and_spare : (p : PlacesView) → used p + spare p ≤ length p.current
used_and_spare p =
    let len = length p.current in
    let mapped = λ (i : ℕ). get_or p.current i false in
    let most = tally-le (is_spare p) (λ i. not (mapped i)) 0 len (λ i h. first_unset (mapped i) (get_or p.committed i false) h) in
    let all = tally-not mapped 0 len in
    omega (arith, used-tally p, spare-tally p, most, all)

-- after a commit each place is used or spare
pub used_and_spare-commit : (p : PlacesView) → used (after_commit p) + spare (after_commit p) ≡ length p.current
used_and_spare-commit p =
    let len = length p.current in
    let mapped = λ (i : ℕ). get_or p.current i false in
    let left = tally-same (is_spare (after_commit p)) (λ i. not (mapped i)) 0 len (λ i ge lt. same_twice (mapped i)) in
    let all = tally-not mapped 0 len in
    omega (arith, used-tally (after_commit p), spare-tally (after_commit p), left, all)

pub spare-commit : (p : PlacesView) (i : ℕ) → i < length p.current → get_or (spare_bits (after_commit p)) i false ≡ not (get_or p.current i false)
spare-commit p i lt = get_or-spare_bits (after_commit p) i lt ∙ same_twice (get_or p.current i false)

-- a test that one range alone passes, and another that it alone fails
tally-parts : (f : ℕ → Bool) (start count len : ℕ) → start + count ≤ len
    → tally f 0 len ≡ tally f 0 start + tally f start count + tally f (start + count) (len - (start + count))
tally-parts f start count len fits =
    let front = tally-split f (start + count) (len - (start + count)) len 0 (start + count) (omega (arith, fits)) (omega arith) in
    let middle = tally-split f start count (start + count) 0 start refl (omega arith) in
    omega (arith, front, middle)

abbrev pub AreSpare : PlacesView → ℕ → ℕ → Type 0
AreSpare p start count = (i : ℕ) → start ≤ i → i < start + count → get_or (spare_bits p) i false ≡ true

-- to take spare places makes so many more used, and so many fewer spare
pub used-take : (p : PlacesView) (start count : ℕ) → start + count ≤ length p.current → AreSpare p start count
    → used (with_bits start count true p) ≡ used p + count
used-take p start count fits free =
    let q : PlacesView = with_bits start count true p in
    let len = length p.current in
    let old = λ (i : ℕ). get_or p.current i false in
    let new = λ (i : ℕ). get_or q.current i false in
    let size = length-with_bits p start count true fits in
    let was = tally-parts old start count len fits in
    let now = tally-parts new start count len fits in
    let low = tally-same new old 0 start (λ i ge lt. with_bits-low p start count true i fits (omega (arith, lt))) in
    let high = tally-same new old (start + count) (len - (start + count)) (λ i ge lt. with_bits-high p start count true i fits ge) in
    let none : tally old start count ≡ 0
    = tally-same old (λ _. false) start count (λ i ge lt. (spare-unmapped p i (free i ge lt)).0) ∙ tally-none (λ _. false) start count (λ i ge. refl) in
    let all = tally-all new start count (λ i ge lt. with_bits-in p start count true i fits ge lt) in
    let used_q = used-tally q ∙ ap (tally new 0) size in
    omega (arith, used-tally p, used_q, was, now, low, high, none, all)

-- to free places that the current table maps makes so many fewer used
pub used-free : (p : PlacesView) (start count : ℕ) → start + count ≤ length p.current
    → ((i : ℕ) → start ≤ i → i < start + count → get_or p.current i false ≡ true) → used (with_bits start count false p) + count ≡ used p
used-free p start count fits mapped =
    let q : PlacesView = with_bits start count false p in
    let len = length p.current in
    let old = λ (i : ℕ). get_or p.current i false in
    let new = λ (i : ℕ). get_or q.current i false in
    let size = length-with_bits p start count false fits in
    let was = tally-parts old start count len fits in
    let now = tally-parts new start count len fits in
    let low = tally-same new old 0 start (λ i ge lt. with_bits-low p start count false i fits (omega (arith, lt))) in
    let high = tally-same new old (start + count) (len - (start + count)) (λ i ge lt. with_bits-high p start count false i fits ge) in
    let none : tally new start count ≡ 0
    = tally-same new (λ _. false) start count (λ i ge lt. with_bits-in p start count false i fits ge lt) ∙ tally-none (λ _. false) start count (λ i ge. refl) in
    let all = tally-all old start count mapped in
    let used_q = used-tally q ∙ ap (tally new 0) size in
    omega (arith, used-tally p, used_q, was, now, low, high, none, all)

pub spare-take : (p : PlacesView) (start count : ℕ) → start + count ≤ length p.current → AreSpare p start count
    → spare (with_bits start count true p) + count ≡ spare p
spare-take p start count fits free =
    let q : PlacesView = with_bits start count true p in
    let len = length p.current in
    let size = length-with_bits p start count true fits in
    let was = tally-parts (is_spare p) start count len fits in
    let now = tally-parts (is_spare q) start count len fits in
    let same = λ (i : ℕ) (e : get_or q.current i false ≡ get_or p.current i false). ap (λ (b : Bool). not b && not (get_or p.committed i false)) e in
    let low = tally-same (is_spare q) (is_spare p) 0 start (λ i ge lt. same i (with_bits-low p start count true i fits (omega (arith, lt)))) in
    let high = tally-same (is_spare q) (is_spare p) (start + count) (len - (start + count)) (λ i ge lt. same i (with_bits-high p start count true i fits ge)) in
    let none : tally (is_spare q) start count ≡ 0
    = tally-same (is_spare q) (λ _. false) start count (λ i ge lt. ap (λ (b : Bool). not b && not (get_or p.committed i false)) (with_bits-in p start count true i fits ge lt))
    ∙ tally-none (λ _. false) start count (λ i ge. refl) in
    let all = tally-all (is_spare p) start count (λ i ge lt. sym (get_or-spare_bits p i (omega (arith, lt, fits))) ∙ free i ge lt) in
    let spare_q = spare-tally q ∙ ap (tally (is_spare q) 0) size in
    omega (arith, spare-tally p, spare_q, was, now, low, high, none, all)

-- to free places that the current table maps and the committed one doesn't makes them spare again
pub spare-free : (p : PlacesView) (start count i : ℕ) → start + count ≤ length p.current → start ≤ i → i < start + count
    → get_or (spare_bits (with_bits start count false p)) i false ≡ not (get_or p.committed i false)
spare-free p start count i fits ge lt =
    let q : PlacesView = with_bits start count false p in
    let size = length-with_bits p start count false fits in
    get_or-spare_bits q i (omega (arith, size, lt, fits))
    ∙ ap (λ (b : Bool). not b && not (get_or p.committed i false)) (with_bits-in p start count false i fits ge lt)

pub spare-take_free : (p : PlacesView) (start count i : ℕ) → start + count ≤ length p.current → start ≤ i → i < start + count
    → get_or (spare_bits p) i false ≡ true → get_or (spare_bits (with_bits start count false (with_bits start count true p))) i false ≡ true
spare-take_free p start count i fits ge lt free =
    spare-free (with_bits start count true p) start count i (omega (arith, length-with_bits p start count true fits, fits)) ge lt
    ∙ ap not (spare-unmapped p i free).1

-- until the next commit a place that the committed table maps isn't spare, also where it is freed
pub committed-unspare-with_bits : (p : PlacesView) (start count : ℕ) (value : Bool) (i : ℕ) → get_or p.committed i false ≡ true
    → get_or (spare_bits (with_bits start count value p)) i false ≡ false
committed-unspare-with_bits p start count value i is = committed-unspare (with_bits start count value p) i is
