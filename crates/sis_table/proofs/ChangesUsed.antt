-- How many places are used after a change.
use Rattle.std.proofs.Common.{◌≡◌, ℕ, zero, suc, ◌+◌, ◌<◌, ◌≤◌, Bool, true, false, cond, not, ◌||◌, List, [], ◌∷◌, ◌++◌, length, map, find, Option, Some, refl, sym, ap, ap₂, ◌∙◌, subst, inl, inr, arith, sum_by}
use Rattle.std.proofs.lemmas.List.{length-map}
use Rattle.std.specs.Prelude.{◌==◌, is_some}
use Rattle.std.specs.List.{AllByRecursion, count_by, list_any, range_with_len}
use Rattle.std.specs.FinMap.{empty, entries, get, insert, len, len-empty, len-entries, len-insert, values, get-empty}
use Rattle.std.specs.Ordering.{nat_cmp}
use Rattle.std.proofs.lemmas.Cmp.{nat_cmp_total}
use Rattle.std.proofs.lemmas.Bool.{cond-false, cond-true, eq-eqb, eqb-true, false_from_ne_true, ne_eqb, or_cases, or_left, or_parts, or_right}
use Rattle.std.proofs.lemmas.Bool.Decides.{nat_tests}
use Rattle.std.proofs.lemmas.List.Sums.{count_by-le-length, sum_by-append, sum_by-cons}
use Rattle.sis_disk.specs.declared.layout.Layout.{Layout}
use Rattle.sis_disk.specs.Layout.{data_blocks, first_place}
use Rattle.sis_ranges.specs.Extents.{is_gap, is_mapped}
use Rattle.sis_ranges.proofs.PlaceLemmas.{AreDistinct, IsOnce, found-at, once-distinct}
use Rattle.sis_table.specs.declared.node.Node.{Node}
use Rattle.sis_table.specs.declared.kind.NodeKind.TheVariants.{Plain}
use Rattle.sis_table.specs.Edits.{MayMake, MayRename, with_name, with_node, without_node}
use Rattle.sis_table.specs.Good.{IsGood, is_among}
use Rattle.sis_table.specs.Volume.{VolumeTable, AreNodes, IsNode, IsTable, blocks_of, data_places, greatest_number, greatest_size, is_used, last_id, maps_place, node_with, place_by, used, used_places}
use Rattle.sis_table.specs.Changes.{AreFreePlaces, Resize, made_file, renamed, resized_node, with_file, with_places, with_resize, without_file}
use Rattle.sis_table.proofs.EditLemmas.{has_id, last_id-push}
use Rattle.sis_table.proofs.PutLemmas.{length-used_places}
use Rattle.sis_table.proofs.ChangesNodes.{not_some, some_is}
use Rattle.sis_table.proofs.ChangesMaps.{AreBelow, Blocks, front, front-with_places, get-put, length-range}
use Rattle.sis_table.proofs.ChangesBlocks.{once_range}
use Rattle.sis_table.proofs.ChangesEdits.{front_whole}
use Rattle.sis_table.proofs.ChangesNodes.{there_limits}
use Rattle.sis_table.proofs.ChangesTable.{IsGood-make, IsGood-remove, IsGood-rename, IsGood-resize, IsTable-make, IsTable-remove, IsTable-rename, IsTable-resize}

-- ---- counts

count-cons : (test : ℕ → Bool) (x : ℕ) (xs : List ℕ) → count_by test (x ∷ xs) ≡ cond (test x) 1 0 + count_by test xs
count-cons test x xs = sum_by-cons (λ y. cond (test y) 1 0) x xs

count-same : (f g : ℕ → Bool) (xs : List ℕ) → ((x : ℕ) → f x ≡ g x) → count_by f xs ≡ count_by g xs
count-same f g [] same = refl
count-same f g (x ∷ xs) same = count-cons f x xs ∙ ap₂ (λ (t : Bool) (k : ℕ). cond t 1 0 + k) (same x) (count-same f g xs same) ∙ sym (count-cons g x xs)

-- the truths among the tests of some numbers
count-tests : (f : ℕ → Bool) (xs : List ℕ) → sum_by (λ b. cond b 1 0) (map f xs) ≡ count_by f xs
count-tests f [] = refl
count-tests f (x ∷ xs) = sum_by-cons (λ b. cond b 1 0) (f x) (map f xs) ∙ ap (λ (k : ℕ). cond (f x) 1 0 + k) (count-tests f xs) ∙ sym (count-cons f x xs)

count-none : (f : ℕ → Bool) (xs : List ℕ) → ((x : ℕ) → f x ≡ false) → count_by f xs ≡ 0
count-none f [] none = refl
count-none f (x ∷ xs) none = count-cons f x xs ∙ ap₂ (λ (t : Bool) (k : ℕ). cond t 1 0 + k) (none x) (count-none f xs none)

one_or : (a b : Bool) (m n : ℕ) → (a ≡ true → b ≡ false) → cond (a || b) 1 0 + (m + n) ≡ (cond a 1 0 + m) + (cond b 1 0 + n)
one_or true true m n apart = absurd (cc (apart refl))
one_or true false m n apart = omega arith
one_or false true m n apart = omega arith
one_or false false m n apart = omega arith

count-or : (f g : ℕ → Bool) (xs : List ℕ) → ((x : ℕ) → f x ≡ true → g x ≡ false) → count_by (λ x. f x || g x) xs ≡ count_by f xs + count_by g xs
count-or f g [] apart = refl
count-or f g (x ∷ xs) apart =
    count-cons (λ y. f y || g y) x xs
    ∙ ap (λ (k : ℕ). cond (f x || g x) 1 0 + k) (count-or f g xs apart)
    ∙ one_or (f x) (g x) (count_by f xs) (count_by g xs) (apart x)
    ∙ ap₂ (λ (j k : ℕ). j + k) (sym (count-cons f x xs)) (sym (count-cons g x xs))

count-below : (first count x : ℕ) → x < first → count_by (λ y. x == y) (range_with_len first count) ≡ 0
count-below first zero x lt = refl
count-below first (suc n) x lt =
    count-cons (λ y. x == y) first (range_with_len (first + 1) n)
    ∙ ap₂ (λ (t : Bool) (k : ℕ). cond t 1 0 + k) (ne_eqb x first (λ e. omega (arith, lt, e))) (count-below (first + 1) n x (omega (arith, lt)))

count-one : (first count x : ℕ) → first ≤ x → x < first + count → count_by (λ y. x == y) (range_with_len first count) ≡ 1
count-one first zero x low high = absurd (omega arith)
count-one first (suc n) x low high =
    count-cons (λ y. x == y) first (range_with_len (first + 1) n)
    ∙ either (x == first) refl (λ le. count-one (first + 1) n x le (omega (arith, high)))
  where
    later : (x first : ℕ) → first ≤ x → (x == first) ≡ false → first + 1 ≤ x
    later x first low other = grind (arith, nat_tests, low, other)

    either : (t : Bool) → (x == first) ≡ t → (first + 1 ≤ x → count_by (λ y. x == y) (range_with_len (first + 1) n) ≡ 1) → cond t 1 0 + count_by (λ y. x == y) (range_with_len (first + 1) n) ≡ 1
    either true e rest = let same : x ≡ first = eqb-true x first e in ap (λ (k : ℕ). 1 + k) (count-below (first + 1) n x (omega (arith, same)))
    either false e rest = omega (arith, rest (later x first low e))

-- so many of a range are among some, each once
count-among : (first count : ℕ) (xs : List ℕ) → AreDistinct xs → AllByRecursion (λ x. (first ≤ x) × (x < first + count)) xs → count_by (is_among xs) (range_with_len first count) ≡ length xs
count-among first count [] once inside = count-none (is_among []) (range_with_len first count) (λ x. refl)
count-among first count (x ∷ xs) once inside =
    count-or (λ y. x == y) (is_among xs) (range_with_len first count) (λ y e. ap (is_among xs) (sym (eqb-true x y e)) ∙ once.0)
    ∙ ap₂ (λ (j k : ℕ). j + k) (count-one first count x inside.0.0 inside.0.1) (count-among first count xs once.1 inside.1)
    ∙ next (length xs)
  where
    next : (k : ℕ) → 1 + k ≡ suc k
    next k = omega arith

-- ---- used places are those of the files' blocks

all_members : (P : ℕ → Type 0) (xs : List ℕ) → ((x : ℕ) → is_among xs x ≡ true → P x) → AllByRecursion P xs
all_members P [] each = tt
all_members P (x ∷ xs) each = (each x (or_left (x == x) (is_among xs x) (eq-eqb x x refl)), all_members P xs (λ y y_in. each y (or_right (x == y) (is_among xs y) y_in)))

length-values : (m : Blocks) → length (values m) ≡ len m
length-values m = length-map (entries m) (λ (e : ℕ × ℕ). e.1) ∙ sym (len-entries m)

-- a file's places are as many as its blocks
count-node : (l : Layout) (n : Node) → IsNode l n → IsOnce n.map → count_by (λ p. maps_place p n) (data_places l) ≡ len n.map
count-node l n h once =
    count-among (first_place l) (data_blocks l) (values n.map) (once-distinct n.map once) (all_members (λ p. (first_place l ≤ p) × (p < first_place l + data_blocks l)) (values n.map) (λ p p_in.
    let there = found-at n.map p p_in in
    let placed = h.placed there.0 p there.1 in
    (placed.low, omega (arith, placed.low, placed.high))))
    ∙ length-values n.map

any_all : (test : Node → Bool) (P : Node → Type 0) (ns : List Node) → AllByRecursion P ns → list_any test ns ≡ true → (n : Node) × (test n ≡ true) × P n
any_all test P [] all h = absurd cc
any_all test P (n ∷ ns) all h = elim (or_cases (test n) (list_any test ns) h) [
  | inl here ↦ (n, here, all.0)
  | inr later ↦ any_all test P ns all.1 later
]

-- each of the files is found by its id, which is above those in front
abbrev AreFound : List Node → ℕ → List Node → Type 0
AreFound nodes k ns = AllByRecursion (λ n. (k < n.id) × (find (has_id n.id) nodes ≡ Some n)) ns

found_behind : (nodes : List Node) (m : Node) (k : ℕ) (ns : List Node) → k < m.id → AreFound nodes m.id ns → AreFound (m ∷ nodes) k ns
found_behind nodes m k [] lt h = tt
found_behind nodes m k (n ∷ ns) lt h = (
  (omega (arith, lt, h.0.0), cond-false (m.id == n.id) (Some m) (find (has_id n.id) nodes) (ne_eqb m.id n.id (λ e. omega (arith, e, h.0.0))) ∙ h.0.1),
  found_behind nodes m k ns lt h.1,
)

found_all : (l : Layout) (next : ℕ) (front nodes : List Node) → AreNodes l next front nodes → AreFound nodes (last_id front) nodes
found_all l next front [] h = tt
found_all l next front (n ∷ ns) h = (
  (h.0, cond-true (n.id == n.id) (Some n) (find (has_id n.id) ns) (eq-eqb n.id n.id refl)),
  found_behind ns n (last_id front) ns h.0 (subst (λ k. AreFound ns k ns) (last_id-push front n) (found_all l next (front ++ n ∷ []) ns h.4)),
)

-- how many blocks the files map
abbrev pub blocks_in : List Node → ℕ
blocks_in nodes = sum_by (λ n. len n.map) nodes

module _ (v : VolumeTable) (good : IsGood v) where
  -- blocks of files that are found and lie at one place are one
  one_place : (n m : Node) (a b p : ℕ) → node_with v n.id ≡ Some n → node_with v m.id ≡ Some m → get n.map a ≡ Some p → get m.map b ≡ Some p → (n.id ≡ m.id) × (a ≡ b)
  one_place n m a b p n_is m_is n_lies m_lies = good n.id m.id a b p (ap (λ o. place_by o a) n_is ∙ n_lies) (ap (λ o. place_by o b) m_is ∙ m_lies)

  -- the files, with ids that rise
  abbrev AreKept : ℕ → List Node → Type 0
  AreKept k [] = Unit {0}
  AreKept k (n ∷ ns) = (k < n.id) × IsNode v.layout n × (node_with v n.id ≡ Some n) × AllByRecursion (λ m. (n.id < m.id) × (node_with v m.id ≡ Some m)) ns × AreKept n.id ns

  count-nodes : (k : ℕ) (ns : List Node) → AreKept k ns → count_by (λ p. list_any (maps_place p) ns) (data_places v.layout) ≡ blocks_in ns
  count-nodes k [] h = count-none (λ p. false) (data_places v.layout) (λ p. refl)
  count-nodes k (n ∷ ns) h =
      count-or (λ p. maps_place p n) (λ p. list_any (maps_place p) ns) (data_places v.layout) (λ p here. apart p here)
      ∙ ap₂ (λ (i j : ℕ). i + j) (count-node v.layout n h.1 (λ a b p x y. (one_place n n a b p h.2 h.2 x y).1)) (count-nodes n.id ns h.4)
      ∙ sym (sum_by-cons (λ m. len m.map) n ns)
    where
      apart : (p : ℕ) → maps_place p n ≡ true → list_any (maps_place p) ns ≡ false
      apart p here = false_from_ne_true (list_any (maps_place p) ns) (λ any.
          let other = any_all (maps_place p) (λ m. (n.id < m.id) × (node_with v m.id ≡ Some m)) ns h.3 any in
          let a = found-at n.map p here in
          let b = found-at other.0.map p other.1 in
          let same = (one_place n other.0 a.0 b.0 p h.2 other.2.1 a.1 b.1).0 in
          omega (arith, same, other.2.0))

  both_found : (k j : ℕ) (ms ns : List Node) → AreFound ms k ns → AreFound v.nodes j ns → AllByRecursion (λ m. (k < m.id) × (node_with v m.id ≡ Some m)) ns
  both_found k j ms [] f g = tt
  both_found k j ms (n ∷ ns) f g = ((f.0.0, g.0.1), both_found k j ms ns f.1 g.1)

  kept_from : (next j : ℕ) (front ns : List Node) → AreNodes v.layout next front ns → AreFound v.nodes j ns → AreKept (last_id front) ns
  kept_from next j front [] h found = tt
  kept_from next j front (n ∷ ns) h found = (
    h.0,
    h.3,
    found.0.1,
    both_found n.id j ns ns (subst (λ k. AreFound ns k ns) (last_id-push front n) (found_all v.layout next (front ++ n ∷ []) ns h.4)) found.1,
    subst (λ k. AreKept k ns) (last_id-push front n) (kept_from next j (front ++ n ∷ []) ns h.4 found.1),
  )

  -- As many places are used as blocks are mapped.
  pub used-blocks : IsTable v → used v ≡ blocks_in v.nodes
  used-blocks t =
      count-tests (is_used v) (data_places v.layout)
      ∙ count-nodes 0 v.nodes (kept_from v.next_id 0 [] v.nodes t.nodes (found_all v.layout v.next_id [] v.nodes t.nodes))

-- ---- after a change

blocks_in-cons : (n : Node) (ns : List Node) → blocks_in (n ∷ ns) ≡ len n.map + blocks_in ns
blocks_in-cons n ns = sum_by-cons (λ m. len m.map) n ns

blocks_in-changed : (id : ℕ) (change : Node → Node) (nodes : List Node) (n : Node) → find (has_id id) nodes ≡ Some n → blocks_in (with_node id change nodes) + len n.map ≡ blocks_in nodes + len (change n).map
blocks_in-changed id change [] n is = absurd (not_some n is)
blocks_in-changed id change (m ∷ ms) n is =
    elim (m.id == id) as (λ b. cond b (Some m) (find (has_id id) ms) ≡ Some n → blocks_in (cond b (change m ∷ ms) (m ∷ with_node id change ms)) + len n.map ≡ blocks_in (m ∷ ms) + len (change n).map) [
      | true ↦ λ h.
          let same = some_is m n h in
          subst (λ (k : Node). blocks_in (change m ∷ ms) + len k.map ≡ blocks_in (m ∷ ms) + len (change k).map) same (omega (arith, blocks_in-cons (change m) ms, blocks_in-cons m ms))
      | false ↦ λ h. omega (arith, blocks_in-changed id change ms n h, blocks_in-cons m (with_node id change ms), blocks_in-cons m ms)
    ] is

blocks_in-without : (id : ℕ) (nodes : List Node) (n : Node) → find (has_id id) nodes ≡ Some n → blocks_in (without_node id nodes) + len n.map ≡ blocks_in nodes
blocks_in-without id [] n is = absurd (not_some n is)
blocks_in-without id (m ∷ ms) n is =
    elim (m.id == id) as (λ b. cond b (Some m) (find (has_id id) ms) ≡ Some n → blocks_in (cond b ms (m ∷ without_node id ms)) + len n.map ≡ blocks_in (m ∷ ms)) [
      | true ↦ λ h. let same = ap (λ (k : Node). len k.map) (some_is m n h) in omega (arith, same, blocks_in-cons m ms)
      | false ↦ λ h. omega (arith, blocks_in-without id ms n h, blocks_in-cons m (without_node id ms), blocks_in-cons m ms)
    ] is

-- so many blocks more are mapped as weren't so before
mapped-put : (m : Blocks) (b p c : ℕ) → (b == c) ≡ false → is_gap (insert m b p) c ≡ is_gap m c
mapped-put m b p c other = ap (λ (o : Option ℕ). not (is_some o)) (get-put m b p c ∙ cond-false (b == c) (Some p) (get m c) other)

gaps_same : (m : Blocks) (b p : ℕ) (bs : List ℕ) → is_among bs b ≡ false → count_by (is_gap (insert m b p)) bs ≡ count_by (is_gap m) bs
gaps_same m b p [] out = refl
gaps_same m b p (c ∷ cs) out =
    let parts = or_parts (c == b) (is_among cs b) out in
    count-cons (is_gap (insert m b p)) c cs
    ∙ ap₂ (λ (t : Bool) (k : ℕ). cond t 1 0 + k) (mapped-put m b p c (ne_eqb b c (λ e. absurd (cc (eq-eqb c b (sym e), parts.0))))) (gaps_same m b p cs parts.1)
    ∙ sym (count-cons (is_gap m) c cs)

pub len-with_places : (blocks places : List ℕ) (m : Blocks) → length places ≡ length blocks → AreDistinct blocks → len (with_places blocks places m) ≡ len m + count_by (is_gap m) blocks
len-with_places [] places m size once = omega arith
len-with_places (b ∷ bs) [] m size once = absurd (omega (arith, size))
len-with_places (b ∷ bs) (p ∷ ps) m size once =
    len-with_places bs ps (insert m b p) (omega (arith, size)) once.1
    ∙ ap₂ (λ (j k : ℕ). j + k) (len-insert nat_cmp_total m b p) (gaps_same m b p bs once.0)
    ∙ one (is_mapped m b) (len m) (count_by (is_gap m) bs)
    ∙ ap (λ (k : ℕ). len m + k) (sym (count-cons (is_gap m) b bs))
  where
    one : (t : Bool) (j k : ℕ) → cond t j (j + 1) + k ≡ j + (cond (not t) 1 0 + k)
    one true j k = omega arith
    one false j k = omega arith

module _ (v : VolumeTable) (n : Node) (r : Resize) (places : List ℕ) (t : IsTable v) (good : IsGood v) (is : node_with v n.id ≡ Some n) (limit : r.size ≤ greatest_size) (version : n.version < greatest_number)
    (below : AreBelow (blocks_of r.size) r.blocks) (free : AreFreePlaces v (length r.blocks) places) where
  -- another size changes the count by that of the file's blocks
  pub used-resize : used (with_resize n (Some r) places v) + len n.map ≡ used v + len (resized_node r.size r.blocks places n).map
  used-resize =
      omega (
        arith,
        used-blocks v good t,
        used-blocks (with_resize n (Some r) places v) (IsGood-resize v n r places t is limit version below free good) (IsTable-resize v n r places t is limit version below free),
        blocks_in-changed n.id (resized_node r.size r.blocks places) v.nodes n is,
      )

  -- a write and a growth by those that are mapped anew and weren't mapped before
  pub used-grown : n.size ≤ r.size → AreDistinct r.blocks → used (with_resize n (Some r) places v) ≡ used v + count_by (is_gap n.map) r.blocks
  used-grown le once =
      let whole : (resized_node r.size r.blocks places n).map ≡ with_places r.blocks places n.map =
      sym (front-with_places (blocks_of r.size) r.blocks places n.map below) ∙ ap (with_places r.blocks places) (front_whole v.layout n r.size (there_limits v n.id n t is) le) in
      let more : len (resized_node r.size r.blocks places n).map ≡ len n.map + count_by (is_gap n.map) r.blocks = ap (λ (m : Blocks). len m) whole ∙ len-with_places r.blocks places n.map free.size once in
      omega (arith, used-resize, more)

-- a new file adds its blocks
pub used-make : (v : VolumeTable) (name : List ℕ) (size : ℕ) (places : List ℕ) → IsTable v → IsGood v → MayMake v v.next_id Plain name → size ≤ greatest_size → AreFreePlaces v (blocks_of size) places
    → used (with_file name size places v) ≡ used v + blocks_of size
used-make v name size places t good may limit free =
    let file : Node = made_file v.next_id name size places in
    let all : List ℕ = range_with_len 0 (blocks_of size) in
    let blocks : len file.map ≡ blocks_of size =
    len-with_places (range_with_len 0 (blocks_of size)) places empty (free.size ∙ sym (length-range 0 (blocks_of size))) (once_range 0 (blocks_of size))
    ∙ ap₂ (λ (j k : ℕ). j + k) (len-empty nat_cmp ℕ) (all_gaps (range_with_len 0 (blocks_of size)) ∙ length-range 0 (blocks_of size)) ∙ nothing (blocks_of size) in
    used-blocks (with_file name size places v) (IsGood-make v name size places t may limit free good) (IsTable-make v name size places t may limit free)
    ∙ sum_by-append (λ m. len m.map) v.nodes (file ∷ [])
    ∙ ap₂ (λ (j k : ℕ). j + k) (sym (used-blocks v good t)) (blocks_in-cons file [] ∙ last (len file.map) ∙ blocks)
  where
    nothing : (k : ℕ) → 0 + k ≡ k
    nothing k = omega arith

    last : (k : ℕ) → k + 0 ≡ k
    last k = omega arith

    all_gaps : (bs : List ℕ) → count_by (is_gap empty) bs ≡ length bs
    all_gaps [] = refl
    all_gaps (b ∷ bs) = count-cons (is_gap empty) b bs ∙ ap₂ (λ (o : Option ℕ) (k : ℕ). cond (not (is_some o)) 1 0 + k) (get-empty nat_cmp b) (all_gaps bs) ∙ step (length bs)
      where
        step : (k : ℕ) → 1 + k ≡ suc k
        step k = omega arith

-- a removal frees them
pub used-remove : (v : VolumeTable) (id : ℕ) (n : Node) → IsTable v → IsGood v → node_with v id ≡ Some n → used (without_file id v) + len n.map ≡ used v
used-remove v id n t good is =
    omega (arith, used-blocks v good t, used-blocks (without_file id v) (IsGood-remove v id n t is good) (IsTable-remove v id n t is), blocks_in-without id v.nodes n is)

-- another name changes nothing
pub used-rename : (v : VolumeTable) (id : ℕ) (name : List ℕ) (n : Node) → IsTable v → IsGood v → node_with v id ≡ Some n → MayRename v n name → used (renamed id name v) ≡ used v
used-rename v id name n t good is may =
    omega (arith, used-blocks v good t, used-blocks (renamed id name v) (IsGood-rename v id n t is name may good) (IsTable-rename v id n t is name may), blocks_in-changed id (with_name name) v.nodes n is)

-- no more places are used than there are data blocks
pub used_bounded : (v : VolumeTable) → used v ≤ data_blocks v.layout
used_bounded v = omega (arith, count_by-le-length (λ b. b) (used_places v), length-used_places v)
