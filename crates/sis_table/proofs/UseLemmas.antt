-- What edits do to the places that are used.
use Rattle.std.proofs.Common.{◌≡◌, ℕ, zero, suc, ◌+◌, ◌-◌, ◌^◌, ◌<◌, ◌≤◌, Bool, true, false, cond, ◌||◌, List, [], ◌∷◌, ◌++◌, find, Option, None, Some, eqb, refl, sym, ap, ◌∙◌, arith}
use Rattle.std.specs.List.{AllByRecursion, list_any, range_with_len}
use Rattle.std.proofs.lemmas.Bool.{or_left, or_right}
use Rattle.std.proofs.lemmas.Bool.Decides.{nat_tests}
use Rattle.sis_disk.specs.declared.layout.Layout.{Layout}
use Rattle.sis_disk.specs.Layout.{first_place}
use Rattle.sis_ranges.specs.Extents.{in_stretch}
use Rattle.sis_ranges.proofs.PlaceLemmas.{found-at, value-found}
use Rattle.sis_table.specs.declared.edit.Edit.{Edit}
use Rattle.sis_table.specs.declared.edit.Edit.TheVariants as edit
use Rattle.sis_table.specs.declared.node.Node.{Node}
use Rattle.sis_table.specs.declared.place_use.PlaceUse.{PlaceUse}
use Rattle.sis_table.specs.Edits.{edited, edited_by, MayEdit, MayEditBy}
use Rattle.sis_table.specs.Good.{IsGood}
use Rattle.sis_table.specs.Inside.{Tells, frees, lies_at, lies_between, maps_by, takes, used_by, used_by_all}
use Rattle.sis_table.specs.Uses.{ChangesUse, IsFresh, TakesFresh, has_use, used_after}
use Rattle.sis_table.specs.Volume.{VolumeTable, IsTable, IsNode, is_used, node_with, place_by, place_in}
use Rattle.sis_table.proofs.EditLemmas.{IsTable-edited, all_nodes, has_id}
use Rattle.sis_table.proofs.Lengths.{blocks_limit}
use Rattle.sis_table.proofs.PlaceLemmas.{place_in-drop, place_in-make, place_in-map, place_in-rename, place_in-size, place_in-unmap, place_in-version, used-at, used-from}

pub both_ways : (a b : Bool) → (a ≡ true → b ≡ true) → (b ≡ true → a ≡ true) → a ≡ b
both_ways true true f g = refl
both_ways true false f g = sym (f refl)
both_ways false true f g = g refl
both_ways false false f g = refl

is_no : (a : Bool) → (a ≡ true → ⊥) → a ≡ false
is_no true f = absurd (f refl)
is_no false f = refl

-- ---- blocks of a stretch at a place

some-at : (place : ℕ) (o : Option ℕ) → lies_at place o ≡ true → o ≡ Some place
some-at place None h = cc
some-at place (Some p) h = ap (λ (q : ℕ). Some q) (grind (arith, nat_tests, h))

at-some : (place : ℕ) (o : Option ℕ) → o ≡ Some place → lies_at place o ≡ true
at-some place None h = cc
at-some place (Some p) h = let e : p ≡ place = cc in grind (arith, nat_tests, e)

record Passes (test : ℕ → Bool) (first n : ℕ) : Type 0 where
  pub at : ℕ
  pub low : first ≤ at
  pub high : at < first + n
  pub passes : test at ≡ true

any-found : (test : ℕ → Bool) (n first : ℕ) → list_any test (range_with_len first n) ≡ true → Passes test first n
any-found test zero first h = absurd cc
any-found test (suc n) first h = by (test first) refl (λ later. any-found test n (first + 1) later) h
  where
    by : (b : Bool) → test first ≡ b → (list_any test (range_with_len (first + 1) n) ≡ true → Passes test (first + 1) n)
        → (b || list_any test (range_with_len (first + 1) n)) ≡ true → Passes test first (suc n)
    by true here others e = record { at = first; low = omega arith; high = omega arith; passes = here }
    by false here others e = let one = others e in record { at = one.at; low = omega (arith, one.low); high = omega (arith, one.high); passes = one.passes }

found-any : (test : ℕ → Bool) (n first at : ℕ) → first ≤ at → at < first + n → test at ≡ true → list_any test (range_with_len first n) ≡ true
found-any test zero first at low high h = absurd (omega arith)
found-any test (suc n) first at low high h = by (eqb first at) refl (λ more. found-any test n (first + 1) at more (omega (arith, high)) h)
  where
    by : (b : Bool) → eqb first at ≡ b → (first + 1 ≤ at → list_any test (range_with_len (first + 1) n) ≡ true) → (test first || list_any test (range_with_len (first + 1) n)) ≡ true
    by true here others = or_left (test first) _ (ap test (grind (arith, nat_tests, here)) ∙ h)
    by false here others = or_right (test first) _ (others (grind (arith, nat_tests, here, low)))

-- a block of the stretch that lies at the place
pub record Between (at : ℕ → Option ℕ) (first end place : ℕ) : Type 0 where
  pub block : ℕ
  pub low : first ≤ block
  pub high : block < end
  pub lies : at block ≡ Some place

pub between-found : (at : ℕ → Option ℕ) (first end place : ℕ) → lies_between at first end place ≡ true → Between at first end place
between-found at first end place h =
    let one = any-found (λ block. lies_at place (at block)) (end - first) first h in
    record { block = one.at; low = one.low; high = omega (arith, one.low, one.high); lies = some-at place (at one.at) one.passes }

pub found-between : (at : ℕ → Option ℕ) (first end place block : ℕ) → first ≤ block → block < end → at block ≡ Some place → lies_between at first end place ≡ true
found-between at first end place block low high lies =
    found-any (λ b. lies_at place (at b)) (end - first) first block low (omega arith) (at-some place (at block) lies)

-- ---- where the blocks of a table can be

node_there : (l : Layout) (id block place : ℕ) (nodes : List Node) → AllByRecursion (IsNode l) nodes → place_by (find (has_id id) nodes) block ≡ Some place
    → (block < 2 ^ 24) × (first_place l ≤ place) × (place < l.total)
node_there l id block place [] all is = absurd cc
node_there l id block place (n ∷ ns) all is = by (has_id id n) (λ later. node_there l id block place ns all.1 later) is
  where
    by : (b : Bool) → (place_by (find (has_id id) ns) block ≡ Some place → (block < 2 ^ 24) × (first_place l ≤ place) × (place < l.total))
        → place_by (cond b (Some n) (find (has_id id) ns)) block ≡ Some place → (block < 2 ^ 24) × (first_place l ≤ place) × (place < l.total)
    by true others e =
        let p = all.0.placed block place e in
        let few = blocks_limit n.size all.0.size in
        (omega (arith, p.inside, few), p.low, p.high)
    by false others e = others e

-- a mapped block is below the greatest, and lies at the place of a data block
pub placed-at : (v : VolumeTable) (id block place : ℕ) → IsTable v → place_in v id block ≡ Some place → (block < 2 ^ 24) × (first_place v.layout ≤ place) × (place < v.layout.total)
placed-at v id block place h is = node_there v.layout id block place v.nodes (all_nodes v.layout v.next_id [] v.nodes h.nodes) is

-- a mapped place is one of a data block
pub is_used-between : (v : VolumeTable) (place : ℕ) → IsTable v → is_used v place ≡ true → (first_place v.layout ≤ place) × (place < v.layout.total)
is_used-between v place h is =
    let one = used-at v place h is in
    let p = placed-at v one.id one.block place h one.lies in
    (p.1, p.2)

-- ---- a change of where some blocks of one file lie

-- blocks of the file that pass the test have new places, and all others those that they had
pub record IsChange (v w : VolumeTable) (id : ℕ) (inside : ℕ → Bool) (new : ℕ → Option ℕ) : Type 0 where
  pub table : IsTable v
  pub after : IsTable w
  pub shape : (j c : ℕ) → place_in w j c ≡ cond (eqb j id) (cond (inside c) (new c) (place_in v j c)) (place_in v j c)

module _ (v w : VolumeTable) (id : ℕ) (inside : ℕ → Bool) (new : ℕ → Option ℕ) (change : IsChange v w id inside new) where
  -- where a block lies that lay somewhere else, or didn't
  data Came (j c place : ℕ) : Type 0 where
    Newly : j ≡ id → inside c ≡ true → new c ≡ Some place → Came j c place
    Before : (j ≡ id → inside c ≡ false) → place_in v j c ≡ Some place → Came j c place

  came : (j c place : ℕ) → place_in w j c ≡ Some place → Came j c place
  came j c place is = by (eqb j id) refl (inside c) refl (sym (change.shape j c) ∙ is)
    where
      same : eqb j id ≡ true → j ≡ id
      same e = grind (arith, nat_tests, e)

      by : (b : Bool) → eqb j id ≡ b → (d : Bool) → inside c ≡ d → cond b (cond d (new c) (place_in v j c)) (place_in v j c) ≡ Some place → Came j c place
      by true here true in_it e = Newly (same here) in_it e
      by true here false in_it e = Before (λ s. in_it) e
      by false here d in_it e = Before (λ s. let t : eqb j id ≡ true = grind (arith, nat_tests, s) in cc) e

  lies_new : (c place : ℕ) → inside c ≡ true → new c ≡ Some place → is_used w place ≡ true
  lies_new c place in_it is = used-from w id c place (change.shape id c ∙ (let e : eqb id id ≡ true = grind (arith, nat_tests) in rw (e, in_it) is))

  lies_still : (j c place : ℕ) → (j ≡ id → inside c ≡ false) → place_in v j c ≡ Some place → is_used w place ≡ true
  lies_still j c place out is = used-from w j c place (change.shape j c ∙ by (eqb j id) refl)
    where
      by : (b : Bool) → eqb j id ≡ b → cond b (cond (inside c) (new c) (place_in v j c)) (place_in v j c) ≡ Some place
      by true here = let e = out (grind (arith, nat_tests, here)) in rw e is
      by false here = is

  -- which places are used then
  pub used-changed : IsGood v → (place : ℕ) (freed taken : Bool)
      → (freed ≡ true → (b : ℕ) × (inside b ≡ true) × (place_in v id b ≡ Some place)) → ((b : ℕ) → inside b ≡ true → place_in v id b ≡ Some place → freed ≡ true)
      → (taken ≡ true → (b : ℕ) × (inside b ≡ true) × (new b ≡ Some place)) → ((b : ℕ) → inside b ≡ true → new b ≡ Some place → taken ≡ true)
      → is_used w place ≡ cond taken true (cond freed false (is_used v place))
  used-changed good place freed true freed_is is_freed taken_is is_taken = let one = taken_is refl in lies_new one.0 place one.1 one.2
  used-changed good place true false freed_is is_freed taken_is is_taken = is_no (is_used w place) (λ used.
      let there = used-at w place change.after used in
      let one = freed_is refl in
      elim (came there.id there.block place there.lies) [
        | Newly same in_it is ↦ (let e = is_taken there.block in_it is in cc)
        | Before out is ↦ (
            let both = good there.id id there.block one.0 place is one.2 in
            let e : inside one.0 ≡ false = ap inside (sym both.1) ∙ out both.0 in
            let f = one.1 in
            cc)
      ])
  used-changed good place false false freed_is is_freed taken_is is_taken = both_ways (is_used w place) (is_used v place)
      (λ used. let there = used-at w place change.after used in elim (came there.id there.block place there.lies) [
        | Newly same in_it is ↦ (let e = is_taken there.block in_it is in cc)
        | Before out is ↦ used-from v there.id there.block place is
      ])
      (λ used. let there = used-at v place change.table used in
      lies_still there.id there.block place (λ same. is_no (inside there.block) (λ in_it.
      let here : place_in v id there.block ≡ Some place = ap (λ (k : ℕ). place_in v k there.block) (sym same) ∙ there.lies in
      let e = is_freed there.block in_it here in cc)) there.lies)

  -- no place is mapped twice then, if none of the new places was used
  pub good-changed : IsGood v → ((a b place : ℕ) → inside a ≡ true → inside b ≡ true → new a ≡ Some place → new b ≡ Some place → a ≡ b)
      → ((a place : ℕ) → inside a ≡ true → new a ≡ Some place → is_used v place ≡ false) → IsGood w
  good-changed good once fresh i j a b place is_a is_b = elim (came i a place is_a) [
    | Newly same_i in_a new_a ↦ elim (came j b place is_b) [
      | Newly same_j in_b new_b ↦ (same_i ∙ sym same_j, once a b place in_a in_b new_a new_b)
      | Before out_b at_b ↦ absurd (let used = used-from v j b place at_b in let free = fresh a place in_a new_a in cc)
    ]
    | Before out_a at_a ↦ elim (came j b place is_b) [
      | Newly same_j in_b new_b ↦ absurd (let used = used-from v i a place at_a in let free = fresh b place in_b new_b in cc)
      | Before out_b at_b ↦ good i j a b place at_a at_b
    ]
  ]

-- ---- each edit

abbrev no_block : ℕ → Bool
no_block block = false

abbrev all_blocks : ℕ → Bool
all_blocks block = true

abbrev no_place : ℕ → Option ℕ
no_place block = None

-- the file that an edit changes, the blocks that then lie elsewhere, and where
abbrev pub id_of_edit : Edit → ℕ
id_of_edit (edit.Make id kind name) = id
id_of_edit (edit.Drop id) = id
id_of_edit (edit.Rename id name) = id
id_of_edit (edit.Size id size) = id
id_of_edit (edit.Map id first count place) = id
id_of_edit (edit.Unmap id first count) = id
id_of_edit (edit.Version id version) = id

abbrev blocks_of_edit : Edit → ℕ → Bool
blocks_of_edit (edit.Make id kind name) = no_block
blocks_of_edit (edit.Drop id) = all_blocks
blocks_of_edit (edit.Rename id name) = no_block
blocks_of_edit (edit.Size id size) = no_block
blocks_of_edit (edit.Map id first count place) = in_stretch first count
blocks_of_edit (edit.Unmap id first count) = in_stretch first count
blocks_of_edit (edit.Version id version) = no_block

abbrev places_of_edit : Edit → ℕ → Option ℕ
places_of_edit (edit.Make id kind name) = no_place
places_of_edit (edit.Drop id) = no_place
places_of_edit (edit.Rename id name) = no_place
places_of_edit (edit.Size id size) = no_place
places_of_edit (edit.Map id first count place) = λ block. Some (place + (block - first))
places_of_edit (edit.Unmap id first count) = no_place
places_of_edit (edit.Version id version) = no_place

unchanged : (b : Bool) (new old : Option ℕ) → old ≡ cond b (cond false new old) old
unchanged true new old = refl
unchanged false new old = refl

shape_of : (v : VolumeTable) (e : Edit) → IsTable v → MayEdit v e → (j c : ℕ)
    → place_in (edited v e) j c ≡ cond (eqb j (id_of_edit e)) (cond (blocks_of_edit e c) (places_of_edit e c) (place_in v j c)) (place_in v j c)
shape_of v (edit.Make id kind name) table may j c = place_in-make v id kind name j c ∙ unchanged (eqb j id) None (place_in v j c)
shape_of v (edit.Drop id) table may j c = place_in-drop v id j c table
shape_of v (edit.Rename id name) table may j c = place_in-rename v id name j c ∙ unchanged (eqb j id) None (place_in v j c)
shape_of v (edit.Size id size) table may j c = place_in-size v id size j c ∙ unchanged (eqb j id) None (place_in v j c)
shape_of v (edit.Map id first count place) table may j c = place_in-map v id first count place j c may
shape_of v (edit.Unmap id first count) table may j c = place_in-unmap v id first count j c
shape_of v (edit.Version id version) table may j c = place_in-version v id version j c ∙ unchanged (eqb j id) None (place_in v j c)

change_of : (v : VolumeTable) (e : Edit) → IsTable v → MayEdit v e → IsChange v (edited v e) (id_of_edit e) (blocks_of_edit e) (places_of_edit e)
change_of v e h may = record { table = h; after = IsTable-edited v e h may; shape = shape_of v e h may }

mapped_is : (o : Option Node) (place : ℕ) → maps_by o place ≡ true → (b : ℕ) × (place_by o b ≡ Some place)
mapped_is None place h = cc
mapped_is (Some n) place h = found-at n.map place h

is_mapped : (o : Option Node) (place b : ℕ) → place_by o b ≡ Some place → maps_by o place ≡ true
is_mapped None place b h = cc
is_mapped (Some n) place b h = value-found n.map b place h

-- what the edit frees
freed_is : (v : VolumeTable) (e : Edit) (place : ℕ) → frees v e place ≡ true → (b : ℕ) × (blocks_of_edit e b ≡ true) × (place_in v (id_of_edit e) b ≡ Some place)
freed_is v (edit.Make id kind name) place h = cc
freed_is v (edit.Drop id) place h = let one = mapped_is (node_with v id) place h in (one.0, refl, one.1)
freed_is v (edit.Rename id name) place h = cc
freed_is v (edit.Size id size) place h = cc
freed_is v (edit.Map id first count at) place h =
    let one = between-found (place_in v id) first (first + count) place h in
    (one.block, grind (arith, nat_tests, one.low, one.high), one.lies)
freed_is v (edit.Unmap id first count) place h =
    let one = between-found (place_in v id) first (first + count) place h in
    (one.block, grind (arith, nat_tests, one.low, one.high), one.lies)
freed_is v (edit.Version id version) place h = cc

low_in : (first count block : ℕ) → in_stretch first count block ≡ true → first ≤ block
low_in first count block h = grind (arith, nat_tests, h)

high_in : (first count block : ℕ) → in_stretch first count block ≡ true → block < first + count
high_in first count block h = grind (arith, nat_tests, h)

is_in : (first count block : ℕ) → first ≤ block → block < first + count → in_stretch first count block ≡ true
is_in first count block low high = grind (arith, nat_tests, low, high)

is_freed : (v : VolumeTable) (e : Edit) (place : ℕ) → (b : ℕ) → blocks_of_edit e b ≡ true → place_in v (id_of_edit e) b ≡ Some place → frees v e place ≡ true
is_freed v (edit.Make id kind name) place b h is = cc
is_freed v (edit.Drop id) place b h is = is_mapped (node_with v id) place b is
is_freed v (edit.Rename id name) place b h is = cc
is_freed v (edit.Size id size) place b h is = cc
is_freed v (edit.Map id first count at) place b h is = found-between (place_in v id) first (first + count) place b (low_in first count b h) (high_in first count b h) is
is_freed v (edit.Unmap id first count) place b h is = found-between (place_in v id) first (first + count) place b (low_in first count b h) (high_in first count b h) is
is_freed v (edit.Version id version) place b h is = cc

-- what it takes
taken_is : (e : Edit) (place : ℕ) → takes e place ≡ true → (b : ℕ) × (blocks_of_edit e b ≡ true) × (places_of_edit e b ≡ Some place)
taken_is (edit.Make id kind name) place h = cc
taken_is (edit.Drop id) place h = cc
taken_is (edit.Rename id name) place h = cc
taken_is (edit.Size id size) place h = cc
taken_is (edit.Map id first count at) place h =
    let low = low_in at count place h in
    let high = high_in at count place h in
    (first + (place - at), is_in first count _ (omega arith) (omega (arith, low, high)), ap (λ (p : ℕ). Some p) (omega (arith, low)))
taken_is (edit.Unmap id first count) place h = cc
taken_is (edit.Version id version) place h = cc

is_taken : (e : Edit) (place b : ℕ) → blocks_of_edit e b ≡ true → places_of_edit e b ≡ Some place → takes e place ≡ true
is_taken (edit.Make id kind name) place b h is = cc
is_taken (edit.Drop id) place b h is = cc
is_taken (edit.Rename id name) place b h is = cc
is_taken (edit.Size id size) place b h is = cc
is_taken (edit.Map id first count at) place b h is =
    let same : at + (b - first) ≡ place = cc in
    let low = low_in first count b h in
    let high = high_in first count b h in
    is_in at count place (omega (arith, same)) (omega (arith, same, low, high))
is_taken (edit.Unmap id first count) place b h is = cc
is_taken (edit.Version id version) place b h is = cc

-- which places are used after an edit
pub used-edited : (v : VolumeTable) (e : Edit) (place : ℕ) → IsTable v → IsGood v → MayEdit v e → is_used (edited v e) place ≡ used_by v e place (is_used v place)
used-edited v e place table good may =
    used-changed v (edited v e) (id_of_edit e) (blocks_of_edit e) (places_of_edit e) (change_of v e table may) good place (frees v e place) (takes e place)
    (freed_is v e place) (is_freed v e place) (taken_is e place) (is_taken e place)

once : (e : Edit) (a b place : ℕ) → blocks_of_edit e a ≡ true → blocks_of_edit e b ≡ true → places_of_edit e a ≡ Some place → places_of_edit e b ≡ Some place → a ≡ b
once (edit.Make id kind name) a b place in_a in_b new_a new_b = cc
once (edit.Drop id) a b place in_a in_b new_a new_b = cc
once (edit.Rename id name) a b place in_a in_b new_a new_b = cc
once (edit.Size id size) a b place in_a in_b new_a new_b = cc
once (edit.Map id first count at) a b place in_a in_b new_a new_b =
    let same : at + (a - first) ≡ at + (b - first) = cc in
    omega (arith, same, low_in first count a in_a, low_in first count b in_b)
once (edit.Unmap id first count) a b place in_a in_b new_a new_b = cc
once (edit.Version id version) a b place in_a in_b new_a new_b = cc

fresh_in : (v : VolumeTable) (e : Edit) (place : ℕ) → IsFresh v e → takes e place ≡ true → is_used v place ≡ false
fresh_in v (edit.Make id kind name) place fresh h = cc
fresh_in v (edit.Drop id) place fresh h = cc
fresh_in v (edit.Rename id name) place fresh h = cc
fresh_in v (edit.Size id size) place fresh h = cc
fresh_in v (edit.Map id first count at) place fresh h = fresh place h
fresh_in v (edit.Unmap id first count) place fresh h = cc
fresh_in v (edit.Version id version) place fresh h = cc

-- no place is mapped twice after an edit that takes fresh ones
pub IsGood-edited : (v : VolumeTable) (e : Edit) → IsTable v → IsGood v → MayEdit v e → IsFresh v e → IsGood (edited v e)
IsGood-edited v e table good may fresh =
    good-changed v (edited v e) (id_of_edit e) (blocks_of_edit e) (places_of_edit e) (change_of v e table may) good (once e)
    (λ a place in_a new_a. fresh_in v e place fresh (is_taken e place a in_a new_a))

-- ---- all edits

pub IsGood-edited_by : (v : VolumeTable) (es : List Edit) → IsTable v → IsGood v → MayEditBy v es → TakesFresh v es → IsGood (edited_by v es)
IsGood-edited_by v [] table good may fresh = good
IsGood-edited_by v (e ∷ es) table good may fresh =
    IsGood-edited_by (edited v e) es (IsTable-edited v e table may.0) (IsGood-edited v e table good may.0 fresh.0) may.1 fresh.1

pub used-edited_by : (v : VolumeTable) (es : List Edit) (place : ℕ) → IsTable v → IsGood v → MayEditBy v es → TakesFresh v es
    → is_used (edited_by v es) place ≡ used_by_all v es place (is_used v place)
used-edited_by v [] place table good may fresh = refl
used-edited_by v (e ∷ es) place table good may fresh =
    used-edited_by (edited v e) es place (IsTable-edited v e table may.0) (IsGood-edited v e table good may.0 fresh.0) may.1 fresh.1
    ∙ ap (used_by_all (edited v e) es place) (used-edited v e place table good may.0)

-- ---- what is told

pub used_after-append : (us ws : List PlaceUse) (place : ℕ) (before : Bool) → used_after (us ++ ws) place before ≡ used_after ws place (used_after us place before)
used_after-append [] ws place before = refl
used_after-append (u ∷ us) ws place before = used_after-append us ws place (cond (has_use place u) u.is_taken before)

pub told-changes : (v : VolumeTable) (es : List Edit) (uses : List PlaceUse) → IsTable v → MayEditBy v es → Tells v es uses → IsGood v → TakesFresh v es → ChangesUse v (edited_by v es) uses
told-changes v es uses table may told good fresh place = used-edited_by v es place table good may fresh ∙ sym (told place (is_used v place))
