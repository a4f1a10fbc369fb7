-- Files in the order of their names.
use Rattle.std.proofs.Common.{◌≡◌, ℕ, ◌<◌, ◌≤◌, Bool, true, false, cond, ◌&&◌, not, List, [], ◌∷◌, map, filter, find, eqb, is_some, Option, Some, None, refl, sym, ap, ap₂, subst, ◌∙◌, arith}
use Rattle.std.specs.FinMap.{from_entries, entries, keys, same_map}
use Rattle.std.specs.FinMap as fin
use Rattle.std.specs.BTreeMap.{BTreeMap, IsOrdered}
use Rattle.std.specs.BTreeMap as tree
use Rattle.std.specs.BTreeMap.Range.{entries_between, range_contains}
use Rattle.std.specs.List.{AllByRecursion}
use Rattle.std.specs.List.Sorted.{IsStrictlySortedBy}
use Rattle.std.specs.Map.{keys_of}
use Rattle.std.specs.Option.{option_map}
use Rattle.std.specs.Ordering.{is_lt, nat_cmp, ordering_reverse}
use Rattle.std.specs.declared.cmp.Ordering.{Ordering}
use Rattle.std.specs.declared.cmp.Ordering.TheVariants.{Less, Equal, Greater}
use Rattle.std.specs.Cmp.{tied_itself}
use Rattle.std.proofs.lemmas.Bool.Decides.{nat_tests}
use Rattle.std.specs.declared.ops.Bound.{Bound}
use Rattle.std.specs.declared.ops.Bound.TheVariants.{Excluded, Unbounded}
use Rattle.sis_name.specs.Units.{name_cmp, name_total, name_ties, is_after}
use Rattle.sis_name.proofs.Named.{named, get_named, entries_named}
use Rattle.sis_table.specs.declared.node.Node.{Node}
use Rattle.sis_table.specs.Index.{IsIndex, IsNextIn, AreRising, AreIndexed}
use Rattle.sis_table.specs.Volume.{VolumeTable, ids_of, id_of, has_name, node_named, names_after, user_nodes, IsNextFile, IsNextNode}
use Rattle.sis_table.proofs.ContentLemmas.{same_test, mapped_cond, user_nodes-all}
use Rattle.sis_table.proofs.EditLemmas.{has_id}
use Rattle.sis_table.proofs.FileLemmas.{below, same_units, some_is}

abbrev name_entry : Node → List ℕ × ℕ
name_entry n = (n.name, n.id)

named_ids : (nodes : List Node) (name : List ℕ) → named (map name_entry nodes) name ≡ option_map id_of (find (has_name name) nodes)
named_ids [] name = refl
named_ids (n ∷ ns) name =
    ap₂ (λ (b : Bool) (o : Option ℕ). cond b (Some n.id) o) (same_test name n.name) (named_ids ns name)
    ∙ mapped_cond id_of (has_name name n) n (find (has_name name) ns)

-- under a name stands the id of the file that has it
pub get-ids_of : (v : VolumeTable) (name : List ℕ) → fin.get (ids_of v) name ≡ option_map id_of (node_named v name)
get-ids_of v name =
    get_named (map name_entry (user_nodes v)) name ∙ ap (λ (nodes : List Node). named (map name_entry nodes) name) (user_nodes-all v) ∙ named_ids v.nodes name

-- the index has just the names and ids of the files
pub entries-ids_of : (v : VolumeTable) (names : BTreeMap (List ℕ) ℕ) → IsIndex names v.nodes → IsOrdered name_cmp names → entries (ids_of v) ≡ names.entries
entries-ids_of v names index ordered =
    ap entries (same_map name_total name_ties (ids_of v) (from_entries {R = name_cmp} names.entries)
    (λ q. get-ids_of v q ∙ sym (index q) ∙ sym (get_named names.entries q)))
    ∙ entries_named names.entries ordered

-- ---- names behind a name

abbrev pub from : Option (List ℕ) → Bound (List ℕ)
from None = Unbounded
from (Some name) = Excluded name

inside : (b : Bool) → (b && not false) ≡ b
inside true = refl
inside false = refl

in_range : (after : Option (List ℕ)) (name : List ℕ) → range_contains name_cmp (from after) Unbounded name ≡ is_after after name
in_range None name = refl
in_range (Some least) name = inside (is_lt (name_cmp least name))

pub keys_between : (after : Option (List ℕ)) (es : List (List ℕ × ℕ)) → keys_of (entries_between name_cmp (from after) Unbounded es) ≡ filter (is_after after) (keys_of es)
keys_between after [] = refl
keys_between after (e ∷ es) =
    ap (λ (b : Bool). keys_of (cond b (e ∷ entries_between name_cmp (from after) Unbounded es) (entries_between name_cmp (from after) Unbounded es))) (in_range after e.0)
    ∙ elim (is_after after e.0) as (λ b. keys_of (cond b (e ∷ entries_between name_cmp (from after) Unbounded es) (entries_between name_cmp (from after) Unbounded es)) ≡ cond b (e.0 ∷ filter (is_after after) (keys_of es)) (filter (is_after after) (keys_of es))) [
      | true ↦ ap (λ (ks : List (List ℕ)). e.0 ∷ ks) (keys_between after es)
      | false ↦ keys_between after es
    ]

less_from : (r : Ordering) → is_lt r ≡ true → r ≡ Less
less_from Less h = refl
less_from Equal h = absurd cc
less_from Greater h = absurd cc

not_before : (a b : List ℕ) → name_cmp a b ≡ Less → is_lt (name_cmp b a) ≡ false
not_before a b h = ap is_lt (name_total.antisymm b a ∙ ap ordering_reverse h)

not_itself : (a : List ℕ) → is_lt (name_cmp a a) ≡ false
not_itself a = ap is_lt (tied_itself name_total a)

-- what comes after a name that comes after comes after
later : (after : Option (List ℕ)) (a b : List ℕ) → is_after after a ≡ true → name_cmp a b ≡ Less → is_after after b ≡ true
later None a b h lt = refl
later (Some least) a b h lt = ap is_lt (name_total.trans least a b (less_from (name_cmp least a) h) lt)

keeps_all : (p : List ℕ → Bool) (ks : List (List ℕ)) → AllByRecursion (λ k. p k ≡ true) ks → filter p ks ≡ ks
keeps_all p [] h = refl
keeps_all p (k ∷ ks) h =
    ap (λ (b : Bool). cond b (k ∷ filter p ks) (filter p ks)) h.0 ∙ ap (λ (xs : List (List ℕ)). k ∷ xs) (keeps_all p ks h.1)

all_later : (after : Option (List ℕ)) (k : List ℕ) (ks : List (List ℕ)) → is_after after k ≡ true → AllByRecursion (λ y. name_cmp k y ≡ Less) ks → AllByRecursion (λ y. is_after after y ≡ true) ks
all_later after k [] here h = tt
all_later after k (x ∷ xs) here h = (later after k x here h.0, all_later after k xs here h.1)

all_after : (k : List ℕ) (ks : List (List ℕ)) → AllByRecursion (λ y. name_cmp k y ≡ Less) ks → AllByRecursion (λ y. is_after (Some k) y ≡ true) ks
all_after k [] h = tt
all_after k (x ∷ xs) h = (ap is_lt h.0, all_after k xs h.1)

first_kept : (P : List ℕ → Type 0) (p : List ℕ → Bool) (ks : List (List ℕ)) (k : List ℕ) (rest : List (List ℕ)) → AllByRecursion P ks → filter p ks ≡ k ∷ rest → P k
first_kept P p [] k rest all is = absurd cc
first_kept P p (x ∷ xs) k rest all is =
    elim (p x) as (λ b. cond b (x ∷ filter p xs) (filter p xs) ≡ k ∷ rest → P k) [
      | true ↦ λ h. let same : x ≡ k = cc in subst P same all.0
      | false ↦ λ h. first_kept P p xs k rest all.1 h
    ] is

-- the names behind the first one that is greater are those that are greater than it
behind_first : (after : Option (List ℕ)) (ks : List (List ℕ)) (k : List ℕ) (rest : List (List ℕ)) → IsStrictlySortedBy name_cmp ks → filter (is_after after) ks ≡ k ∷ rest → rest ≡ filter (is_after (Some k)) ks
unfolding IsStrictlySortedBy
behind_first after [] k rest h is = absurd cc
behind_first after (x ∷ xs) k rest h is =
    elim (is_after after x) as (λ b. is_after after x ≡ b → cond b (x ∷ filter (is_after after) xs) (filter (is_after after) xs) ≡ k ∷ rest → rest ≡ filter (is_after (Some k)) (x ∷ xs)) [
      | true ↦ λ here e.
          let same : x ≡ k = cc in
          let others : filter (is_after after) xs ≡ rest = cc in
          sym others ∙ keeps_all (is_after after) xs (all_later after x xs here h.0)
          ∙ sym (keeps_all (is_after (Some x)) xs (all_after x xs h.0))
          ∙ sym (ap (λ (b : Bool). cond b (x ∷ filter (is_after (Some x)) xs) (filter (is_after (Some x)) xs)) (not_itself x))
          ∙ ap (λ (q : List ℕ). filter (is_after (Some q)) (x ∷ xs)) same
      | false ↦ λ here e.
          behind_first after xs k rest h.1 e
          ∙ sym (ap (λ (b : Bool). cond b (x ∷ filter (is_after (Some k)) xs) (filter (is_after (Some k)) xs)) (not_before x k (first_kept (λ y. name_cmp x y ≡ Less) (is_after after) xs k rest h.0 e)))
    ] refl is

-- ---- the file that comes next

keys_are : (v : VolumeTable) (names : BTreeMap (List ℕ) ℕ) → IsIndex names v.nodes → IsOrdered name_cmp names → keys (ids_of v) ≡ keys_of names.entries
keys_are v names index ordered = ap (λ (es : List (List ℕ × ℕ)). keys_of es) (entries-ids_of v names index ordered)

names_are : (v : VolumeTable) (names : BTreeMap (List ℕ) ℕ) (after : Option (List ℕ)) → IsIndex names v.nodes → IsOrdered name_cmp names
    → names_after v after ≡ keys_of (entries_between name_cmp (from after) Unbounded names.entries)
names_are v names after index ordered = ap (filter (is_after after)) (keys_are v names index ordered) ∙ sym (keys_between after names.entries)

pub next_none : (v : VolumeTable) (names : BTreeMap (List ℕ) ℕ) (after : Option (List ℕ)) → IsIndex names v.nodes → IsOrdered name_cmp names
    → entries_between name_cmp (from after) Unbounded names.entries ≡ [] → names_after v after ≡ []
next_none v names after index ordered none = names_are v names after index ordered ∙ ap (λ (es : List (List ℕ × ℕ)). keys_of es) none

found_passes : (test : Node → Bool) (nodes : List Node) (n : Node) → find test nodes ≡ Some n → test n ≡ true
found_passes test [] n is = absurd cc
found_passes test (m ∷ ms) n is =
    elim (test m) as (λ b. test m ≡ b → cond b (Some m) (find test ms) ≡ Some n → test n ≡ true) [
      | true ↦ λ here h. let same : m ≡ n = some_is m n h in subst (λ (k : Node). test k ≡ true) same here
      | false ↦ λ here h. found_passes test ms n h
    ] refl is

found_is : (P : ℕ → Type 0) (test : Node → Bool) (nodes : List Node) (n : Node) → AllByRecursion P (map id_of nodes) → find test nodes ≡ Some n → P n.id
found_is P test [] n all is = absurd cc
found_is P test (m ∷ ms) n all is =
    elim (test m) as (λ b. cond b (Some m) (find test ms) ≡ Some n → P n.id) [
      | true ↦ λ h. let same : m ≡ n = some_is m n h in subst (λ (k : Node). P k.id) same all.0
      | false ↦ λ h. found_is P test ms n all.1 h
    ] is

-- where ids rise, a file is found by its id
found_by_id : (test : Node → Bool) (nodes : List Node) (n : Node) → AreRising nodes → find test nodes ≡ Some n → find (has_id n.id) nodes ≡ Some n
unfolding IsStrictlySortedBy
found_by_id test [] n rising is = absurd cc
found_by_id test (m ∷ ms) n rising is =
    elim (test m) as (λ b. cond b (Some m) (find test ms) ≡ Some n → find (has_id n.id) (m ∷ ms) ≡ Some n) [
      | true ↦ λ h.
          let same : m ≡ n = some_is m n h in
          let here : has_id n.id m ≡ true = ap (λ (k : Node). has_id n.id k) same ∙ its_own n.id in
          ap (λ (b : Bool). cond b (Some m) (find (has_id n.id) ms)) here ∙ ap (λ (k : Node). Some k) same
      | false ↦ λ h.
          let less = found_is (λ id. nat_cmp m.id id ≡ Less) test ms n rising.0 h in
          let other : has_id n.id m ≡ false = before_not (m.id) (n.id) less in
          ap (λ (b : Bool). cond b (Some m) (find (has_id n.id) ms)) other ∙ found_by_id test ms n rising.1 h
    ] is
  where
    its_own : (id : ℕ) → eqb id id ≡ true
    its_own id = grind (arith, nat_tests)

    before_not : (a b : ℕ) → nat_cmp a b ≡ Less → eqb a b ≡ false
    before_not a b h = let lt = below a b h in grind (arith, nat_tests)

id_found : (o : Option Node) (id : ℕ) → option_map id_of o ≡ Some id → (n : Node) × (o ≡ Some n) × (n.id ≡ id)
id_found None id h = absurd cc
id_found (Some n) id h = (n, refl, some_is n.id id h)

pub next_some : (v : VolumeTable) (names : BTreeMap (List ℕ) ℕ) (after : Option (List ℕ)) (name : List ℕ) (id : ℕ) (rest : List (List ℕ × ℕ)) → AreIndexed v.nodes names → IsOrdered name_cmp names
    → entries_between name_cmp (from after) Unbounded names.entries ≡ (name, id) ∷ rest → tree.get name_cmp names name ≡ Some id → IsNextFile v after (Some id)
next_some v names after name id rest h ordered is found =
    let f = id_found (find (has_name name) v.nodes) id (sym (h.index name) ∙ found) in
    let named_so : f.0.name ≡ name = same_units f.0.name name (found_passes (has_name name) v.nodes f.0 f.1) in
    let by_id : find (has_id id) v.nodes ≡ Some f.0 = subst (λ (k : ℕ). find (has_id k) v.nodes ≡ Some f.0) f.2 (found_by_id (has_name name) v.nodes f.0 h.rising f.1) in
    let kept : filter (is_after after) (keys_of names.entries) ≡ name ∷ keys_of rest = sym (keys_between after names.entries) ∙ ap (λ (es : List (List ℕ × ℕ)). keys_of es) is in
    let others : keys_of rest ≡ names_after v (Some name) =
    behind_first after (keys_of names.entries) name (keys_of rest) ordered kept
    ∙ sym (ap (filter (is_after (Some name))) (keys_are v names h.index ordered)) in
    let all : names_after v after ≡ name ∷ names_after v (Some name) =
    names_are v names after h.index ordered ∙ ap (λ (es : List (List ℕ × ℕ)). keys_of es) is ∙ ap (λ (ks : List (List ℕ)). name ∷ ks) others in
    (f.0, by_id, subst (λ (units : List ℕ). names_after v after ≡ units ∷ names_after v (Some units)) (sym named_so) all)

-- ---- the next id

no_id : (P : Node → Type 0) (nodes : List Node) (id : ℕ) → AllByRecursion P nodes → ((n : Node) → P n → n.id ≡ id → ⊥) → find (has_id id) nodes ≡ None
no_id P [] id all none = refl
no_id P (n ∷ ns) id all none = by (has_id id n) refl (no_id P ns id all.1 none)
  where
    by : (b : Bool) → has_id id n ≡ b → find (has_id id) ns ≡ None → cond b (Some n) (find (has_id id) ns) ≡ None
    by true e others = absurd (none n all.0 (grind (arith, nat_tests, e)))
    by false e others = others

next_in : (v : VolumeTable) (after : ℕ) (o : Option Node) → IsNextIn v.nodes after o → IsNextNode v after (option_map id_of o)
next_in v after None all = λ id lt. no_id (λ n. n.id ≤ after) v.nodes id all (λ n le same. omega (arith, le, same, lt))
next_in v after (Some n) is = (
  is.0,
  ap is_some is.1,
  λ id low high. no_id (λ m. after < m.id → n.id ≤ m.id) v.nodes id is.2 (λ m least same. let le = least (omega (arith, same, low)) in omega (arith, le, same, high)),
)

-- the id of the file that comes next
pub next_id : (v : VolumeTable) (nodes : List Node) (after : ℕ) (o : Option Node) → v.nodes ≡ nodes → IsNextIn nodes after o → IsNextNode v after (option_map id_of o)
next_id v nodes after o same is = next_in v after o (subst (λ (ns : List Node). IsNextIn ns after o) (sym same) is)
