-- Files by rising ids, and the index of their names.
use Rattle.std.proofs.Common.{◌≡◌, ℕ, ◌+◌, ◌<◌, ◌≤◌, Bool, true, false, cond, ◌||◌, eqb, List, [], ◌∷◌, ◌++◌, map, find, sum_by, Option, None, Some, refl, sym, ap, subst, ◌∙◌, arith, append_assoc}
use Rattle.std.specs.List.{AllByRecursion, list_any}
use Rattle.std.specs.List.Sorted.{IsStrictlySortedBy}
use Rattle.std.specs.Option.{option_map, option_or}
use Rattle.std.specs.Prelude.{◌==◌}
use Rattle.std.specs.Ordering.{nat_cmp, eq_by_cmp}
use Rattle.std.specs.declared.cmp.Ordering.TheVariants.{Less}
use Rattle.std.specs.Cmp.{unsigned_ties}
use Rattle.std.specs.Cmp.Lexicographic.{lists_ties}
use Rattle.std.proofs.lemmas.Map.Views.{tells_apart}
use Rattle.std.specs.BTreeMap.{BTreeMap}
use Rattle.std.specs.BTreeMap as tree
use Rattle.std.proofs.lemmas.Cmp.{ranked}
use Rattle.std.proofs.lemmas.List.Sums.{sum_by-cons}
use Rattle.std.proofs.lemmas.Bool.Decides.{nat_tests}
use Rattle.sis_name.specs.Units.{name_cmp, name_ties}
use Rattle.sis_table.specs.declared.node.Node.{Node}
use Rattle.sis_table.specs.Edits.{with_node}
use Rattle.sis_table.specs.Index.{IsIndex, AreRising, AreIndexed}
use Rattle.sis_table.specs.Volume.{has_name, id_of, last_id, AreNodes}
use Rattle.sis_disk.specs.declared.layout.Layout.{Layout}
use Rattle.std.proofs.lemmas.List.{append-nil}
use Rattle.sis_name.specs.Files.{same_name}
use Rattle.sis_table.specs.Spelling.{node_len}
use Rattle.sis_table.proofs.EditLemmas.{has_id}

pub some_is : {X : Type 0} (x y : X) → Some x ≡ Some y → x ≡ y
some_is x y h = cc

-- ---- the index of names

pub same_units : (a b : List ℕ) → same_name a b ≡ true → a ≡ b
same_units a b h = tells_apart name_ties a b (sym (lists_ties nat_cmp unsigned_ties a b) ∙ h)

pub find_none : {X : Type 0} (test : X → Bool) (xs : List X) → list_any test xs ≡ false → find test xs ≡ None
find_none test [] h = refl
find_none test (x ∷ xs) h =
    elim (test x) as (λ b. (b || list_any test xs) ≡ false → cond b (Some x) (find test xs) ≡ None) [
      | true ↦ λ k. absurd cc
      | false ↦ λ k. find_none test xs k
    ] h

pub find-push : {X : Type 0} (test : X → Bool) (xs : List X) (y : X) → find test (xs ++ y ∷ []) ≡ option_or (find test xs) (cond (test y) (Some y) None)
find-push test [] y = refl
find-push test (x ∷ xs) y =
    elim (test x) as (λ b. cond b (Some x) (find test (xs ++ y ∷ [])) ≡ option_or (cond b (Some x) (find test xs)) (cond (test y) (Some y) None)) [
      | true ↦ refl
      | false ↦ find-push test xs y
    ]

option_or_none : {X : Type 0} (o : Option X) → option_or o None ≡ o
option_or_none None = refl
option_or_none (Some x) = refl

-- what a name finds, with one more file behind those that haven't its name
pub found_push : (nodes : List Node) (n : Node) (name : List ℕ) → list_any (has_name n.name) nodes ≡ false
    → option_map id_of (find (has_name name) (nodes ++ n ∷ [])) ≡ cond (eq_by_cmp name_cmp n.name name) (Some n.id) (option_map id_of (find (has_name name) nodes))
found_push nodes n name free =
    ap (option_map id_of) (find-push (has_name name) nodes n)
    ∙ elim (same_name n.name name) as (λ b. same_name n.name name ≡ b → option_map id_of (option_or (find (has_name name) nodes) (cond b (Some n) None)) ≡ cond b (Some n.id) (option_map id_of (find (has_name name) nodes))) [
      | true ↦ λ is. ap (λ (o : Option Node). option_map id_of (option_or o (Some n))) (find_none (has_name name) nodes (subst (λ (units : List ℕ). list_any (has_name units) nodes ≡ false) (same_units n.name name is) free))
      | false ↦ λ is. ap (option_map id_of) (option_or_none (find (has_name name) nodes))
    ] refl
    ∙ ap (λ (b : Bool). cond b (Some n.id) (option_map id_of (find (has_name name) nodes))) (lists_ties nat_cmp unsigned_ties n.name name)

index_push : (old new : BTreeMap (List ℕ) ℕ) (nodes : List Node) (n : Node) → IsIndex old nodes → tree.Updates name_cmp old new n.name (Some n.id) → list_any (has_name n.name) nodes ≡ false → IsIndex new (nodes ++ n ∷ [])
index_push old new nodes n is updates free name =
    updates.0 name ∙ ap (cond (eq_by_cmp name_cmp n.name name) (Some n.id)) (is name) ∙ sym (found_push nodes n name free)

-- ---- rising ids

pub less : (a b : ℕ) → a < b → nat_cmp a b ≡ Less
less a b lt = grind (arith, nat_tests)

pub below : (a b : ℕ) → nat_cmp a b ≡ Less → a < b
below a b h = ranked a b Less (sym h)

pub rising_last : (n : Node) (ns : List Node) → AreRising (n ∷ ns) → n.id ≤ last_id (n ∷ ns)
unfolding IsStrictlySortedBy
rising_last n [] h = omega arith
rising_last n (m ∷ ms) h =
    let first = below n.id m.id h.0.0 in
    let others = rising_last m ms h.1 in
    omega arith

all_push : (P : ℕ → Type 0) (nodes : List Node) (n : Node) → AllByRecursion P (map id_of nodes) → P n.id → AllByRecursion P (map id_of (nodes ++ n ∷ []))
all_push P [] n h one = (one, tt)
all_push P (m ∷ ms) n h one = (h.0, all_push P ms n h.1 one)

pub rising_push : (nodes : List Node) (n : Node) → AreRising nodes → last_id nodes < n.id → AreRising (nodes ++ n ∷ [])
unfolding IsStrictlySortedBy
rising_push [] n h lt = (tt, tt)
rising_push (m ∷ []) n h lt = ((less m.id n.id lt, tt), (tt, tt))
rising_push (m ∷ k ∷ ks) n h lt =
    let last = rising_last m (k ∷ ks) h in
    (all_push (λ y. nat_cmp m.id y ≡ Less) (k ∷ ks) n h.0 (less m.id n.id (omega arith)), rising_push (k ∷ ks) n h.1 lt)

-- ---- files with an index

pub indexed_push : (old new : BTreeMap (List ℕ) ℕ) (nodes : List Node) (n : Node) → AreIndexed nodes old → last_id nodes < n.id → list_any (has_name n.name) nodes ≡ false
    → tree.Updates name_cmp old new n.name (Some n.id) → AreIndexed (nodes ++ n ∷ []) new
indexed_push old new nodes n h lt free updates =
    record { rising = rising_push nodes n h.rising lt; index = index_push old new nodes n h.index updates free }

-- a change of one file that keeps its id and its name
pub same_ids : (id : ℕ) (change : Node → Node) (nodes : List Node) → ((n : Node) → (change n).id ≡ n.id) → map id_of (with_node id change nodes) ≡ map id_of nodes
same_ids id change [] ids = refl
same_ids id change (n ∷ ns) ids =
    elim (n.id == id) as (λ b. map id_of (cond b (change n ∷ ns) (n ∷ with_node id change ns)) ≡ n.id ∷ map id_of ns) [
      | true ↦ ap (λ (k : ℕ). k ∷ map id_of ns) (ids n)
      | false ↦ ap (λ (ks : List ℕ). n.id ∷ ks) (same_ids id change ns ids)
    ]

pub same_found : (id : ℕ) (change : Node → Node) (nodes : List Node) (name : List ℕ) → ((n : Node) → (change n).id ≡ n.id) → ((n : Node) → (change n).name ≡ n.name)
    → option_map id_of (find (has_name name) (with_node id change nodes)) ≡ option_map id_of (find (has_name name) nodes)
same_found id change [] name ids names = refl
same_found id change (n ∷ ns) name ids names =
    elim (n.id == id) as (λ b. option_map id_of (find (has_name name) (cond b (change n ∷ ns) (n ∷ with_node id change ns))) ≡ option_map id_of (find (has_name name) (n ∷ ns))) [
      | true ↦ ap (λ (units : List ℕ). option_map id_of (cond (same_name units name) (Some (change n)) (find (has_name name) ns))) (names n)
          ∙ elim (has_name name n) as (λ b. option_map id_of (cond b (Some (change n)) (find (has_name name) ns)) ≡ option_map id_of (cond b (Some n) (find (has_name name) ns))) [
            | true ↦ ap (λ (k : ℕ). Some k) (ids n)
            | false ↦ refl
          ]
      | false ↦ elim (has_name name n) as (λ b. option_map id_of (cond b (Some n) (find (has_name name) (with_node id change ns))) ≡ option_map id_of (cond b (Some n) (find (has_name name) ns))) [
        | true ↦ refl
        | false ↦ same_found id change ns name ids names
      ]
    ]

-- how long the texts are after a change of one file
pub sum-with_node : (id : ℕ) (change : Node → Node) (nodes : List Node) (n : Node) → find (has_id id) nodes ≡ Some n
    → sum_by node_len (with_node id change nodes) + node_len n ≡ sum_by node_len nodes + node_len (change n)
sum-with_node id change [] n is = absurd cc
sum-with_node id change (m ∷ ms) n is =
    elim (eqb m.id id) as (λ b. cond b (Some m) (find (has_id id) ms) ≡ Some n → sum_by node_len (cond b (change m ∷ ms) (m ∷ with_node id change ms)) + node_len n ≡ sum_by node_len (m ∷ ms) + node_len (change n)) [
      | true ↦ λ h.
          let same : m ≡ n = some_is m n h in
          subst (λ (k : Node). sum_by node_len (change m ∷ ms) + node_len k ≡ sum_by node_len (m ∷ ms) + node_len (change k)) same
          (omega (arith, sum_by-cons node_len (change m) ms, sum_by-cons node_len m ms))
      | false ↦ λ h.
          omega (arith, sum-with_node id change ms n h, sum_by-cons node_len m (with_node id change ms), sum_by-cons node_len m ms)
    ] is

-- ---- a copy

behind : (l : Layout) (next : ℕ) (before front rest : List Node) (n : Node) → AreNodes l next before (front ++ n ∷ rest) → (last_id (before ++ front) < n.id) × (list_any (has_name n.name) (before ++ front) ≡ false)
behind l next before [] rest n h =
    subst (λ (ns : List Node). (last_id ns < n.id) × (list_any (has_name n.name) ns ≡ false)) (sym (append-nil before)) (h.0, h.2)
behind l next before (m ∷ ms) rest n h =
    subst (λ (ns : List Node). (last_id ns < n.id) × (list_any (has_name n.name) ns ≡ false)) (append_assoc before (m ∷ []) ms)
    (behind l next (before ++ m ∷ []) ms rest n h.4)

-- a file of a table may stand behind those before it
pub follows : (l : Layout) (next : ℕ) (nodes front left rest : List Node) (n copy : Node) → AreNodes l next [] nodes → front ++ left ≡ nodes → left ≡ n ∷ rest → copy ≡ n
    → (last_id front < copy.id) × (list_any (has_name copy.name) front ≡ false)
follows l next nodes front left rest n copy h are is copied =
    subst (λ (m : Node). (last_id front < m.id) × (list_any (has_name m.name) front ≡ false)) (sym copied)
    (behind l next [] front rest n (subst (AreNodes l next []) (sym are ∙ ap (λ (ns : List Node). front ++ ns) is) h))
