-- Files after a change of one of them: what is found by id and by name, and how long they are.
use Rattle.std.proofs.Common.{◌≡◌, ℕ, ◌+◌, ◌<◌, ◌≤◌, Bool, true, false, cond, ◌||◌, eqb, List, [], ◌∷◌, ◌++◌, map, find, sum_by, Option, None, Some, refl, sym, ap, ap₂, subst, ◌∙◌, arith}
use Rattle.std.specs.Cmp.{unsigned_ties}
use Rattle.std.specs.Cmp.Lexicographic.{lists_ties}
use Rattle.std.specs.List.{AllByRecursion, list_any}
use Rattle.std.specs.List.Sorted.{IsStrictlySortedBy}
use Rattle.std.specs.Option.{option_map, option_or}
use Rattle.std.specs.Ordering.{nat_cmp, eq_by_cmp}
use Rattle.std.specs.declared.cmp.Ordering.TheVariants.{Less}
use Rattle.std.proofs.lemmas.Bool.{or_parts}
use Rattle.std.proofs.lemmas.Bool.Decides.{nat_tests}
use Rattle.std.proofs.lemmas.List.Folds.{list_any-append}
use Rattle.std.proofs.lemmas.List.Sums.{sum_by-cons}
use Rattle.std.proofs.lemmas.Map.Keys.{sorted_head, sorted_tail}
use Rattle.sis_disk.specs.declared.layout.Layout.{Layout}
use Rattle.sis_name.specs.Files.{same_name}
use Rattle.sis_name.specs.Units.{name_cmp}
use Rattle.sis_table.specs.declared.node.Node.{Node}
use Rattle.sis_table.specs.Drafts.{HaveOwnNames, file_at, owner_of}
use Rattle.sis_table.specs.Edits.{with_name, with_node, without_node}
use Rattle.sis_table.specs.Index.{AreRising}
use Rattle.sis_table.specs.Spelling.{IsShort, node_len}
use Rattle.sis_table.specs.Trees.{put_at}
use Rattle.sis_table.specs.Volume.{AreNodes, has_name, id_of, last_id}
use Rattle.sis_table.proofs.EditLemmas.{has_id, last_id-push}
use Rattle.sis_table.proofs.FileLemmas.{below, find-push, find_none, found_push, less, rising_last, same_found, same_ids, same_units, some_is}

-- ---- tests of ids and of names

not_left : (a b : Bool) → (a || b) ≡ false → a ≡ false
not_left a b h = (or_parts a b h).0

not_right : (a b : Bool) → (a || b) ≡ false → b ≡ false
not_right a b h = (or_parts a b h).1

id_tests : (id q : ℕ) → eqb id q ≡ eq_by_cmp nat_cmp id q
id_tests id q = grind (arith, nat_tests)

same_id : (a b : ℕ) → eqb a b ≡ true → a ≡ b
same_id a b h = grind (arith, nat_tests)

other_id : (a b : ℕ) → a < b → eqb b a ≡ false
other_id a b lt = grind (arith, nat_tests)

name_tests : (a b : List ℕ) → same_name a b ≡ eq_by_cmp name_cmp a b
name_tests a b = lists_ties nat_cmp unsigned_ties a b

other_name : (a b : List ℕ) → same_name a b ≡ false → same_name b a ≡ false
other_name a b h =
    elim (same_name b a) as (λ t. same_name b a ≡ t → t ≡ false) [
      | true ↦ λ e.
          let p : b ≡ a = same_units b a e in
          let is : same_name a b ≡ same_name b a = ap₂ (λ (x y : List ℕ). same_name x y) (sym p) p in
          absurd (no_both (sym h ∙ is ∙ e))
      | false ↦ λ e. refl
    ] refl
  where
    no_both : false ≡ true → ⊥
    no_both h = cc

pub found_id : (id : ℕ) (nodes : List Node) (n : Node) → find (has_id id) nodes ≡ Some n → n.id ≡ id
found_id id [] n is = absurd cc
found_id id (m ∷ ms) n is =
    elim (eqb m.id id) as (λ b. eqb m.id id ≡ b → cond b (Some m) (find (has_id id) ms) ≡ Some n → n.id ≡ id) [
      | true ↦ λ e h. ap id_of (sym (some_is m n h)) ∙ same_id m.id id e
      | false ↦ λ e h. found_id id ms n h
    ] refl is

-- what none of the files does, the one that is found doesn't
found_not : (test test_id : Node → Bool) (nodes : List Node) (n : Node) → list_any test nodes ≡ false → find test_id nodes ≡ Some n → test n ≡ false
found_not test test_id [] n none is = absurd cc
found_not test test_id (m ∷ ms) n none is =
    elim (test_id m) as (λ b. cond b (Some m) (find test_id ms) ≡ Some n → test n ≡ false) [
      | true ↦ λ h. subst (λ (k : Node). test k ≡ false) (some_is m n h) (not_left (test m) (list_any test ms) none)
      | false ↦ λ h. found_not test test_id ms n (not_right (test m) (list_any test ms) none) h
    ] is

pub found_all : (P : Node → Type 0) (test : Node → Bool) (nodes : List Node) (n : Node) → AllByRecursion P nodes → find test nodes ≡ Some n → P n
found_all P test [] n all is = absurd cc
found_all P test (m ∷ ms) n all is =
    elim (test m) as (λ b. cond b (Some m) (find test ms) ≡ Some n → P n) [
      | true ↦ λ h. subst P (some_is m n h) all.0
      | false ↦ λ h. found_all P test ms n all.1 h
    ] is

-- ---- a file behind the others

none_later : (id : ℕ) (nodes : List Node) → AllByRecursion (λ y. nat_cmp id y ≡ Less) (map id_of nodes) → find (has_id id) nodes ≡ None
none_later id [] h = refl
none_later id (n ∷ ns) h = ap (λ (b : Bool). cond b (Some n) (find (has_id id) ns)) (other_id id n.id (below id n.id h.0)) ∙ none_later id ns h.1

none_above : (id : ℕ) (nodes : List Node) → AreRising nodes → last_id nodes < id → find (has_id id) nodes ≡ None
none_above id [] h lt = refl
none_above id (n ∷ []) h lt = ap (λ (b : Bool). cond b (Some n) None) (apart n.id id lt)
  where
    apart : (a b : ℕ) → a < b → eqb a b ≡ false
    apart a b lt = grind (arith, nat_tests)
none_above id (n ∷ m ∷ ms) h lt =
    let low : n.id < id = omega (arith, rising_last n (m ∷ ms) h, lt) in
    ap (λ (b : Bool). cond b (Some n) (find (has_id id) (m ∷ ms))) (apart n.id id low) ∙ none_above id (m ∷ ms) (sorted_tail nat_cmp n.id (map id_of (m ∷ ms)) h) lt
  where
    apart : (a b : ℕ) → a < b → eqb a b ≡ false
    apart a b lt = grind (arith, nat_tests)

push_found : (o : Option Node) (n : Node) (b : Bool) → (b ≡ true → o ≡ None) → option_or o (cond b (Some n) None) ≡ cond b (Some n) o
push_found o n true none = ap (λ (p : Option Node). option_or p (Some n)) (none refl)
push_found None n false none = refl
push_found (Some m) n false none = refl

pub file_pushed : (nodes : List Node) (n : Node) → AreRising nodes → last_id nodes < n.id → (q : ℕ) → file_at (nodes ++ n ∷ []) q ≡ put_at nat_cmp n.id (Some n) (file_at nodes) q
file_pushed nodes n rising lt q =
    find-push (has_id q) nodes n
    ∙ push_found (find (has_id q) nodes) n (eqb n.id q) (λ e. ap (λ (k : ℕ). find (has_id k) nodes) (sym (same_id n.id q e)) ∙ none_above n.id nodes rising lt)
    ∙ ap (λ (b : Bool). cond b (Some n) (find (has_id q) nodes)) (id_tests n.id q)

pub owner_pushed : (nodes : List Node) (n : Node) → list_any (has_name n.name) nodes ≡ false → (q : List ℕ) → owner_of (nodes ++ n ∷ []) q ≡ put_at name_cmp n.name (Some n.id) (owner_of nodes) q
owner_pushed nodes n free q = found_push nodes n q free

pub short_pushed : (nodes : List Node) (n : Node) → AllByRecursion IsShort nodes → IsShort n → AllByRecursion IsShort (nodes ++ n ∷ [])
short_pushed [] n all one = (one, tt)
short_pushed (m ∷ ms) n all one = (all.0, short_pushed ms n all.1 one)

-- ---- a file is changed

same_test : (a b i : ℕ) → eqb a b ≡ true → eqb a i ≡ eqb i b
same_test a b i e = grind (arith, nat_tests, e)

other_test : (a b i : ℕ) → eqb a b ≡ false → eqb a i ≡ true → eqb i b ≡ false
other_test a b i e f = grind (arith, nat_tests, e, f)

-- the file with an id, where one is changed
pub find-with_node : (id : ℕ) (change : Node → Node) (nodes : List Node) (i : ℕ) → ((n : Node) → (change n).id ≡ n.id)
    → find (has_id i) (with_node id change nodes) ≡ cond (eqb i id) (option_map change (find (has_id i) nodes)) (find (has_id i) nodes)
find-with_node id change [] i ids = elim (eqb i id) as (λ b. ◌≡◌ {A = Option Node} None (cond b None None)) [ true ↦ refl | false ↦ refl ]
find-with_node id change (n ∷ ns) i ids = by (eqb n.id id) refl (eqb n.id i) refl (find-with_node id change ns i ids)
  where
    by : (b : Bool) → eqb n.id id ≡ b → (c : Bool) → eqb n.id i ≡ c
        → find (has_id i) (with_node id change ns) ≡ cond (eqb i id) (option_map change (find (has_id i) ns)) (find (has_id i) ns)
        → find (has_id i) (cond b (change n ∷ ns) (n ∷ with_node id change ns)) ≡ cond (eqb i id) (option_map change (cond c (Some n) (find (has_id i) ns))) (cond c (Some n) (find (has_id i) ns))
    by true here true is others = rw (ap (λ k. eqb k i) (ids n), is, sym (same_test n.id id i here) ∙ is) refl
    by true here false is others = rw (ap (λ k. eqb k i) (ids n), is, sym (same_test n.id id i here) ∙ is) refl
    by false here true is others = rw (is, other_test n.id id i here is) refl
    by false here false is others = rw is others

its_test : (i id : ℕ) (change : Node → Node) (nodes : List Node) (n : Node) → find (has_id id) nodes ≡ Some n
    → cond (eqb i id) (option_map change (find (has_id i) nodes)) (find (has_id i) nodes) ≡ cond (eqb i id) (Some (change n)) (find (has_id i) nodes)
its_test i id change nodes n is = by (eqb i id) refl
  where
    by : (b : Bool) → eqb i id ≡ b → cond b (option_map change (find (has_id i) nodes)) (find (has_id i) nodes) ≡ cond b (Some (change n)) (find (has_id i) nodes)
    by true e = ap (λ (k : ℕ). option_map change (find (has_id k) nodes)) (same_id i id e) ∙ ap (option_map change) is
    by false e = refl

pub file_with : (id : ℕ) (change : Node → Node) (nodes : List Node) (n : Node) → ((m : Node) → (change m).id ≡ m.id) → file_at nodes id ≡ Some n → (q : ℕ) → file_at (with_node id change nodes) q ≡ put_at nat_cmp id (Some (change n)) (file_at nodes) q
file_with id change nodes n ids is q =
    find-with_node id change nodes q ids ∙ its_test q id change nodes n is
    ∙ (let e : eqb q id ≡ eq_by_cmp nat_cmp id q = grind (arith, nat_tests) in ap (λ (b : Bool). cond b (Some (change n)) (file_at nodes q)) e)

pub owner_with : (id : ℕ) (change : Node → Node) (nodes : List Node) → ((m : Node) → (change m).id ≡ m.id) → ((m : Node) → (change m).name ≡ m.name) → (q : List ℕ) → owner_of (with_node id change nodes) q ≡ owner_of nodes q
owner_with id change nodes ids names q = same_found id change nodes q ids names

pub rising_with : (id : ℕ) (change : Node → Node) (nodes : List Node) → ((m : Node) → (change m).id ≡ m.id) → AreRising nodes → AreRising (with_node id change nodes)
rising_with id change nodes ids h = subst (IsStrictlySortedBy nat_cmp) (sym (same_ids id change nodes ids)) h

pub short_with : (id : ℕ) (change : Node → Node) (nodes : List Node) (n : Node) → file_at nodes id ≡ Some n → AllByRecursion IsShort nodes → IsShort (change n) → AllByRecursion IsShort (with_node id change nodes)
short_with id change [] n is all one = tt
short_with id change (m ∷ ms) n is all one =
    elim (eqb m.id id) as (λ b. cond b (Some m) (find (has_id id) ms) ≡ Some n → AllByRecursion IsShort (cond b (change m ∷ ms) (m ∷ with_node id change ms))) [
      | true ↦ λ h. (subst (λ (k : Node). IsShort (change k)) (sym (some_is m n h)) one, all.1)
      | false ↦ λ h. (all.0, short_with id change ms n h all.1 one)
    ] is

-- ---- a file is dropped

abbrev nobody : Option Node
nobody = None

nothing : (b : Bool) → nobody ≡ cond b nobody nobody
nothing true = refl
nothing false = refl

pub file_without : (id : ℕ) (nodes : List Node) → AreRising nodes → (q : ℕ) → file_at (without_node id nodes) q ≡ put_at nat_cmp id None (file_at nodes) q
file_without id nodes rising q = by_test nodes rising ∙ ap (λ (b : Bool). cond b None (file_at nodes q)) (id_tests id q)
  where
    by_test : (ms : List Node) → AreRising ms → find (has_id q) (without_node id ms) ≡ cond (eqb id q) None (find (has_id q) ms)
    by_test [] rising = nothing (eqb id q)
    by_test (m ∷ ms) rising =
        elim (eqb m.id id) as (λ b. eqb m.id id ≡ b → find (has_id q) (cond b ms (m ∷ without_node id ms)) ≡ cond (eqb id q) None (cond (eqb m.id q) (Some m) (find (has_id q) ms))) [
          | true ↦ λ e. gone (eqb id q) (eqb m.id q) (ap (λ (k : ℕ). eqb k q) (same_id m.id id e))
              (λ here. ap (λ (k : ℕ). find (has_id k) ms) (sym (same_id m.id q here)) ∙ none_later m.id ms (sorted_head nat_cmp m.id (map id_of ms) rising))
          | false ↦ λ e. elim (eqb m.id q) as (λ b. eqb m.id q ≡ b → cond b (Some m) (find (has_id q) (without_node id ms)) ≡ cond (eqb id q) None (cond b (Some m) (find (has_id q) ms))) [
            | true ↦ λ here. ap (λ (b : Bool). cond b None (Some m)) (sym (ap (λ (k : ℕ). eqb id k) (sym (same_id m.id q here)) ∙ flip m.id id e))
            | false ↦ λ here. by_test ms (sorted_tail nat_cmp m.id (map id_of ms) rising)
          ] refl
        ] refl
      where
        gone : (a b : Bool) → b ≡ a → (b ≡ true → find (has_id q) ms ≡ None) → find (has_id q) ms ≡ cond a None (cond b (Some m) (find (has_id q) ms))
        gone true b same none = none same
        gone false b same none = ap (λ (t : Bool). cond t (Some m) (find (has_id q) ms)) (sym same)

        flip : (a b : ℕ) → eqb a b ≡ false → eqb b a ≡ false
        flip a b h = grind (arith, nat_tests)

-- what the name of a file finds, where another file has it
not_its : (n : Node) (name q : List ℕ) → same_name name q ≡ true → has_name name n ≡ false → same_name n.name q ≡ false
not_its n name q e h = ap (λ (units : List ℕ). same_name n.name units) (sym (same_units name q e)) ∙ h

pub owner_without : (id : ℕ) (nodes : List Node) (n : Node) → HaveOwnNames nodes → file_at nodes id ≡ Some n → (q : List ℕ) → owner_of (without_node id nodes) q ≡ put_at name_cmp n.name None (owner_of nodes) q
owner_without id nodes n own is q = by_test nodes own is ∙ ap (λ (b : Bool). cond b None (owner_of nodes q)) (name_tests n.name q)
  where
    by_test : (ms : List Node) → HaveOwnNames ms → find (has_id id) ms ≡ Some n → owner_of (without_node id ms) q ≡ cond (same_name n.name q) None (owner_of ms q)
    by_test [] own is = absurd cc
    by_test (m ∷ ms) own is =
        elim (eqb m.id id) as (λ b. cond b (Some m) (find (has_id id) ms) ≡ Some n → owner_of (cond b ms (m ∷ without_node id ms)) q ≡ cond (same_name n.name q) None (owner_of (m ∷ ms) q)) [
          | true ↦ λ h. subst (λ (k : Node). owner_of ms q ≡ cond (same_name k.name q) None (owner_of (m ∷ ms) q)) (some_is m n h)
              (elim (same_name m.name q) as (λ b. same_name m.name q ≡ b → owner_of ms q ≡ cond b None (option_map id_of (cond b (Some m) (find (has_name q) ms)))) [
                | true ↦ λ e. ap (option_map id_of) (find_none (has_name q) ms (subst (λ (units : List ℕ). list_any (has_name units) ms ≡ false) (same_units m.name q e) own.0))
                | false ↦ λ e. refl
              ] refl)
          | false ↦ λ h. elim (same_name m.name q) as (λ b. same_name m.name q ≡ b → option_map id_of (cond b (Some m) (find (has_name q) (without_node id ms))) ≡ cond (same_name n.name q) None (option_map id_of (cond b (Some m) (find (has_name q) ms)))) [
            | true ↦ λ e. ap (λ (b : Bool). cond b None (Some m.id)) (sym (not_its n m.name q e (found_not (has_name m.name) (has_id id) ms n own.0 h)))
            | false ↦ λ e. by_test ms own.1 h
          ] refl
        ] is

all_without : (P : ℕ → Type 0) (id : ℕ) (nodes : List Node) → AllByRecursion P (map id_of nodes) → AllByRecursion P (map id_of (without_node id nodes))
all_without P id [] h = tt
all_without P id (n ∷ ns) h =
    elim (eqb n.id id) as (λ b. AllByRecursion P (map id_of (cond b ns (n ∷ without_node id ns)))) [
      | true ↦ h.1
      | false ↦ (h.0, all_without P id ns h.1)
    ]

pub rising_without : (id : ℕ) (nodes : List Node) → AreRising nodes → AreRising (without_node id nodes)
unfolding IsStrictlySortedBy
rising_without id [] h = tt
rising_without id (n ∷ ns) h =
    elim (eqb n.id id) as (λ b. IsStrictlySortedBy nat_cmp (map id_of (cond b ns (n ∷ without_node id ns)))) [
      | true ↦ h.1
      | false ↦ (all_without (λ y. nat_cmp n.id y ≡ Less) id ns h.0, rising_without id ns h.1)
    ]

pub short_without : (id : ℕ) (nodes : List Node) → AllByRecursion IsShort nodes → AllByRecursion IsShort (without_node id nodes)
short_without id [] h = tt
short_without id (n ∷ ns) h =
    elim (eqb n.id id) as (λ b. AllByRecursion IsShort (cond b ns (n ∷ without_node id ns))) [
      | true ↦ h.1
      | false ↦ (h.0, short_without id ns h.1)
    ]

pub sum_without : (id : ℕ) (nodes : List Node) (n : Node) → file_at nodes id ≡ Some n → sum_by node_len (without_node id nodes) + node_len n ≡ sum_by node_len nodes
sum_without id [] n is = absurd cc
sum_without id (m ∷ ms) n is =
    elim (eqb m.id id) as (λ b. cond b (Some m) (find (has_id id) ms) ≡ Some n → sum_by node_len (cond b ms (m ∷ without_node id ms)) + node_len n ≡ sum_by node_len (m ∷ ms)) [
      | true ↦ λ h. subst (λ (k : Node). sum_by node_len ms + node_len k ≡ sum_by node_len (m ∷ ms)) (some_is m n h) (omega (arith, sum_by-cons node_len m ms))
      | false ↦ λ h. omega (arith, sum_without id ms n h, sum_by-cons node_len m ms, sum_by-cons node_len m (without_node id ms))
    ] is

-- ---- a file gets another name, which is free

pub owner_renamed : (id : ℕ) (name : List ℕ) (nodes : List Node) (n : Node) → HaveOwnNames nodes → list_any (has_name name) nodes ≡ false → file_at nodes id ≡ Some n
    → (q : List ℕ) → owner_of (with_node id (with_name name) nodes) q ≡ put_at name_cmp name (Some id) (put_at name_cmp n.name None (owner_of nodes)) q
owner_renamed id name nodes n own free is q =
    by_test nodes own free is
    ∙ ap₂ (λ (a b : Bool). cond a (Some id) (cond b None (owner_of nodes q))) (name_tests name q) (name_tests n.name q)
  where
    by_test : (ms : List Node) → HaveOwnNames ms → list_any (has_name name) ms ≡ false → find (has_id id) ms ≡ Some n
        → owner_of (with_node id (with_name name) ms) q ≡ cond (same_name name q) (Some id) (cond (same_name n.name q) None (owner_of ms q))
    by_test [] own free is = absurd cc
    by_test (m ∷ ms) own free is =
        elim (eqb m.id id) as (λ b. eqb m.id id ≡ b → cond b (Some m) (find (has_id id) ms) ≡ Some n
        → owner_of (cond b (with_name name m ∷ ms) (m ∷ with_node id (with_name name) ms)) q ≡ cond (same_name name q) (Some id) (cond (same_name n.name q) None (owner_of (m ∷ ms) q))) [
          | true ↦ λ at h. subst (λ (k : Node). owner_of (with_name name m ∷ ms) q ≡ cond (same_name name q) (Some id) (cond (same_name k.name q) None (owner_of (m ∷ ms) q))) (some_is m n h)
              (elim (same_name name q) as (λ b. option_map id_of (cond b (Some (with_name name m)) (find (has_name q) ms)) ≡ cond b (Some id) (cond (same_name m.name q) None (owner_of (m ∷ ms) q))) [
                | true ↦ ap (λ (k : ℕ). Some k) (same_id m.id id at)
                | false ↦ elim (same_name m.name q) as (λ b. same_name m.name q ≡ b → owner_of ms q ≡ cond b None (option_map id_of (cond b (Some m) (find (has_name q) ms)))) [
                  | true ↦ λ e. ap (option_map id_of) (find_none (has_name q) ms (subst (λ (units : List ℕ). list_any (has_name units) ms ≡ false) (same_units m.name q e) own.0))
                  | false ↦ λ e. refl
                ] refl
              ])
          | false ↦ λ at h. elim (same_name m.name q) as (λ b. same_name m.name q ≡ b
              → option_map id_of (cond b (Some m) (find (has_name q) (with_node id (with_name name) ms))) ≡ cond (same_name name q) (Some id) (cond (same_name n.name q) None (option_map id_of (cond b (Some m) (find (has_name q) ms))))) [
                | true ↦ λ e.
                    let not_new : same_name name q ≡ false = ap (λ (units : List ℕ). same_name name units) (sym (same_units m.name q e)) ∙ other_name m.name name (not_left (has_name name m) (list_any (has_name name) ms) free) in
                    let not_old : same_name n.name q ≡ false = not_its n m.name q e (found_not (has_name m.name) (has_id id) ms n own.0 h) in
                    sym (ap₂ (λ (a b : Bool). cond a (Some id) (cond b None (Some m.id))) not_new not_old)
                | false ↦ λ e. by_test ms own.1 (not_right (has_name name m) (list_any (has_name name) ms) free) h
              ] refl
        ] refl is

-- ---- names of a table

-- none of the files that follow has the name of one before them
apart_from : (l : Layout) (next : ℕ) (front nodes : List Node) (x : Node) → AreNodes l next front nodes → ((q : List ℕ) → list_any (has_name q) front ≡ false → same_name x.name q ≡ false) → list_any (has_name x.name) nodes ≡ false
apart_from l next front [] x h apart = refl
apart_from l next front (n ∷ ns) x h apart =
    ap₂ (λ (a b : Bool). a || b) (other_name x.name n.name (apart n.name h.2))
    (apart_from l next (front ++ n ∷ []) ns x h.4 (λ q none. apart q (not_left (list_any (has_name q) front) (list_any (has_name q) (n ∷ [])) (sym (list_any-append (has_name q) front (n ∷ [])) ∙ none))))

pub own_names : (l : Layout) (next : ℕ) (front nodes : List Node) → AreNodes l next front nodes → HaveOwnNames nodes
own_names l next front [] h = tt
own_names l next front (n ∷ ns) h = (
  apart_from l next (front ++ n ∷ []) ns n h.4
      (λ q none. not_left (same_name n.name q) false (not_right (list_any (has_name q) front) (list_any (has_name q) (n ∷ [])) (sym (list_any-append (has_name q) front (n ∷ [])) ∙ none))),
  own_names l next (front ++ n ∷ []) ns h.4,
)

-- ---- ids of a table

all_greater : (l : Layout) (next id : ℕ) (front nodes : List Node) → id ≤ last_id front → AreNodes l next front nodes → AllByRecursion (λ y. nat_cmp id y ≡ Less) (map id_of nodes)
all_greater l next id front [] le h = tt
all_greater l next id front (n ∷ ns) le h =
    (less id n.id (omega (arith, le, h.0)), all_greater l next id (front ++ n ∷ []) ns (omega (arith, le, h.0, last_id-push front n)) h.4)

pub rising_nodes : (l : Layout) (next : ℕ) (front nodes : List Node) → AreNodes l next front nodes → AreRising nodes
unfolding IsStrictlySortedBy
rising_nodes l next front [] h = tt
rising_nodes l next front (n ∷ ns) h = (all_greater l next n.id (front ++ n ∷ []) ns (omega (arith, last_id-push front n)) h.4, rising_nodes l next (front ++ n ∷ []) ns h.4)
