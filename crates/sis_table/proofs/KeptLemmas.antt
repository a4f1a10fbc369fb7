-- Files under their ids, in a tree.
use Rattle.std.proofs.Common.{◌≡◌, ℕ, suc, ◌-◌, ◌<◌, ◌≤◌, slice_get, Bool, true, false, cond, ◌&&◌, not, eqb, List, [], ◌∷◌, ◌++◌, length, map, find, Option, None, Some, IsSome, is_some, refl, sym, ap, ◌∙◌, subst, arith}
use Rattle.std.specs.BTreeMap.{BTreeMap, get, values, is_at, insert_entry, IsOrdered}
use Rattle.std.specs.BTreeMap as tree
use Rattle.std.specs.BTreeMap.Range.{entries_between, range_contains}
use Rattle.std.specs.Cmp.{nat_cmp_total, eq_by_cmp_equiv, tied_itself}
use Rattle.std.specs.List.{AllByRecursion, list_any}
use Rattle.std.specs.List.Sorted.{IsStrictlySortedBy}
use Rattle.std.specs.Map.{lookup, keys_of, values_of, remove_entry}
use Rattle.std.specs.Option.{unwrap_or, option_or}
use Rattle.std.specs.Ordering.{nat_cmp, is_eq, is_lt, eq_by_cmp, ordering_reverse, match_ordering}
use Rattle.std.specs.declared.cmp.Ordering.{Ordering}
use Rattle.std.specs.declared.cmp.Ordering.TheVariants.{Less, Equal, Greater}
use Rattle.std.specs.declared.ops.Bound.TheVariants.{Excluded, Unbounded}
use Rattle.std.proofs.lemmas.Bool.Decides.{nat_tests}
use Rattle.std.proofs.lemmas.Map.{lookup-none}
use Rattle.std.proofs.lemmas.Map.Entries.{lookup_head, lookup_tail, none_past_head, none_below_head}
use Rattle.std.proofs.lemmas.Map.Keys.{IsDistinct-from_sorted, sorted_head, sorted_tail}
use Rattle.std.proofs.lemmas.Map.Lookups.{exact_unsigned}
use Rattle.sis_name.specs.Units.{name_cmp}
use Rattle.sis_table.specs.declared.node.Node.{Node}
use Rattle.sis_table.specs.Drafts.{LeadsTo, file_at, owner_of}
use Rattle.sis_table.specs.Index.{AreRising, AreIndexed, AreKept, IsNextIn, with_id}
use Rattle.sis_table.specs.Trees.{AreNew, Leads, changed, is_one}
use Rattle.sis_table.specs.declared.trees.Changes.{Changes}
use Rattle.sis_table.specs.Volume.{has_name, id_of, last_id}
use Rattle.sis_table.proofs.EditLemmas.{has_id}
use Rattle.sis_table.proofs.FileLemmas.{indexed_push, below, rising_push}

-- ---- numbers as keys: equal look-ups give equal entries

not_None : {X : Type 0} (x : X) → Some x ≡ None → ⊥
not_None x p = cc

module _ {X : Type 0} where
  abbrev at_key : List (ℕ × X) → ℕ → Option X
  at_key es q = lookup (is_at (nat_cmp q)) es

  at_head : (x : ℕ × X) (xs : List (ℕ × X)) → at_key (x ∷ xs) x.0 ≡ Some x.1
  at_head x xs = lookup_head (is_at (nat_cmp x.0)) x xs (ap is_eq (tied_itself nat_cmp_total x.0))

  past_head : (q : ℕ) (x : ℕ × X) (xs : List (ℕ × X)) → IsStrictlySortedBy nat_cmp (keys_of (x ∷ xs)) → eq_by_cmp nat_cmp q x.0 ≡ true → at_key xs q ≡ None
  past_head q x xs s t = lookup-none (is_at (nat_cmp q)) xs (none_past_head (eq_by_cmp_equiv nat_cmp_total) q x xs (IsDistinct-from_sorted nat_cmp _ s) t)

  module _ (x y : ℕ × X) (xs ys : List (ℕ × X)) (s : IsStrictlySortedBy nat_cmp (keys_of (x ∷ xs))) (t : IsStrictlySortedBy nat_cmp (keys_of (y ∷ ys))) (h : (q : ℕ) → at_key (x ∷ xs) q ≡ at_key (y ∷ ys) q) where
    by_heads : (r : Ordering) → nat_cmp x.0 y.0 ≡ r → nat_cmp x.0 y.0 ≡ Equal
    by_heads Less p = absurd (not_None x.1 (sym (at_head x xs) ∙ h x.0 ∙ lookup-none _ (y ∷ ys) (none_below_head nat_cmp_total x.0 y ys t p)))
    by_heads Equal p = p
    by_heads Greater p = absurd (not_None y.1 (sym (at_head y ys) ∙ sym (h y.0) ∙ lookup-none _ (x ∷ xs) (none_below_head nat_cmp_total y.0 x xs s (nat_cmp_total.antisymm y.0 x.0 ∙ ap ordering_reverse p))))

    heads : x.0 ≡ y.0
    heads = exact_unsigned x.0 y.0 (by_heads (nat_cmp x.0 y.0) refl)

    values_same : x.1 ≡ y.1
    values_same = ap (λ (u : Option X). unwrap_or u x.1) (sym (at_head x xs) ∙ h x.0 ∙ ap (λ (k : ℕ). at_key (y ∷ ys) k) heads ∙ at_head y ys)

    tails : (q : ℕ) → at_key xs q ≡ at_key ys q
    tails q =
        elim (eq_by_cmp nat_cmp q x.0) as (λ b. eq_by_cmp nat_cmp q x.0 ≡ b → at_key xs q ≡ at_key ys q) [
          | true ↦ λ b. past_head q x xs s b ∙ sym (past_head q y ys t (ap (λ (k : ℕ). eq_by_cmp nat_cmp q k) (sym heads) ∙ b))
          | false ↦ λ b. sym (lookup_tail (is_at (nat_cmp q)) x xs b) ∙ h q ∙ lookup_tail (is_at (nat_cmp q)) y ys (ap (λ (k : ℕ). eq_by_cmp nat_cmp q k) (sym heads) ∙ b)
        ] refl

  same_entries : (es fs : List (ℕ × X)) → IsStrictlySortedBy nat_cmp (keys_of es) → IsStrictlySortedBy nat_cmp (keys_of fs) → ((q : ℕ) → at_key es q ≡ at_key fs q) → es ≡ fs
  same_entries [] [] s t h = refl
  same_entries [] (y ∷ ys) s t h = absurd (not_None y.1 (sym (h y.0 ∙ at_head y ys)))
  same_entries (x ∷ xs) [] s t h = absurd (not_None x.1 (sym (at_head x xs) ∙ h x.0))
  same_entries (x ∷ xs) (y ∷ ys) s t h =
      let r = same_entries xs ys (sorted_tail nat_cmp x.0 (keys_of xs) s) (sorted_tail nat_cmp y.0 (keys_of ys) t) (tails x y xs ys s t h) in
      λ i. (heads x y xs ys s t h i, values_same x y xs ys s t h i) ∷ r i

-- ---- files as entries

pub values_with_id : (nodes : List Node) → values_of (map with_id nodes) ≡ nodes
values_with_id [] = refl
values_with_id (n ∷ ns) = ap (λ (l : List Node). n ∷ l) (values_with_id ns)

keys_with_id : (nodes : List Node) → keys_of (map with_id nodes) ≡ map id_of nodes
keys_with_id [] = refl
keys_with_id (n ∷ ns) = ap (λ (l : List ℕ). n.id ∷ l) (keys_with_id ns)

tests_agree : (id k : ℕ) → is_eq (nat_cmp id k) ≡ eqb k id
tests_agree id k = grind (arith, nat_tests)

-- a look-up by id finds the file with it
look_up : (id : ℕ) (nodes : List Node) → lookup (is_at (nat_cmp id)) (map with_id nodes) ≡ find (has_id id) nodes
look_up id [] = refl
look_up id (n ∷ ns) =
    ap (λ (b : Bool). cond b (Some n) (lookup (is_at (nat_cmp id)) (map with_id ns))) (tests_agree id n.id)
    ∙ ap (λ (o : Option Node). cond (eqb n.id id) (Some n) o) (look_up id ns)

pub kept_find : (m : BTreeMap ℕ Node) (id : ℕ) → m.entries ≡ map with_id (values m) → get nat_cmp m id ≡ find (has_id id) (values m)
kept_find m id keyed = ap (λ (es : List (ℕ × Node)). lookup (is_at (nat_cmp id)) es) keyed ∙ look_up id (values m)

-- the last entry has the last id
last_at : (nodes : List Node) (p : ℕ × Node) → slice_get (map with_id nodes) (length (map with_id nodes) - 1) ≡ Some p → p.0 ≡ last_id nodes
last_at [] p h = absurd cc
last_at (n ∷ []) p h = cc
last_at (n ∷ m ∷ ns) p h =
    let e : length (map with_id (n ∷ m ∷ ns)) - 1 ≡ suc (length (map with_id (m ∷ ns)) - 1) = omega arith in
    last_at (m ∷ ns) p (subst (λ (k : ℕ). slice_get (map with_id (n ∷ m ∷ ns)) k ≡ Some p) e h)

pub last_kept : (m : BTreeMap ℕ Node) (p : ℕ × Node) → m.entries ≡ map with_id (values m) → slice_get m.entries (length m.entries - 1) ≡ Some p → p.0 ≡ last_id (values m)
last_kept m p keyed h = last_at (values m) p (subst (λ (es : List (ℕ × Node)). slice_get es (length es - 1) ≡ Some p) keyed h)

-- ---- the file that comes next

is_behind : (after id : ℕ) → (is_lt (nat_cmp after id) && not false) ≡ true → after < id
is_behind after id h = grind (arith, nat_tests)

is_not_behind : (after id : ℕ) → (is_lt (nat_cmp after id) && not false) ≡ false → id ≤ after
is_not_behind after id h = grind (arith, nat_tests)

pub next_node_none : (after : ℕ) (nodes : List Node) → entries_between nat_cmp (Excluded after) Unbounded (map with_id nodes) ≡ [] → AllByRecursion (λ n. n.id ≤ after) nodes
next_node_none after [] none = tt
next_node_none after (n ∷ ns) none =
    elim (range_contains nat_cmp (Excluded after) Unbounded n.id) as (λ b. range_contains nat_cmp (Excluded after) Unbounded n.id ≡ b
    → cond b ((n.id, n) ∷ entries_between nat_cmp (Excluded after) Unbounded (map with_id ns)) (entries_between nat_cmp (Excluded after) Unbounded (map with_id ns)) ≡ []
    → AllByRecursion (λ n. n.id ≤ after) (n ∷ ns)) [
      | true ↦ λ here h. absurd cc
      | false ↦ λ here h. (is_not_behind after n.id here, next_node_none after ns h)
    ] refl none

all_above : (id after : ℕ) (nodes : List Node) → AllByRecursion (λ y. nat_cmp id y ≡ Less) (map id_of nodes) → AllByRecursion (λ n. after < n.id → id ≤ n.id) nodes
all_above id after [] h = tt
all_above id after (n ∷ ns) h = (λ lt. let lower = below id n.id h.0 in omega arith, all_above id after ns h.1)

its_own : (id : ℕ) → eqb id id ≡ true
its_own id = grind (arith, nat_tests)

apart : (a b : ℕ) → a < b → eqb a b ≡ false
apart a b lt = grind (arith, nat_tests)

pub next_node_some : (after : ℕ) (nodes : List Node) (p : ℕ × Node) (rest : List (ℕ × Node)) → AreRising nodes → entries_between nat_cmp (Excluded after) Unbounded (map with_id nodes) ≡ p ∷ rest → IsNextIn nodes after (Some p.1)
next_node_some after [] p rest rising is = absurd cc
next_node_some after (n ∷ ns) p rest rising is =
    elim (range_contains nat_cmp (Excluded after) Unbounded n.id) as (λ b. range_contains nat_cmp (Excluded after) Unbounded n.id ≡ b
    → cond b ((n.id, n) ∷ entries_between nat_cmp (Excluded after) Unbounded (map with_id ns)) (entries_between nat_cmp (Excluded after) Unbounded (map with_id ns)) ≡ p ∷ rest
    → IsNextIn (n ∷ ns) after (Some p.1)) [
      | true ↦ λ here h.
          let same : n ≡ p.1 = cc in
          subst (λ (m : Node). IsNextIn (n ∷ ns) after (Some m)) same (
            is_behind after n.id here,
            ap (λ (b : Bool). cond b (Some n) (find (has_id n.id) ns)) (its_own n.id),
            (λ lt. omega arith, all_above n.id after ns (sorted_head nat_cmp n.id (map id_of ns) rising)),
          )
      | false ↦ λ here h.
          let others = next_node_some after ns p rest (sorted_tail nat_cmp n.id (map id_of ns) rising) h in
          let low : n.id ≤ after = is_not_behind after n.id here in (
            others.0,
            ap (λ (b : Bool). cond b (Some n) (find (has_id p.1.id) ns)) (apart n.id p.1.id (omega (arith, low, others.0))) ∙ others.1,
            (λ lt. absurd (omega (arith, low, lt)), others.2),
          )
    ] refl is

pub kept_next_none : (m : BTreeMap ℕ Node) (nodes : List Node) (after : ℕ) → m.entries ≡ map with_id (values m) → values m ≡ nodes
    → entries_between nat_cmp (Excluded after) Unbounded m.entries ≡ [] → IsNextIn nodes after None
kept_next_none m nodes after keyed is none =
    next_node_none after nodes (subst (λ (es : List (ℕ × Node)). entries_between nat_cmp (Excluded after) Unbounded es ≡ []) (keyed ∙ ap (map with_id) is) none)

pub kept_next_some : (m : BTreeMap ℕ Node) (nodes : List Node) (after : ℕ) (p : ℕ × Node) (rest : List (ℕ × Node)) → m.entries ≡ map with_id (values m) → values m ≡ nodes → AreRising (values m)
    → entries_between nat_cmp (Excluded after) Unbounded m.entries ≡ p ∷ rest → IsNextIn nodes after (Some p.1)
kept_next_some m nodes after p rest keyed is rising first =
    next_node_some after nodes p rest (subst AreRising is rising)
    (subst (λ (es : List (ℕ × Node)). entries_between nat_cmp (Excluded after) Unbounded es ≡ p ∷ rest) (keyed ∙ ap (map with_id) is) first)

-- ---- what a tree with an index keeps

-- these trees keep these files
pub record Keeps (m : BTreeMap ℕ Node) (names : BTreeMap (List ℕ) ℕ) (nodes : List Node) : Type 0 where
  pub is : values m ≡ nodes
  pub kept : AreKept m names

entries_are : (m : BTreeMap ℕ Node) (nodes : List Node) → IsOrdered nat_cmp m → AreRising nodes → ((q : ℕ) → get nat_cmp m q ≡ find (has_id q) nodes) → m.entries ≡ map with_id nodes
entries_are m nodes ordered rising h =
    same_entries m.entries (map with_id nodes) ordered (subst (IsStrictlySortedBy nat_cmp) (sym (keys_with_id nodes)) rising) (λ q. h q ∙ sym (look_up q nodes))

keeps_entries : (m : BTreeMap ℕ Node) (names : BTreeMap (List ℕ) ℕ) (nodes : List Node) → m.entries ≡ map with_id nodes → AreIndexed nodes names → Keeps m names nodes
keeps_entries m names nodes entries indexed =
    let is : values m ≡ nodes = ap values_of entries ∙ values_with_id nodes in
    record { is = is; kept = record { keyed = entries ∙ ap (map with_id) (sym is); indexed = subst (λ (ns : List Node). AreIndexed ns names) (sym is) indexed } }

-- a tree that finds these files by their ids keeps them
pub keeps_found : (m : BTreeMap ℕ Node) (names : BTreeMap (List ℕ) ℕ) (nodes : List Node) → IsOrdered nat_cmp m → ((q : ℕ) → get nat_cmp m q ≡ find (has_id q) nodes) → AreIndexed nodes names → Keeps m names nodes
keeps_found m names nodes ordered found indexed = keeps_entries m names nodes (entries_are m nodes ordered indexed.rising found) indexed

-- the same entries keep the same files
pub keeps_same : (m now : BTreeMap ℕ Node) (names names_now : BTreeMap (List ℕ) ℕ) (nodes : List Node) → values m ≡ nodes → AreKept m names → now.entries ≡ m.entries → names_now.entries ≡ names.entries → Keeps now names_now nodes
keeps_same m now names names_now nodes is kept same names_same =
    keeps_entries now names_now nodes (same ∙ kept.keyed ∙ ap (map with_id) is) (subst (λ (ns : List Node). AreIndexed ns names_now) is (record {
      rising = kept.indexed.rising;
      index = λ name. ap (λ (es : List (List ℕ × ℕ)). lookup (is_at (name_cmp name)) es) names_same ∙ kept.indexed.index name;
    }))

-- ---- one more file behind the others

last_of_all : (P : ℕ → Type 0) (ms : List Node) (n : Node) → AllByRecursion P (map id_of (ms ++ n ∷ [])) → P n.id
last_of_all P [] n h = h.0
last_of_all P (m ∷ ms) n h = last_of_all P ms n h.1

greater : (m : Node) (ms : List Node) (n : Node) → AreRising (m ∷ ms ++ n ∷ []) → nat_cmp n.id m.id ≡ Greater
greater m ms n h = nat_cmp_total.antisymm n.id m.id ∙ ap ordering_reverse (last_of_all (λ y. nat_cmp m.id y ≡ Less) ms n (sorted_head nat_cmp m.id (map id_of (ms ++ n ∷ [])) h))

insert_end : (ms : List Node) (n : Node) → AreRising (ms ++ n ∷ []) → insert_entry nat_cmp (map with_id ms) n.id n ≡ map with_id (ms ++ n ∷ [])
insert_end [] n h = refl
insert_end (m ∷ ms) n h =
    ap (λ (r : Ordering). match_ordering r ((n.id, n) ∷ with_id m ∷ map with_id ms) ((m.id, n) ∷ map with_id ms) (with_id m ∷ insert_entry nat_cmp (map with_id ms) n.id n)) (greater m ms n h)
    ∙ ap (λ (es : List (ℕ × Node)). with_id m ∷ es) (insert_end ms n (sorted_tail nat_cmp m.id (map id_of (ms ++ n ∷ [])) h))

remove_end : (ms : List Node) (n : Node) → AreRising (ms ++ n ∷ []) → remove_entry (is_at (nat_cmp n.id)) (map with_id (ms ++ n ∷ [])) ≡ map with_id ms
remove_end [] n h = ap (λ (r : Ordering). cond (is_eq r) [] (with_id n ∷ [])) (tied_itself nat_cmp_total n.id)
remove_end (m ∷ ms) n h =
    ap (λ (r : Ordering). cond (is_eq r) (map with_id (ms ++ n ∷ [])) (with_id m ∷ remove_entry (is_at (nat_cmp n.id)) (map with_id (ms ++ n ∷ [])))) (greater m ms n h)
    ∙ ap (λ (es : List (ℕ × Node)). with_id m ∷ es) (remove_end ms n (sorted_tail nat_cmp m.id (map id_of (ms ++ n ∷ [])) h))

module _ (m now : BTreeMap ℕ Node) (names names_now : BTreeMap (List ℕ) ℕ) (base : List Node) (n : Node) (is : values m ≡ base) (kept : AreKept m names) (lt : last_id base < n.id) (put : now.entries ≡ insert_entry nat_cmp m.entries n.id n) where
  indexed_base : AreIndexed base names
  indexed_base = subst (λ (ns : List Node). AreIndexed ns names) is kept.indexed

  entries_pushed : now.entries ≡ map with_id (base ++ n ∷ [])
  entries_pushed = put ∙ ap (λ (es : List (ℕ × Node)). insert_entry nat_cmp es n.id n) (kept.keyed ∙ ap (map with_id) is) ∙ insert_end base n (rising_push base n indexed_base.rising lt)

  pub keeps_pushed : list_any (has_name n.name) base ≡ false → tree.Updates name_cmp names names_now n.name (Some n.id) → Keeps now names_now (base ++ n ∷ [])
  keeps_pushed free updates = keeps_entries now names_now (base ++ n ∷ []) entries_pushed (indexed_push names names_now base n indexed_base lt free updates)

  -- and taken out again
  pub keeps_back : (back : BTreeMap ℕ Node) → back.entries ≡ remove_entry (is_at (nat_cmp n.id)) now.entries → names_now.entries ≡ names.entries → Keeps back names_now base
  keeps_back back taken names_same =
      let entries : back.entries ≡ m.entries = taken ∙ ap (remove_entry (is_at (nat_cmp n.id))) entries_pushed ∙ remove_end base n (rising_push base n indexed_base.rising lt) ∙ sym (kept.keyed ∙ ap (map with_id) is) in
      keeps_same m back names names_now base is kept entries names_same

-- ---- changes are carried out

or_some : {X : Type 0} (a b o : Option X) → o ≡ option_or a b → IsSome b → IsSome o
or_some None b o is some = subst (λ (p : Option _). IsSome p) (sym is) some
or_some (Some x) b o is some = subst (λ (p : Option _). IsSome p) (sym is) refl

-- what was entered at a key that had nothing is taken out again
out_again : {X : Type 0} (a before room : Option X) → room ≡ option_or a before → (IsSome a → before ≡ None) → cond (is_some a) None room ≡ before
out_again None before room is new = is
out_again (Some x) before room is new = sym (new refl)

module _ (m : BTreeMap ℕ Node) (names : BTreeMap (List ℕ) ℕ) (base : List Node) (is : values m ≡ base) (kept : AreKept m names) where
  files_before : (q : ℕ) → get nat_cmp m q ≡ file_at base q
  files_before q = kept_find m q kept.keyed ∙ ap (find (has_id q)) is

  owners_before : (name : List ℕ) → get name_cmp names name ≡ owner_of base name
  owners_before name = kept.indexed.index name ∙ ap (λ (ns : List Node). owner_of ns name) is

  pub files_new : (c : Changes ℕ Node) (now : List Node) → Leads nat_cmp c (file_at base) (file_at now) → AreNew nat_cmp c.added m
  files_new c now h q some = files_before q ∙ h.added q some

  pub touched_there : (c : Changes ℕ Node) (now : List Node) (room : BTreeMap ℕ Node) → Leads nat_cmp c (file_at base) (file_at now)
      → ((q : ℕ) → get nat_cmp room q ≡ option_or (get nat_cmp c.added q) (get nat_cmp m q)) → (q : ℕ) → IsSome (get nat_cmp c.touched q) → IsSome (get nat_cmp room q)
  touched_there c now room h entered q some =
      or_some (get nat_cmp c.added q) (get nat_cmp m q) (get nat_cmp room q) (entered q) (subst (λ (o : Option Node). IsSome o) (sym (files_before q)) (h.touched q some))

  -- all of them
  pub keeps_changed : (by_id : Changes ℕ Node) (by_name : Changes (List ℕ) ℕ) (now : List Node) (room after : BTreeMap ℕ Node) (names_room names_after : BTreeMap (List ℕ) ℕ) → AreRising now → LeadsTo base by_id by_name now
      → ((q : ℕ) → get nat_cmp room q ≡ option_or (get nat_cmp by_id.added q) (get nat_cmp m q)) → ((q : ℕ) → get nat_cmp after q ≡ changed (get nat_cmp by_id.touched q) (get nat_cmp room q)) → IsOrdered nat_cmp after
      → ((q : List ℕ) → get name_cmp names_room q ≡ option_or (get name_cmp by_name.added q) (get name_cmp names q)) → ((q : List ℕ) → get name_cmp names_after q ≡ changed (get name_cmp by_name.touched q) (get name_cmp names_room q))
      → Keeps after names_after now
  keeps_changed by_id by_name now room after names_room names_after rising h entered put ordered names_entered names_put =
      keeps_found after names_after now ordered
      (λ q. put q ∙ ap (changed (get nat_cmp by_id.touched q)) (entered q ∙ ap (option_or (get nat_cmp by_id.added q)) (files_before q)) ∙ sym (h.files.told q))
      (record {
        rising = rising;
        index = λ name. names_put name ∙ ap (changed (get name_cmp by_name.touched name)) (names_entered name ∙ ap (option_or (get name_cmp by_name.added name)) (owners_before name)) ∙ sym (h.owners.told name);
      })

  -- none of them
  pub keeps_unchanged : (by_id : Changes ℕ Node) (by_name : Changes (List ℕ) ℕ) (now : List Node) (after : BTreeMap ℕ Node) (names_room names_after : BTreeMap (List ℕ) ℕ) (entered : List (List ℕ)) → LeadsTo base by_id by_name now
      → ((q : ℕ) → get nat_cmp after q ≡ get nat_cmp m q) → IsOrdered nat_cmp after
      → ((q : List ℕ) → get name_cmp names_room q ≡ option_or (get name_cmp by_name.added q) (get name_cmp names q)) → ((q : List ℕ) → is_one name_cmp entered q ≡ is_some (get name_cmp by_name.added q))
      → ((q : List ℕ) → get name_cmp names_after q ≡ cond (is_one name_cmp entered q) None (get name_cmp names_room q))
      → Keeps after names_after base
  keeps_unchanged by_id by_name now after names_room names_after entered h same ordered names_entered keys out =
      keeps_found after names_after base ordered (λ q. same q ∙ files_before q)
      (record {
        rising = subst AreRising is kept.indexed.rising;
        index = λ name. out name ∙ ap (λ (b : Bool). cond b None (get name_cmp names_room name)) (keys name)
            ∙ out_again (get name_cmp by_name.added name) (get name_cmp names name) (get name_cmp names_room name) (names_entered name) (λ some. owners_before name ∙ h.owners.added name some)
            ∙ owners_before name;
      })
