-- A file of a name, and where it is found.
use Rattle.std.proofs.Common.{◌≡◌, ℕ, Bool, true, false, cond, List, [], ◌∷◌, map, find, Some, refl, ap, subst, ◌∙◌, arith}
use Rattle.std.specs.Prelude.{◌==◌}
use Rattle.std.specs.List.{AllByRecursion}
use Rattle.std.specs.List.Sorted.{IsStrictlySortedBy}
use Rattle.std.specs.Ordering.{nat_cmp}
use Rattle.std.specs.declared.cmp.Ordering.TheVariants.{Less}
use Rattle.std.proofs.lemmas.Bool.Decides.{nat_tests}
use Rattle.sis_table.specs.Index.{AreRising}
use Rattle.sis_table.specs.Volume.{VolumeTable, IsTable, has_name, id_of, node_named, node_with}
use Rattle.sis_table.specs.declared.node.Node.{Node}
use Rattle.sis_table.proofs.ChangeLemmas.{rising_nodes}
use Rattle.sis_table.proofs.FileLemmas.{below, same_units, some_is}

pub found_has : {X : Type 0} (P : X → Type 0) (test : X → Bool) (xs : List X) (x : X)
    → AllByRecursion P xs → find test xs ≡ Some x → P x
found_has P test [] x all is = absurd cc
found_has P test (y ∷ ys) x all is = by (test y) is (found_has P test ys x all.1)
  where
    by : (b : Bool) → cond b (Some y) (find test ys) ≡ Some x → (find test ys ≡ Some x → P x) → P x
    by true is rest = subst P (some_is y x is) all.0
    by false is rest = rest is

found_passes : {X : Type 0} (test : X → Bool) (xs : List X) (x : X) → find test xs ≡ Some x
    → test x ≡ true
found_passes test [] x is = absurd cc
found_passes test (y ∷ ys) x is = by (test y) refl is (found_passes test ys x)
  where
    by : (b : Bool) → test y ≡ b → cond b (Some y) (find test ys) ≡ Some x
        → (find test ys ≡ Some x → test x ≡ true) → test x ≡ true
    by true passes is rest = subst (λ z. test z ≡ true) (some_is y x is) passes
    by false passes is rest = rest is

ids_of_all : (P : ℕ → Type 0) (ns : List Node) → AllByRecursion P (map id_of ns)
    → AllByRecursion (λ (n : Node). P n.id) ns
ids_of_all P [] all = tt
ids_of_all P (n ∷ ns) all = (all.0, ids_of_all P ns all.1)

-- where ids rise, a file that some test finds is found by its id
found_by_id : (test : Node → Bool) (ns : List Node) (n : Node) → AreRising ns
    → find test ns ≡ Some n → find (λ m. m.id == n.id) ns ≡ Some n
unfolding IsStrictlySortedBy
found_by_id test [] n rising is = absurd cc
found_by_id test (m ∷ ms) n rising is = by (test m) is (found_by_id test ms n rising.1)
  where
    by : (b : Bool) → cond b (Some m) (find test ms) ≡ Some n
        → (find test ms ≡ Some n → find (λ k. k.id == n.id) ms ≡ Some n)
        → find (λ k. k.id == n.id) (m ∷ ms) ≡ Some n
    by true is rest =
        let same : m ≡ n = some_is m n is in
        let own : (n.id == n.id) ≡ true = grind (arith, nat_tests) in
        let here : (m.id == n.id) ≡ true = ap (λ (k : Node). k.id == n.id) same ∙ own in
        ap (λ (b : Bool). cond b (Some m) (find (λ k. k.id == n.id) ms)) here
        ∙ ap (λ (k : Node). Some k) same
    by false is rest =
        let less = found_has (λ k. nat_cmp m.id k.id ≡ Less) test ms n
        (ids_of_all (λ id. nat_cmp m.id id ≡ Less) ms rising.0) is in
        let lt = below m.id n.id less in
        let other : (m.id == n.id) ≡ false = grind (arith, nat_tests) in
        ap (λ (b : Bool). cond b (Some m) (find (λ k. k.id == n.id) ms)) other ∙ rest is

-- the file of a name
pub record IsNamed (v : VolumeTable) (name : List ℕ) (n : Node) : Type 0 where
  pub named : node_named v name ≡ Some n
  pub there : node_with v n.id ≡ Some n
  pub name_is : n.name ≡ name

pub is_named : (v : VolumeTable) (name : List ℕ) (n : Node) → IsTable v → node_named v name ≡ Some n
    → IsNamed v name n
is_named v name n t is = record {
  named = is;
  there =
      let rising = rising_nodes v.layout v.next_id [] v.nodes t.nodes in
      found_by_id (has_name name) v.nodes n rising is;
  name_is = same_units n.name name (found_passes (has_name name) v.nodes n is);
}
