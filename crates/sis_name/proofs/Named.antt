-- Finite maps under names, against the entries of a `BTreeMap` whose keys are names.
use Rattle.std.proofs.Common.{◌≡◌, ℕ, Bool, cond, List, [], ◌∷◌, Option, Some, refl, ap, sym, ◌∙◌, subst, T, true, false, ◌&&◌}
use Rattle.std.specs.FinMap.{get, insert, entries, from_entries, from_sorted, find, is_sorted, get-insert, get-from_entries, get-from_sorted, entries-from_sorted, same_map}
use Rattle.std.specs.FinMap.Entries.{below_all}
use Rattle.std.specs.List.{AllByRecursion}
use Rattle.std.specs.List.Sorted.{IsStrictlySortedBy}
use Rattle.std.specs.Ordering.{is_lt}
use Rattle.std.specs.declared.cmp.Ordering.TheVariants.{Less}
use Rattle.std.specs.Map.{keys_of}
use Rattle.std.specs.Cmp.{eq_by_cmp_equiv}
use Rattle.std.specs.Map.{lookup}
use Rattle.std.specs.BTreeMap.{is_at}
use Rattle.sis_name.specs.Units.{name_cmp, name_total, name_ties}

-- what entries have at a name
abbrev pub named : {X : Type 0} → List (List ℕ × X) → List ℕ → Option X
named es name = lookup (is_at (name_cmp name)) es

find_named : {X : Type 0} (es : List (List ℕ × X)) (name : List ℕ) → find name_cmp name es ≡ named es name
find_named [] name = refl
find_named (e ∷ es) name = ap (cond (is_at (name_cmp name) e.0) (Some e.1)) (find_named es name)

-- what the map that they make has there
pub get_named : {X : Type 0} (es : List (List ℕ × X)) (name : List ℕ) → get (from_entries {R = name_cmp} es) name ≡ named es name
get_named es name = get-from_entries name_total es name ∙ find_named es name

-- entries that differ at one name make maps that differ there
pub insert_named : {X : Type 0} (es fs : List (List ℕ × X)) (name : List ℕ) (x : X) → ((q : List ℕ) → named fs q ≡ cond (is_at (name_cmp name) q) (Some x) (named es q)) → from_entries {R = name_cmp} fs ≡ insert (from_entries es) name x
insert_named es fs name x h = same_map name_total name_ties _ _ (λ q.
    get_named fs q ∙ h q ∙ ap (λ b. cond b (Some x) (named es q)) ((eq_by_cmp_equiv name_total).symm name q)
    ∙ sym (get-insert name_total (from_entries es) name x q ∙ ap (cond (is_at (name_cmp q) name) (Some x)) (get_named es q)))

both_hold : (a b : Bool) → T a → T b → T (a && b)
both_hold true b h g = g
both_hold false b h g = h

pub below_all-from_each : {X : Type 0} (k : List ℕ) (es : List (List ℕ × X)) → AllByRecursion (λ q. name_cmp k q ≡ Less) (keys_of es) → T (below_all name_cmp k es)
below_all-from_each k [] h = tt
below_all-from_each k (e ∷ es) h = both_hold _ _ (subst (λ r. T (is_lt r)) (sym h.0) tt) (below_all-from_each k es h.1)

-- keys that rise make a list that is sorted
pub sorted_entries : {X : Type 0} (es : List (List ℕ × X)) → IsStrictlySortedBy name_cmp (keys_of es) → T (is_sorted name_cmp es)
unfolding IsStrictlySortedBy
sorted_entries [] h = tt
sorted_entries (e ∷ es) h = both_hold _ _ (below_all-from_each e.0 es h.0) (sorted_entries es h.1)

-- the map that sorted entries make has just these
pub entries_named : {X : Type 0} (es : List (List ℕ × X)) → IsStrictlySortedBy name_cmp (keys_of es) → entries (from_entries {R = name_cmp} es) ≡ es
entries_named es h =
    let s = sorted_entries es h in
    ap entries (same_map name_total name_ties (from_entries es) (from_sorted es) (λ q. get-from_entries name_total es q ∙ sym (get-from_sorted name_cmp es q s))) ∙ entries-from_sorted name_cmp es s
