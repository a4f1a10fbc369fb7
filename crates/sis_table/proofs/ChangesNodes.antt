-- Changes of one file of a table, one after another.
use Rattle.std.proofs.Common.{◌≡◌, ℕ, ◌+◌, ◌<◌, ◌++◌, arith, Bool, true, false, cond, List, [], ◌∷◌, find, None, Some, refl, sym, ap, ◌∙◌, subst}
use Rattle.std.specs.Prelude.{◌==◌}
use Rattle.std.specs.Option.{option_map}
use Rattle.std.specs.List.{AllByRecursion}
use Rattle.std.proofs.lemmas.Bool.{cond-true, cond-false, eq-eqb, ne_eqb}
use Rattle.sis_table.specs.declared.node.Node.{Node}
use Rattle.sis_table.specs.Edits.{with_node}
use Rattle.sis_table.specs.Volume.{VolumeTable, IsTable, IsNode, node_with}
use Rattle.sis_table.proofs.ContentEdits.{node_with-changed}
use Rattle.sis_table.proofs.EditLemmas.{all_nodes, has_id}
use Rattle.sis_table.proofs.PutLemmas.{ids_below}

pub some_is : {X : Type 0} (a b : X) → Some a ≡ Some b → a ≡ b
some_is a b e = cc

pub not_some : {X : Type 0} (a : X) → None ≡ Some a → ⊥
not_some a e = cc

-- ---- the file with an id

found_limits : (P : Node → Type 0) (test : Node → Bool) (nodes : List Node) (n : Node) → AllByRecursion P nodes → find test nodes ≡ Some n → P n
found_limits P test [] n all is = absurd (not_some n is)
found_limits P test (m ∷ ms) n all is =
    elim (test m) as (λ t. cond t (Some m) (find test ms) ≡ Some n → P n) [
      | true ↦ λ h. subst P (some_is m n h) all.0
      | false ↦ λ h. found_limits P test ms n all.1 h
    ] is

-- it keeps its limits
pub there_limits : (v : VolumeTable) (id : ℕ) (n : Node) → IsTable v → node_with v id ≡ Some n → IsNode v.layout n
there_limits v id n t is = found_limits (IsNode v.layout) (has_id id) v.nodes n (all_nodes v.layout v.next_id [] v.nodes t.nodes) is

-- a file with the next id behind the others is found
pub last_there : (v : VolumeTable) (n : Node) → IsTable v → n.id ≡ v.next_id → node_with (record v { next_id = v.next_id + 1; nodes = v.nodes ++ n ∷ [] }) v.next_id ≡ Some n
last_there v n t same = last v.nodes (ids_below v v.next_id t (omega arith))
  where
    last : (ms : List Node) → AllByRecursion (λ m. m.id < v.next_id) ms → find (has_id v.next_id) (ms ++ n ∷ []) ≡ Some n
    last [] below = cond-true (n.id == v.next_id) (Some n) None (eq-eqb n.id v.next_id same)
    last (m ∷ ms) below = cond-false (m.id == v.next_id) (Some m) (find (has_id v.next_id) (ms ++ n ∷ [])) (ne_eqb m.id v.next_id (λ e. omega (arith, below.0, e))) ∙ last ms below.1

-- ---- the table where it was changed so

abbrev pub changed : ℕ → (Node → Node) → VolumeTable → VolumeTable
changed id change v = record v { nodes = with_node id change v.nodes }

pub changed-there : (v : VolumeTable) (id : ℕ) (change : Node → Node) (n : Node) → ((m : Node) → (change m).id ≡ m.id) → node_with v id ≡ Some n → node_with (changed id change v) id ≡ Some (change n)
changed-there v id change n ids is = node_with-changed v id change ids ∙ ap (option_map change) is

with_node-same : (id : ℕ) (change : Node → Node) (nodes : List Node) → ((n : Node) → change n ≡ n) → with_node id change nodes ≡ nodes
with_node-same id change [] same = refl
with_node-same id change (n ∷ ns) same =
    elim (n.id == id) as (λ t. cond t (change n ∷ ns) (n ∷ with_node id change ns) ≡ n ∷ ns) [
      | true ↦ ap (λ (x : Node). x ∷ ns) (same n)
      | false ↦ ap (λ (xs : List Node). n ∷ xs) (with_node-same id change ns same)
    ]

with_node-twice : (id : ℕ) (f g : Node → Node) (nodes : List Node) → ((n : Node) → (f n).id ≡ n.id) → with_node id g (with_node id f nodes) ≡ with_node id (λ n. g (f n)) nodes
with_node-twice id f g [] ids = refl
with_node-twice id f g (n ∷ ns) ids =
    elim (n.id == id) as (λ t. (n.id == id) ≡ t → with_node id g (cond t (f n ∷ ns) (n ∷ with_node id f ns)) ≡ cond t (g (f n) ∷ ns) (n ∷ with_node id (λ m. g (f m)) ns)) [
      | true ↦ λ e. cond-true ((f n).id == id) (g (f n) ∷ ns) (f n ∷ with_node id g ns) (ap (λ (k : ℕ). k == id) (ids n) ∙ e)
      | false ↦ λ e. cond-false (n.id == id) (g n ∷ with_node id f ns) (n ∷ with_node id g (with_node id f ns)) e
          ∙ ap (λ (xs : List Node). n ∷ xs) (with_node-twice id f g ns ids)
    ] refl

with_node-like : (id : ℕ) (f g : Node → Node) (nodes : List Node) (n : Node) → find (has_id id) nodes ≡ Some n → f n ≡ g n → with_node id f nodes ≡ with_node id g nodes
with_node-like id f g [] n is same = refl
with_node-like id f g (m ∷ ms) n is same =
    elim (m.id == id) as (λ t. cond t (Some m) (find (has_id id) ms) ≡ Some n → cond t (f m ∷ ms) (m ∷ with_node id f ms) ≡ cond t (g m ∷ ms) (m ∷ with_node id g ms)) [
      | true ↦ λ h. ap (λ (x : Node). x ∷ ms) (subst (λ (x : Node). f x ≡ g x) (sym (some_is m n h)) same)
      | false ↦ λ h. ap (λ (xs : List Node). m ∷ xs) (with_node-like id f g ms n h same)
    ] is

-- a change that leaves each file leaves all
pub changed-same : (v : VolumeTable) (id : ℕ) (change : Node → Node) → ((n : Node) → change n ≡ n) → changed id change v ≡ v
changed-same v id change same = ap (λ (ns : List Node). record v { nodes = ns }) (with_node-same id change v.nodes same)

-- one change after another
pub changed-twice : (v : VolumeTable) (id : ℕ) (f g : Node → Node) → ((n : Node) → (f n).id ≡ n.id) → changed id g (changed id f v) ≡ changed id (λ n. g (f n)) v
changed-twice v id f g ids = ap (λ (ns : List Node). record v { nodes = ns }) (with_node-twice id f g v.nodes ids)

-- only what becomes of the file itself counts
pub changed-like : (v : VolumeTable) (id : ℕ) (f g : Node → Node) (n : Node) → node_with v id ≡ Some n → f n ≡ g n → changed id f v ≡ changed id g v
changed-like v id f g n is same = ap (λ (ns : List Node). record v { nodes = ns }) (with_node-like id f g v.nodes n is same)
