-- A table stays a table through its edits.
use Rattle.std.proofs.Common.{◌≡◌, ℕ, zero, suc, take, sum_by, ◌+◌, ◌-◌, ◌*◌, ◌^◌, ◌<◌, ◌≤◌, Bool, true, false, cond, List, [], ◌∷◌, ◌++◌, length, find, get_or, not, refl, ap, sym, ◌∙◌, subst, arith, append_assoc, Option, None, Some, eqb, length-append, ⊎_elim}
use Rattle.std.specs.Prelude.{⊤}
use Rattle.std.specs.List.{AllByRecursion, list_any}
use Rattle.std.specs.FinMap.{empty, get, get-empty}
use Rattle.std.specs.Ordering.{nat_cmp}
use Rattle.std.proofs.lemmas.Bool.{cases_lt, or_from, or_parts}
use Rattle.std.proofs.lemmas.Bool.Decides.{nat_tests}
use Rattle.std.proofs.lemmas.Cmp.{nat_list_eq_equiv}
use Rattle.std.proofs.lemmas.List.{append-nil}
use Rattle.std.proofs.lemmas.List.Folds.{list_any-append}
use Rattle.std.proofs.lemmas.List.Sums.{sum_by-cons}
use Rattle.sis_disk.specs.declared.layout.Layout.{Layout}
use Rattle.sis_disk.specs.Layout.{IsLayout}
use Rattle.sis_name.specs.Files.{same_name}
use Rattle.sis_name.specs.Units.{is_store_name}
use Rattle.sis_ranges.specs.declared.run.Run.{Run}
use Rattle.sis_ranges.specs.Extents.{IsWithin, block_end, has_block, in_stretch}
use Rattle.sis_ranges.proofs.CallerLemmas.{get-with_blocks, get-without_stretch}
use Rattle.sis_table.specs.Edits.{edited, edited_by, made, with_node, without_node, with_name, with_size, with_map, without_map, with_version, stretch, MayEdit, MayEditBy, MayMake, MayRename, MayMap, MaySize, MayVersion, IfThere}
use Rattle.sis_table.specs.Kinds.{is_fit, is_user}
use Rattle.sis_table.specs.Spelling.{IsMeasured, IsShort, node_len}
use Rattle.sis_table.specs.Volume.{VolumeTable, IsTable, IsNode, IsPlaced, AreNodes, last_id, has_name, blocks_of, node_with, empty_table}
use Rattle.sis_table.specs.declared.edit.Edit.{Edit}
use Rattle.sis_table.specs.declared.edit.Edit.TheVariants as edit
use Rattle.sis_table.specs.declared.kind.NodeKind.{NodeKind}
use Rattle.sis_table.specs.declared.kind.NodeKind.TheVariants.{Plain}
use Rattle.sis_table.specs.declared.node.Node.{Node}
use Rattle.sis_table.proofs.Lengths.{blocks_limit, length-spelling, all_short}

abbrev pub has_id : ℕ → Node → Bool
has_id id n = eqb n.id id

-- the last id behind one more file
pub last_id-push : (front : List Node) (n : Node) → last_id (front ++ n ∷ []) ≡ n.id
last_id-push [] n = refl
last_id-push (m ∷ []) n = refl
last_id-push (m ∷ k ∷ ks) n = last_id-push (k ∷ ks) n

-- ---- files behind others

-- What goes on behind the second files goes on behind the first ones, if its names pass the test.
record IsLessFront (spares : List ℕ → Bool) (a b : List Node) : Type 0 where
  pub last : last_id a ≤ last_id b
  pub names : (name : List ℕ) → spares name ≡ true → list_any (has_name name) b ≡ false → list_any (has_name name) a ≡ false

less_push : (spares : List ℕ → Bool) (a b : List Node) (n : Node) → IsLessFront spares a b → IsLessFront spares (a ++ n ∷ []) (b ++ n ∷ [])
less_push spares a b n less = record {
  last = omega (arith, last_id-push a n, last_id-push b n);
  names = λ name spared none.
      let both = or_parts _ _ (sym (list_any-append (has_name name) b (n ∷ [])) ∙ none) in
      list_any-append (has_name name) a (n ∷ []) ∙ or_from _ _ (less.names name spared both.0) both.1;
}

AreNodes-less : (l : Layout) (next : ℕ) (spares : List ℕ → Bool) (a b nodes : List Node) → IsLessFront spares a b → AllByRecursion (λ n. spares n.name ≡ true) nodes
    → AreNodes l next b nodes → AreNodes l next a nodes
AreNodes-less l next spares a b [] less spared h = tt
AreNodes-less l next spares a b (n ∷ ns) less spared h = (
  omega (arith, less.last, h.0),
  h.1,
  less.names n.name spared.0 h.2,
  h.3,
  AreNodes-less l next spares (a ++ n ∷ []) (b ++ n ∷ []) ns (less_push spares a b n less) spared.1 h.4,
)

any_name : List ℕ → Bool
any_name name = true

all_pass : (nodes : List Node) → AllByRecursion (λ n. any_name n.name ≡ true) nodes
unfolding any_name
all_pass [] = tt
all_pass (n ∷ ns) = (refl, all_pass ns)

-- one more file behind the others
AreNodes-push : (l : Layout) (next more : ℕ) (front nodes : List Node) (n : Node) → next ≤ more → n.id < more → last_id (front ++ nodes) < n.id
    → list_any (has_name n.name) (front ++ nodes) ≡ false → IsNode l n → AreNodes l next front nodes → AreNodes l more front (nodes ++ n ∷ [])
AreNodes-push l next more front [] n le below last free one h = (
  subst (λ (ns : List Node). last_id ns < n.id) (append-nil front) last,
  below,
  subst (λ (ns : List Node). list_any (has_name n.name) ns ≡ false) (append-nil front) free,
  one,
  tt,
)
AreNodes-push l next more front (m ∷ ms) n le below last free one h =
    let same : front ++ m ∷ ms ≡ (front ++ m ∷ []) ++ ms = sym (append_assoc front (m ∷ []) ms) in (
      h.0,
      omega (arith, h.1),
      h.2,
      h.3,
      AreNodes-push l next more (front ++ m ∷ []) ms n le below (subst (λ (ns : List Node). last_id ns < n.id) same last)
          (subst (λ (ns : List Node). list_any (has_name n.name) ns ≡ false) same free) one h.4,
    )

last_below : (l : Layout) (next : ℕ) (front nodes : List Node) → last_id front < next → AreNodes l next front nodes → last_id (front ++ nodes) < next
last_below l next front [] below h = subst (λ (ns : List Node). last_id ns < next) (sym (append-nil front)) below
last_below l next front (m ∷ ms) below h =
    subst (λ (ns : List Node). last_id ns < next) (append_assoc front (m ∷ []) ms)
    (last_below l next (front ++ m ∷ []) ms (subst (λ k. k < next) (sym (last_id-push front m)) h.1) h.4)

-- a change of one file that keeps its id, its name and its limits
same_front : (spares : List ℕ → Bool) (front : List Node) (n m : Node) → n.id ≡ m.id → ((name : List ℕ) → spares name ≡ true → has_name name n ≡ false → has_name name m ≡ false)
    → IsLessFront spares (front ++ m ∷ []) (front ++ n ∷ [])
same_front spares front n m id free = record {
  last = omega (arith, id, last_id-push front n, last_id-push front m);
  names = λ name spared none.
      let both = or_parts _ _ (sym (list_any-append (has_name name) front (n ∷ [])) ∙ none) in
      let other = or_parts (has_name name n) false both.1 in
      list_any-append (has_name name) front (m ∷ []) ∙ or_from _ _ both.0 (or_from _ _ (free name spared other.0) refl);
}

AreNodes-with_node : (l : Layout) (next id : ℕ) (change : Node → Node) (front nodes : List Node)
    → ((n : Node) → (change n).id ≡ n.id) → ((n : Node) → (change n).name ≡ n.name)
    → IfThere (find (has_id id) nodes) (λ n. IsNode l n → IsNode l (change n))
    → AreNodes l next front nodes → AreNodes l next front (with_node id change nodes)
AreNodes-with_node l next id change front [] ids names limits h = tt
AreNodes-with_node l next id change front (n ∷ ns) ids names limits h =
    elim (eqb n.id id) as (λ b. IfThere (cond b (Some n) (find (has_id id) ns)) (λ m. IsNode l m → IsNode l (change m))
    → AreNodes l next front (cond b (change n ∷ ns) (n ∷ with_node id change ns))) [
      | true ↦ λ keeps. (
        subst (λ k. last_id front < k) (sym (ids n)) h.0,
        subst (λ k. k < next) (sym (ids n)) h.1,
        subst (λ (name : List ℕ). list_any (has_name name) front ≡ false) (sym (names n)) h.2,
        keeps h.3,
        AreNodes-less l next any_name (front ++ change n ∷ []) (front ++ n ∷ []) ns
            (same_front any_name front n (change n) (sym (ids n)) (λ q spared none. ap (λ (name : List ℕ). same_name name q) (names n) ∙ none)) (all_pass ns) h.4,
      )
      | false ↦ λ keeps. (h.0, h.1, h.2, h.3, AreNodes-with_node l next id change (front ++ n ∷ []) ns ids names keeps h.4)
    ] limits

-- a new name that no file has
not_name : List ℕ → List ℕ → Bool
not_name name q = not (same_name name q)

not_named : (name q : List ℕ) → same_name q name ≡ false → not_name name q ≡ true
unfolding not_name
not_named name q e = ap not (nat_list_eq_equiv.symm name q ∙ e)

is_not_named : (name q : List ℕ) → not_name name q ≡ true → same_name name q ≡ false
unfolding not_name
is_not_named name q e = by (same_name name q) e
  where
    by : (b : Bool) → not b ≡ true → b ≡ false
    by true h = cc
    by false h = refl

none_named : (name : List ℕ) (nodes : List Node) → list_any (has_name name) nodes ≡ false → AllByRecursion (λ n. not_name name n.name ≡ true) nodes
none_named name [] free = tt
none_named name (n ∷ ns) free = let both = or_parts (has_name name n) _ free in (not_named name n.name both.0, none_named name ns both.1)

AreNodes-renamed : (l : Layout) (next id : ℕ) (name : List ℕ) (front nodes : List Node) → list_any (has_name name) front ≡ false → list_any (has_name name) nodes ≡ false
    → IfThere (find (has_id id) nodes) (λ n. IsNode l n → IsNode l (with_name name n))
    → AreNodes l next front nodes → AreNodes l next front (with_node id (with_name name) nodes)
AreNodes-renamed l next id name front [] before free limits h = tt
AreNodes-renamed l next id name front (n ∷ ns) before free limits h =
    let both = or_parts (has_name name n) _ free in
    elim (eqb n.id id) as (λ b. IfThere (cond b (Some n) (find (has_id id) ns)) (λ m. IsNode l m → IsNode l (with_name name m))
    → AreNodes l next front (cond b (with_name name n ∷ ns) (n ∷ with_node id (with_name name) ns))) [
      | true ↦ λ keeps. (
        h.0,
        h.1,
        before,
        keeps h.3,
        AreNodes-less l next (not_name name) (front ++ with_name name n ∷ []) (front ++ n ∷ []) ns
            (same_front (not_name name) front n (with_name name n) refl (λ q spared none. is_not_named name q spared)) (none_named name ns both.1) h.4,
      )
      | false ↦ λ keeps. (
        h.0,
        h.1,
        h.2,
        h.3,
        AreNodes-renamed l next id name (front ++ n ∷ []) ns
            (list_any-append (has_name name) front (n ∷ []) ∙ or_from _ _ before (or_from _ _ both.0 refl)) both.1 keeps h.4,
      )
    ] limits

-- a file less
AreNodes-without : (l : Layout) (next id : ℕ) (front nodes : List Node) → AreNodes l next front nodes → AreNodes l next front (without_node id nodes)
AreNodes-without l next id front [] h = tt
AreNodes-without l next id front (n ∷ ns) h =
    let others : AreNodes l next front ns = AreNodes-less l next any_name front (front ++ n ∷ []) ns
    (record { last = omega (arith, h.0, last_id-push front n); names = λ name spared none. (or_parts _ _ (sym (list_any-append (has_name name) front (n ∷ [])) ∙ none)).0 })
    (all_pass ns) h.4 in
    elim (eqb n.id id) as (λ b. AreNodes l next front (cond b ns (n ∷ without_node id ns))) [
      | true ↦ others
      | false ↦ (h.0, h.1, h.2, h.3, AreNodes-without l next id (front ++ n ∷ []) ns h.4)
    ]

length-without_node : (id : ℕ) (nodes : List Node) → length (without_node id nodes) ≤ length nodes
length-without_node id [] = omega arith
length-without_node id (n ∷ ns) =
    elim (eqb n.id id) as (λ b. length (cond b ns (n ∷ without_node id ns)) ≤ length (n ∷ ns)) [
      | true ↦ omega arith
      | false ↦ omega (arith, length-without_node id ns)
    ]

length-with_node : (id : ℕ) (change : Node → Node) (nodes : List Node) → length (with_node id change nodes) ≡ length nodes
length-with_node id change [] = refl
length-with_node id change (n ∷ ns) =
    elim (eqb n.id id) as (λ b. length (cond b (change n ∷ ns) (n ∷ with_node id change ns)) ≡ length (n ∷ ns)) [
      | true ↦ refl
      | false ↦ omega (arith, length-with_node id change ns)
    ]

if_there : (o : Option Node) (P Q : Node → Type 0) → ((n : Node) → P n → Q n) → IfThere o P → IfThere o Q
if_there None P Q f h = h
if_there (Some n) P Q f h = f n h

-- ---- a file keeps its limits

pub IsNode-made : (l : Layout) (v : VolumeTable) (id : ℕ) (kind : NodeKind) (name : List ℕ) → MayMake v id kind name → IsNode l (made id kind name)
IsNode-made l v id kind name may = record {
  name = may.is_name;
  fit = may.fit;
  size = omega arith;
  version_low = omega arith;
  version_high = omega arith;
  placed = λ block place is. (let none : get (empty {X = ℕ} {R = nat_cmp}) block ≡ None = get-empty nat_cmp block in cc);
}

-- a name that is none of the common store fits a user's file
fits_user : (kind : NodeKind) (name : List ℕ) → is_user kind ≡ true → is_store_name name ≡ false → is_fit kind name ≡ true
fits_user Plain name user store = ap not store

IsNode-with_name : (v : VolumeTable) (name : List ℕ) (n : Node) → MayRename v n name → IsNode v.layout n → IsNode v.layout (with_name name n)
IsNode-with_name v name n may h = record {
  name = may.is_name;
  fit = fits_user n.kind name may.user may.store;
  size = h.size;
  version_low = h.version_low;
  version_high = h.version_high;
  placed = h.placed;
}

IsNode-with_size : (l : Layout) (size : ℕ) (n : Node) → MaySize n size → IsNode l n → IsNode l (with_size size n)
IsNode-with_size l size n may h = record {
  name = h.name;
  fit = h.fit;
  size = may.limit;
  version_low = h.version_low;
  version_high = h.version_high;
  placed = λ block place is. (let p = h.placed block place is in record { inside = inside block place is; low = p.low; high = p.high });
}
  where
    inside : (block place : ℕ) → get n.map block ≡ Some place → block < blocks_of size
    inside block place is = ⊎_elim (λ lt. lt) (λ le. let none = may.mapped block le in cc) (cases_lt block (blocks_of size))

IsNode-with_map : (l : Layout) (r : Run) (n : Node) → MayMap l n r → IsNode l n → IsNode l (with_map r n)
IsNode-with_map l r n may h = record {
  name = h.name;
  fit = h.fit;
  size = h.size;
  version_low = h.version_low;
  version_high = h.version_high;
  placed = λ block place is. placed block place (has_block block r) refl (sym (get-with_blocks n.map r block) ∙ is);
}
  where
    placed : (block place : ℕ) (b : Bool) → has_block block r ≡ b → cond b (Some (r.place + (block - r.first))) (get n.map block) ≡ Some place → IsPlaced l (blocks_of n.size) block place
    placed block place true here is =
        let at : r.place + (block - r.first) ≡ place = cc in
        let low : r.first ≤ block = grind (arith, nat_tests, here) in
        let high : block < block_end r = grind (arith, nat_tests, here) in
        record { inside = omega (arith, high, may.inside); low = omega (arith, at, may.low); high = omega (arith, at, low, high, may.high) }
    placed block place false here is = h.placed block place is

-- a map with less blocks
fewer : (b : Bool) (o : Option ℕ) (place : ℕ) → cond b None o ≡ Some place → o ≡ Some place
fewer true o place is = absurd cc
fewer false o place is = is

IsNode-without_map : (l : Layout) (first count : ℕ) (n : Node) → IsNode l n → IsNode l (without_map first count n)
IsNode-without_map l first count n h = record {
  name = h.name;
  fit = h.fit;
  size = h.size;
  version_low = h.version_low;
  version_high = h.version_high;
  placed = λ block place is. h.placed block place (fewer (in_stretch first count block) (get n.map block) place (sym (get-without_stretch n.map first count block) ∙ is));
}

IsNode-with_version : (l : Layout) (version : ℕ) (n : Node) → MayVersion n version → IsNode l n → IsNode l (with_version version n)
IsNode-with_version l version n may h = record {
  name = h.name;
  fit = h.fit;
  size = h.size;
  version_low = omega (arith, may.above);
  version_high = may.limit;
  placed = h.placed;
}

-- ---- a table stays one

IsTable-with_node : (v : VolumeTable) (id : ℕ) (change : Node → Node) → ((n : Node) → (change n).id ≡ n.id) → ((n : Node) → (change n).name ≡ n.name)
    → IfThere (node_with v id) (λ n. IsNode v.layout n → IsNode v.layout (change n)) → IsTable v
    → IsTable (record v { nodes = with_node id change v.nodes })
IsTable-with_node v id change ids names limits h = record {
  layout = h.layout;
  next_low = h.next_low;
  next_high = h.next_high;
  greatest = h.greatest;
  few = omega (arith, h.few, length-with_node id change v.nodes);
  nodes = AreNodes-with_node v.layout v.next_id id change [] v.nodes ids names limits h.nodes;
}

-- some condition on the file that is there holds of the table and the name
free_by : (v : VolumeTable) (name : List ℕ) (o : Option Node) → IfThere o (λ n. MayRename v n name) → list_any (has_name name) v.nodes ≡ false
free_by v name None h = absurd h
free_by v name (Some n) h = h.free

pub IsTable-edited : (v : VolumeTable) (e : Edit) → IsTable v → MayEdit v e → IsTable (edited v e)
IsTable-edited v (edit.Make id kind name) h may = record {
  layout = h.layout;
  next_low = omega arith;
  next_high = omega (arith, may.below);
  greatest = h.greatest;
  few = omega (arith, may.few, length-append v.nodes (made id kind name ∷ []));
  nodes = AreNodes-push v.layout v.next_id (id + 1) [] v.nodes (made id kind name) (omega (arith, may.fresh)) (omega arith)
      (omega (arith, may.fresh, last_below v.layout v.next_id [] v.nodes (omega (arith, h.next_low)) h.nodes))
      may.free (IsNode-made v.layout v id kind name may) h.nodes;
}
IsTable-edited v (edit.Drop id) h may = record {
  layout = h.layout;
  next_low = h.next_low;
  next_high = h.next_high;
  greatest = h.greatest;
  few = omega (arith, h.few, length-without_node id v.nodes);
  nodes = AreNodes-without v.layout v.next_id id [] v.nodes h.nodes;
}
IsTable-edited v (edit.Rename id name) h may = record {
  layout = h.layout;
  next_low = h.next_low;
  next_high = h.next_high;
  greatest = h.greatest;
  few = omega (arith, h.few, length-with_node id (with_name name) v.nodes);
  nodes = AreNodes-renamed v.layout v.next_id id name [] v.nodes refl (free_by v name (node_with v id) may)
      (if_there (node_with v id) (λ n. MayRename v n name) (λ n. IsNode v.layout n → IsNode v.layout (with_name name n)) (IsNode-with_name v name) may) h.nodes;
}
IsTable-edited v (edit.Size id size) h may =
    IsTable-with_node v id (with_size size) (λ n. refl) (λ n. refl)
    (if_there (node_with v id) (λ n. MaySize n size) (λ n. IsNode v.layout n → IsNode v.layout (with_size size n)) (IsNode-with_size v.layout size) may) h
IsTable-edited v (edit.Map id first count place) h may =
    let r = stretch first count place in
    IsTable-with_node v id (with_map r) (λ n. refl) (λ n. refl)
    (if_there (node_with v id) (λ n. MayMap v.layout n r) (λ n. IsNode v.layout n → IsNode v.layout (with_map r n)) (IsNode-with_map v.layout r) may) h
IsTable-edited v (edit.Unmap id first count) h may =
    IsTable-with_node v id (without_map first count) (λ n. refl) (λ n. refl)
    (if_there (node_with v id) (λ n. ⊤) (λ n. IsNode v.layout n → IsNode v.layout (without_map first count n))
    (λ n there. IsNode-without_map v.layout first count n) may) h
IsTable-edited v (edit.Version id version) h may =
    IsTable-with_node v id (with_version version) (λ n. refl) (λ n. refl)
    (if_there (node_with v id) (λ n. MayVersion n version) (λ n. IsNode v.layout n → IsNode v.layout (with_version version n)) (IsNode-with_version v.layout version) may) h

pub IsTable-edited_by : (v : VolumeTable) (es : List Edit) → IsTable v → MayEditBy v es → IsTable (edited_by v es)
IsTable-edited_by v [] h may = h
IsTable-edited_by v (e ∷ es) h may = IsTable-edited_by (edited v e) es (IsTable-edited v e h may.0) may.1

-- each file of a table keeps its limits
pub all_nodes : (l : Layout) (next : ℕ) (front nodes : List Node) → AreNodes l next front nodes → AllByRecursion (IsNode l) nodes
all_nodes l next front [] h = tt
all_nodes l next front (n ∷ ns) h = (h.3, all_nodes l next (front ++ n ∷ []) ns h.4)

-- the id of a new file is greater than those of the others
pub rises_make : (v : VolumeTable) (id : ℕ) → IsTable v → v.next_id ≤ id → last_id v.nodes < id
rises_make v id h le =
    let low = h.next_low in
    let below = last_below v.layout v.next_id [] v.nodes (omega arith) h.nodes in
    omega arith

-- the file that is there keeps its limits
limits_there : (l : Layout) (test : Node → Bool) (nodes : List Node) (P : Node → Type 0) → AllByRecursion (IsNode l) nodes → IfThere (find test nodes) P → IfThere (find test nodes) (λ n. IsNode l n × P n)
limits_there l test [] P all h = absurd h
limits_there l test (n ∷ ns) P all h =
    elim (test n) as (λ b. IfThere (cond b (Some n) (find test ns)) P → IfThere (cond b (Some n) (find test ns)) (λ m. IsNode l m × P m)) [
      | true ↦ λ g. (all.0, g)
      | false ↦ λ g. limits_there l test ns P all.1 g
    ] h

pub there_so : (o : Option Node) (P : Node → Type 0) (Q : Type 0) → ((n : Node) → P n → Q) → IfThere o P → Q
there_so None P Q f h = absurd h
there_so (Some n) P Q f h = f n h

-- a run that may be mapped keeps the limits of a map
pub map_within : (v : VolumeTable) (id first count place : ℕ) → IsTable v → MayEdit v (edit.Map id first count place) → IsWithin (stretch first count place)
map_within v id first count place h may =
    there_so (node_with v id) (λ n. IsNode v.layout n × MayMap v.layout n (stretch first count place)) (IsWithin (stretch first count place))
    (λ n both. record { blocks = omega (arith, both.1.inside, blocks_limit n.size both.0.size); places = omega (arith, both.1.high, h.layout.total_high) })
    (limits_there v.layout (has_id id) v.nodes (λ n. MayMap v.layout n (stretch first count place)) (all_nodes v.layout v.next_id [] v.nodes h.nodes) may)

-- a new name is free
pub rename_free : (v : VolumeTable) (id : ℕ) (name : List ℕ) → MayEdit v (edit.Rename id name) → list_any (has_name name) v.nodes ≡ false
rename_free v id name may = free_by v name (node_with v id) may

-- ---- the length that is kept

pub measured_empty : (l : Layout) (nodes : List Node) → IsLayout l → nodes ≡ [] → IsMeasured (record { layout = l; next_id = 1; greatest = 0; nodes = nodes }) 20
measured_empty l nodes h none = subst (λ (ns : List Node). IsMeasured (record { layout = l; next_id = 1; greatest = 0; nodes = ns }) 20) (sym none) (record {
  table = record { layout = h; next_low = omega arith; next_high = omega arith; greatest = omega arith; few = omega arith; nodes = tt };
  measure = sym (length-spelling (empty_table l));
})

sum_small : (nodes : List Node) → AllByRecursion IsShort nodes → sum_by node_len nodes ≤ 402653725 * length nodes
sum_small [] h = omega arith
sum_small (n ∷ ns) h = omega (arith, sum_small ns h.1, h.0.name, h.0.runs, sum_by-cons node_len n ns)

-- a spelling is short
pub measured_small : (v : VolumeTable) (len : ℕ) → IsMeasured v len → len ≤ 2 ^ 45
measured_small v len h =
    omega (arith, h.measure, length-spelling v, sum_small v.nodes (all_short v.layout v.next_id [] v.nodes h.table.nodes), h.table.few)

-- ---- a copy

-- each file may stand behind those before it
pub behind_others : (l : Layout) (next : ℕ) (front nodes : List Node) (i : ℕ) (d : Node) → AreNodes l next front nodes → i < length nodes
    → (last_id (front ++ take i nodes) < (get_or nodes i d).id) × (list_any (has_name (get_or nodes i d).name) (front ++ take i nodes) ≡ false)
behind_others l next front [] i d h lt = absurd (omega arith)
behind_others l next front (n ∷ ns) zero d h lt =
    subst (λ (f : List Node). (last_id f < n.id) × (list_any (has_name n.name) f ≡ false)) (sym (append-nil front)) (h.0, h.2)
behind_others l next front (n ∷ ns) (suc i) d h lt =
    subst (λ (f : List Node). (last_id f < (get_or ns i d).id) × (list_any (has_name (get_or ns i d).name) f ≡ false)) (append_assoc front (n ∷ []) (take i ns))
    (behind_others l next (front ++ n ∷ []) ns i d h.4 (omega (arith, lt)))

-- so a copy of it may stand behind copies of those
pub follows : (l : Layout) (next : ℕ) (nodes copies items : List Node) (i : ℕ) (n copy : Node) → AreNodes l next [] nodes → items ≡ nodes → copies ≡ take i nodes → i < length items → n ≡ get_or items i n → copy ≡ n
    → (last_id copies < copy.id) × (list_any (has_name copy.name) copies ≡ false)
follows l next nodes copies items i n copy h same are lt is copied =
    let lt_nodes : i < length nodes = subst (λ (ns : List Node). i < length ns) same lt in
    let is_here : get_or nodes i n ≡ copy = sym (copied ∙ is ∙ ap (λ (ns : List Node). get_or ns i n) same) in
    let both = behind_others l next [] nodes i n h lt_nodes in
    subst (λ (f : List Node). (last_id f < copy.id) × (list_any (has_name copy.name) f ≡ false)) (sym are)
    (subst (λ (m : Node). (last_id (take i nodes) < m.id) × (list_any (has_name m.name) (take i nodes) ≡ false)) is_here both)
