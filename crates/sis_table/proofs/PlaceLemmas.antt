-- Where blocks lie, before an edit and after it.
use Rattle.std.proofs.Common.{◌≡◌, ℕ, ◌+◌, ◌-◌, ◌<◌, Bool, true, false, cond, ◌||◌, List, [], ◌∷◌, ◌++◌, find, Option, None, Some, eqb, refl, ap, ◌∙◌, subst, arith}
use Rattle.std.specs.List.{list_any}
use Rattle.std.specs.Option.{option_map, option_or}
use Rattle.std.specs.FinMap.{get, get-empty}
use Rattle.std.specs.Ordering.{eq_by_cmp, nat_cmp}
use Rattle.std.proofs.lemmas.Bool.{or_left, or_right}
use Rattle.std.proofs.lemmas.Bool.Decides.{nat_tests}
use Rattle.sis_disk.specs.declared.layout.Layout.{Layout}
use Rattle.sis_ranges.specs.declared.run.Run.{Run}
use Rattle.sis_ranges.specs.Extents.{has_block, in_stretch}
use Rattle.sis_ranges.proofs.CallerLemmas.{get-with_blocks, get-without_stretch}
use Rattle.sis_ranges.proofs.PlaceLemmas.{found-at, value-found}
use Rattle.sis_table.specs.Edits.{edited, made, with_node, with_name, with_size, with_map, without_map, with_version, stretch, IfThere, MayEdit, MayMap}
use Rattle.sis_table.specs.Volume.{VolumeTable, IsTable, AreNodes, last_id, maps_place, is_used, node_with, place_by, place_in}
use Rattle.sis_table.specs.declared.edit.Edit.TheVariants as edit
use Rattle.sis_table.specs.declared.kind.NodeKind.{NodeKind}
use Rattle.sis_table.specs.declared.node.Node.{Node}
use Rattle.sis_table.proofs.ChangeLemmas.{file_without, find-with_node, rising_nodes}
use Rattle.sis_table.proofs.EditLemmas.{has_id, last_id-push}
use Rattle.sis_table.proofs.FileLemmas.{find-push}

-- ---- where a block lies

abbrev Keeps : (Node → Node) → Type 0
Keeps change = (n : Node) → (change n).id ≡ n.id

place_in-with_node : (v : VolumeTable) (id : ℕ) (change : Node → Node) (i block : ℕ) → Keeps change
    → place_in (record v { nodes = with_node id change v.nodes }) i block ≡ cond (eqb i id) (place_by (option_map change (node_with v i)) block) (place_in v i block)
place_in-with_node v id change i block ids =
    ap (λ (o : Option Node). place_by o block) (find-with_node id change v.nodes i ids)
    ∙ elim (eqb i id) as (λ b. place_by (cond b (option_map change (node_with v i)) (node_with v i)) block ≡ cond b (place_by (option_map change (node_with v i)) block) (place_in v i block)) [ true ↦ refl | false ↦ refl ]

-- a change that keeps the map
place_in-kept : (v : VolumeTable) (id : ℕ) (change : Node → Node) (i block : ℕ) → Keeps change → ((n : Node) → (change n).map ≡ n.map)
    → place_in (record v { nodes = with_node id change v.nodes }) i block ≡ place_in v i block
place_in-kept v id change i block ids maps =
    place_in-with_node v id change i block ids
    ∙ elim (eqb i id) as (λ b. cond b (place_by (option_map change (node_with v i)) block) (place_in v i block) ≡ place_in v i block) [ true ↦ same (node_with v i) | false ↦ refl ]
  where
    same : (o : Option Node) → place_by (option_map change o) block ≡ place_by o block
    same None = refl
    same (Some n) = ap (λ m. get m block) (maps n)

pub place_in-make : (v : VolumeTable) (id : ℕ) (kind : NodeKind) (name : List ℕ) (i block : ℕ) → place_in (edited v (edit.Make id kind name)) i block ≡ place_in v i block
place_in-make v id kind name i block = ap (λ (o : Option Node). place_by o block) (find-push (has_id i) v.nodes (made id kind name)) ∙ by (node_with v i) (eqb id i)
  where
    by : (o : Option Node) (b : Bool) → place_by (option_or o (cond b (Some (made id kind name)) None)) block ≡ place_by o block
    by None true = get-empty nat_cmp block
    by None false = refl
    by (Some n) b = refl

-- the file with an id, where one is taken out
pub node_with-drop : (v : VolumeTable) (id i : ℕ) → IsTable v → node_with (edited v (edit.Drop id)) i ≡ cond (eqb i id) None (node_with v i)
node_with-drop v id i h =
    file_without id v.nodes (rising_nodes v.layout v.next_id [] v.nodes h.nodes) i
    ∙ (let e : eq_by_cmp nat_cmp id i ≡ eqb i id = grind (arith, nat_tests) in ap (λ (b : Bool). cond b None (node_with v i)) e)

pub place_in-drop : (v : VolumeTable) (id i block : ℕ) → IsTable v → place_in (edited v (edit.Drop id)) i block ≡ cond (eqb i id) None (place_in v i block)
place_in-drop v id i block h =
    ap (λ (o : Option Node). place_by o block) (node_with-drop v id i h)
    ∙ elim (eqb i id) as (λ b. place_by (cond b None (node_with v i)) block ≡ cond b None (place_in v i block)) [ true ↦ refl | false ↦ refl ]

pub place_in-rename : (v : VolumeTable) (id : ℕ) (name : List ℕ) (i block : ℕ) → place_in (edited v (edit.Rename id name)) i block ≡ place_in v i block
place_in-rename v id name i block = place_in-kept v id (with_name name) i block (λ n. refl) (λ n. refl)

pub place_in-size : (v : VolumeTable) (id size i block : ℕ) → place_in (edited v (edit.Size id size)) i block ≡ place_in v i block
place_in-size v id size i block = place_in-kept v id (with_size size) i block (λ n. refl) (λ n. refl)

pub place_in-version : (v : VolumeTable) (id version i block : ℕ) → place_in (edited v (edit.Version id version)) i block ≡ place_in v i block
place_in-version v id version i block = place_in-kept v id (with_version version) i block (λ n. refl) (λ n. refl)

abbrev pub put_block : Run → ℕ → Option ℕ → Option ℕ
put_block r block before = cond (has_block block r) (Some (r.place + (block - r.first))) before

pub place_in-map : (v : VolumeTable) (id first count place i block : ℕ) → MayEdit v (edit.Map id first count place)
    → place_in (edited v (edit.Map id first count place)) i block ≡ cond (eqb i id) (put_block (stretch first count place) block (place_in v i block)) (place_in v i block)
place_in-map v id first count place i block may = place_in-with_node v id (with_map r) i block (λ n. refl) ∙ by (eqb i id) refl (node_with v i) refl
  where
    r : Run
    r = stretch first count place

    there : eqb i id ≡ true → node_with v i ≡ None → ⊥
    there same none =
        let here : node_with v id ≡ None = ap (λ (k : ℕ). node_with v k) (grind (arith, nat_tests, same)) ∙ none in
        subst (λ (o : Option Node). IfThere o (λ n. MayMap v.layout n r)) here may

    by : (b : Bool) → eqb i id ≡ b → (o : Option Node) → node_with v i ≡ o
        → cond b (place_by (option_map (with_map r) o) block) (place_by o block) ≡ cond b (put_block r block (place_by o block)) (place_by o block)
    by false other o is = refl
    by true same None is = absurd (there same is)
    by true same (Some n) is = get-with_blocks n.map r block

pub place_in-unmap : (v : VolumeTable) (id first count i block : ℕ)
    → place_in (edited v (edit.Unmap id first count)) i block ≡ cond (eqb i id) (cond (in_stretch first count block) None (place_in v i block)) (place_in v i block)
place_in-unmap v id first count i block = place_in-with_node v id (without_map first count) i block (λ n. refl) ∙ by (eqb i id) (node_with v i)
  where
    none : (b : Bool) → ◌≡◌ {A = Option ℕ} None (cond b None None)
    none true = refl
    none false = refl

    by : (b : Bool) (o : Option Node) → cond b (place_by (option_map (without_map first count) o) block) (place_by o block) ≡ cond b (cond (in_stretch first count block) None (place_by o block)) (place_by o block)
    by false o = refl
    by true None = none (in_stretch first count block)
    by true (Some n) = get-without_stretch n.map first count block

-- ---- a place is used where a block lies there

pub maps-from : (nodes : List Node) (id block place : ℕ) → place_by (find (has_id id) nodes) block ≡ Some place → list_any (maps_place place) nodes ≡ true
maps-from [] id block place e = absurd cc
maps-from (n ∷ ns) id block place e =
    elim (eqb n.id id) as (λ b. place_by (cond b (Some n) (find (has_id id) ns)) block ≡ Some place → (maps_place place n || list_any (maps_place place) ns) ≡ true) [
      | true ↦ λ here. or_left (maps_place place n) _ (value-found n.map block place here)
      | false ↦ λ there. or_right (maps_place place n) _ (maps-from ns id block place there)
    ] e

pub used-from : (v : VolumeTable) (id block place : ℕ) → place_in v id block ≡ Some place → is_used v place ≡ true
used-from v id block place is = maps-from v.nodes id block place is

-- a block of a file that lies at the place
pub record LiesAt (v : VolumeTable) (place : ℕ) : Type 0 where
  pub id : ℕ
  pub block : ℕ
  pub lies : place_in v id block ≡ Some place

-- a file of these that maps the place
pub record MapsIt (nodes : List Node) (low place : ℕ) : Type 0 where
  pub node : Node
  pub found : find (has_id node.id) nodes ≡ Some node
  pub later : low < node.id
  pub maps : maps_place place node ≡ true

pub its_id : (n : Node) → eqb n.id n.id ≡ true
its_id n = grind (arith, nat_tests)

pub not_id : (n : Node) (i : ℕ) → n.id < i → eqb n.id i ≡ false
not_id n i lt = grind (arith, nat_tests, lt)

pub used_by_one : (l : Layout) (next place : ℕ) (front nodes : List Node) → AreNodes l next front nodes → list_any (maps_place place) nodes ≡ true → MapsIt nodes (last_id front) place
used_by_one l next place front [] h is = absurd cc
used_by_one l next place front (n ∷ ns) h is = by (maps_place place n) refl (λ there. used_by_one l next place (front ++ n ∷ []) ns h.4 there) is
  where
    by : (b : Bool) → maps_place place n ≡ b → (list_any (maps_place place) ns ≡ true → MapsIt ns (last_id (front ++ n ∷ [])) place)
        → (b || list_any (maps_place place) ns) ≡ true → MapsIt (n ∷ ns) (last_id front) place
    by true here others e = record {
      node = n;
      found = ap (λ (b : Bool). cond b (Some n) (find (has_id n.id) ns)) (its_id n);
      later = h.0;
      maps = here;
    }
    by false here others e =
        let one = others e in
        let later : n.id < one.node.id = omega (arith, one.later, last_id-push front n) in
        record {
          node = one.node;
          found = ap (λ (b : Bool). cond b (Some n) (find (has_id one.node.id) ns)) (not_id n one.node.id later) ∙ one.found;
          later = omega (arith, later, h.0);
          maps = one.maps;
        }

pub used-at : (v : VolumeTable) (place : ℕ) → IsTable v → is_used v place ≡ true → LiesAt v place
used-at v place h is =
    let one = used_by_one v.layout v.next_id place [] v.nodes h.nodes is in
    let there = found-at one.node.map place one.maps in
    record { id = one.node.id; block = there.0; lies = ap (λ (o : Option Node). place_by o there.0) one.found ∙ there.1 }
