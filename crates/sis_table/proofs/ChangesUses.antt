-- Free places, and places that are used after a change of a file.
use Rattle.std.proofs.Common.{◌≡◌, ℕ, ◌<◌, ◌≤◌, true, false, cond, not, ◌||◌, ◌&&◌, List, [], ◌∷◌, Some, refl, ap, ◌∙◌, subst, inl, inr}
use Rattle.std.specs.Prelude.{◌==◌, ◌⊎◌, nat_lt, nat_le}
use Rattle.std.specs.List.{list_any}
use Rattle.std.specs.FinMap.{get}
use Rattle.std.proofs.lemmas.Bool.{and_parts, or_cases, or_left, or_right, eqb-true, not-true, ltb-true, leb-true}
use Rattle.sis_disk.specs.Layout.{first_place}
use Rattle.sis_ranges.proofs.PlaceLemmas.{AreDistinct, found-at, value-found}
use Rattle.sis_table.specs.declared.node.Node.{Node}
use Rattle.sis_table.specs.Edits.{with_node}
use Rattle.sis_table.specs.Good.{is_among}
use Rattle.sis_table.specs.Volume.{VolumeTable, is_used, maps_place, node_with, place_by}
use Rattle.sis_table.specs.Changes.{are_free, is_free}
use Rattle.sis_table.proofs.PlaceLemmas.{used-from}
use Rattle.sis_table.proofs.ChangesNodes.{changed}

-- ---- free places

-- a place of a data block that no file maps
pub record IsFreePlace (v : VolumeTable) (p : ℕ) : Type 0 where
  pub low : first_place v.layout ≤ p
  pub high : p < v.layout.total
  pub unused : is_used v p ≡ false

free_place : (v : VolumeTable) (p : ℕ) → is_free v p ≡ true → IsFreePlace v p
free_place v p h =
    let parts = and_parts (nat_le (first_place v.layout) p && nat_lt p v.layout.total) (not (is_used v p)) h in
    let ends = and_parts (nat_le (first_place v.layout) p) (nat_lt p v.layout.total) parts.0 in
    record { low = leb-true _ _ ends.0; high = ltb-true _ _ ends.1; unused = not-true _ parts.1 }

pub free_among : (v : VolumeTable) (places : List ℕ) (p : ℕ) → are_free v places ≡ true → is_among places p ≡ true → IsFreePlace v p
free_among v [] p free among = absurd cc
free_among v (x ∷ xs) p free among =
    let parts = and_parts (is_free v x && not (is_among xs x)) (are_free v xs) free in
    let here = and_parts (is_free v x) (not (is_among xs x)) parts.0 in
    elim (or_cases (x == p) (is_among xs p) among) [
      | inl same ↦ subst (λ k. IsFreePlace v k) (eqb-true x p same) (free_place v x here.0)
      | inr later ↦ free_among v xs p parts.1 later
    ]

pub free_once : (v : VolumeTable) (places : List ℕ) → are_free v places ≡ true → AreDistinct places
free_once v [] free = tt
free_once v (x ∷ xs) free =
    let parts = and_parts (is_free v x && not (is_among xs x)) (are_free v xs) free in
    let here = and_parts (is_free v x) (not (is_among xs x)) parts.0 in
    (not-true _ here.1, free_once v xs parts.1)

-- ---- used places

-- where a block of a file lies, the place is used
pub there_used : (v : VolumeTable) (id : ℕ) (n : Node) (block p : ℕ) → node_with v id ≡ Some n → get n.map block ≡ Some p → is_used v p ≡ true
there_used v id n block p is lies = used-from v id block p (ap (λ o. place_by o block) is ∙ lies)

used_changed : (id : ℕ) (change : Node → Node) (p : ℕ) (New : Type 0) (nodes : List Node) → ((n : Node) → maps_place p (change n) ≡ true → (maps_place p n ≡ true) ⊎ New)
    → list_any (maps_place p) (with_node id change nodes) ≡ true → (list_any (maps_place p) nodes ≡ true) ⊎ New
used_changed id change p New [] each h = inl h
used_changed id change p New (n ∷ ns) each h =
    elim (n.id == id) as (λ t. list_any (maps_place p) (cond t (change n ∷ ns) (n ∷ with_node id change ns)) ≡ true → ((maps_place p n || list_any (maps_place p) ns) ≡ true) ⊎ New) [
      | true ↦ λ g. elim (or_cases (maps_place p (change n)) (list_any (maps_place p) ns) g) [
        | inl here ↦ elim (each n here) [
          | inl old ↦ inl (or_left (maps_place p n) (list_any (maps_place p) ns) old)
          | inr new ↦ inr new
        ]
        | inr later ↦ inl (or_right (maps_place p n) (list_any (maps_place p) ns) later)
      ]
      | false ↦ λ g. elim (or_cases (maps_place p n) (list_any (maps_place p) (with_node id change ns)) g) [
        | inl here ↦ inl (or_left (maps_place p n) (list_any (maps_place p) ns) here)
        | inr later ↦ elim (used_changed id change p New ns each later) [
          | inl old ↦ inl (or_right (maps_place p n) (list_any (maps_place p) ns) old)
          | inr new ↦ inr new
        ]
      ]
    ] h

-- A place that is used after a change of a file was used before, or the change put a block there.
pub used_after_change : (v : VolumeTable) (id : ℕ) (change : Node → Node) (p : ℕ) (New : Type 0)
    → ((n : Node) (block : ℕ) → get (change n).map block ≡ Some p → (get n.map block ≡ Some p) ⊎ New)
    → is_used (changed id change v) p ≡ true → (is_used v p ≡ true) ⊎ New
used_after_change v id change p New each h = used_changed id change p New v.nodes (λ n maps. from n (found-at (change n).map p maps)) h
  where
    from : (n : Node) → (block : ℕ) × (get (change n).map block ≡ Some p) → (maps_place p n ≡ true) ⊎ New
    from n there = elim (each n there.0 there.1) [
      | inl old ↦ inl (value-found n.map there.0 p old)
      | inr new ↦ inr new
    ]

-- so none is that was unused, where the change puts nothing at new places
pub unused_after_change : (v : VolumeTable) (id : ℕ) (change : Node → Node) (p : ℕ) → ((n : Node) (block : ℕ) → get (change n).map block ≡ Some p → get n.map block ≡ Some p)
    → is_used v p ≡ false → is_used (changed id change v) p ≡ false
unused_after_change v id change p each free =
    elim (is_used (changed id change v) p) as (λ t. is_used (changed id change v) p ≡ t → t ≡ false) [
      | true ↦ λ e. elim (used_after_change v id change p ⊥ (λ n block lies. inl (each n block lies)) e) [
        | inl old ↦ absurd (cc)
        | inr none ↦ absurd none
      ]
      | false ↦ λ e. refl
    ] refl
