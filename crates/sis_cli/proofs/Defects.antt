-- A table that is read of an image has no defect, where its files go together.
use Rattle.std.proofs.Common.{◌≡◌, ◌⊎◌, inl, inr, ℕ, zero, suc, ◌<◌, true, false, ◌||◌, List, []}
use Rattle.std.proofs.Common.{◌∷◌, ◌++◌, None, Some, Ok, refl, sym, arith}
use Rattle.std.specs.Prelude.{◌==◌, find, nat_le}
use Rattle.std.specs.List.{list_any}
use Rattle.std.specs.FinMap.{get}
use Rattle.std.proofs.lemmas.Bool.{or_cases}
use Rattle.std.proofs.lemmas.Bool.Decides.{nat_tests}
use Rattle.std.proofs.lemmas.List.Folds.{list_any-append}
use Rattle.sis_disk.specs.Areas.{read_by}
use Rattle.sis_disk.specs.declared.layout.Layout.{Layout}
use Rattle.sis_ranges.proofs.PlaceLemmas.{AreDistinct, found-at, once-distinct}
use Rattle.sis_reading.proofs.StepLemmas.{bind_ok, ok_is}
use Rattle.sis_table.specs.Good.{IsGood, defect_after, first_defect, is_among, repeats}
use Rattle.sis_table.specs.Image.{image_at}
use Rattle.sis_table.specs.Reading.{here, node_at, nodes_at, table_at}
use Rattle.sis_table.specs.Volume.{VolumeTable, last_id, maps_place, place_by, places_of}
use Rattle.sis_table.specs.declared.node.Node.{Node}
use Rattle.sis_table.proofs.EditLemmas.{last_id-push}
use Rattle.sis_table.proofs.PlaceLemmas.{its_id, not_id}

-- ---- the ids of files that are read rise

-- each id is greater than the one before it, the first than this number
abbrev AreAbove : ℕ → List Node → Type 0
AreAbove last [] = Unit {0}
AreAbove last (n ∷ ns) = (last < n.id) × AreAbove n.id ns

above : (last next id : ℕ) → (nat_le id last || nat_le next id) ≡ false → last < id
above last next id h = grind (arith, nat_tests)

node_above : (total : ℕ) (l : Layout) (next : ℕ) (front : List Node) (bytes : List ℕ)
    (y : Node × List ℕ) → node_at total l next front bytes ≡ Ok y → last_id front < y.0.id
unfolding node_at
node_above total l next front bytes y e = grind (arith, nat_tests, above)

nodes_above : (total : ℕ) (l : Layout) (next n : ℕ) (front : List Node) (bytes : List ℕ)
    (y : List Node × List ℕ) → nodes_at total l next front n bytes ≡ Ok y
    → AreAbove (last_id front) y.0
unfolding nodes_at
nodes_above total l next zero front bytes y e = rw (sym (ok_is ([], bytes) y e)) tt
nodes_above total l next (suc n) front bytes y e =
    let first = bind_ok (node_at total l next front bytes) _ y e in
    let others =
    bind_ok (nodes_at total l next (front ++ first.0.0 ∷ []) n first.0.1) _ y first.2 in
    rw (sym (ok_is (first.0.0 ∷ others.0.0, others.0.1) y others.2)) (
      node_above total l next front bytes first.0 first.1,
      rw (sym (last_id-push front first.0.0))
          (nodes_above total l next n (front ++ first.0.0 ∷ []) first.0.1 others.0 others.1),
    )

image_above : (m : List ℕ) (v : VolumeTable) → image_at m ≡ Ok v → AreAbove 0 v.nodes
unfolding read_by table_at
image_above m v e = grind (arith, nodes_above)

-- ---- files that go together

-- this block of the file with this id lies there
abbrev LiesAt : List Node → ℕ → ℕ → ℕ → Type 0
LiesAt nodes id block place = place_by (find (λ n. n.id == id) nodes) block ≡ Some place

abbrev AreGood : List Node → Type 0
AreGood nodes =
    (i j a b place : ℕ) → LiesAt nodes i a place → LiesAt nodes j b place → (i ≡ j) × (a ≡ b)

-- a block of one of the files has an id above
block_above : (last : ℕ) (nodes : List Node) (id block place : ℕ) → AreAbove last nodes
    → LiesAt nodes id block place → last < id
block_above last [] id block place h is = absurd cc
block_above last (n ∷ ns) id block place h is =
    grind (arith, nat_tests, block_above n.id ns id block place h.1, h.0)

block_first : (n : Node) (ns : List Node) (block place : ℕ) → get n.map block ≡ Some place
    → LiesAt (n ∷ ns) n.id block place
block_first n ns block place is = rw (its_id n) is

block_later : (n : Node) (ns : List Node) (id block place : ℕ) → AreAbove n.id ns
    → LiesAt ns id block place → LiesAt (n ∷ ns) id block place
block_later n ns id block place h is =
    rw (not_id n id (block_above n.id ns id block place h is)) is

-- a place that is mapped is that of a block
mapped_lies : (last : ℕ) (nodes : List Node) (place : ℕ) → AreAbove last nodes
    → list_any (maps_place place) nodes ≡ true
    → (id : ℕ) × (block : ℕ) × LiesAt nodes id block place
mapped_lies last [] place h is = absurd cc
mapped_lies last (n ∷ ns) place h is =
    by (or_cases (maps_place place n) (list_any (maps_place place) ns) is)
    (λ later. mapped_lies n.id ns place h.1 later)
  where
    by : (maps_place place n ≡ true) ⊎ (list_any (maps_place place) ns ≡ true)
        → (list_any (maps_place place) ns ≡ true
        → (id : ℕ) × (block : ℕ) × LiesAt ns id block place)
        → (id : ℕ) × (block : ℕ) × LiesAt (n ∷ ns) id block place
    by (inl here) others =
        let at = found-at n.map place here in (n.id, at.0, block_first n ns at.0 place at.1)
    by (inr later) others =
        let at = others later in (at.0, at.1, block_later n ns at.0 at.1 place h.1 at.2)

-- places that are distinct, and none of which is an earlier one
none_again : (before places : List ℕ) → AreDistinct places
    → ((p : ℕ) → is_among places p ≡ true → is_among before p ≡ false)
    → repeats before places ≡ false
none_again before [] distinct none = refl
none_again before (p ∷ ps) distinct none =
    let here : is_among before p ≡ false = none p (grind (arith, nat_tests)) in
    let rest =
    none_again (before ++ p ∷ []) ps distinct.1 (λ q is.
    let both = list_any-append (λ (r : ℕ). r == q) before (p ∷ []) in
    grind (arith, nat_tests, both, none q, distinct.0)) in
    grind (arith, here, rest)

no_defect : (before : List ℕ) (last : ℕ) (nodes : List Node) → AreAbove last nodes → AreGood nodes
    → ((p : ℕ) → list_any (maps_place p) nodes ≡ true → is_among before p ≡ false)
    → defect_after before nodes ≡ None
no_defect before last [] h good none = refl
no_defect before last (n ∷ ns) h good none =
    rw (none_again before (places_of n) distinct (λ p is. grind (arith, none p)))
    (no_defect (before ++ places_of n) n.id ns h.1
    (λ i j a b place at_a at_b.
    good i j a b place (block_later n ns i a place h.1 at_a) (block_later n ns j b place h.1 at_b))
    (λ p later.
    let both = list_any-append (λ (q : ℕ). q == p) before (places_of n) in
    grind (arith, both, none p, apart p later)))
  where
    distinct : AreDistinct (places_of n)
    distinct =
        once-distinct n.map (λ a b place at_a at_b.
        (good n.id n.id a b place (block_first n ns a place at_a)
        (block_first n ns b place at_b)).1)

    apart : (p : ℕ) → list_any (maps_place p) ns ≡ true → maps_place p n ≡ true → ⊥
    apart p later here =
        let at = found-at n.map p here in
        let other = mapped_lies n.id ns p h.1 later in
        let same =
        (good n.id other.0 at.0 other.1 p (block_first n ns at.0 p at.1)
        (block_later n ns other.0 other.1 p h.1 other.2)).0 in
        omega (arith, same, block_above n.id ns other.0 other.1 p h.1 other.2)

-- a table that is read so has no defect
pub read_sound : (m : List ℕ) (v : VolumeTable) → image_at m ≡ Ok v → IsGood v
    → first_defect v ≡ None
read_sound m v read good = no_defect [] 0 v.nodes (image_above m v read) good (λ p is. refl)
