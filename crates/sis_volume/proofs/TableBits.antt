-- The bits of the current table: as it is read, and after edits.
use Rattle.std.proofs.Common.{◌≡◌, ℕ, ◌+◌, ◌-◌, ◌<◌, ◌≤◌, Bool, true, false, cond, ◌||◌, List, [], ◌∷◌, ◌++◌, length, take, get_or, replicate, refl, sym, ap, ◌∙◌, subst, arith, append-nil, append_assoc}
use Rattle.std.specs.Prelude.{All}
use Rattle.std.specs.List.{list_any, AllByRecursion}
use Rattle.std.proofs.Math.Bool.{or-false}
use Rattle.std.proofs.lemmas.Bool.Decides.{nat_tests}
use Rattle.std.proofs.lemmas.List.{ext_get_or, take_more, take_all, get_or-replicate, length-replicate}
use Rattle.std.proofs.lemmas.List.Elements.{All-from_recursion}
use Rattle.std.proofs.lemmas.List.Folds.{list_any-append}
use Rattle.std.proofs.lemmas.List.FromFn.{get_or-map-range_with_len, length-map-range_with_len}
use Rattle.sis_disk.specs.declared.layout.Layout.{Layout}
use Rattle.sis_disk.specs.Layout.{IsLayout, first_place, data_blocks}
use Rattle.sis_places.specs.Inside.{is_among}
use Rattle.sis_places.specs.Places.{PlacesView, with_bits}
use Rattle.sis_places.proofs.BitLemmas.{get_or-set_bits}
use Rattle.sis_places.proofs.CallerLemmas.{length-with_bits}
use Rattle.sis_ranges.specs.declared.run.Run.{Run}
use Rattle.sis_ranges.specs.Extents.{has_place, in_stretch, runs_of}
use Rattle.sis_ranges.proofs.PlaceLemmas.{has_place-values}
use Rattle.sis_table.specs.declared.node.Node.{Node}
use Rattle.sis_table.specs.declared.place_use.PlaceUse.{PlaceUse}
use Rattle.sis_table.specs.Uses.{ChangesUse, has_use, used_after}
use Rattle.sis_table.specs.Volume.{VolumeTable, IsTable, IsNode, blocks_of, is_used, maps_place, used_places}
use Rattle.sis_table.proofs.EditLemmas.{all_nodes}
use Rattle.sis_table.proofs.MapLemmas.{AreRunsPlaced, placed_parts}
use Rattle.sis_table.proofs.UseLemmas.{used_after-append}
use Rattle.sis_volume.specs.Keeping.{ChangesBits, IsAmong, TakesRuns}

-- a bit of a range, counted from the place `low`
shifted : (low place count i : ℕ) → low ≤ place
    → is_among (place - low) count i ≡ in_stretch place count (low + i)
shifted low place count i le = grind (arith, nat_tests)

-- ---- runs

join : (h o a : Bool) → cond h true (o || a) ≡ (o || (a || (h || false)))
join true true a = refl
join true false true = refl
join true false false = refl
join false true a = refl
join false false true = refl
join false false false = refl

pub taken_none : (low : ℕ) (p : PlacesView) → TakesRuns low [] p p
taken_none low p = record {
  size = refl;
  current = λ i lt. sym (or-false (get_or p.current i false));
  committed = refl;
}

module _ (low : ℕ) (runs : List Run) (i : ℕ) (r : Run) (first now : PlacesView) where
  fits_run : IsAmong low (length first.current) r → TakesRuns low (take i runs) first now
      → r.place - low + r.count ≤ length now.current
  fits_run among so_far =
      let begins = among.begins in
      let ends = among.ends in
      let size = so_far.size in
      omega arith

  -- one run more
  pub taken_more : i < length runs → r ≡ get_or runs i r → IsAmong low (length first.current) r
      → TakesRuns low (take i runs) first now
      → TakesRuns low (take (i + 1) runs) first (with_bits (r.place - low) r.count true now)
  taken_more lt is among so_far =
      let fits = fits_run among so_far in
      record {
        size = length-with_bits now (r.place - low) r.count true fits ∙ so_far.size;
        current = λ k short.
            get_or-set_bits (r.place - low) r.count true now.current k fits
            ∙ ap (λ (b : Bool). cond b true (get_or now.current k false)) (shifted low r.place r.count k among.begins)
            ∙ ap (cond (has_place (low + k) r) true) (so_far.current k short)
            ∙ join (has_place (low + k) r) (get_or first.current k false) (list_any (has_place (low + k)) (take i runs))
            ∙ ap (λ (b : Bool). get_or first.current k false || b)
            (sym (ap (list_any (has_place (low + k)))
            (take_more runs i r lt ∙ ap (λ (x : Run). take i runs ++ x ∷ []) (sym is))
            ∙ list_any-append (has_place (low + k)) (take i runs) (r ∷ [])));
        committed = so_far.committed;
      }

pub taken_all : (low : ℕ) (runs : List Run) (i : ℕ) (first now : PlacesView) → length runs ≤ i
    → TakesRuns low (take i runs) first now → TakesRuns low runs first now
taken_all low runs i first now le so_far =
    subst (λ (rs : List Run). TakesRuns low rs first now) (take_all i runs le) so_far

-- ---- the files of a table

-- the bits are those of the places of the first files
pub record HasFiles (low n : ℕ) (nodes : List Node) (p : PlacesView) : Type 0 where
  pub size : length p.current ≡ n
  pub current : (i : ℕ) → i < n
      → get_or p.current i false ≡ list_any (maps_place (low + i)) nodes

pub files_none : (low n : ℕ) (p : PlacesView) → p.current ≡ replicate n false
    → HasFiles low n [] p
files_none low n p is = record {
  size = ap (λ (bs : List Bool). length bs) is ∙ length-replicate n false;
  current = λ i lt. ap (λ (bs : List Bool). get_or bs i false) is ∙ get_or-replicate n i false false lt;
}

pub files_more : (low n : ℕ) (front : List Node) (node : Node) (now new : PlacesView)
    → TakesRuns low (runs_of node.map) now new → HasFiles low n front now
    → HasFiles low n (front ++ node ∷ []) new
files_more low n front node now new takes so_far =
    let size = so_far.size in
    record {
      size = takes.size ∙ so_far.size;
      current = λ k short.
          takes.current k (omega arith)
          ∙ ap (λ (b : Bool). b || list_any (has_place (low + k)) (runs_of node.map)) (so_far.current k short)
          ∙ ap (λ (b : Bool). list_any (maps_place (low + k)) front || b)
          (sym (has_place-values node.map (low + k)) ∙ sym (or-false (maps_place (low + k) node)))
          ∙ sym (list_any-append (maps_place (low + k)) front (node ∷ []));
    }

-- the bits are those of the first files, and these go on
pub record HasFirst (low n : ℕ) (nodes rest : List Node) (p : PlacesView) : Type 0 where
  pub front : List Node
  pub parts : front ++ rest ≡ nodes
  pub has : HasFiles low n front p

-- no file yet
pub first_none : (low n : ℕ) (nodes rest : List Node) (p : PlacesView) → rest ≡ nodes
    → p.current ≡ replicate n false → HasFirst low n nodes rest p
first_none low n nodes rest p all none =
    record { front = []; parts = all; has = files_none low n p none }

-- one file more
pub first_more : (low n : ℕ) (nodes rest more : List Node) (node : Node) (now new : PlacesView)
    → rest ≡ node ∷ more → TakesRuns low (runs_of node.map) now new
    → HasFirst low n nodes rest now → HasFirst low n nodes more new
first_more low n nodes rest more node now new is takes h = record {
  front = h.front ++ node ∷ [];
  parts =
      append_assoc h.front (node ∷ []) more
      ∙ ap (λ (ns : List Node). h.front ++ ns) (sym is)
      ∙ h.parts;
  has = files_more low n h.front node now new takes h.has;
}

-- bits that are those of the places that a table maps
same_bits : (v : VolumeTable) (bits : List Bool) → length bits ≡ data_blocks v.layout
    → ((i : ℕ) → i < data_blocks v.layout
    → get_or bits i false ≡ is_used v (first_place v.layout + i))
    → bits ≡ used_places v
same_bits v bits size each =
    let len = length-map-range_with_len (is_used v) (first_place v.layout) (data_blocks v.layout) in
    ext_get_or false bits (used_places v) (size ∙ sym len) (λ i lt.
    (let short : i < data_blocks v.layout = omega arith in
    each i short ∙ sym (get_or-map-range_with_len (is_used v) (first_place v.layout) (data_blocks v.layout) i (first_place v.layout + i) false short refl)))

pub files_all : (v : VolumeTable) (low n : ℕ) (rest : List Node) (p : PlacesView)
    → low ≡ first_place v.layout → n ≡ data_blocks v.layout → rest ≡ []
    → HasFirst low n v.nodes rest p → p.current ≡ used_places v
files_all v low n rest p is_low is_n none h =
    let all : h.front ≡ v.nodes = sym (append-nil h.front)
    ∙ ap (λ (ns : List Node). h.front ++ ns) (sym none)
    ∙ h.parts in
    same_bits v p.current (h.has.size ∙ is_n) (λ k lt.
    (let short : k < n = omega arith in
    h.has.current k short
    ∙ ap (list_any (maps_place (low + k))) all
    ∙ ap (λ (x : ℕ). list_any (maps_place (x + k)) v.nodes) is_low))

among_all : (l : Layout) (blocks : ℕ) (runs : List Run) → IsLayout l → AreRunsPlaced l blocks runs
    → AllByRecursion (IsAmong (first_place l) (data_blocks l)) runs
among_all l blocks [] layout h = tt
among_all l blocks (r ∷ rs) layout h =
    let has = layout.has_data in
    let high = h.0.high in
    (record { begins = h.0.low; ends = omega arith }, among_all l blocks rs layout h.1)

node_is : (l : Layout) (front more : List Node) (node : Node)
    → AllByRecursion (IsNode l) (front ++ node ∷ more) → IsNode l node
node_is l [] more node h = h.0
node_is l (n ∷ ns) more node h = node_is l ns more node h.1

-- the places of a file are those of data blocks
pub files_among : (v : VolumeTable) (rest more : List Node) (n : Node) (low total len : ℕ)
    (p : PlacesView) → IsTable v → rest ≡ n ∷ more → HasFirst low total v.nodes rest p
    → low ≡ first_place v.layout → len ≡ data_blocks v.layout
    → All (IsAmong low len) (runs_of n.map)
files_among v rest more n low total len p table is h is_low is_len =
    let node : IsNode v.layout n = node_is v.layout h.front more n
    (subst (AllByRecursion (IsNode v.layout))
    (sym (ap (λ (ns : List Node). h.front ++ ns) (sym is) ∙ h.parts))
    (all_nodes v.layout v.next_id [] v.nodes table.nodes)) in
    All-from_recursion (IsAmong low len) (runs_of n.map)
    (rw (is_low, is_len) (among_all v.layout (blocks_of n.size) (runs_of n.map) table.layout
    (placed_parts v.layout (blocks_of n.size) n.map node.placed)))

-- ---- places that become used and free

pub changed_none : (low : ℕ) (p : PlacesView) → ChangesBits low [] p p
changed_none low p = record { size = refl; current = λ i lt. refl; committed = refl }

-- one change more
pub changed_more : (low : ℕ) (uses : List PlaceUse) (i : ℕ) (u : PlaceUse) (first now : PlacesView)
    → i < length uses → u ≡ get_or uses i u → low ≤ u.place
    → u.place + u.count ≤ low + length now.current
    → ChangesBits low (take i uses) first now
    → ChangesBits low (take (i + 1) uses) first (with_bits (u.place - low) u.count u.is_taken now)
changed_more low uses i u first now lt is begins ends so_far =
    let fits : u.place - low + u.count ≤ length now.current = omega arith in
    record {
      size = length-with_bits now (u.place - low) u.count u.is_taken fits ∙ so_far.size;
      current = λ k short.
          get_or-set_bits (u.place - low) u.count u.is_taken now.current k fits
          ∙ ap (λ (b : Bool). cond b u.is_taken (get_or now.current k false)) (shifted low u.place u.count k begins)
          ∙ ap (cond (has_use (low + k) u) u.is_taken) (so_far.current k short)
          ∙ sym (ap (λ (us : List PlaceUse). used_after us (low + k) (get_or first.current k false))
          (take_more uses i u lt ∙ ap (λ (x : PlaceUse). take i uses ++ x ∷ []) (sym is))
          ∙ used_after-append (take i uses) (u ∷ []) (low + k) (get_or first.current k false));
      committed = so_far.committed;
    }

pub changed_all : (low : ℕ) (uses : List PlaceUse) (i : ℕ) (first now : PlacesView)
    → length uses ≤ i → ChangesBits low (take i uses) first now → ChangesBits low uses first now
changed_all low uses i first now le so_far =
    subst (λ (us : List PlaceUse). ChangesBits low us first now) (take_all i uses le) so_far

-- so the bits stay those of the table
pub bits-changed : (v w : VolumeTable) (uses : List PlaceUse) (old new : PlacesView)
    → w.layout ≡ v.layout → old.current ≡ used_places v → ChangesUse v w uses
    → ChangesBits (first_place v.layout) uses old new → new.current ≡ used_places w
bits-changed v w uses old new same is changes bits =
    let len = length-map-range_with_len (is_used v) (first_place v.layout) (data_blocks v.layout) in
    let old_len = ap (λ (bs : List Bool). length bs) is in
    let blocks = ap data_blocks same in
    let low = ap first_place same in
    same_bits w new.current (bits.size ∙ old_len ∙ len ∙ sym blocks) (λ i lt.
    (let short : i < data_blocks v.layout = omega arith in
    bits.current i (omega arith)
    ∙ ap (used_after uses (first_place v.layout + i))
    (ap (λ (bs : List Bool). get_or bs i false) is
    ∙ get_or-map-range_with_len (is_used v) (first_place v.layout) (data_blocks v.layout) i (first_place v.layout + i) false short refl)
    ∙ sym (changes (first_place v.layout + i))
    ∙ ap (λ (x : ℕ). is_used w (x + i)) (sym low)))
