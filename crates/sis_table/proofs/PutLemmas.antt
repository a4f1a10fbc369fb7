-- What the edits that make a file and map its blocks leave of a table.
use Rattle.std.proofs.Common.{take, flat_map, ◌≡◌, ℕ, ◌+◌, ◌-◌, ◌<◌, ◌≤◌, Bool, true, false, cond, List, [], ◌∷◌, ◌++◌, length, map, get_or, Option, None, Some, refl, sym, ap, ap₂, ◌∙◌, subst, arith}
use Rattle.std.specs.Prelude.{◌==◌, ◌||◌, find}
use Rattle.std.specs.List.{AllByRecursion, list_any, range_with_len}
use Rattle.std.specs.Option.{option_or}
use Rattle.std.specs.FinMap.{FinMap, empty, get, get-empty, insert}
use Rattle.std.specs.Ordering.{nat_cmp}
use Rattle.std.proofs.Math.Bool.{or-false}
use Rattle.std.proofs.lemmas.Bool.{or_left, or_right}
use Rattle.std.proofs.lemmas.Bool.Decides.{nat_tests}
use Rattle.std.proofs.lemmas.List.Concat.{flat_map-append}
use Rattle.std.proofs.lemmas.List.Folds.{list_any-append}
use Rattle.std.proofs.lemmas.List.FromFn.{length-map-range_with_len, get_or-map-range_with_len}
use Rattle.sis_disk.specs.declared.layout.Layout.{Layout}
use Rattle.sis_disk.specs.Layout.{first_place, data_blocks}
use Rattle.sis_ranges.specs.declared.run.Run.{Run}
use Rattle.sis_ranges.specs.Extents.{IsChain, block_end, has_block, has_place, place_end, place_of, with_blocks}
use Rattle.sis_ranges.proofs.CallerLemmas.{get-with_blocks}
use Rattle.sis_ranges.proofs.PlaceLemmas.{found-at, value-found}
use Rattle.sis_table.specs.declared.edit.Edit.{Edit}
use Rattle.sis_table.specs.declared.edit.Edit.TheVariants as edit
use Rattle.sis_table.specs.declared.kind.NodeKind.{NodeKind}
use Rattle.sis_table.specs.declared.node.Node.{Node}
use Rattle.sis_table.specs.Content.{files_of, mapped_block, own_content, run_bytes}
use Rattle.sis_table.specs.Edits.{IfThere, MayEditBy, MayMake, MayMap, MaySize, edited, edited_by, made, map_edit, with_map, with_node, with_size}
use Rattle.sis_table.specs.Volume.{VolumeTable, IsTable, AreNodes, blocks_of, greatest_size, is_used, maps_place, used_places}
use Rattle.sis_table.proofs.ContentEdits.{files_of-made}
use Rattle.sis_table.proofs.ContentLemmas.{blocks_joined, content_of-plain, range_join, same_over}

-- ---- layouts and places

-- an edit keeps the layout, and so do edits
pub edited-layout : (v : VolumeTable) (e : Edit) → (edited v e).layout ≡ v.layout
edited-layout v (edit.Make id kind name) = refl
edited-layout v (edit.Drop id) = refl
edited-layout v (edit.Rename id name) = refl
edited-layout v (edit.Size id size) = refl
edited-layout v (edit.Map id first count place) = refl
edited-layout v (edit.Unmap id first count) = refl
edited-layout v (edit.Version id version) = refl

pub edited_by-layout : (v : VolumeTable) (es : List Edit) → (edited_by v es).layout ≡ v.layout
edited_by-layout v [] = refl
edited_by-layout v (e ∷ es) = edited_by-layout (edited v e) es ∙ edited-layout v e

-- a data block is mapped where its place is
pub get-used_places : (v : VolumeTable) (i : ℕ) → i < data_blocks v.layout → get_or (used_places v) i false ≡ is_used v (first_place v.layout + i)
get-used_places v i lt = get_or-map-range_with_len (is_used v) (first_place v.layout) (data_blocks v.layout) i (first_place v.layout + i) false lt refl

-- there is one answer for each data block
pub length-used_places : (v : VolumeTable) → length (used_places v) ≡ data_blocks v.layout
length-used_places v = length-map-range_with_len (is_used v) (first_place v.layout) (data_blocks v.layout)

pub same_map_over : (f g : ℕ → Bool) (xs : List ℕ) → ((x : ℕ) → f x ≡ g x) → map f xs ≡ map g xs
same_map_over f g [] h = refl
same_map_over f g (x ∷ xs) h = ap₂ (λ (b : Bool) (bs : List Bool). b ∷ bs) (h x) (same_map_over f g xs h)

-- ---- edits in a row

pub edited_by-append : (v : VolumeTable) (es fs : List Edit) → edited_by v (es ++ fs) ≡ edited_by (edited_by v es) fs
edited_by-append v [] fs = refl
edited_by-append v (e ∷ es) fs = edited_by-append (edited v e) es fs

pub MayEditBy-append : (v : VolumeTable) (es fs : List Edit) → MayEditBy v es × MayEditBy (edited_by v es) fs → MayEditBy v (es ++ fs)
MayEditBy-append v [] fs h = h.1
MayEditBy-append v (e ∷ es) fs h = (h.0.0, MayEditBy-append (edited v e) es fs (h.0.1, h.1))

-- ---- a new file

abbrev AreBelow : ℕ → List Node → Type 0
AreBelow id nodes = AllByRecursion (λ n. n.id < id) nodes

nodes_below : (l : Layout) (next id : ℕ) (front nodes : List Node) → AreNodes l next front nodes → next ≤ id → AreBelow id nodes
nodes_below l next id front [] h le = tt
nodes_below l next id front (n ∷ ns) h le = let lt = h.1 in (omega arith, nodes_below l next id (front ++ n ∷ []) ns h.4 le)

-- a table's ids are below the next one
pub ids_below : (v : VolumeTable) (id : ℕ) → IsTable v → v.next_id ≤ id → AllByRecursion (λ n. n.id < id) v.nodes
ids_below v id t le = nodes_below v.layout v.next_id id [] v.nodes t.nodes le

not_id : (n : Node) (id : ℕ) → n.id < id → (n.id == id) ≡ false
not_id n id lt = grind (arith, nat_tests)

its_id : (id : ℕ) → (id == id) ≡ true
its_id id = grind (arith, nat_tests)

with_node-last : (id : ℕ) (change : Node → Node) (nodes : List Node) (n : Node) → AreBelow id nodes → n.id ≡ id → with_node id change (nodes ++ n ∷ []) ≡ nodes ++ change n ∷ []
with_node-last id change [] n below is = let e : (n.id == id) ≡ true = ap (λ (k : ℕ). k == id) is ∙ its_id id in ap (λ (b : Bool). cond b (change n ∷ []) (n ∷ [])) e
with_node-last id change (m ∷ ms) n below is =
    ap (λ (b : Bool). cond b (change m ∷ (ms ++ n ∷ [])) (m ∷ with_node id change (ms ++ n ∷ []))) (not_id m id below.0)
    ∙ ap (λ (ns : List Node). m ∷ ns) (with_node-last id change ms n below.1 is)

find-last : (id : ℕ) (nodes : List Node) (n : Node) → AreBelow id nodes → n.id ≡ id → find (λ m. m.id == id) (nodes ++ n ∷ []) ≡ Some n
find-last id [] n below is = let e : (n.id == id) ≡ true = ap (λ (k : ℕ). k == id) is ∙ its_id id in ap (λ (b : Bool). cond b (Some n) None) e
find-last id (m ∷ ms) n below is =
    ap (λ (b : Bool). cond b (Some m) (find (λ k. k.id == id) (ms ++ n ∷ []))) (not_id m id below.0)
    ∙ find-last id ms n below.1 is

-- the table with this file behind those that it has
abbrev added : VolumeTable → ℕ → Node → VolumeTable
added v next n = record v { next_id = next; nodes = v.nodes ++ n ∷ [] }

-- a map with the blocks of each of the runs, of the last one last
abbrev pub with_all : FinMap nat_cmp ℕ → List Run → FinMap nat_cmp ℕ
with_all m [] = m
with_all m (r ∷ rs) = with_all (with_blocks m r) rs

edited_by_maps : (v : VolumeTable) (next : ℕ) (n : Node) (runs : List Run) → AreBelow n.id v.nodes → edited_by (added v next n) (map (map_edit n.id) runs) ≡ added v next (record n { map = with_all n.map runs })
edited_by_maps v next n [] below = refl
edited_by_maps v next n (r ∷ rs) below =
    ap (λ (ns : List Node). edited_by (record v { next_id = next; nodes = ns }) (map (map_edit n.id) rs)) (with_node-last n.id (with_map r) v.nodes n below refl)
    ∙ edited_by_maps v next (with_map r n) rs below

made_edits : (v : VolumeTable) (id : ℕ) (kind : NodeKind) (name : List ℕ) (size : ℕ) → AreBelow id v.nodes → edited_by v (edit.Make id kind name ∷ edit.Size id size ∷ []) ≡ added v (id + 1) (with_size size (made id kind name))
made_edits v id kind name size below = ap (λ (ns : List Node). record v { next_id = id + 1; nodes = ns }) (with_node-last id (with_size size) v.nodes (made id kind name) below refl)

-- a new file of so many bytes, with its blocks at the places of runs
abbrev pub put_node : ℕ → NodeKind → List ℕ → ℕ → List Run → Node
put_node id kind name size runs = record { id = id; name = name; kind = kind; size = size; version = 1; map = with_all empty runs }

abbrev pub put_edits : ℕ → NodeKind → List ℕ → ℕ → List Run → List Edit
put_edits id kind name size runs = edit.Make id kind name ∷ edit.Size id size ∷ map (map_edit id) runs

-- what the edits of a put make
pub edited_by-put : (v : VolumeTable) (id : ℕ) (kind : NodeKind) (name : List ℕ) (size : ℕ) (runs : List Run) → IsTable v → v.next_id ≤ id
    → edited_by v (put_edits id kind name size runs) ≡ record v { next_id = id + 1; nodes = v.nodes ++ put_node id kind name size runs ∷ [] }
edited_by-put v id kind name size runs t le =
    let below = ids_below v id t le in
    ap (λ (w : VolumeTable). edited_by w (map (map_edit id) runs)) (made_edits v id kind name size below)
    ∙ edited_by_maps v (id + 1) (with_size size (made id kind name)) runs below

if_there : (P : Node → Type 0) (o : Option Node) (n : Node) → o ≡ Some n → P n → IfThere o P
if_there P o n e h = subst (λ (p : Option Node). IfThere p P) (sym e) h

-- a new file may be made, and given its size, before its blocks are known
pub put_made_may : (v : VolumeTable) (id : ℕ) (kind : NodeKind) (name : List ℕ) (size : ℕ) → IsTable v → MayMake v id kind name → size ≤ greatest_size → MayEditBy v (edit.Make id kind name ∷ edit.Size id size ∷ [])
put_made_may v id kind name size t make limit =
    (make, (if_there (λ n. MaySize n size) _ (made id kind name) (find-last id v.nodes (made id kind name) (ids_below v id t make.fresh) refl) (record { limit = limit; mapped = λ block le. get-empty nat_cmp block }), tt))

-- runs inside so many blocks, at places of data blocks
pub record IsRunIn (l : Layout) (blocks : ℕ) (r : Run) : Type 0 where
  pub some : 1 ≤ r.count
  pub inside : block_end r ≤ blocks
  pub low : first_place l ≤ r.place
  pub high : place_end r ≤ l.total

maps_may : (v : VolumeTable) (next : ℕ) (n : Node) (runs : List Run) → AreBelow n.id v.nodes → AllByRecursion (IsRunIn v.layout (blocks_of n.size)) runs → MayEditBy (added v next n) (map (map_edit n.id) runs)
maps_may v next n [] below placed = tt
maps_may v next n (r ∷ rs) below placed = (
  if_there (λ m. MayMap v.layout m r) _ n (find-last n.id v.nodes n below refl)
      (record { some = placed.0.some; inside = placed.0.inside; low = placed.0.low; high = placed.0.high }),
  subst (λ (ns : List Node). MayEditBy (record v { next_id = next; nodes = ns }) (map (map_edit n.id) rs)) (sym (with_node-last n.id (with_map r) v.nodes n below refl))
      (maps_may v next (with_map r n) rs below placed.1),
)

-- the edits of a put may be made
pub put_may : (v : VolumeTable) (id : ℕ) (kind : NodeKind) (name : List ℕ) (size : ℕ) (runs : List Run) → IsTable v → MayMake v id kind name → size ≤ greatest_size
    → AllByRecursion (IsRunIn v.layout (blocks_of size)) runs → MayEditBy v (put_edits id kind name size runs)
put_may v id kind name size runs t make limit placed =
    let below = ids_below v id t make.fresh in
    MayEditBy-append v (edit.Make id kind name ∷ edit.Size id size ∷ []) (map (map_edit id) runs) (
      put_made_may v id kind name size t make limit,
      subst (λ (w : VolumeTable). MayEditBy w (map (map_edit id) runs)) (sym (made_edits v id kind name size below))
          (maps_may v (id + 1) (with_size size (made id kind name)) runs below placed),
    )

-- ---- a chain of runs

-- a chain ends where it begins or behind
pub chain_rises : (first end : ℕ) (runs : List Run) → IsChain first end runs → first ≤ end
chain_rises first end [] h = omega arith
chain_rises first end (r ∷ rs) h = let e = chain_rises (block_end r) end rs h.2 in let f = h.0 in omega arith

-- no block before it is mapped by it
chain_low : (first end : ℕ) (runs : List Run) (block : ℕ) → IsChain first end runs → block < first → place_of runs block ≡ None
chain_low first end [] block h lt = refl
chain_low first end (r ∷ rs) block h lt =
    let away : has_block block r ≡ false = grind (arith, nat_tests, h.0, lt) in
    ap (λ (b : Bool). cond b (Some (r.place + (block - r.first))) (place_of rs block)) away
    ∙ chain_low (block_end r) end rs block h.2 (omega (arith, h.0, lt))

-- each block lies where the chain puts it
pub get-with_all : (m : FinMap nat_cmp ℕ) (first end : ℕ) (runs : List Run) (block : ℕ) → IsChain first end runs → get (with_all m runs) block ≡ option_or (place_of runs block) (get m block)
get-with_all m first end [] block h = refl
get-with_all m first end (r ∷ rs) block h =
    get-with_all (with_blocks m r) (block_end r) end rs block h.2
    ∙ ap (option_or (place_of rs block)) (get-with_blocks m r block)
    ∙ by (has_block block r) refl
  where
    by : (b : Bool) → has_block block r ≡ b
        → option_or (place_of rs block) (cond b (Some (r.place + (block - r.first))) (get m block)) ≡ option_or (cond b (Some (r.place + (block - r.first))) (place_of rs block)) (get m block)
    by true here =
        let low : block < block_end r = grind (arith, nat_tests, here) in
        ap (λ (o : Option ℕ). option_or o (Some (r.place + (block - r.first)))) (chain_low (block_end r) end rs block h.2 low)
    by false here = refl

abbrev mapped : List ℕ → List Run → ℕ → List ℕ
mapped live runs block = mapped_block live (place_of runs block)

in_first : (r : Run) (rs : List Run) (i : ℕ) → i < r.count → place_of (r ∷ rs) (r.first + i) ≡ Some (r.place + i)
in_first r rs i lt = grind (arith, nat_tests)

behind_first : (r : Run) (rs : List Run) (block : ℕ) → block_end r ≤ block → place_of (r ∷ rs) block ≡ place_of rs block
behind_first r rs block le = grind (arith, nat_tests)

-- the blocks of a chain, one behind the other, are the runs' bytes
pub chain_bytes : (live : List ℕ) (first end : ℕ) (runs : List Run) → IsChain first end runs → flat_map (λ block. mapped_block live (place_of runs block)) (range_with_len first (end - first)) ≡ flat_map (run_bytes live) runs
chain_bytes live first end [] h = let e : end - first ≡ 0 = omega arith in ap (λ (n : ℕ). flat_map (mapped live []) (range_with_len first n)) e
chain_bytes live first end (r ∷ rs) h =
    let rises = chain_rises (block_end r) end rs h.2 in
    let begins = h.0 in
    let len : end - first ≡ r.count + (end - block_end r) = omega arith in
    ap₂ (λ (a n : ℕ). flat_map (mapped live (r ∷ rs)) (range_with_len a n)) (sym begins) len
    ∙ ap (flat_map (mapped live (r ∷ rs))) (range_join r.first r.count (end - block_end r))
    ∙ flat_map-append (mapped live (r ∷ rs)) (range_with_len r.first r.count) (range_with_len (block_end r) (end - block_end r))
    ∙ ap₂ (λ (x y : List ℕ). x ++ y)
    (blocks_joined live (mapped live (r ∷ rs)) r.first r.place r.count (λ i lt. ap (mapped_block live) (in_first r rs i lt)))
    (same_over (mapped live (r ∷ rs)) (mapped live rs) (block_end r) (end - block_end r) (λ i low high. ap (mapped_block live) (behind_first r rs i low))
    ∙ chain_bytes live (block_end r) end rs h.2)

no_other : (o : Option ℕ) → option_or o None ≡ o
no_other None = refl
no_other (Some x) = refl

-- where the runs of a put file put a block
get-put : (runs : List Run) (first end block : ℕ) → IsChain first end runs → get (with_all empty runs) block ≡ place_of runs block
get-put runs first end block chain =
    get-with_all empty first end runs block chain ∙ ap (option_or (place_of runs block)) (get-empty nat_cmp block) ∙ no_other (place_of runs block)

-- a file whose blocks were put there has these bytes
pub content-put : (id : ℕ) (kind : NodeKind) (name : List ℕ) (size : ℕ) (runs : List Run) (live bytes : List ℕ) → IsChain 0 (blocks_of size) runs → flat_map (run_bytes live) runs ≡ bytes
    → own_content live (put_node id kind name size runs) ≡ take size bytes
content-put id kind name size runs live bytes chain e =
    let from : blocks_of size - 0 ≡ blocks_of size = omega arith in
    ap (take size)
    (same_over (λ block. mapped_block live (get (with_all empty runs) block)) (mapped live runs) 0 (blocks_of size) (λ i low high. ap (mapped_block live) (get-put runs 0 (blocks_of size) i chain))
    ∙ ap (λ (n : ℕ). flat_map (mapped live runs) (range_with_len 0 n)) (sym from)
    ∙ chain_bytes live 0 (blocks_of size) runs chain
    ∙ e)

-- the file that a put makes, with its bytes
pub files_of-put : (v : VolumeTable) (id : ℕ) (kind : NodeKind) (name : List ℕ) (size : ℕ) (runs : List Run) (live bytes : List ℕ) → IsTable v → MayMake v id kind name → IsChain 0 (blocks_of size) runs
    → flat_map (run_bytes live) runs ≡ bytes
    → files_of (edited_by v (put_edits id kind name size runs)) live ≡ insert (files_of v live) name (take size bytes)
files_of-put v id kind name size runs live bytes t make chain e =
    ap (λ (w : VolumeTable). files_of w live) (edited_by-put v id kind name size runs t make.fresh)
    ∙ files_of-made v (put_node id kind name size runs) (id + 1) live make.free
    ∙ ap (insert (files_of v live) name) (content_of-plain v live (put_node id kind name size runs) ∙ content-put id kind name size runs live bytes chain e)

-- ---- the places of a put

both_ways : (a b : Bool) → (a ≡ true → b ≡ true) → (b ≡ true → a ≡ true) → a ≡ b
both_ways true true f g = refl
both_ways true false f g = sym (f refl)
both_ways false true f g = g refl
both_ways false false f g = refl

-- where a chain puts a block, one of its runs has the place
placed_in : (runs : List Run) (block place : ℕ) → place_of runs block ≡ Some place → list_any (has_place place) runs ≡ true
placed_in [] block place e = absurd cc
placed_in (r ∷ rs) block place e = by (has_block block r) refl e (λ later. placed_in rs block place later)
  where
    by : (b : Bool) → has_block block r ≡ b → cond b (Some (r.place + (block - r.first))) (place_of rs block) ≡ Some place
        → (place_of rs block ≡ Some place → list_any (has_place place) rs ≡ true) → (has_place place r || list_any (has_place place) rs) ≡ true
    by true here is others = let at : r.place + (block - r.first) ≡ place = cc in or_left (has_place place r) _ (grind (arith, nat_tests, here, at))
    by false here is others = or_right (has_place place r) _ (others is)

record PutAt (runs : List Run) (low place : ℕ) : Type 0 where
  pub block : ℕ
  pub later : low ≤ block
  pub lies : place_of runs block ≡ Some place

in_chain : (first end : ℕ) (runs : List Run) (place : ℕ) → IsChain first end runs → list_any (has_place place) runs ≡ true → PutAt runs first place
in_chain first end [] place chain e = absurd cc
in_chain first end (r ∷ rs) place chain e = by (has_place place r) refl e (λ later. in_chain (block_end r) end rs place chain.2 later)
  where
    by : (b : Bool) → has_place place r ≡ b → (b || list_any (has_place place) rs) ≡ true → (list_any (has_place place) rs ≡ true → PutAt rs (block_end r) place) → PutAt (r ∷ rs) first place
    by true here is others =
        let low : r.place ≤ place = grind (arith, nat_tests, here) in
        let high : place < place_end r = grind (arith, nat_tests, here) in
        let at : r.place + (place - r.place) ≡ place = omega (arith, low) in
        record { block = r.first + (place - r.place); later = omega (arith, chain.0); lies = in_first r rs (place - r.place) (omega (arith, low, high)) ∙ ap (λ (p : ℕ). Some p) at }
    by false here is others =
        let one = others is in
        record { block = one.block; later = omega (arith, chain.0, one.later); lies = behind_first r rs one.block one.later ∙ one.lies }

-- the file maps the places of the runs
maps-put : (id : ℕ) (kind : NodeKind) (name : List ℕ) (size : ℕ) (runs : List Run) (place : ℕ) → IsChain 0 (blocks_of size) runs → maps_place place (put_node id kind name size runs) ≡ list_any (has_place place) runs
maps-put id kind name size runs place chain = both_ways (maps_place place (put_node id kind name size runs)) (list_any (has_place place) runs)
    (λ maps. let there = found-at (with_all empty runs) place maps in placed_in runs there.0 place (sym (get-put runs 0 (blocks_of size) there.0 chain) ∙ there.1))
    (λ has. let there = in_chain 0 (blocks_of size) runs place chain has in value-found (with_all empty runs) there.block place (get-put runs 0 (blocks_of size) there.block chain ∙ there.lies))

-- a put maps the places of its runs, and no other
pub is_used-put : (v : VolumeTable) (id : ℕ) (kind : NodeKind) (name : List ℕ) (size : ℕ) (runs : List Run) (place : ℕ) → IsTable v → v.next_id ≤ id → IsChain 0 (blocks_of size) runs
    → is_used (edited_by v (put_edits id kind name size runs)) place ≡ (is_used v place || list_any (has_place place) runs)
is_used-put v id kind name size runs place t le chain =
    ap (λ (w : VolumeTable). is_used w place) (edited_by-put v id kind name size runs t le)
    ∙ list_any-append (maps_place place) v.nodes (put_node id kind name size runs ∷ [])
    ∙ ap (λ (b : Bool). is_used v place || b) (or-false (maps_place place (put_node id kind name size runs)) ∙ maps-put id kind name size runs place chain)
