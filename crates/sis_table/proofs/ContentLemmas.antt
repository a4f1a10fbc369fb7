-- What a file's bytes are, and which files a table and the bytes of an image stand for.
use Rattle.std.proofs.Common.{◌≡◌, ℕ, zero, suc, ◌+◌, ◌-◌, ◌*◌, ◌<◌, ◌≤◌, Bool, true, false, cond, List, [], ◌∷◌, ◌++◌, length, take, drop, map, filter, flat_map, Option, None, Some, is_some, refl, sym, ap, ap₂, ◌∙◌, arith, take-add, drop-drop, length-append, length-take, length-drop}
use Rattle.std.specs.Prelude.{slice_range, ◌||◌, find}
use Rattle.std.specs.List.{AllByRecursion, list_any, range_with_len}
use Rattle.std.specs.Option.{option_map}
use Rattle.std.specs.FinMap.{empty, entries, from_entries, get, keys, entries-insert, len-empty, len-entries}
use Rattle.std.specs.FinMap.Entries.{by_order, put}
use Rattle.std.specs.declared.cmp.Ordering.{Ordering}
use Rattle.std.specs.declared.cmp.Ordering.TheVariants.{Less, Equal, Greater}
use Rattle.std.specs.BTreeMap.{is_at}
use Rattle.std.proofs.lemmas.Bool.{or_left, or_right}
use Rattle.std.proofs.lemmas.Bool.Decides.{nat_tests}
use Rattle.std.proofs.lemmas.List.{length-replicate, nil_from_length}
use Rattle.std.proofs.lemmas.Cmp.{nat_list_eq_equiv}
use Rattle.std.proofs.lemmas.Map.Text.{is_eq-slice_cmp}
use Rattle.sis_disk.specs.declared.layout.Layout.{Layout}
use Rattle.sis_name.specs.Files.{Files, same_name}
use Rattle.sis_name.specs.Units.{name_cmp, name_total}
use Rattle.sis_name.proofs.Named.{named, get_named}
use Rattle.sis_ranges.specs.declared.run.Run.{Run}
use Rattle.sis_ranges.specs.Extents.{has_place}
use Rattle.sis_ranges.proofs.PlaceLemmas.{value-found}
use Rattle.sis_table.specs.declared.kind.NodeKind.{NodeKind}
use Rattle.sis_table.specs.declared.kind.NodeKind.TheVariants.{Plain}
use Rattle.sis_table.specs.declared.node.Node.{Node}
use Rattle.sis_table.specs.Content.{block_at, content_by, content_of, files_of, mapped_block, own_content, run_bytes}
use Rattle.sis_table.specs.Kinds.{is_user, user_node}
use Rattle.sis_table.specs.Volume.{VolumeTable, IsTable, IsNode, blocks_of, has_name, id_of, ids_of, is_used, maps_place, node_named, user_nodes}
use Rattle.sis_table.proofs.EditLemmas.{all_nodes}

-- ---- plain files, while there is no other kind

content_by-plain : (k : NodeKind) (v : VolumeTable) (live : List ℕ) (n : Node) → content_by k v live n ≡ own_content live n
content_by-plain Plain v live n = refl

-- each file is plain, so its bytes are those of its own blocks
pub content_of-plain : (v : VolumeTable) (live : List ℕ) (n : Node) → content_of v live n ≡ own_content live n
content_of-plain v live n = content_by-plain n.kind v live n

always_user : (k : NodeKind) → is_user k ≡ true
always_user Plain = refl

all_user : (nodes : List Node) → filter user_node nodes ≡ nodes
all_user [] = refl
all_user (n ∷ ns) = ap (λ (b : Bool). cond b (n ∷ filter user_node ns) (filter user_node ns)) (always_user n.kind) ∙ ap (λ (ms : List Node). n ∷ ms) (all_user ns)

-- and each file is a user's
pub user_nodes-all : (v : VolumeTable) → user_nodes v ≡ v.nodes
user_nodes-all v = all_user v.nodes

abbrev entry : List ℕ → Node → List ℕ × List ℕ
entry live n = (n.name, own_content live n)

plain_entries : (v : VolumeTable) (live : List ℕ) (nodes : List Node) → map (λ n. (n.name, content_of v live n)) nodes ≡ map (entry live) nodes
plain_entries v live [] = refl
plain_entries v live (n ∷ ns) = ap₂ (λ (x : List ℕ) (es : List (List ℕ × List ℕ)). (n.name, x) ∷ es) (content_of-plain v live n) (plain_entries v live ns)

-- the files under their names, by their own blocks
pub plain_files : (v : VolumeTable) (live : List ℕ) → files_of v live ≡ from_entries {R = name_cmp} (map (λ n. (n.name, own_content live n)) v.nodes)
plain_files v live = ap (from_entries {R = name_cmp})
    (plain_entries v live (user_nodes v) ∙ ap (map (entry live)) (user_nodes-all v))

-- ---- bytes of blocks

-- the bytes of two neighbouring ranges are those of both together
pub slice_range-join : (live : List ℕ) (a b c : ℕ) → a ≤ b → b ≤ c → slice_range live a b ++ slice_range live b c ≡ slice_range live a c
slice_range-join live a b c ab bc =
    let whole : c - a ≡ (b - a) + (c - b) = omega arith in
    let there : a + (b - a) ≡ b = omega arith in
    sym (ap (λ (n : ℕ). take n (drop a live)) whole
    ∙ take-add (b - a) (c - b) (drop a live)
    ∙ ap (λ (xs : List ℕ). take (b - a) (drop a live) ++ take (c - b) xs) (drop-drop (b - a) a live ∙ ap (λ (n : ℕ). drop n live) there))

pub range_join : (a m n : ℕ) → range_with_len a (m + n) ≡ range_with_len a m ++ range_with_len (a + m) n
range_join a zero n = let e : a + 0 ≡ a = omega arith in let f : 0 + n ≡ n = omega arith in ap₂ range_with_len (sym e) f
range_join a (suc m) n =
    let e : suc m + n ≡ suc (m + n) = omega arith in
    let f : a + 1 + m ≡ a + suc m = omega arith in
    ap (range_with_len a) e ∙ ap (λ (xs : List ℕ). a ∷ xs) (range_join (a + 1) m n ∙ ap (λ (k : ℕ). range_with_len (a + 1) m ++ range_with_len k n) f)

-- what a function gives of numbers in a row
pub same_over : (f g : ℕ → List ℕ) (a n : ℕ) → ((i : ℕ) → a ≤ i → i < a + n → f i ≡ g i) → flat_map f (range_with_len a n) ≡ flat_map g (range_with_len a n)
same_over f g a zero h = refl
same_over f g a (suc n) h = ap₂ (λ (x y : List ℕ). x ++ y) (h a (omega arith) (omega arith)) (same_over f g (a + 1) n (λ i low high. h i (omega arith) (omega arith)))

-- blocks at neighbouring places
pub blocks_joined : (live : List ℕ) (f : ℕ → List ℕ) (a p n : ℕ) → ((i : ℕ) → i < n → f (a + i) ≡ block_at live (p + i)) → flat_map f (range_with_len a n) ≡ slice_range live (4096 * p) (4096 * (p + n))
blocks_joined live f a p zero h =
    let e : 4096 * (p + 0) - 4096 * p ≡ 0 = omega arith in
    sym (ap (λ (k : ℕ). take k (drop (4096 * p) live)) e)
blocks_joined live f a p (suc n) h =
    let a0 : a + 0 ≡ a = omega arith in
    let p0 : p + 0 ≡ p = omega arith in
    let next : 4096 * p + 4096 ≡ 4096 * (p + 1) = omega arith in
    let end : 4096 * (p + 1 + n) ≡ 4096 * (p + suc n) = omega arith in
    let here : f a ≡ block_at live p = ap f (sym a0) ∙ h 0 (omega arith) ∙ ap (block_at live) p0 in
    ap₂ (λ (x y : List ℕ). x ++ y)
    (here ∙ ap (slice_range live (4096 * p)) next)
    (blocks_joined live f (a + 1) (p + 1) n (λ i lt. let e : a + 1 + i ≡ a + suc i = omega arith in let g : p + suc i ≡ p + 1 + i = omega arith in ap f e ∙ h (suc i) (omega arith) ∙ ap (block_at live) g))
    ∙ slice_range-join live (4096 * p) (4096 * (p + 1)) (4096 * (p + 1 + n)) (omega arith) (omega arith)
    ∙ ap (slice_range live (4096 * p)) end

mapped_same : (old new : List ℕ) (o : Option ℕ) → ((place : ℕ) → o ≡ Some place → block_at new place ≡ block_at old place) → mapped_block new o ≡ mapped_block old o
mapped_same old new None h = refl
mapped_same old new (Some place) h = h place refl

-- ---- a file's bytes

-- two files of one size have the same bytes where each block has
pub content-blocks : (old new : List ℕ) (n m : Node) → m.size ≡ n.size
    → ((block : ℕ) → block < blocks_of n.size → mapped_block new (get m.map block) ≡ mapped_block old (get n.map block)) → own_content new m ≡ own_content old n
content-blocks old new n m size h =
    ap (λ (k : ℕ). take k (flat_map (λ block. mapped_block new (get m.map block)) (range_with_len 0 (blocks_of k)))) size
    ∙ ap (take n.size) (same_over (λ block. mapped_block new (get m.map block)) (λ block. mapped_block old (get n.map block)) 0 (blocks_of n.size) (λ i low high. h i (omega (arith, high))))

-- a file whose places have the same bytes is the same
pub content-same : (n : Node) (old new : List ℕ) → ((place : ℕ) → maps_place place n ≡ true → block_at new place ≡ block_at old place) → own_content new n ≡ own_content old n
content-same n old new h = content-blocks old new n n refl (λ block lt. mapped_same old new (get n.map block) (λ place is. h place (value-found n.map block place is)))

entries_same : (nodes : List Node) (old new : List ℕ) → ((place : ℕ) → list_any (maps_place place) nodes ≡ true → block_at new place ≡ block_at old place) → map (entry new) nodes ≡ map (entry old) nodes
entries_same [] old new h = refl
entries_same (n ∷ ns) old new h =
    ap₂ (λ (x : List ℕ) (es : List (List ℕ × List ℕ)). (n.name, x) ∷ es)
    (content-same n old new (λ place e. h place (or_left (maps_place place n) _ e)))
    (entries_same ns old new (λ place e. h place (or_right (maps_place place n) _ e)))

-- where the mapped places have the same bytes, the files are the same
pub files_of-same : (v : VolumeTable) (old new : List ℕ) → ((place : ℕ) → is_used v place ≡ true → block_at new place ≡ block_at old place) → files_of v new ≡ files_of v old
files_of-same v old new h = plain_files v new ∙ ap (from_entries {R = name_cmp}) (entries_same v.nodes old new h) ∙ sym (plain_files v old)

-- ---- how long a file's bytes are

length-block_at : (live : List ℕ) (total place : ℕ) → length live ≡ 4096 * total → place < total → length (block_at live place) ≡ 4096
length-block_at live total place size lt =
    omega (arith, size, length-take (4096 * place + 4096 - 4096 * place) (drop (4096 * place) live), length-drop (4096 * place) live)

-- a block has 4,096 bytes, where the image is whole
pub length-mapped_block : (live : List ℕ) (total : ℕ) (o : Option ℕ) → length live ≡ 4096 * total → ((place : ℕ) → o ≡ Some place → place < total) → length (mapped_block live o) ≡ 4096
length-mapped_block live total None size inside = length-replicate {A = ℕ} 4096 0
length-mapped_block live total (Some place) size inside = length-block_at live total place size (inside place refl)

length-blocks : (f : ℕ → List ℕ) (a n : ℕ) → ((i : ℕ) → length (f i) ≡ 4096) → length (flat_map f (range_with_len a n)) ≡ 4096 * n
length-blocks f a zero h = refl
length-blocks f a (suc n) h = omega (arith, h a, length-blocks f (a + 1) n h, length-append (f a) (flat_map f (range_with_len (a + 1) n)))

length-own_content : (l : Layout) (n : Node) (live : List ℕ) → IsNode l n → length live ≡ 4096 * l.total → length (own_content live n) ≡ n.size
length-own_content l n live h size =
    let blocks = length-blocks (λ block. mapped_block live (get n.map block)) 0 (blocks_of n.size)
    (λ i. length-mapped_block live l.total (get n.map i) size (λ place is. (h.placed i place is).high)) in
    let enough : n.size ≤ 4096 * blocks_of n.size = omega arith in
    omega (arith, blocks, enough, length-take n.size (flat_map (λ block. mapped_block live (get n.map block)) (range_with_len 0 (blocks_of n.size))))

-- a file of a table has as many bytes as its size says
pub length-content_of : (v : VolumeTable) (n : Node) (live : List ℕ) → IsNode v.layout n → length live ≡ 4096 * v.layout.total → length (content_of v live n) ≡ n.size
length-content_of v n live h size = ap (λ (xs : List ℕ). length xs) (content_of-plain v live n) ∙ length-own_content v.layout n live h size

-- ---- the bytes under a name

-- two names are one
pub same_test : (a b : List ℕ) → is_at (name_cmp a) b ≡ same_name b a
same_test a b = is_eq-slice_cmp a b ∙ nat_list_eq_equiv.symm a b

pub turned_test : (a b : List ℕ) → is_at (name_cmp a) b ≡ is_at (name_cmp b) a
turned_test a b = is_eq-slice_cmp a b ∙ nat_list_eq_equiv.symm a b ∙ sym (is_eq-slice_cmp b a)

pub mapped_cond : {X Y : Type 0} (f : X → Y) (b : Bool) (x : X) (o : Option X) → cond b (Some (f x)) (option_map f o) ≡ option_map f (cond b (Some x) o)
mapped_cond f true x o = refl
mapped_cond f false x o = refl

named_nodes : (nodes : List Node) (live name : List ℕ) → named (map (entry live) nodes) name ≡ option_map (own_content live) (find (has_name name) nodes)
named_nodes [] live name = refl
named_nodes (n ∷ ns) live name =
    ap₂ (λ (b : Bool) (o : Option (List ℕ)). cond b (Some (own_content live n)) o) (same_test name n.name) (named_nodes ns live name)
    ∙ mapped_cond (own_content live) (has_name name n) n (find (has_name name) ns)

pub get-plain_files : (v : VolumeTable) (live name : List ℕ) → get (files_of v live) name ≡ option_map (own_content live) (node_named v name)
get-plain_files v live name = ap (λ (m : Files). get m name) (plain_files v live) ∙ get_named (map (entry live) v.nodes) name ∙ named_nodes v.nodes live name

same_mapped : {X Y : Type 0} (f g : X → Y) (o : Option X) → ((x : X) → f x ≡ g x) → option_map f o ≡ option_map g o
same_mapped f g None h = refl
same_mapped {Y = Y} f g (Some x) h = ap (λ (y : Y). Some y) (h x)

-- a name's bytes are those of the file that has it
pub get-files_of : (v : VolumeTable) (live name : List ℕ) → get (files_of v live) name ≡ option_map (content_of v live) (node_named v name)
get-files_of v live name = get-plain_files v live name ∙ same_mapped (own_content live) (content_of v live) (node_named v name) (λ n. sym (content_of-plain v live n))

found_long : (l : Layout) (live name : List ℕ) (nodes : List Node) → AllByRecursion (IsNode l) nodes → length live ≡ 4096 * l.total
    → option_map length (option_map (own_content live) (find (has_name name) nodes)) ≡ option_map (λ n. n.size) (find (has_name name) nodes)
found_long l live name [] all size = refl
found_long l live name (n ∷ ns) all size =
    elim (has_name name n) as (λ b. option_map length (option_map (own_content live) (cond b (Some n) (find (has_name name) ns))) ≡ option_map (λ m. m.size) (cond b (Some n) (find (has_name name) ns))) [
      | true ↦ ap (λ (k : ℕ). Some k) (length-own_content l n live all.0 size)
      | false ↦ found_long l live name ns all.1 size
    ]

-- the length of the bytes under a name is the size of the file that has it
pub length-files_of : (v : VolumeTable) (live name : List ℕ) → IsTable v → length live ≡ 4096 * v.layout.total
    → option_map length (get (files_of v live) name) ≡ option_map (λ n. n.size) (node_named v name)
length-files_of v live name t size =
    ap (option_map length) (get-plain_files v live name)
    ∙ found_long v.layout live name v.nodes (all_nodes v.layout v.next_id [] v.nodes t.nodes) size

pub some_cond : {X : Type 0} (b : Bool) (x : X) (o : Option X) → is_some (cond b (Some x) o) ≡ (b || is_some o)
some_cond true x o = refl
some_cond false x o = refl

pub find_any : {X : Type 0} (test : X → Bool) (xs : List X) → is_some (find test xs) ≡ list_any test xs
find_any test [] = refl
find_any test (x ∷ xs) = some_cond (test x) x (find test xs) ∙ ap (λ (b : Bool). test x || b) (find_any test xs)

-- a file is found under a name where one has it
pub node_named-has : (v : VolumeTable) (name : List ℕ) → is_some (node_named v name) ≡ list_any (has_name name) v.nodes
node_named-has v name = find_any (has_name name) v.nodes

pub some_mapped : {X Y : Type 0} (f : X → Y) (o : Option X) → is_some (option_map f o) ≡ is_some o
some_mapped f None = refl
some_mapped f (Some x) = refl

-- ---- the names in order

abbrev firsts : {X : Type 0} → List (List ℕ × X) → List (List ℕ)
firsts es = map (λ e. e.0) es

put_step : {X Y : Type 0} (r : Ordering) (name : List ℕ) (x : X) (y : Y) (e : List ℕ × X) (f : List ℕ × Y) (es put_es : List (List ℕ × X)) (fs put_fs : List (List ℕ × Y)) → e.0 ≡ f.0 → firsts es ≡ firsts fs → firsts put_es ≡ firsts put_fs
    → firsts (by_order r ((name, x) ∷ e ∷ es) ((e.0, x) ∷ es) (e ∷ put_es)) ≡ firsts (by_order r ((name, y) ∷ f ∷ fs) ((f.0, y) ∷ fs) (f ∷ put_fs))
put_step Less name x y e f es put_es fs put_fs first rest others = ap₂ (λ (k : List ℕ) (ks : List (List ℕ)). name ∷ k ∷ ks) first rest
put_step Equal name x y e f es put_es fs put_fs first rest others = ap₂ (λ (k : List ℕ) (ks : List (List ℕ)). k ∷ ks) first rest
put_step Greater name x y e f es put_es fs put_fs first rest others = ap₂ (λ (k : List ℕ) (ks : List (List ℕ)). k ∷ ks) first others

-- where an entry goes depends on the names alone
same_put : {X Y : Type 0} (es : List (List ℕ × X)) (fs : List (List ℕ × Y)) (name : List ℕ) (x : X) (y : Y) → firsts es ≡ firsts fs → firsts (put name_cmp name x es) ≡ firsts (put name_cmp name y fs)
same_put [] [] name x y h = refl
same_put [] (f ∷ fs) name x y h = absurd cc
same_put (e ∷ es) [] name x y h = absurd cc
same_put (e ∷ es) (f ∷ fs) name x y h =
    let first : e.0 ≡ f.0 = cc in
    let rest : firsts es ≡ firsts fs = cc in
    put_step (name_cmp name e.0) name x y e f es (put name_cmp name x es) fs (put name_cmp name y fs) first rest (same_put es fs name x y rest)
    ∙ ap (λ (q : List ℕ). firsts (by_order (name_cmp name q) ((name, y) ∷ f ∷ fs) ((f.0, y) ∷ fs) (f ∷ put name_cmp name y fs))) first

no_entries : (X : Type 0) → entries (empty {X = X} {R = name_cmp}) ≡ []
no_entries X = nil_from_length (entries empty) (sym (len-entries (empty {X = X} {R = name_cmp})) ∙ len-empty name_cmp X)

same_keys : {X Y : Type 0} (f : Node → X) (g : Node → Y) (nodes : List Node)
    → keys (from_entries {R = name_cmp} (map (λ n. (n.name, f n)) nodes)) ≡ keys (from_entries {R = name_cmp} (map (λ n. (n.name, g n)) nodes))
same_keys {X = X} {Y = Y} f g [] = ap firsts (no_entries X) ∙ sym (ap firsts (no_entries Y))
same_keys f g (n ∷ ns) =
    ap firsts (entries-insert name_total (from_entries {R = name_cmp} (map (λ m. (m.name, f m)) ns)) n.name (f n))
    ∙ same_put (entries (from_entries {R = name_cmp} (map (λ m. (m.name, f m)) ns))) (entries (from_entries {R = name_cmp} (map (λ m. (m.name, g m)) ns))) n.name (f n) (g n) (same_keys f g ns)
    ∙ sym (ap firsts (entries-insert name_total (from_entries {R = name_cmp} (map (λ m. (m.name, g m)) ns)) n.name (g n)))

-- the names of the files' contents are those of their ids, in order
pub keys-files_of : (v : VolumeTable) (live : List ℕ) → keys (files_of v live) ≡ keys (ids_of v)
keys-files_of v live = same_keys (content_of v live) id_of (user_nodes v)

-- ---- bytes of runs

blocks_of_run : (live : List ℕ) (r : Run) → run_bytes live r ≡ flat_map (block_at live) (range_with_len r.place r.count)
blocks_of_run live r = sym (blocks_joined live (block_at live) r.place r.place r.count (λ i lt. refl))

-- a run whose places have the same bytes has the same bytes
pub run_bytes-same : (r : Run) (old new : List ℕ) → ((place : ℕ) → has_place place r ≡ true → block_at new place ≡ block_at old place) → run_bytes new r ≡ run_bytes old r
run_bytes-same r old new h =
    blocks_of_run new r
    ∙ same_over (block_at new) (block_at old) r.place r.count (λ place low high. h place (grind (arith, nat_tests)))
    ∙ sym (blocks_of_run old r)

-- runs whose places have the same bytes have the same bytes
pub runs_bytes-same : (runs : List Run) (old new : List ℕ) → ((place : ℕ) → list_any (has_place place) runs ≡ true → block_at new place ≡ block_at old place) → flat_map (run_bytes new) runs ≡ flat_map (run_bytes old) runs
runs_bytes-same [] old new h = refl
runs_bytes-same (r ∷ rs) old new h =
    ap₂ (λ (x y : List ℕ). x ++ y)
    (run_bytes-same r old new (λ place e. h place (or_left (has_place place r) (list_any (has_place place) rs) e)))
    (runs_bytes-same rs old new (λ place e. h place (or_right (has_place place r) (list_any (has_place place) rs) e)))
