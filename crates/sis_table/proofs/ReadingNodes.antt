-- Files that are read may stand in a table, and each file is read again.
use Rattle.std.proofs.Common.{◌≡◌, ℕ, zero, suc, ◌^◌, ◌<◌, ◌≤◌, false, ltb, leb, eqb, ◌||◌, List, [], ◌∷◌, ◌++◌, length, Some, Result, Ok, refl, sym, ap, subst, ◌∙◌, append_assoc, arith}
use Rattle.std.specs.List.{flat_map, list_any}
use Rattle.std.proofs.lemmas.Bool.{or_parts, or_from, le-ltb, ltb-false}
use Rattle.std.proofs.lemmas.Bool.Decides.{nat_tests}
use Rattle.byteorder.specs.Endian.{little_bytes}
use Rattle.sis_disk.specs.declared.layout.Layout.{Layout}
use Rattle.sis_disk.specs.declared.layout.TableKind.TheVariants as kinds
use Rattle.sis_disk.specs.Layout.{IsLayout}
use Rattle.std.specs.FinMap.{FinMap, get}
use Rattle.std.specs.Ordering.{nat_cmp}
use Rattle.sis_ranges.specs.Extents.{runs_of}
use Rattle.sis_table.specs.declared.node.Node.{Node}
use Rattle.sis_table.specs.declared.kind.NodeKind.{NodeKind}
use Rattle.sis_table.specs.Kinds.{kind_byte}
use Rattle.sis_table.specs.Volume.{IsNode, IsPlaced, AreNodes, last_id, has_name, blocks_of, greatest_number, greatest_size}
use Rattle.sis_table.specs.Spelling.{le4, le8, run_text, name_text, runs_text, node_text}
use Rattle.sis_table.specs.Reading.{Fault, number_at, named_at, map_at, node_at, nodes_at, here}
use Rattle.sis_reading.specs.Steps.{◌>>=◌}
use Rattle.sis_reading.specs.Steps.{guard}
use Rattle.sis_table.proofs.Lengths.{blocks_limit}
use Rattle.sis_table.proofs.MapLemmas.{length-runs_of}
use Rattle.sis_table.proofs.ReadingSteps.{IsBytes, Takes, Takes-then, number_then, number_back}
use Rattle.sis_reading.proofs.StepLemmas.{bind_ok, ok_is, guard_ok, bind_again, guard_again, bind_then}
use Rattle.sis_table.proofs.ReadingRuns.{TakesMap, map_takes, map_again}
use Rattle.sis_table.proofs.ReadingNames.{MayBeNamed, TakesNamed, named_takes, named_again}

-- a file that may stand behind those of `front`
pub record MayFollow (l : Layout) (next : ℕ) (front : List Node) (n : Node) : Type 0 where
  pub rises : last_id front < n.id
  pub below : n.id < next
  pub unique : list_any (has_name n.name) front ≡ false
  pub node : IsNode l n

rises_from : (last next id : ℕ) → (leb id last || leb next id) ≡ false → (last < id) × (id < next)
rises_from last next id h =
    let p = or_parts (leb id last) (leb next id) h in
    (grind (arith, nat_tests, p.0), grind (arith, nat_tests, p.1))

rises_to : (last next id : ℕ) → last < id → id < next → (leb id last || leb next id) ≡ false
rises_to last next id a b = or_from (leb id last) (leb next id) (grind (arith, nat_tests)) (grind (arith, nat_tests))

pub counted_from : (n limit : ℕ) → (eqb n 0 || ltb limit n) ≡ false → (1 ≤ n) × (n ≤ limit)
counted_from n limit h =
    let p = or_parts (eqb n 0) (ltb limit n) h in
    (grind (arith, nat_tests, p.0), ltb-false limit n p.1)

pub counted_to : (n limit : ℕ) → 1 ≤ n → n ≤ limit → (eqb n 0 || ltb limit n) ≡ false
counted_to n limit a b = or_from (eqb n 0) (ltb limit n) (grind (arith, nat_tests)) (le-ltb limit n b)

-- size, version and map
record MayHold (l : Layout) (size version : ℕ) (m : FinMap nat_cmp ℕ) : Type 0 where
  size_high : size ≤ greatest_size
  version_low : 1 ≤ version
  version_high : version ≤ greatest_number
  placed : (block place : ℕ) → get m block ≡ Some place → IsPlaced l (blocks_of size) block place

abbrev tail_text : ℕ → ℕ → FinMap nat_cmp ℕ → List ℕ
tail_text size version m = little_bytes 8 size ++ (little_bytes 8 version ++ runs_text (runs_of m))

-- what stands behind a file's name and kind
abbrev tail_at : ℕ → Layout → ℕ → List ℕ → NodeKind → List ℕ → Result (Node × List ℕ) Fault
tail_at total l id name kind bytes =
    number_at 8 total bytes >>= λ size. guard (here total bytes kinds.Size) (ltb greatest_size size.0) (tt {0}) >>= λ b.
    number_at 8 total size.1 >>= λ version. guard (here total size.1 kinds.NodeVersion) (eqb version.0 0 || ltb greatest_number version.0) (tt {0}) >>= λ c.
    number_at 4 total version.1 >>= λ count. map_at total l (blocks_of size.0) count.0 count.1 >>= λ blocks.
    Ok (record { id = id; name = name; kind = kind; size = size.0; version = version.0; map = blocks.0 }, blocks.1)

record TakesTail (l : Layout) (id : ℕ) (name : List ℕ) (kind : NodeKind) (bytes : List ℕ) (y : Node × List ℕ) : Type 0 where
  same_id : y.0.id ≡ id
  same_name : y.0.name ≡ name
  same_kind : y.0.kind ≡ kind
  text : Takes bytes (tail_text y.0.size y.0.version y.0.map) y.1
  holds : MayHold l y.0.size y.0.version y.0.map

tail_whole : (l : Layout) (id : ℕ) (name : List ℕ) (kind : NodeKind) (bytes : List ℕ) (y : Node × List ℕ) (size : ℕ) (behind_size : List ℕ) (version : ℕ) (behind_version : List ℕ) (count : ℕ) (behind_count : List ℕ) (m : FinMap nat_cmp ℕ) (rest : List ℕ)
    → Takes bytes (little_bytes 8 size) behind_size → Takes behind_size (little_bytes 8 version) behind_version → Takes behind_version (little_bytes 4 count) behind_count
    → TakesMap l (blocks_of size) count behind_count (m, rest) → size ≤ greatest_size → (1 ≤ version) × (version ≤ greatest_number)
    → ◌≡◌ {A = Node × List ℕ} (record { id = id; name = name; kind = kind; size = size; version = version; map = m }, rest) y → TakesTail l id name kind bytes y
unfolding le4
tail_whole l id name kind bytes y size behind_size version behind_version count behind_count m rest size_text version_text count_text read size_high versions is =
    let counted : Takes behind_version (little_bytes 4 (length (runs_of m))) behind_count = subst (λ (k : ℕ). Takes behind_version (little_bytes 4 k) behind_count) (sym read.count) count_text in
    let text3 = Takes-then behind_version (little_bytes 4 (length (runs_of m))) behind_count (flat_map run_text (runs_of m)) rest counted read.text in
    let text2 = Takes-then behind_size (little_bytes 8 version) behind_version (runs_text (runs_of m)) rest version_text text3 in
    let text1 = Takes-then bytes (little_bytes 8 size) behind_size (little_bytes 8 version ++ runs_text (runs_of m)) rest size_text text2 in
    subst (TakesTail l id name kind bytes) is (record {
      same_id = refl;
      same_name = refl;
      same_kind = refl;
      text = text1;
      holds = record { size_high = size_high; version_low = versions.0; version_high = versions.1; placed = read.placed };
    })

tail_takes : (total : ℕ) (l : Layout) (id : ℕ) (name : List ℕ) (kind : NodeKind) (bytes : List ℕ) (y : Node × List ℕ) → IsBytes bytes → tail_at total l id name kind bytes ≡ Ok y → TakesTail l id name kind bytes y
unfolding le4
tail_takes total l id name kind bytes y fits e =
    number_then 8 total bytes _ y _ fits e (λ size behind_size size_text size_fits e1.
    let gs = guard_ok (here total bytes kinds.Size) (ltb greatest_size size) _ _ y e1 in
    number_then 8 total behind_size _ y _ size_text.rest_fits gs.1 (λ version behind_version version_text version_fits e2.
    let gv = guard_ok (here total behind_size kinds.NodeVersion) (eqb version 0 || ltb greatest_number version) _ _ y e2 in
    number_then 4 total behind_version _ y _ version_text.rest_fits gv.1 (λ count behind_count count_text count_fits e3.
    bind_then (map_at total l (blocks_of size) count behind_count) _ y _ e3 (λ blocks er e4.
    tail_whole l id name kind bytes y size behind_size version behind_version count behind_count blocks.0 blocks.1 size_text version_text count_text
    (map_takes total l (blocks_of size) count behind_count blocks count_text.rest_fits er) (ltb-false greatest_size size gs.0) (counted_from version greatest_number gv.0)
    (ok_is (record { id = id; name = name; kind = kind; size = size; version = version; map = blocks.0 }, blocks.1) y e4)))))

-- a file's fields one behind the other
pub fields_of : (n : Node) → node_text n ≡ le8 n.id ++ (name_text n.name ++ (kind_byte n.kind ∷ (le8 n.size ++ (le8 n.version ++ runs_text (runs_of n.map)))))
unfolding node_text
fields_of n = simp append_assoc

node_whole : (l : Layout) (next : ℕ) (front : List Node) (bytes : List ℕ) (y : Node × List ℕ) (id : ℕ) (behind_id : List ℕ) (named : List ℕ × NodeKind × List ℕ)
    → Takes bytes (little_bytes 8 id) behind_id → TakesNamed front behind_id named → (last_id front < id) × (id < next) → TakesTail l id named.0 named.1 named.2 y
    → Takes bytes (node_text y.0) y.1 × MayFollow l next front y.0
unfolding le8
node_whole l next front bytes y id behind_id named id_text name_text_is ids tail =
    let holds = tail.holds in
    let id_is : Takes bytes (little_bytes 8 y.0.id) behind_id = subst (λ (k : ℕ). Takes bytes (little_bytes 8 k) behind_id) (sym tail.same_id) id_text in
    let name_is : Takes behind_id (name_text y.0.name) name_text_is.behind = subst (λ (k : List ℕ). Takes behind_id (name_text k) name_text_is.behind) (sym tail.same_name) name_text_is.name in
    let kind_is : Takes name_text_is.behind (kind_byte y.0.kind ∷ []) named.2 = subst (λ (k : NodeKind). Takes name_text_is.behind (kind_byte k ∷ []) named.2) (sym tail.same_kind) name_text_is.kind in
    let low : last_id front < y.0.id = subst (λ (k : ℕ). last_id front < k) (sym tail.same_id) ids.0 in
    let high : y.0.id < next = subst (λ (k : ℕ). k < next) (sym tail.same_id) ids.1 in
    let may_name : MayBeNamed front named.1 y.0.name = subst (λ (k : List ℕ). MayBeNamed front named.1 k) (sym tail.same_name) name_text_is.may in
    let may : MayBeNamed front y.0.kind y.0.name = subst (λ (k : NodeKind). MayBeNamed front k y.0.name) (sym tail.same_kind) may_name in
    let text2 = Takes-then name_text_is.behind (kind_byte y.0.kind ∷ []) named.2 (tail_text y.0.size y.0.version y.0.map) y.1 kind_is tail.text in
    let text1 = Takes-then behind_id (name_text y.0.name) name_text_is.behind (kind_byte y.0.kind ∷ tail_text y.0.size y.0.version y.0.map) y.1 name_is text2 in
    let text = Takes-then bytes (little_bytes 8 y.0.id) behind_id (name_text y.0.name ++ (kind_byte y.0.kind ∷ tail_text y.0.size y.0.version y.0.map)) y.1 id_is text1 in (
      rw (fields_of y.0) text,
      record {
        rises = low;
        below = high;
        unique = may.unique;
        node = record {
          name = may.is_name;
          fit = may.fit;
          size = holds.size_high;
          version_low = holds.version_low;
          version_high = holds.version_high;
          placed = holds.placed;
        };
      },
    )

pub node_takes : (total : ℕ) (l : Layout) (next : ℕ) (front : List Node) (bytes : List ℕ) (y : Node × List ℕ) → IsBytes bytes → node_at total l next front bytes ≡ Ok y
    → Takes bytes (node_text y.0) y.1 × MayFollow l next front y.0
unfolding node_at
node_takes total l next front bytes y fits e =
    number_then 8 total bytes _ y _ fits e (λ id behind_id id_text id_fits e1.
    let gi = guard_ok (here total bytes kinds.Id) (leb id (last_id front) || leb next id) _ _ y e1 in
    bind_then (named_at total front behind_id) _ y _ gi.1 (λ name en e2.
    let t = named_takes total front behind_id name id_text.rest_fits en in
    node_whole l next front bytes y id behind_id name id_text t (rises_from (last_id front) next id gi.0)
    (tail_takes total l id name.0 name.1 name.2 y t.kind.rest_fits e2)))

pub node_again : (total : ℕ) (l : Layout) (next : ℕ) (front : List Node) (n : Node) (rest : List ℕ) → IsLayout l → next ≤ greatest_number → MayFollow l next front n
    → node_at total l next front (node_text n ++ rest) ≡ Ok (n, rest)
unfolding node_at le8 le4
node_again total l next front n rest layout high follows =
    let node = follows.node in
    let below = follows.below in
    let size_high = node.size in
    let version_high = node.version_high in
    let total_high = layout.total_high in
    let blocks = blocks_of n.size in
    let blocks_fit : blocks_of n.size < 4294967296 = omega (arith, blocks_limit n.size node.size) in
    let few = length-runs_of l (blocks_of n.size) n.map node.placed in
    let id_fits : n.id < 256 ^ 8 = omega arith in
    let size_fits : n.size < 256 ^ 8 = omega arith in
    let version_fits : n.version < 256 ^ 8 = omega arith in
    let count_fits : length (runs_of n.map) < 256 ^ 4 = omega (arith, few, blocks_fit) in
    let size_right : ltb greatest_size n.size ≡ false = le-ltb greatest_size n.size node.size in
    let may : MayBeNamed front n.kind n.name = record { is_name = node.name; fit = node.fit; unique = follows.unique } in
    let runs = flat_map run_text (runs_of n.map) ++ rest in
    let count = little_bytes 4 (length (runs_of n.map)) ++ runs in
    let version = little_bytes 8 n.version ++ count in
    let size = little_bytes 8 n.size ++ version in
    let name = name_text n.name ++ (kind_byte n.kind ∷ size) in
    let regrouped : node_text n ++ rest ≡ little_bytes 8 n.id ++ name = ap (λ (x : List ℕ). x ++ rest) (fields_of n) ∙ ap (λ (x : List ℕ). little_bytes 8 n.id ++ x) (append_assoc (name_text n.name) (kind_byte n.kind ∷ (little_bytes 8 n.size ++ (little_bytes 8 n.version ++ runs_text (runs_of n.map)))) rest) in
    ap (node_at total l next front) regrouped ∙
    number_back 8 total n.id name _ _ id_fits
    (guard_again (here total (little_bytes 8 n.id ++ name) kinds.Id) _ _ _ _ (rises_to (last_id front) next n.id follows.rises follows.below)
    (bind_again (named_at total front name) (n.name, n.kind, size) _ _ (named_again total front n.kind n.name size may)
    (number_back 8 total n.size version _ _ size_fits
    (guard_again (here total size kinds.Size) _ _ _ _ size_right
    (number_back 8 total n.version count _ _ version_fits
    (guard_again (here total version kinds.NodeVersion) _ _ _ _ (counted_to n.version greatest_number node.version_low node.version_high)
    (number_back 4 total (length (runs_of n.map)) runs _ _ count_fits
    (bind_again (map_at total l (blocks_of n.size) (length (runs_of n.map)) runs) (n.map, rest) _ _
    (map_again total l (blocks_of n.size) n.map rest (omega (arith, blocks_fit)) (omega (arith, total_high)) node.placed) refl))))))))

pub nodes_take : (total : ℕ) (l : Layout) (next n : ℕ) (front : List Node) (bytes : List ℕ) (y : List Node × List ℕ) → IsBytes bytes → nodes_at total l next front n bytes ≡ Ok y
    → Takes bytes (flat_map node_text y.0) y.1 × (length y.0 ≡ n) × AreNodes l next front y.0
unfolding nodes_at
nodes_take total l next zero front bytes y fits e =
    subst (λ (x : List Node × List ℕ). Takes bytes (flat_map node_text x.0) x.1 × (length x.0 ≡ 0) × AreNodes l next front x.0) (ok_is ([], bytes) y e) (record { parts = refl; rest_fits = fits }, refl, tt)
nodes_take total l next (suc n) front bytes y fits e =
    let a = bind_ok (node_at total l next front bytes) _ y e in
    let b = bind_ok (nodes_at total l next (front ++ a.0.0 ∷ []) n a.0.1) _ y a.2 in
    let first = node_takes total l next front bytes a.0 fits a.1 in
    let others = nodes_take total l next n (front ++ a.0.0 ∷ []) a.0.1 b.0 first.0.rest_fits b.1 in
    let both = Takes-then bytes (node_text a.0.0) a.0.1 (flat_map node_text b.0.0) b.0.1 first.0 others.0 in
    let follows = first.1 in
    subst (λ (x : List Node × List ℕ). Takes bytes (flat_map node_text x.0) x.1 × (length x.0 ≡ suc n) × AreNodes l next front x.0) (ok_is (a.0.0 ∷ b.0.0, b.0.1) y b.2)
    (both, ap suc others.1, (follows.rises, follows.below, follows.unique, follows.node, others.2))

pub nodes_again : (total : ℕ) (l : Layout) (next : ℕ) (ns front : List Node) (rest : List ℕ) → IsLayout l → next ≤ greatest_number → AreNodes l next front ns
    → nodes_at total l next front (length ns) (flat_map node_text ns ++ rest) ≡ Ok (ns, rest)
unfolding nodes_at
nodes_again total l next [] front rest layout high are = refl
nodes_again total l next (n ∷ ns) front rest layout high are =
    let regrouped : flat_map node_text (n ∷ ns) ++ rest ≡ node_text n ++ (flat_map node_text ns ++ rest) = append_assoc (node_text n) (flat_map node_text ns) rest in
    let follows : MayFollow l next front n = record { rises = are.0; below = are.1; unique = are.2; node = are.3 } in
    ap (nodes_at total l next front (suc (length ns))) regrouped
    ∙ rw (node_again total l next front n (flat_map node_text ns ++ rest) layout high follows, nodes_again total l next ns (front ++ n ∷ []) rest layout high are.4) refl
