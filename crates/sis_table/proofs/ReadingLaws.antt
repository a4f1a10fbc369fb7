-- The two laws of reading: what is read is spelled so, and what is spelled so is read.
use Rattle.std.proofs.Common.{◌≡◌, ℕ, ◌^◌, ◌<◌, ◌≤◌, List, [], ◌++◌, length, Ok, refl, sym, ap, subst, ◌∙◌, arith}
use Rattle.std.specs.List.{flat_map}
use Rattle.std.proofs.lemmas.Bool.{le-ltb, ltb-false}
use Rattle.std.proofs.lemmas.List.{append-nil, nil_from_length}
use Rattle.byteorder.specs.Endian.{little_bytes}
use Rattle.sis_disk.specs.declared.layout.Layout.{Layout}
use Rattle.sis_disk.specs.declared.layout.TableKind.TheVariants as kinds
use Rattle.sis_disk.specs.Layout.{IsLayout}
use Rattle.sis_table.specs.Volume.{VolumeTable, IsTable, greatest_number, most_nodes}
use Rattle.sis_table.specs.Spelling.{le4, le8, node_text, spelling}
use Rattle.sis_table.specs.Reading.{head_at, nodes_at, table_at, here}
use Rattle.sis_table.proofs.ReadingSteps.{none_above, IsBytes, Takes, Takes-then, number_step, number_back}
use Rattle.sis_reading.proofs.StepLemmas.{bind_ok, ok_is, guard_ok, bind_again, guard_again}
use Rattle.sis_table.proofs.ReadingNodes.{counted_from, counted_to, nodes_take, nodes_again}

-- next id, greatest index and number of files
abbrev head_text : ℕ → ℕ → ℕ → List ℕ
head_text next greatest count = little_bytes 8 next ++ (little_bytes 8 greatest ++ little_bytes 4 count)

record IsHead (next greatest count : ℕ) : Type 0 where
  next_low : 1 ≤ next
  next_high : next ≤ greatest_number
  limit : greatest ≤ greatest_number
  few : count ≤ most_nodes

head_takes : (total : ℕ) (bytes : List ℕ) (y : ℕ × ℕ × ℕ × List ℕ) → IsBytes bytes → head_at total bytes ≡ Ok y → Takes bytes (head_text y.0 y.1 y.2) y.3 × IsHead y.0 y.1 y.2
unfolding head_at
head_takes total bytes y fits e =
    let a = number_step 8 total bytes _ y fits e in
    let ga = guard_ok (here total bytes kinds.Next) _ _ _ y a.3 in
    let b = number_step 8 total a.0.1 _ y a.1.rest_fits ga.1 in
    let gb = guard_ok (here total a.0.1 kinds.Greatest) _ _ _ y b.3 in
    let c = number_step 4 total b.0.1 _ y b.1.rest_fits gb.1 in
    let gc = guard_ok (here total b.0.1 kinds.Count) _ _ _ y c.3 in
    let bc = Takes-then a.0.1 (little_bytes 8 b.0.0) b.0.1 (little_bytes 4 c.0.0) c.0.1 b.1 c.1 in
    let abc = Takes-then bytes (little_bytes 8 a.0.0) a.0.1 (little_bytes 8 b.0.0 ++ little_bytes 4 c.0.0) c.0.1 a.1 bc in
    let next = counted_from a.0.0 greatest_number ga.0 in
    let head : IsHead a.0.0 b.0.0 c.0.0 = record { next_low = next.0; next_high = next.1; limit = ltb-false greatest_number b.0.0 gb.0; few = ltb-false most_nodes c.0.0 gc.0 } in
    subst (λ (x : ℕ × ℕ × ℕ × List ℕ). Takes bytes (head_text x.0 x.1 x.2) x.3 × IsHead x.0 x.1 x.2) (ok_is (a.0.0, b.0.0, c.0.0, c.0.1) y gc.1) (abc, head)

head_again : (total next greatest count : ℕ) (rest : List ℕ) → IsHead next greatest count → head_at total (little_bytes 8 next ++ (little_bytes 8 greatest ++ (little_bytes 4 count ++ rest))) ≡ Ok (next, greatest, count, rest)
unfolding head_at
head_again total next greatest count rest head =
    let next_high = head.next_high in
    let greatest_high = head.limit in
    let few = head.few in
    let next_fits : next < 256 ^ 8 = omega arith in
    let greatest_fits : greatest < 256 ^ 8 = omega arith in
    let count_fits : count < 256 ^ 4 = omega arith in
    let behind_greatest = little_bytes 4 count ++ rest in
    let behind_next = little_bytes 8 greatest ++ behind_greatest in
    number_back 8 total next behind_next _ _ next_fits
    (guard_again (here total (little_bytes 8 next ++ behind_next) kinds.Next) _ _ _ _ (counted_to next greatest_number head.next_low head.next_high)
    (number_back 8 total greatest behind_greatest _ _ greatest_fits
    (guard_again (here total behind_next kinds.Greatest) _ _ _ _ (le-ltb greatest_number greatest head.limit)
    (number_back 4 total count rest _ _ count_fits
    (guard_again (here total behind_greatest kinds.Count) _ _ _ _ (le-ltb most_nodes count head.few) refl)))))

-- what is read is spelled so, and is a table of the layout
pub table_at-found : (l : Layout) (bytes : List ℕ) (v : VolumeTable) → IsLayout l → IsBytes bytes → table_at l bytes ≡ Ok v → (bytes ≡ spelling v) × IsTable v × (v.layout ≡ l)
unfolding table_at spelling le8 le4
table_at-found l bytes v layout fits e =
    let bh = bind_ok (head_at (length bytes) bytes) _ v e in
    let h = bh.0 in
    let head = head_takes (length bytes) bytes bh.0 fits bh.1 in
    let bn = bind_ok (nodes_at (length bytes) l bh.0.0 [] bh.0.2 bh.0.3) _ v bh.2 in
    let nodes = nodes_take (length bytes) l bh.0.0 bh.0.2 [] bh.0.3 bn.0 head.0.rest_fits bn.1 in
    let g = guard_ok (here (length bytes) bn.0.1 kinds.Trailing) _ _ _ v bn.2 in
    let nothing : bn.0.1 ≡ [] = nil_from_length bn.0.1 (none_above (length bn.0.1) g.0) in
    let t : VolumeTable = record { layout = l; next_id = bh.0.0; greatest = bh.0.1; nodes = bn.0.0 } in
    let both = (Takes-then bytes (head_text bh.0.0 bh.0.1 bh.0.2) bh.0.3 (flat_map node_text bn.0.0) bn.0.1 head.0 nodes.0).parts in
    let whole : bytes ≡ head_text bh.0.0 bh.0.1 bh.0.2 ++ flat_map node_text bn.0.0 =
    both ∙ ap (λ (r : List ℕ). (head_text bh.0.0 bh.0.1 bh.0.2 ++ flat_map node_text bn.0.0) ++ r) nothing ∙ append-nil (head_text bh.0.0 bh.0.1 bh.0.2 ++ flat_map node_text bn.0.0) in
    let counted : bytes ≡ head_text bh.0.0 bh.0.1 (length bn.0.0) ++ flat_map node_text bn.0.0 =
    whole ∙ ap (λ (k : ℕ). head_text bh.0.0 bh.0.1 k ++ flat_map node_text bn.0.0) (sym nodes.1) in
    let limits = head.1 in
    let table : IsTable t = record {
      layout = layout;
      next_low = limits.next_low;
      next_high = limits.next_high;
      greatest = limits.limit;
      few = subst (λ (k : ℕ). k ≤ most_nodes) (sym nodes.1) limits.few;
      nodes = nodes.2;
    } in
    subst (λ (w : VolumeTable). (bytes ≡ spelling w) × IsTable w × (w.layout ≡ l)) (ok_is t v g.1) (counted, table, refl)

-- what is spelled so is read
pub table_at-only : (v : VolumeTable) → IsTable v → table_at v.layout (spelling v) ≡ Ok v
unfolding table_at spelling le8 le4
table_at-only v table =
    let head : IsHead v.next_id v.greatest (length v.nodes) = record { next_low = table.next_low; next_high = table.next_high; limit = table.greatest; few = table.few } in
    let text = flat_map node_text v.nodes in
    let total = length (spelling v) in
    let nodes : nodes_at total v.layout v.next_id [] (length v.nodes) text ≡ Ok (v.nodes, []) =
    ap (nodes_at total v.layout v.next_id [] (length v.nodes)) (sym (append-nil text)) ∙ nodes_again total v.layout v.next_id v.nodes [] [] table.layout table.next_high table.nodes in
    bind_again (head_at total (spelling v)) (v.next_id, v.greatest, length v.nodes, text) _ _ (head_again total v.next_id v.greatest (length v.nodes) text head)
    (bind_again (nodes_at total v.layout v.next_id [] (length v.nodes) text) (v.nodes, []) _ _ nodes refl)

-- two tables of a layout with one spelling are one
pub one_table : (a b : VolumeTable) → IsTable a → IsTable b → a.layout ≡ b.layout → spelling a ≡ spelling b → a ≡ b
one_table a b table_a table_b layout text =
    ok_is a b (sym (table_at-only a table_a) ∙ ap (λ (l : Layout). table_at l (spelling a)) layout ∙ ap (table_at b.layout) text ∙ table_at-only b table_b)

-- what is spelled so, as a reader meets it
pub only_this : (l : Layout) (bytes : List ℕ) (v : VolumeTable) → IsTable v → v.layout ≡ l → bytes ≡ spelling v → table_at l bytes ≡ Ok v
only_this l bytes v table layout text = ap (table_at l) text ∙ ap (λ (k : Layout). table_at k (spelling v)) (sym layout) ∙ table_at-only v table
