-- No fault of reading a table is behind its bytes.
use Rattle.std.proofs.Common.{◌≡◌, ℕ, zero, suc, ◌≤◌, Bool, true, false, List, length, Option, Some, None, arith}
use Rattle.std.specs.Prelude.{Result, Ok, Err, IfErr, ⊤}
use Rattle.std.specs.Option.{ok_or}
use Rattle.sis_disk.specs.declared.layout.Layout.{Layout}
use Rattle.sis_disk.specs.declared.layout.TableKind.{TableKind}
use Rattle.sis_table.specs.Volume.{VolumeTable}
use Rattle.sis_ranges.specs.declared.run.Run.{Run}
use Rattle.sis_table.specs.declared.node.Node.{Node}
use Rattle.sis_table.specs.declared.kind.NodeKind.{NodeKind}
use Rattle.sis_table.specs.declared.fault.TableFault.{TableFault}
use Rattle.sis_table.specs.declared.fault.TableFault.TheVariants as table
use Rattle.sis_table.specs.Reading.{Fault, IsWithin, number_at, units_at, kind_at, named_at, run_at, runs_at, map_at, node_at, nodes_at, head_at, table_at, here, named}
use Rattle.sis_reading.specs.Steps.{◌>>=◌}
use Rattle.sis_reading.specs.Steps.{Fails, Gives, guard}

abbrev Below : {A : Type 0} → ℕ → Result A Fault → Type 0
Below n (Ok x) = ⊤
Below n (Err fault) = fault.0 ≤ n

record Within {A : Type 0} (n : ℕ) (r : Result A Fault) : Type 0 where
  pub below : Below n r

then_within : {A B : Type 0} (n : ℕ) (r : Result A Fault) (f : A → Result B Fault) → Within n r → ((x : A) → Within n (f x)) → Within n (r >>= f)
then_within n (Ok x) f h k = k x
then_within n (Err e) f h k = record { below = h.below }

guard_within : {A : Type 0} (n : ℕ) (bytes : List ℕ) (k : TableKind) (wrong : Bool) (x : A) → Within n (guard (here n bytes k) wrong x)
guard_within n bytes k true x = record { below = omega arith }
guard_within n bytes k false x = record { below = tt }

ok_within : {A : Type 0} (n : ℕ) (x : A) → Within n (Ok x)
ok_within n x = record { below = tt }

number_within : (k n : ℕ) (bytes : List ℕ) → Within n (number_at k n bytes)
unfolding number_at
number_within k n bytes = guard_within n bytes _ _ _

units_within : (n : ℕ) (bytes : List ℕ) → Within n (units_at n bytes)
unfolding units_at
units_within n bytes = search (then_within, guard_within, number_within, ok_within)

kind_within : (n : ℕ) (o : Option NodeKind) (rule : TableKind) (bytes : List ℕ) → Within n (ok_or o (here n bytes rule))
kind_within n None rule bytes = record { below = omega arith }
kind_within n (Some x) rule bytes = record { below = tt }

kind_at_within : (n : ℕ) (bytes : List ℕ) → Within n (kind_at n bytes)
unfolding kind_at
kind_at_within n bytes = search (then_within, kind_within, number_within, ok_within)

named_within : (n : ℕ) (front : List Node) (bytes : List ℕ) → Within n (named_at n front bytes)
unfolding named_at
named_within n front bytes = search (then_within, guard_within, kind_at_within, ok_within, units_within)

run_within : (n : ℕ) (l : Layout) (blocks : ℕ) (before : Option Run) (bytes : List ℕ) → Within n (run_at n l blocks before bytes)
unfolding run_at
run_within n l blocks before bytes = search (then_within, guard_within, number_within, ok_within) depth 20

runs_within : (n : ℕ) (l : Layout) (blocks : ℕ) (before : Option Run) (k : ℕ) (bytes : List ℕ) → Within n (runs_at n l blocks before k bytes)
unfolding runs_at
runs_within n l blocks before zero bytes = ok_within n _
runs_within n l blocks before (suc k) bytes =
    let others : (r : Option Run) (rest : List ℕ) → Within n (runs_at n l blocks r k rest) = λ r rest. runs_within n l blocks r k rest in
    search (then_within, ok_within, run_within, others)

map_within : (n : ℕ) (l : Layout) (blocks k : ℕ) (bytes : List ℕ) → Within n (map_at n l blocks k bytes)
unfolding map_at
map_within n l blocks k bytes = search (then_within, ok_within, runs_within)

node_within : (n : ℕ) (l : Layout) (next : ℕ) (front : List Node) (bytes : List ℕ) → Within n (node_at n l next front bytes)
unfolding node_at
node_within n l next front bytes = search (then_within, guard_within, number_within, ok_within, named_within, map_within) depth 20

nodes_within : (n : ℕ) (l : Layout) (next : ℕ) (front : List Node) (k : ℕ) (bytes : List ℕ) → Within n (nodes_at n l next front k bytes)
unfolding nodes_at
nodes_within n l next front zero bytes = ok_within n _
nodes_within n l next front (suc k) bytes =
    let others : (ns : List Node) (rest : List ℕ) → Within n (nodes_at n l next ns k rest) = λ ns rest. nodes_within n l next ns k rest in
    search (then_within, ok_within, node_within, others)

head_within : (n : ℕ) (bytes : List ℕ) → Within n (head_at n bytes)
unfolding head_at
head_within n bytes = search (then_within, guard_within, number_within, ok_within) depth 20

table_within : (l : Layout) (bytes : List ℕ) → Within (length bytes) (table_at l bytes)
unfolding table_at
table_within l bytes = search (then_within, guard_within, ok_within, head_within, nodes_within)

-- so an offset that is answered isn't behind the bytes
fault_within : {A : Type 0} (n : ℕ) (r : Result A Fault) (at : ℕ) (k : TableKind) → Within n r → r ≡ Err (at, k) → at ≤ n
fault_within n (Ok x) at k h e = absurd cc
fault_within n (Err f) at k h e = let same : f.0 ≡ at = cc in omega (arith, h.below)

is_within : {A : Type 0} (n : ℕ) (fault : TableFault) (r : Result A Fault) → Within n r → Fails (named fault) r → IsWithin n fault
is_within n (table.At at k) r h e = fault_within n r at k h e
is_within n table.Memory r h e = tt

-- the same of what a function returned
all_within : {X Y : Type 0} (n : ℕ) (view : X → Y) (result : Result X TableFault) (r : Result Y Fault) → Within n r → Gives named view result r → IfErr result (IsWithin n)
all_within n view (Ok x) r h e = tt
all_within n view (Err fault) r h e = is_within n fault r h e

pub read_within : {X : Type 0} (view : X → VolumeTable) (l : Layout) (bytes : List ℕ) (result : Result X TableFault) → Gives named view result (table_at l bytes) → IfErr result (IsWithin (length bytes))
read_within view l bytes result h = all_within (length bytes) view result (table_at l bytes) (table_within l bytes) h
