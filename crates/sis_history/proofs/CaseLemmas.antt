-- Parts of the cases.
use Rattle.std.proofs.Common.{◌≡◌, ℕ, ◌+◌, ◌*◌, ◌≤◌, Bool, true, false, List, [], ◌∷◌, length, if◌then◌else◌, Option, Some, None, refl, ap, arith}
use Rattle.std.specs.FinMap.{empty, entries, entries-from_sorted, get, get-from_sorted, insert}
use Rattle.std.specs.Ordering.{nat_cmp}
use Rattle.std.proofs.lemmas.List.Sums.{sum_by-cons}
use Rattle.sis_disk.specs.Causes.{StaysUp}
use Rattle.sis_disk.specs.Record.{Call, DiskRecord}
use Rattle.sis_disk.specs.Stops.{Elapses}
use Rattle.sis_ranges.specs.Extents.{runs_of}
use Rattle.sis_ranges.proofs.CallerLemmas.{length-front, length-with_blocks, runs_of-map_of}
use Rattle.sis_model.specs.World.{bytes_of}
use Rattle.sis_name.specs.Units.{name_cmp}
use Rattle.sis_table.specs.Spelling.{node_len, spelling}
use Rattle.sis_table.specs.declared.node.Node.{Node}
use Rattle.sis_table.proofs.Lengths.{length-spelling}
use Rattle.sis_history.specs.RowCases.{block_at_6, map_after_write, name_a, name_b, plain, table_of, table_with_a, untold, world_with_a}

-- client 1's value changes, and the others' stay
pub by_client : {A : Type 0} (b : Bool) (before after others : A) (own other : A → A)
    → after ≡ own before → others ≡ other others
    → (if b then after else others)
    ≡ (if b then own (if b then before else others) else other (if b then before else others))
by_client true before after others own other mine same = mine
by_client false before after others own other mine same = same

pub same_either : {A : Type 0} (x : A) (b : Bool) → x ≡ (if b then x else x)
same_either x true = refl
same_either x false = refl

pub untold_elapse : (old new : ℕ) → old ≤ new → Elapses (untold old) (untold new)
untold_elapse old new le = record { size = refl; calls = le; faults = omega arith }

pub untold_up : (first old new : ℕ) → StaysUp first (untold old) (untold new)
untold_up first old new = record { told = refl }

abbrev pub calls_in : Option DiskRecord → List Call
calls_in None = []
calls_in (Some r) = r.calls

-- the block of the file
pub mapped : get block_at_6 0 ≡ Some 6
mapped = get-from_sorted nat_cmp ((0, 6) ∷ []) 0 tt

-- the second block isn't mapped
pub unmapped : get block_at_6 1 ≡ None
unmapped = get-from_sorted nat_cmp ((0, 6) ∷ []) 1 tt

pub listed : entries block_at_6 ≡ (0, 6) ∷ []
listed = entries-from_sorted nat_cmp ((0, 6) ∷ []) tt

-- ---- how long the tables are

table_len : (next : ℕ) (n : Node)
    → length (spelling (table_of next (n ∷ [])))
    ≡ 51 + 2 * length n.name + 24 * length (runs_of n.map)
table_len next n =
    omega (arith, length-spelling (table_of next (n ∷ [])), sum_by-cons node_len n [])

no_runs : length (runs_of empty) ≡ 0
no_runs = ap (λ rs. length rs) (runs_of-map_of [] tt)

one_run : length (runs_of block_at_6) ≡ 1
unfolding runs_of
one_run = rw listed refl

pub short_new : length (spelling (table_of 2 (plain 1 name_a 3 1 (insert empty 0 6) ∷ []))) ≤ 8184
short_new =
    omega (
      arith,
      table_len 2 (plain 1 name_a 3 1 (insert empty 0 6)),
      length-with_blocks empty (record { first = 0; count = 1; place = 6 }),
      no_runs,
    )

pub short_a : length (spelling table_with_a) ≤ 8184
short_a = omega (arith, table_len 2 (plain 1 name_a 1 1 block_at_6), one_run)

pub short_written : length (spelling (table_of 2 (plain 1 name_a 8193 2 map_after_write ∷ [])))
    ≤ 8184
short_written =
    let first = length-with_blocks block_at_6 (record { first = 0; count = 1; place = 7 }) in
    let second =
    length-with_blocks (insert block_at_6 0 7) (record { first = 2; count = 1; place = 8 }) in
    let front = length-front (insert (insert block_at_6 0 7) 2 8) 3 in
    let len = table_len 2 (plain 1 name_a 8193 2 map_after_write) in
    omega (arith, len, one_run, first, second, front)

pub short_renamed : length (spelling (table_of 2 (plain 1 name_b 1 1 block_at_6 ∷ []))) ≤ 8184
short_renamed = omega (arith, table_len 2 (plain 1 name_b 1 1 block_at_6), one_run)

-- ---- files

pub a_is_there : bytes_of (world_with_a []) name_a ≡ Some (97 ∷ [])
a_is_there = get-from_sorted name_cmp ((name_a, 97 ∷ []) ∷ []) name_a tt

pub b_is_free : bytes_of (world_with_a []) name_b ≡ None
b_is_free = get-from_sorted name_cmp ((name_a, 97 ∷ []) ∷ []) name_b tt
