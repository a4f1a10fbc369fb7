-- Reading items one after the other, as a loop does.
use Rattle.std.proofs.Common.{◌≡◌, ℕ, zero, suc, ◌-◌, ◌+◌, ◌≤◌, ◌<◌, List, [], ◌∷◌, ◌++◌, length, drop, get_or, Result, Ok, Err, Option, Some, refl, sym, ap, subst, ◌∙◌, append_assoc, arith}
use Rattle.std.proofs.lemmas.List.{append-nil}
use Rattle.byteorder.specs.Endian.{little_number}
use Rattle.sis_disk.specs.declared.layout.Layout.{Layout}
use Rattle.sis_ranges.specs.declared.run.Run.{Run}
use Rattle.sis_table.specs.declared.node.Node.{Node}
use Rattle.sis_table.specs.declared.fault.TableFault.{TableFault}
use Rattle.sis_table.specs.declared.fault.TableFault.TheVariants as faults
use Rattle.sis_table.specs.Volume.{last_id}
use Rattle.sis_table.specs.Reading.{Fault, units_of, run_at, runs_at, node_at, nodes_at, named}
use Rattle.sis_reading.specs.Steps.{◌>>=◌}
use Rattle.sis_reading.specs.Steps.{Fails}

-- what was read before, and what is still read
abbrev pub with_front : {A : Type 0} → List A → Result (List A × List ℕ) Fault → Result (List A × List ℕ) Fault
with_front front read = read >>= λ x. Ok (front ++ x.0, x.1)

regroup : {A : Type 0} (front : List A) (r : A) (read : Result (List A × List ℕ) Fault) → with_front front (read >>= λ x. Ok (r ∷ x.0, x.1)) ≡ with_front (front ++ r ∷ []) read
regroup {A = A} front r (Ok x) = ap (λ (rs : List A). Ok (rs, x.1)) (sym (append_assoc front (r ∷ []) x.0))
regroup front r (Err f) = refl

front_done : {A : Type 0} (front : List A) (bytes : List ℕ) → with_front front (Ok ([], bytes)) ≡ Ok (front, bytes)
front_done {A = A} front bytes = ap (λ (rs : List A). Ok (rs, bytes)) (append-nil front)

-- ---- units

pub unit_read : (front : List ℕ) (count i : ℕ) (bytes units : List ℕ) → i < count → front ++ units_of (count - i) bytes ≡ units
    → (front ++ little_number 2 bytes ∷ []) ++ units_of (count - (i + 1)) (drop 2 bytes) ≡ units
unit_read front count i bytes units lt so_far =
    let k : count - i ≡ suc (count - (i + 1)) = omega arith in
    let opened : front ++ units_of (count - i) bytes ≡ front ++ little_number 2 bytes ∷ units_of (count - (i + 1)) (drop 2 bytes) = ap (λ (n : ℕ). front ++ units_of n bytes) k in
    append_assoc front (little_number 2 bytes ∷ []) (units_of (count - (i + 1)) (drop 2 bytes)) ∙ sym opened ∙ so_far

pub units_read : (front : List ℕ) (count i : ℕ) (bytes units : List ℕ) → count ≤ i → front ++ units_of (count - i) bytes ≡ units → front ≡ units
units_read front count i bytes units le so_far =
    let k : count - i ≡ 0 = omega arith in
    sym (ap (λ (n : ℕ). front ++ units_of n bytes) k ∙ append-nil front) ∙ so_far

-- ---- runs

module _ (all : ℕ) (l : Layout) (blocks : ℕ) where
  pub run_read : (front : List Run) (count i : ℕ) (before : Option Run) (bytes : List ℕ) (r : Run) (after : List ℕ) (total : Result (List Run × List ℕ) Fault) → i < count → run_at all l blocks before bytes ≡ Ok (r, after)
      → with_front front (runs_at all l blocks before (count - i) bytes) ≡ total → with_front (front ++ r ∷ []) (runs_at all l blocks (Some r) (count - (i + 1)) after) ≡ total
  unfolding runs_at
  run_read front count i before bytes r after total lt h so_far =
      let k : count - i ≡ suc (count - (i + 1)) = omega arith in
      let one : with_front front (runs_at all l blocks before (count - i) bytes) ≡ with_front (front ++ r ∷ []) (runs_at all l blocks (Some r) (count - (i + 1)) after) = rw (k, h) (regroup front r (runs_at all l blocks (Some r) (count - (i + 1)) after)) in
      sym one ∙ so_far

  pub run_fails : (e : TableFault) (front : List Run) (count i : ℕ) (before : Option Run) (bytes : List ℕ) (total : Result (List Run × List ℕ) Fault) → i < count → Fails (named e) (run_at all l blocks before bytes)
      → with_front front (runs_at all l blocks before (count - i) bytes) ≡ total → Fails (named e) total
  unfolding runs_at
  run_fails faults.Memory front count i before bytes total lt h so_far = tt
  run_fails (faults.At at rule) front count i before bytes total lt h so_far =
      let k : count - i ≡ suc (count - (i + 1)) = omega arith in
      let one : with_front front (runs_at all l blocks before (count - i) bytes) ≡ Err (at, rule) = rw (k, h) refl in
      sym so_far ∙ one

  pub runs_read : (front : List Run) (count i : ℕ) (before : Option Run) (bytes : List ℕ) (total : Result (List Run × List ℕ) Fault) → count ≤ i → with_front front (runs_at all l blocks before (count - i) bytes) ≡ total → total ≡ Ok (front, bytes)
  unfolding runs_at
  runs_read front count i before bytes total le so_far =
      let k : count - i ≡ 0 = omega arith in
      let one : with_front front (runs_at all l blocks before (count - i) bytes) ≡ Ok (front, bytes) = rw k (front_done front bytes) in
      sym so_far ∙ one

pub small_next : {A : Type 0} (P : A → Type 0) (r x : A) → Some r ≡ Some x → P r → P x
small_next P r x e h = let same : r ≡ x = cc in subst P same h

-- ---- files

module _ (all : ℕ) (l : Layout) (next : ℕ) where
  pub node_read : (front : List Node) (count i : ℕ) (bytes : List ℕ) (n : Node) (after : List ℕ) (total : Result (List Node × List ℕ) Fault) → i < count → node_at all l next front bytes ≡ Ok (n, after)
      → with_front front (nodes_at all l next front (count - i) bytes) ≡ total → with_front (front ++ n ∷ []) (nodes_at all l next (front ++ n ∷ []) (count - (i + 1)) after) ≡ total
  unfolding nodes_at
  node_read front count i bytes n after total lt h so_far =
      let k : count - i ≡ suc (count - (i + 1)) = omega arith in
      let one : with_front front (nodes_at all l next front (count - i) bytes) ≡ with_front (front ++ n ∷ []) (nodes_at all l next (front ++ n ∷ []) (count - (i + 1)) after) = rw (k, h) (regroup front n (nodes_at all l next (front ++ n ∷ []) (count - (i + 1)) after)) in
      sym one ∙ so_far

  pub node_fails : (e : TableFault) (front : List Node) (count i : ℕ) (bytes : List ℕ) (total : Result (List Node × List ℕ) Fault) → i < count → Fails (named e) (node_at all l next front bytes)
      → with_front front (nodes_at all l next front (count - i) bytes) ≡ total → Fails (named e) total
  unfolding nodes_at
  node_fails faults.Memory front count i bytes total lt h so_far = tt
  node_fails (faults.At at rule) front count i bytes total lt h so_far =
      let k : count - i ≡ suc (count - (i + 1)) = omega arith in
      let one : with_front front (nodes_at all l next front (count - i) bytes) ≡ Err (at, rule) = rw (k, h) refl in
      sym so_far ∙ one

  pub nodes_read : (front : List Node) (count i : ℕ) (bytes : List ℕ) (total : Result (List Node × List ℕ) Fault) → count ≤ i → with_front front (nodes_at all l next front (count - i) bytes) ≡ total → total ≡ Ok (front, bytes)
  unfolding nodes_at
  nodes_read front count i bytes total le so_far =
      let k : count - i ≡ 0 = omega arith in
      let one : with_front front (nodes_at all l next front (count - i) bytes) ≡ Ok (front, bytes) = rw k (front_done front bytes) in
      sym so_far ∙ one

-- the last file's id
pub last_id_at : (ns : List Node) (d : Node) (i : ℕ) → i + 1 ≡ length ns → last_id ns ≡ (get_or ns i d).id
last_id_at [] d i e = absurd (omega arith)
last_id_at (n ∷ []) d zero e = refl
last_id_at (n ∷ []) d (suc i) e = absurd (omega arith)
last_id_at (n ∷ m ∷ ns) d zero e = absurd (omega arith)
last_id_at (n ∷ m ∷ ns) d (suc i) e = last_id_at (m ∷ ns) d i (omega arith)
