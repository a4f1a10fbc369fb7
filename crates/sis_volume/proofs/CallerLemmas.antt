-- What callers cite: how many places are fresh, and what stands while blocks are lent.
use Rattle.std.proofs.Common.{◌≡◌, ℕ, zero, suc, ◌+◌, ◌-◌, ◌≤◌, ◌<◌, Bool, true, false, not, cond, List, [], ◌∷◌, get_or, refl, sym, ap, ◌∙◌, arith}
use Rattle.std.specs.Prelude.{nat_le, nat_lt, ◌&&◌, ◌||◌}
use Rattle.std.specs.List.{list_any}
use Rattle.std.proofs.lemmas.Bool.{true≢false}
use Rattle.std.proofs.lemmas.Bool.Decides.{nat_tests}
use Rattle.sis_disk.specs.declared.layout.Layout.{Layout}
use Rattle.sis_disk.specs.Layout.{first_place, data_blocks}
use Rattle.sis_places.specs.Places.{PlacesView}
use Rattle.sis_places.proofs.Tally.{tally, count-tally, tally-none, tally-same}
use Rattle.sis_table.specs.Volume.{used_places}
use Rattle.sis_table.specs.declared.edit.Edit.{Edit}
use Rattle.sis_table.specs.declared.edit.Edit.TheVariants as edit
use Rattle.sis_volume.specs.Stopping.{IsCommitted}
use Rattle.sis_volume.specs.View.{TxnView, VolumeView, count_of, fresh, held, is_data, is_fresh, is_spare, maps_to}

-- ---- how many places are fresh

-- fewer pass a test that asks for more, but for those of a third test
tally-less : (f g h : ℕ → Bool) (a n : ℕ) → ((i : ℕ) → f i ≡ true → (g i || h i) ≡ true)
    → tally f a n ≤ tally g a n + tally h a n
tally-less f g h a zero imp = omega arith
tally-less f g h a (suc n) imp =
    step (f a) (g a) (h a) (imp a) (tally-less f g h (a + 1) n imp)
  where
    step : (x y z : Bool) → (x ≡ true → (y || z) ≡ true)
        → tally f (a + 1) n ≤ tally g (a + 1) n + tally h (a + 1) n
        → cond x 1 0 + tally f (a + 1) n
        ≤ cond y 1 0 + tally g (a + 1) n + (cond z 1 0 + tally h (a + 1) n)
    step true true true e le = omega arith
    step true true false e le = omega arith
    step true false true e le = omega arith
    step true false false e le = absurd (true≢false (sym (e refl)))
    step false true true e le = omega arith
    step false true false e le = omega arith
    step false false true e le = omega arith
    step false false false e le = omega arith

tally-never : (a n : ℕ) → tally (λ _. false) a n ≡ 0
tally-never a n = tally-none (λ _. false) a n (λ i ge. refl)

tally-le : (f g : ℕ → Bool) (a n : ℕ) → ((i : ℕ) → f i ≡ true → g i ≡ true) → tally f a n ≤ tally g a n
tally-le f g a n imp =
    omega (arith, tally-less f g (λ _. false) a n (λ i is. ap (λ (b : Bool). b || false) (imp i is)), tally-never a n)

-- a stretch has no more numbers than it is long
tally-stretch : (at count a n : ℕ) → (tally (λ i. nat_le at i && nat_lt i (at + count)) a n ≤ count)
    × (tally (λ i. nat_le at i && nat_lt i (at + count)) a n ≤ at + count - a)
tally-stretch at count a zero = (omega arith, omega arith)
tally-stretch at count a (suc n) =
    let rest = tally-stretch at count (a + 1) n in
    by (nat_le at a && nat_lt a (at + count)) refl rest.0 rest.1
  where
    more : ℕ
    more = tally (λ i. nat_le at i && nat_lt i (at + count)) (a + 1) n

    by : (b : Bool) → (nat_le at a && nat_lt a (at + count)) ≡ b → more ≤ count
        → more ≤ at + count - (a + 1)
        → (cond b 1 0 + more ≤ count) × (cond b 1 0 + more ≤ at + count - a)
    by true is few le =
        let ge : at ≤ a = grind (arith, nat_tests) in
        let lt : a < at + count = grind (arith, nat_tests) in
        (omega arith, omega arith)
    by false is few le = (omega arith, omega arith)

-- how many blocks an edit maps, and how many edits do
abbrev pub mapped_count : Edit → ℕ
mapped_count (edit.Make id kind name) = 0
mapped_count (edit.Drop id) = 0
mapped_count (edit.Rename id name) = 0
mapped_count (edit.Size id size) = 0
mapped_count (edit.Map id first count at) = count
mapped_count (edit.Unmap id first count) = 0
mapped_count (edit.Version id version) = 0

abbrev pub mapped_by : List Edit → ℕ
mapped_by [] = 0
mapped_by (e ∷ es) = mapped_count e + mapped_by es

module _ (l : Layout) (p : PlacesView) where
  tally_of : (edits : List Edit)
      → count_of l (is_fresh l p edits) ≡ tally (is_fresh l p edits) (first_place l) (data_blocks l)
  tally_of edits = count-tally (is_fresh l p edits) (first_place l) (data_blocks l)

  spare_of : count_of l (is_spare l p) ≡ tally (is_spare l p) (first_place l) (data_blocks l)
  spare_of = count-tally (is_spare l p) (first_place l) (data_blocks l)

  -- one edit more takes no more places than it maps
  fresh_edit : (edits : List Edit) (e : Edit) → count_of l (is_fresh l p edits)
      ≤ count_of l (is_fresh l p (e ∷ edits)) + mapped_count e
  fresh_edit edits e =
      let less = tally-less (is_fresh l p edits) (is_fresh l p (e ∷ edits)) (λ q. maps_to q e) (first_place l) (data_blocks l)
      (λ q is. part (is_spare l p q) (maps_to q e) (list_any (maps_to q) edits) is) in
      let few = mapped_few e (first_place l) (data_blocks l) in
      omega (arith, tally_of edits, tally_of (e ∷ edits), less, few)
    where
      part : (a m b : Bool) → (a && not b) ≡ true → (a && not (m || b) || m) ≡ true
      part true true b is = refl
      part true false b is = rw is refl
      part false m b is = absurd (true≢false (sym is))

      mapped_few : (e : Edit) (a n : ℕ) → tally (λ q. maps_to q e) a n ≤ mapped_count e
      mapped_few (edit.Make id kind name) a n = omega (arith, tally-never a n)
      mapped_few (edit.Drop id) a n = omega (arith, tally-never a n)
      mapped_few (edit.Rename id name) a n = omega (arith, tally-never a n)
      mapped_few (edit.Size id size) a n = omega (arith, tally-never a n)
      mapped_few (edit.Map id first count at) a n = (tally-stretch at count a n).0
      mapped_few (edit.Unmap id first count) a n = omega (arith, tally-never a n)
      mapped_few (edit.Version id version) a n = omega (arith, tally-never a n)

  -- without an edit what is spare is fresh
  pub fresh-unmapped : (edits : List Edit) → ((q : ℕ) → list_any (maps_to q) edits ≡ false)
      → count_of l (is_fresh l p edits) ≡ count_of l (is_spare l p)
  fresh-unmapped edits none =
      tally_of edits
      ∙ tally-same (is_fresh l p edits) (is_spare l p) (first_place l) (data_blocks l) (λ q ge lt.
      ap (λ (b : Bool). is_spare l p q && not b) (none q) ∙ and_true (is_spare l p q))
      ∙ sym spare_of
    where
      and_true : (b : Bool) → (b && true) ≡ b
      and_true true = refl
      and_true false = refl

  -- what is spare is fresh, but for what the edits map
  pub spare-fresh : (edits : List Edit)
      → count_of l (is_spare l p) ≤ count_of l (is_fresh l p edits) + mapped_by edits
  spare-fresh [] = omega (arith, fresh-unmapped [] (λ q. refl))
  spare-fresh (e ∷ es) = omega (arith, spare-fresh es, fresh_edit es e)

-- a commit makes no place less that is fresh
pub fresh-commit : (old new : VolumeView) (txn : TxnView) → IsCommitted old new
    → fresh old txn ≤ fresh new txn
fresh-commit old new txn done =
    let l = old.table.layout in
    let p : PlacesView = record { current = used_places old.table; committed = used_places old.table } in
    let is : fresh new txn ≡ count_of l (is_fresh l p txn.edits) = ap (λ (v : VolumeView). fresh v txn) done.same in
    let more = tally-le (is_fresh l (held old) txn.edits) (is_fresh l p txn.edits) (first_place l) (data_blocks l) (λ q is_q.
    part (is_data l q) (get_or (used_places old.table) (q - first_place l) false) (get_or old.committed (q - first_place l) false) (list_any (maps_to q) txn.edits) is_q) in
    omega (arith, tally_of l (held old) txn.edits, tally_of l p txn.edits)
  where
    part : (d a b m : Bool) → (d && (not a && not b) && not m) ≡ true
        → (d && (not a && not a) && not m) ≡ true
    part true false false m is = is
    part true false true m is = absurd (true≢false (sym is))
    part true true b m is = absurd (true≢false (sym is))
    part false a b m is = absurd (true≢false (sym is))
