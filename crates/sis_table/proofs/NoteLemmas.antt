-- What is noted of an edit before it is made.
use Rattle.std.proofs.Common.{◌≡◌, ℕ, ◌+◌, ◌-◌, ◌<◌, ◌≤◌, Bool, true, false, cond, ◌||◌, List, [], ◌∷◌, ◌++◌, map, Option, None, Some, refl, sym, ap, ◌∙◌, subst, arith, ⊎_elim}
use Rattle.std.specs.Prelude.{◌==◌, ◌^◌, min}
use Rattle.std.specs.List.{AllByRecursion, list_any, range_with_len}
use Rattle.std.specs.FinMap.{FinMap, get, values}
use Rattle.std.specs.Ordering.{nat_cmp}
use Rattle.std.proofs.lemmas.Bool.{cases_lt}
use Rattle.std.proofs.lemmas.Bool.Decides.{nat_tests}
use Rattle.sis_disk.specs.declared.layout.Layout.{Layout}
use Rattle.sis_disk.specs.Layout.{first_place}
use Rattle.sis_ranges.specs.declared.run.Run.{Run}
use Rattle.sis_ranges.specs.Extents.{AreRuns, IsPart, block_end, has_place, in_stretch, place_of, runs_of}
use Rattle.sis_ranges.proofs.CallerLemmas.{AreRuns-runs_of, place_of-runs_of}
use Rattle.sis_ranges.proofs.CutLemmas.{place_of-in}
use Rattle.sis_ranges.proofs.PlaceLemmas.{has_place-values}
use Rattle.sis_table.specs.declared.edit.Edit.TheVariants as edit
use Rattle.sis_table.specs.declared.node.Node.{Node}
use Rattle.sis_table.specs.declared.place_use.PlaceUse.{PlaceUse}
use Rattle.sis_table.specs.Edits.{MayEdit, MayMap, IfThere, stretch}
use Rattle.sis_table.specs.Inside.{Frees, Notes, freed, lies_at, lies_between, maps_by}
use Rattle.sis_table.specs.Uses.{IsDataUse, has_use, used_after}
use Rattle.sis_table.specs.Volume.{VolumeTable, IsTable, node_with, place_by, place_in}
use Rattle.sis_table.proofs.MapLemmas.{later_place}
use Rattle.sis_table.proofs.UseLemmas.{between-found, both_ways, found-between, placed-at, used_after-append}

all_push : {X : Type 0} (P : X → Type 0) (xs : List X) (x : X) → AllByRecursion P xs → P x → AllByRecursion P (xs ++ x ∷ [])
all_push P [] x all one = (one, tt)
all_push P (y ∷ ys) x all one = (all.0, all_push P ys x all.1 one)

-- ---- blocks that are taken out

none_between : (at : ℕ → Option ℕ) (first place : ℕ) → lies_between at first first place ≡ false
none_between at first place = let e : first - first ≡ 0 = omega arith in ap (λ (n : ℕ). list_any (λ block. lies_at place (at block)) (range_with_len first n)) e

-- none yet
pub frees_none : (at : ℕ → Option ℕ) (first : ℕ) (uses : List PlaceUse) → Frees (lies_between at first first) at uses uses
frees_none at first uses = record {
  told = λ place before. ap (λ (b : Bool). cond b false (used_after uses place before)) (sym (none_between at first place));
  places = λ l placed all. all;
}

module _ (m : FinMap nat_cmp ℕ) (first from below : ℕ) (r : Run) (le : first ≤ from) (part : IsPart m from below r) where
  -- a block of the part, or of what was taken out before it
  more_between : (place : ℕ) → lies_between (get m) first (block_end r) place ≡ cond (has_use place (freed r)) true (lies_between (get m) first from place)
  more_between place = by (has_use place (freed r)) refl
    where
      ends : from ≤ block_end r
      ends = omega (arith, part.low)

      here : has_use place (freed r) ≡ true → lies_between (get m) first (block_end r) place ≡ true
      here has =
          let low : r.place ≤ place = grind (arith, nat_tests, has) in
          let high : place < r.place + r.count = grind (arith, nat_tests, has) in
          let at : r.place + (r.first + (place - r.place) - r.first) ≡ place = omega (arith, low) in
          found-between (get m) first (block_end r) place (r.first + (place - r.place)) (omega (arith, le, part.low)) (omega (arith, low, high))
          (part.mapped (r.first + (place - r.place)) (omega arith) (omega (arith, low, high)) ∙ ap (λ (p : ℕ). Some p) at)

      sooner : has_use place (freed r) ≡ false → lies_between (get m) first (block_end r) place ≡ true → lies_between (get m) first from place ≡ true
      sooner not_it is =
          let one = between-found (get m) first (block_end r) place is in
          ⊎_elim (λ (lt : one.block < from). found-between (get m) first from place one.block one.low lt one.lies)
          (λ (ge : from ≤ one.block). ⊎_elim (λ (lt : one.block < r.first). (let none = part.gap one.block ge lt in let some = one.lies in cc))
          (λ (in_it : r.first ≤ one.block).
          let told : Some (r.place + (one.block - r.first)) ≡ Some place = sym (part.mapped one.block in_it one.high) ∙ one.lies in
          let at : r.place + (one.block - r.first) ≡ place = cc in
          let has : has_use place (freed r) ≡ true = grind (arith, nat_tests, at, in_it, one.high) in
          cc)
          (cases_lt one.block r.first))
          (cases_lt one.block from)

      later : lies_between (get m) first from place ≡ true → lies_between (get m) first (block_end r) place ≡ true
      later is =
          let one = between-found (get m) first from place is in
          found-between (get m) first (block_end r) place one.block one.low (omega (arith, one.high, ends)) one.lies

      by : (b : Bool) → has_use place (freed r) ≡ b → lies_between (get m) first (block_end r) place ≡ cond b true (lies_between (get m) first from place)
      by true has = here has
      by false has = both_ways (lies_between (get m) first (block_end r) place) (lies_between (get m) first from place) (sooner has) later

  part_use : (l : Layout) → ((block place : ℕ) → get m block ≡ Some place → (first_place l ≤ place) × (place < l.total)) → IsDataUse l (freed r)
  part_use l placed =
      let start = placed r.first (r.place + (r.first - r.first)) (part.mapped r.first (omega arith) (omega (arith, part.some))) in
      let last = placed (block_end r - 1) (r.place + (block_end r - 1 - r.first)) (part.mapped (block_end r - 1) (omega (arith, part.some)) (omega (arith, part.some))) in
      record { some = part.some; low = omega (arith, start.0); high = omega (arith, part.some, last.1) }

  -- one more part
  pub frees_more : (old uses : List PlaceUse) → Frees (lies_between (get m) first from) (get m) old uses → Frees (lies_between (get m) first (block_end r)) (get m) old (uses ++ freed r ∷ [])
  frees_more old uses h = record {
    told = λ place before.
        used_after-append uses (freed r ∷ []) place before
        ∙ ap (λ (b : Bool). cond (has_use place (freed r)) false b) (h.told place before)
        ∙ elim (has_use place (freed r)) as (λ b. cond b false (cond (lies_between (get m) first from place) false (used_after old place before)) ≡ cond (cond b true (lies_between (get m) first from place)) false (used_after old place before)) [
          | true ↦ refl
          | false ↦ refl
        ]
        ∙ sym (ap (λ (b : Bool). cond b false (used_after old place before)) (more_between place));
    places = λ l placed all. all_push (IsDataUse l) uses (freed r) (h.places l placed all) (part_use l placed);
  }

-- and no more
pub frees_all : (at : ℕ → Option ℕ) (first from below : ℕ) (old uses : List PlaceUse) → from ≤ below → ((q : ℕ) → from ≤ q → q < below → at q ≡ None) → Frees (lies_between at first from) at old uses → Frees (lies_between at first below) at old uses
frees_all at first from below old uses le none h = record {
  told = λ place before. h.told place before ∙ ap (λ (b : Bool). cond b false (used_after old place before)) (both_ways (lies_between at first from place) (lies_between at first below place) (later place) (sooner place));
  places = h.places;
}
  where
    later : (place : ℕ) → lies_between at first from place ≡ true → lies_between at first below place ≡ true
    later place is = let one = between-found at first from place is in found-between at first below place one.block one.low (omega (arith, one.high, le)) one.lies

    sooner : (place : ℕ) → lies_between at first below place ≡ true → lies_between at first from place ≡ true
    sooner place is =
        let one = between-found at first below place is in
        ⊎_elim (λ (lt : one.block < from). found-between at first from place one.block one.low lt one.lies)
        (λ (ge : from ≤ one.block). (let e = none one.block ge one.high in let f = one.lies in cc)) (cases_lt one.block from)

nothing_between : (n first place : ℕ) (at : ℕ → Option ℕ) → ((q : ℕ) → at q ≡ None) → lies_between at first (first + n) place ≡ false
nothing_between n first place at none = by (lies_between at first (first + n) place) refl
  where
    by : (b : Bool) → lies_between at first (first + n) place ≡ b → b ≡ false
    by false e = refl
    by true e = let one = between-found at first (first + n) place e in let f = none one.block in let g = one.lies in cc

-- none, where there are no blocks
pub frees_nothing : (at : ℕ → Option ℕ) (first end : ℕ) (uses : List PlaceUse) → first ≤ end → ((q : ℕ) → at q ≡ None) → Frees (lies_between at first end) at uses uses
frees_nothing at first end uses le none = frees_all at first first end uses uses le (λ q low high. none q) (frees_none at first uses)

-- ---- all blocks of a file

used_freed : (runs : List Run) (place : ℕ) (before : Bool) → used_after (map freed runs) place before ≡ cond (list_any (has_place place) runs) false before
used_freed [] place before = refl
used_freed (r ∷ rs) place before =
    used_freed rs place (cond (has_place place r) false before)
    ∙ by (has_place place r) (list_any (has_place place) rs)
  where
    by : (a b : Bool) → cond b false (cond a false before) ≡ cond (a || b) false before
    by true true = refl
    by true false = refl
    by false b = refl

runs_use : (l : Layout) (runs : List Run) → AreRuns runs → ((block place : ℕ) → place_of runs block ≡ Some place → (first_place l ≤ place) × (place < l.total)) → AllByRecursion (IsDataUse l) (map freed runs)
runs_use l [] are placed = tt
runs_use l (r ∷ rs) are placed =
    let start = placed r.first (r.place + (r.first - r.first)) (place_of-in r rs r.first (omega arith) (omega (arith, are.0))) in
    let last = placed (block_end r - 1) (r.place + (block_end r - 1 - r.first)) (place_of-in r rs (block_end r - 1) (omega (arith, are.0)) (omega (arith, are.0))) in (
      record { some = are.0; low = omega (arith, start.0); high = omega (arith, are.0, last.1) },
      runs_use l rs are.2 (λ block place is. placed block place (later_place r rs block place are is)),
    )

all_both : {X : Type 0} (P : X → Type 0) (xs ys : List X) → AllByRecursion P xs → AllByRecursion P ys → AllByRecursion P (xs ++ ys)
all_both P [] ys all more = more
all_both P (x ∷ xs) ys all more = (all.0, all_both P xs ys all.1 more)

-- what was noted of a map's runs
pub frees_runs : (m : FinMap nat_cmp ℕ) (runs : List Run) (old new : List PlaceUse) → runs ≡ runs_of m → new ≡ old ++ map freed runs → Frees (λ place. list_any (λ p. p == place) (values m)) (get m) old new
frees_runs m runs old new same is = record {
  told = λ place before.
      ap (λ (us : List PlaceUse). used_after us place before) is ∙ used_after-append old (map freed runs) place before ∙ used_freed runs place (used_after old place before)
      ∙ ap (λ (b : Bool). cond b false (used_after old place before)) (ap (list_any (has_place place)) same ∙ sym (has_place-values m place));
  places = λ l placed all. subst (AllByRecursion (IsDataUse l)) (sym is)
      (all_both (IsDataUse l) old (map freed runs) all (subst (λ (rs : List Run). AllByRecursion (IsDataUse l) (map freed rs)) (sym same)
      (runs_use l (runs_of m) (AreRuns-runs_of m) (λ block place at. placed block place (sym (place_of-runs_of m block) ∙ at)))));
}

-- ---- of the file with an id

pub frees_file : (o : Option Node) (n : Node) (old new : List PlaceUse) → o ≡ Some n → Frees (λ place. list_any (λ p. p == place) (values n.map)) (get n.map) old new → Frees (maps_by o) (place_by o) old new
frees_file o n old new is frees = subst (λ (p : Option Node). Frees (maps_by p) (place_by p) old new) (sym is) frees

pub frees_stretch : (o : Option Node) (n : Node) (first end : ℕ) (old new : List PlaceUse) → o ≡ Some n → Frees (lies_between (get n.map) first end) (get n.map) old new → Frees (lies_between (place_by o) first end) (place_by o) old new
frees_stretch o n first end old new is frees = subst (λ (p : Option Node). Frees (lies_between (place_by p) first end) (place_by p) old new) (sym is) frees

pub frees_no_stretch : (o : Option Node) (first end : ℕ) (uses : List PlaceUse) → first ≤ end → o ≡ None → Frees (lies_between (place_by o) first end) (place_by o) uses uses
frees_no_stretch o first end uses le is = subst (λ (p : Option Node). Frees (lies_between (place_by p) first end) (place_by p) uses uses) (sym is) (frees_nothing (place_by None) first end uses le (λ q. refl))

-- ---- edits

placed_in : (v : VolumeTable) (id : ℕ) → IsTable v → (block place : ℕ) → place_in v id block ≡ Some place → (first_place v.layout ≤ place) × (place < v.layout.total)
placed_in v id h block place is = let p = placed-at v id block place h is in (p.1, p.2)

pub notes_drop : (v : VolumeTable) (id : ℕ) (old new : List PlaceUse) → IsTable v → Frees (maps_by (node_with v id)) (place_in v id) old new → Notes v (edit.Drop id) old new
notes_drop v id old new h frees = record { told = frees.told; places = frees.places v.layout (placed_in v id h) }

-- no block lies anywhere at the limit or behind it
none_behind : (v : VolumeTable) (id block : ℕ) → IsTable v → 2 ^ 24 ≤ block → place_in v id block ≡ None
none_behind v id block h ge = by (place_in v id block) refl
  where
    by : (o : Option ℕ) → place_in v id block ≡ o → o ≡ None
    by None is = refl
    by (Some place) is = absurd (omega (arith, ge, (placed-at v id block place h is).0))

-- what was noted of a stretch that was cut at the greatest number of 64 bits
pub notes_unmap : (v : VolumeTable) (id first count end : ℕ) (old new : List PlaceUse) → IsTable v → end ≡ min (first + count) (2 ^ 64 - 1)
    → Frees (lies_between (place_in v id) first end) (place_in v id) old new → Notes v (edit.Unmap id first count) old new
notes_unmap v id first count end old new h is noted =
    let frees = frees_all (place_in v id) first end (first + count) old new (omega (arith, is)) (λ block low high. none_behind v id block h (omega (arith, is, low, high))) noted in
    record { told = frees.told; places = frees.places v.layout (placed_in v id h) }

abbrev pub taken : ℕ → ℕ → PlaceUse
taken place count = record { place = place; count = count; is_taken = true }

use_of : (l : Layout) (first count place : ℕ) (o : Option Node) → IfThere o (λ n. MayMap l n (stretch first count place)) → IsDataUse l (taken place count)
use_of l first count place None h = absurd h
use_of l first count place (Some n) h = record { some = h.some; low = h.low; high = h.high }

pub notes_map : (v : VolumeTable) (id first count place : ℕ) (old new : List PlaceUse) → IsTable v → MayEdit v (edit.Map id first count place) → Frees (lies_between (place_in v id) first (first + count)) (place_in v id) old new
    → Notes v (edit.Map id first count place) old (new ++ taken place count ∷ [])
notes_map v id first count place old new h may frees = record {
  told = λ p before.
      used_after-append new (taken place count ∷ []) p before
      ∙ ap (λ (b : Bool). cond (in_stretch place count p) true b) (frees.told p before);
  places = λ all. all_push (IsDataUse v.layout) new (taken place count) (frees.places v.layout (placed_in v id h) all) (use_of v.layout first count place (node_with v id) may);
}
