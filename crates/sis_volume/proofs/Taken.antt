-- Edits that map staged runs take places that no file maps.
use Rattle.std.proofs.Common.{◌≡◌, ℕ, ◌+◌, ◌-◌, ◌<◌, ◌≤◌, Bool, true, false, cond, eqb, ◌||◌, List, [], ◌∷◌, ◌++◌, map, Option, None, Some, refl, sym, ap, ◌∙◌, subst, arith, append_assoc}
use Rattle.std.specs.Prelude.{◌&&◌}
use Rattle.std.specs.List.{list_any}
use Rattle.std.proofs.lemmas.Bool.{true≢false}
use Rattle.std.proofs.lemmas.Bool.Decides.{nat_tests}
use Rattle.sis_disk.specs.declared.layout.Layout.{Layout}
use Rattle.sis_disk.specs.Layout.{first_place}
use Rattle.sis_places.specs.Places.{PlacesView}
use Rattle.sis_ranges.specs.declared.run.Run.{Run}
use Rattle.sis_ranges.specs.Extents.{has_block, in_stretch, place_end}
use Rattle.sis_table.specs.declared.edit.Edit.{Edit}
use Rattle.sis_table.specs.declared.edit.Edit.TheVariants as edit
use Rattle.sis_table.specs.Edits.{MayEdit, MayEditBy, edited, edited_by, map_edit, stretch}
use Rattle.sis_table.specs.Uses.{AreFree, TakesFresh}
use Rattle.sis_table.specs.Volume.{VolumeTable, IsTable, is_used, place_in, used_places}
use Rattle.sis_table.proofs.CallerLemmas.{IsTable-edited, LiesAt, place_in-drop, place_in-make, place_in-map, place_in-rename, place_in-size, place_in-unmap, place_in-version, used-at, used-from}
use Rattle.sis_volume.specs.Staging.{AreFreshRuns, IsFreshRun}
use Rattle.sis_volume.specs.View.{is_data, is_fresh, maps_to}
use Rattle.sis_volume.proofs.Freshness.{fresh_parts}
use Rattle.sis_volume.proofs.Volumes.{fresh-avoids_current}

or_left : (a b : Bool) → a ≡ true → (a || b) ≡ true
or_left true b e = refl
or_left false b e = absurd (true≢false (sym e))

or_right : (a b : Bool) → b ≡ true → (a || b) ≡ true
or_right true b e = refl
or_right false b e = e

is_false : (b : Bool) → (b ≡ true → ⊥) → b ≡ false
is_false true never = absurd (never refl)
is_false false never = refl

and_first : (a b : Bool) → (a && b) ≡ true → a ≡ true
and_first true b e = refl
and_first false b e = e

none_some : {P : Type 0} (place : ℕ) → ◌≡◌ {A = Option ℕ} None (Some place) → P
none_some place e = absurd cc

-- a place that is used after an edit was so before, or the edit maps it
used_edit : (v : VolumeTable) (e : Edit) (q : ℕ) → IsTable v → MayEdit v e
    → is_used (edited v e) q ≡ true → (is_used v q || maps_to q e) ≡ true
used_edit v (edit.Make id kind name) q t may used =
    let l : LiesAt (edited v (edit.Make id kind name)) q = used-at (edited v (edit.Make id kind name)) q (IsTable-edited v (edit.Make id kind name) t may) used in
    or_left (is_used v q) _ (used-from v l.id l.block q (sym (place_in-make v id kind name l.id l.block) ∙ l.lies))
used_edit v (edit.Drop id) q t may used =
    let l : LiesAt (edited v (edit.Drop id)) q = used-at (edited v (edit.Drop id)) q (IsTable-edited v (edit.Drop id) t may) used in
    or_left (is_used v q) _ (used-from v l.id l.block q (kept (eqb l.id id) (place_in v l.id l.block) (sym (place_in-drop v id l.id l.block t) ∙ l.lies)))
  where
    kept : (b : Bool) (o : Option ℕ) → cond b None o ≡ Some q → o ≡ Some q
    kept true o e = none_some q e
    kept false o e = e
used_edit v (edit.Rename id name) q t may used =
    let l : LiesAt (edited v (edit.Rename id name)) q = used-at (edited v (edit.Rename id name)) q (IsTable-edited v (edit.Rename id name) t may) used in
    or_left (is_used v q) _ (used-from v l.id l.block q (sym (place_in-rename v id name l.id l.block) ∙ l.lies))
used_edit v (edit.Size id size) q t may used =
    let l : LiesAt (edited v (edit.Size id size)) q = used-at (edited v (edit.Size id size)) q (IsTable-edited v (edit.Size id size) t may) used in
    or_left (is_used v q) _ (used-from v l.id l.block q (sym (place_in-size v id size l.id l.block) ∙ l.lies))
used_edit v (edit.Map id first count at) q t may used =
    let l : LiesAt (edited v (edit.Map id first count at)) q = used-at (edited v (edit.Map id first count at)) q (IsTable-edited v (edit.Map id first count at) t may) used in
    by l.block (eqb l.id id) (has_block l.block (stretch first count at)) refl (place_in v l.id l.block) (λ is. used-from v l.id l.block q is)
    (sym (place_in-map v id first count at l.id l.block may) ∙ l.lies)
  where
    by : (block : ℕ) (b c : Bool) → has_block block (stretch first count at) ≡ c → (o : Option ℕ)
        → (o ≡ Some q → is_used v q ≡ true)
        → cond b (cond c (Some (at + (block - first))) o) o ≡ Some q
        → (is_used v q || maps_to q (edit.Map id first count at)) ≡ true
    by block true true has o from is =
        let there : at + (block - first) ≡ q = cc in
        let low : first ≤ block = grind (arith, nat_tests, has) in
        let high : block < first + count = grind (arith, nat_tests, has) in
        let ge : at ≤ q = omega arith in
        let lt : q < at + count = omega arith in
        or_right (is_used v q) _ (grind (arith, nat_tests))
    by block true false has o from is = or_left (is_used v q) _ (from is)
    by block false c has o from is = or_left (is_used v q) _ (from is)
used_edit v (edit.Unmap id first count) q t may used =
    let l : LiesAt (edited v (edit.Unmap id first count)) q = used-at (edited v (edit.Unmap id first count)) q (IsTable-edited v (edit.Unmap id first count) t may) used in
    or_left (is_used v q) _ (used-from v l.id l.block q (kept (eqb l.id id) (in_stretch first count l.block) (place_in v l.id l.block) (sym (place_in-unmap v id first count l.id l.block) ∙ l.lies)))
  where
    kept : (b c : Bool) (o : Option ℕ) → cond b (cond c None o) o ≡ Some q → o ≡ Some q
    kept true true o e = none_some q e
    kept true false o e = e
    kept false c o e = e
used_edit v (edit.Version id version) q t may used =
    let l : LiesAt (edited v (edit.Version id version)) q = used-at (edited v (edit.Version id version)) q (IsTable-edited v (edit.Version id version) t may) used in
    or_left (is_used v q) _ (used-from v l.id l.block q (sym (place_in-version v id version l.id l.block) ∙ l.lies))

-- the same after edits
pub used_edits : (v : VolumeTable) (es : List Edit) (q : ℕ) → IsTable v → MayEditBy v es
    → is_used (edited_by v es) q ≡ true → (is_used v q || list_any (maps_to q) es) ≡ true
used_edits v [] q t may used = or_left (is_used v q) false used
used_edits v (e ∷ es) q t may used =
    join (is_used (edited v e) q) (list_any (maps_to q) es) (maps_to q e)
    (used_edits (edited v e) es q (IsTable-edited v e t may.0) may.1 used)
    (λ before. used_edit v e q t may.0 before)
  where
    join : (a b m : Bool) → (a || b) ≡ true → (a ≡ true → (is_used v q || m) ≡ true)
        → (is_used v q || (m || b)) ≡ true
    join true b m e from = grow (is_used v q) m b (from refl)
      where
        grow : (u m b : Bool) → (u || m) ≡ true → (u || (m || b)) ≡ true
        grow true m b e = refl
        grow false true b e = refl
        grow false false b e = absurd (true≢false (sym e))
    join false b m e from = or_right (is_used v q) _ (or_right m b e)

-- ---- edits in a row

pub TakesFresh-append : (v : VolumeTable) (es fs : List Edit) → TakesFresh v es
    → TakesFresh (edited_by v es) fs → TakesFresh v (es ++ fs)
TakesFresh-append v [] fs h g = g
TakesFresh-append v (e ∷ es) fs h g = (h.0, TakesFresh-append (edited v e) es fs h.1 g)

edited-push : (v : VolumeTable) (es : List Edit) (e : Edit)
    → edited_by v (es ++ e ∷ []) ≡ edited (edited_by v es) e
edited-push v [] e = refl
edited-push v (f ∷ es) e = edited-push (edited v f) es e

may-front : (v : VolumeTable) (es fs : List Edit) → MayEditBy v (es ++ fs) → MayEditBy v es
may-front v [] fs may = tt
may-front v (e ∷ es) fs may = (may.0, may-front (edited v e) es fs may.1)

module _ (v : VolumeTable) (l : Layout) (p : PlacesView) (file : ℕ) (is_l : v.layout ≡ l) (table : IsTable v) (bits : p.current ≡ used_places v) where
  -- no file maps a fresh place
  pub fresh_unused : (edits : List Edit) (q : ℕ) → is_fresh l p edits q ≡ true
      → is_used v q ≡ false
  fresh_unused edits q is =
      is_false (is_used v q) (λ used.
      true≢false (sym is ∙ fresh-avoids_current l p edits v is_l table bits q used))

  -- a fresh run is free when its turn comes
  fresh_free : (edits : List Edit) (r : Run) → MayEditBy v edits → IsFreshRun l p edits r
      → AreFree (edited_by v edits) r.place r.count
  fresh_free edits r may fresh q inside =
      let ge : r.place ≤ q = grind (arith, nat_tests, inside) in
      let lt : q < place_end r = grind (arith, nat_tests, inside) in
      let is = fresh q ge lt in
      is_false (is_used (edited_by v edits) q) (λ used.
      true≢false (sym (used_edits v edits q table may used)
      ∙ ap (λ (b : Bool). b || list_any (maps_to q) edits) (fresh_unused edits q is)
      ∙ (fresh_parts l p edits q is).1))

  maps_fresh : (edits : List Edit) (runs : List Run) → MayEditBy v (edits ++ map (map_edit file) runs)
      → AreFreshRuns l p file edits runs
      → TakesFresh (edited_by v edits) (map (map_edit file) runs)
  maps_fresh edits [] may are = tt
  maps_fresh edits (r ∷ rs) may are = (
    fresh_free edits r (may-front v edits _ may) are.0,
    subst (λ (w : VolumeTable). TakesFresh w (map (map_edit file) rs)) (edited-push v edits (map_edit file r))
        (maps_fresh (edits ++ map_edit file r ∷ []) rs
        (subst (MayEditBy v) (sym (append_assoc edits (map_edit file r ∷ []) (map (map_edit file) rs))) may) are.1),
  )

  -- edits that take free places do so with those of runs that were staged behind them
  pub takes-staged : (edits : List Edit) (runs : List Run)
      → MayEditBy v (edits ++ map (map_edit file) runs) → TakesFresh v edits
      → AreFreshRuns l p file edits runs → TakesFresh v (edits ++ map (map_edit file) runs)
  takes-staged edits runs may takes are =
      TakesFresh-append v edits (map (map_edit file) runs) takes (maps_fresh edits runs may are)

  -- the places of such a run are data blocks
  pub staged-data : (edits : List Edit) (r : Run) → 1 ≤ r.count → IsFreshRun l p edits r
      → (first_place l ≤ r.place) × (place_end r ≤ l.total)
  staged-data edits r some fresh =
      let first = data_parts r.place (fresh r.place (omega arith) (omega arith)) in
      let last = data_parts (r.place + r.count - 1) (fresh (r.place + r.count - 1) (omega arith) (omega arith)) in
      (first.0, omega arith)
    where
      data_parts : (q : ℕ) → is_fresh l p edits q ≡ true → (first_place l ≤ q) × (q < l.total)
      data_parts q is =
          let data_ : is_data l q ≡ true = and_first (is_data l q) _ (fresh_parts l p edits q is).0 in
          (grind (arith, nat_tests), grind (arith, nat_tests))
