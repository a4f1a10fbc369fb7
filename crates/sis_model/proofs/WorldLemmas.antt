-- Worlds: the names of files with one more, and clients that have nothing open.
use Rattle.std.proofs.Common.{◌≡◌, ℕ, List, [], ◌∷◌, length, map, filter, refl, sym, ap, ◌∙◌, arith}
use Rattle.std.specs.Prelude.{not, ◌==◌}
use Rattle.std.specs.FinMap.{FinMap, insert, entries, entries-insert, from_entries, keys, len-entries, len-empty, empty}
use Rattle.std.specs.FinMap.Entries.{put, by_order}
use Rattle.std.specs.declared.cmp.Ordering.{Ordering}
use Rattle.std.specs.declared.cmp.Ordering.TheVariants.{Less, Equal, Greater}
use Rattle.sis_name.specs.Units.{name_cmp, name_total}
use Rattle.sis_model.specs.World.{World, OpenFile, opens_of, without_client}

-- ---- the keys of a map with one more entry

abbrev pub put_key : List ℕ → List (List ℕ) → List (List ℕ)
put_key k [] = k ∷ []
put_key k (j ∷ js) = by_order (name_cmp k j) (k ∷ j ∷ js) (j ∷ js) (j ∷ put_key k js)

keys_put : {X : Type 0} (k : List ℕ) (x : X) (es : List (List ℕ × X))
    → map (λ e. e.0) (put name_cmp k x es) ≡ put_key k (map (λ e. e.0) es)
keys_put k x [] = refl
keys_put k x (e ∷ es) = by (name_cmp k e.0) (keys_put k x es)
  where
    by : (o : Ordering) → map (λ d. d.0) (put name_cmp k x es) ≡ put_key k (map (λ d. d.0) es)
        → map (λ d. d.0) (by_order o ((k, x) ∷ e ∷ es) ((e.0, x) ∷ es)
        (e ∷ put name_cmp k x es)) ≡ by_order o (k ∷ e.0 ∷ map (λ d. d.0) es)
        (e.0 ∷ map (λ d. d.0) es) (e.0 ∷ put_key k (map (λ d. d.0) es))
    by Less rest = refl
    by Equal rest = refl
    by Greater rest = ap (λ (js : List (List ℕ)). e.0 ∷ js) rest

pub keys-insert : {X : Type 0} (m : FinMap name_cmp X) (k : List ℕ) (x : X)
    → keys (insert m k x) ≡ put_key k (keys m)
keys-insert m k x = ap (map (λ e. e.0)) (entries-insert name_total m k x) ∙ keys_put k x (entries m)

abbrev pub keys_from : List (List ℕ) → List (List ℕ)
keys_from [] = []
keys_from (k ∷ ks) = put_key k (keys_from ks)

no_entries : {X : Type 0} (es : List X) → length es ≡ 0 → es ≡ []
no_entries [] e = refl
no_entries (x ∷ xs) e = absurd (omega arith)

pub keys-from_entries : {X : Type 0} (es : List (List ℕ × X))
    → keys (from_entries {R = name_cmp} es) ≡ keys_from (map (λ e. e.0) es)
keys-from_entries {X = X} [] =
    ap (map (λ e. e.0)) (no_entries (entries (empty {X = X} {R = name_cmp}))
    (sym (len-entries (empty {X = X} {R = name_cmp})) ∙ len-empty name_cmp X))
keys-from_entries (e ∷ es) =
    keys-insert (from_entries es) e.0 e.1 ∙ ap (put_key e.0) (keys-from_entries es)

-- ---- opens

-- a client that has nothing open leaves the world as it is
pub without_none : (w : World) (client : ℕ) → w.opens ≡ [] → without_client w client ≡ w
without_none w client none =
    ap (λ (os : List OpenFile). record w { opens = filter (λ o. not (o.client == client)) os }) none
    ∙ ap (λ (os : List OpenFile). record w { opens = os }) (sym none)

pub no_opens : (w : World) (client : ℕ) → w.opens ≡ [] → length (opens_of w client) ≡ 0
no_opens w client none =
    ap (λ (os : List OpenFile). length (filter (λ o. o.client == client) os)) none
