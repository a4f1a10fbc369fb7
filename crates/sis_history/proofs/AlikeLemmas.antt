-- Maps with files of the same sizes: those of a world and of a table.
use Rattle.std.proofs.Common.{◌≡◌, ℕ, ◌*◌, Bool, true, false, cond, List, length, replicate, None, Some, refl, sym, ap, ◌∙◌}
use Rattle.std.specs.FinMap.{get, get-insert, get-remove, get_tied, insert, remove}
use Rattle.std.specs.Option.{option_map}
use Rattle.std.specs.Ordering.{eq_by_cmp, is_eq}
use Rattle.std.specs.declared.cmp.Ordering.{Ordering}
use Rattle.std.specs.declared.cmp.Ordering.TheVariants.{Less, Equal, Greater}
use Rattle.std.proofs.lemmas.List.{length-replicate}
use Rattle.sis_name.specs.Files.{Files}
use Rattle.sis_name.specs.Units.{name_cmp, name_total}
use Rattle.sis_model.specs.World.{World}
use Rattle.sis_table.specs.Content.{files_of}
use Rattle.sis_table.specs.Volume.{VolumeTable, IsTable}
use Rattle.sis_table.proofs.CallerLemmas.{length-files_of}
use Rattle.sis_history.specs.Shown.{ShowsFiles}

pub Alike : Files → Files → Type 0
Alike F G = (q : List ℕ) → option_map length (get F q) ≡ option_map length (get G q)

abbrev pub zeros : VolumeTable → List ℕ
zeros v = replicate (4096 * v.layout.total) 0

pub long_zeros : (v : VolumeTable) → length (zeros v) ≡ 4096 * v.layout.total
long_zeros v = length-replicate {A = ℕ} (4096 * v.layout.total) 0

pub alike_shown : (w : World) (v : VolumeTable) → IsTable v → ShowsFiles w v
    → Alike w.files (files_of v (zeros v))
unfolding Alike
alike_shown w v t shown q = shown.sizes q ∙ sym (length-files_of v (zeros v) q t (long_zeros v))

pub shown_alike : (w : World) (v : VolumeTable) → IsTable v → w.letter ≡ v.layout.letter
    → Alike w.files (files_of v (zeros v)) → ShowsFiles w v
unfolding Alike
shown_alike w v t letter alike = record {
  letter = letter;
  sizes = λ q. alike q ∙ length-files_of v (zeros v) q t (long_zeros v);
}

pub alike_insert : (F G : Files) (name a b : List ℕ) → Alike F G → length a ≡ length b
    → Alike (insert F name a) (insert G name b)
unfolding Alike
alike_insert F G name a b alike same q =
    ap (option_map length) (get-insert name_total F name a q)
    ∙ by (eq_by_cmp name_cmp q name)
    ∙ sym (ap (option_map length) (get-insert name_total G name b q))
  where
    by : (t : Bool) → option_map length (cond t (Some a) (get F q))
        ≡ option_map length (cond t (Some b) (get G q))
    by true = ap (λ (n : ℕ). Some n) same
    by false = alike q

pub alike_remove : (F G : Files) (name : List ℕ) → Alike F G
    → Alike (remove F name) (remove G name)
unfolding Alike
alike_remove F G name alike q =
    ap (option_map length) (get-remove name_total F name q)
    ∙ by (eq_by_cmp name_cmp q name)
    ∙ sym (ap (option_map length) (get-remove name_total G name q))
  where
    by : (t : Bool) → option_map length (cond t None (get F q))
        ≡ option_map length (cond t None (get G q))
    by true = refl
    by false = alike q

is_equal : (o : Ordering) → is_eq o ≡ true → o ≡ Equal
is_equal Less e = absurd cc
is_equal Equal e = refl
is_equal Greater e = absurd cc

-- a file that gets the bytes that it has
pub alike_same : (F G : Files) (name c : List ℕ) → Alike F G → get F name ≡ Some c
    → Alike (insert F name c) G
unfolding Alike
alike_same F G name c alike is q =
    ap (option_map length) (get-insert name_total F name c q)
    ∙ by (eq_by_cmp name_cmp q name) refl ∙ alike q
  where
    by : (t : Bool) → eq_by_cmp name_cmp q name ≡ t
        → option_map length (cond t (Some c) (get F q)) ≡ option_map length (get F q)
    by true e =
        let tied = get_tied name_total F q name (is_equal (name_cmp q name) e) in
        ap (option_map length) (sym is ∙ tied)
    by false e = refl
