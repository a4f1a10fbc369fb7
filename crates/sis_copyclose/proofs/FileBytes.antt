-- The bytes of files before and after an operation.
use Rattle.std.proofs.Common.{◌≡◌, ℕ, ◌*◌, Bool, cond, List, [], length, Option, None, Some, refl, sym, ap, ◌∙◌, subst}
use Rattle.std.specs.Prelude.{IfSome, unwrap_or}
use Rattle.std.specs.Cmp.{eq_by_cmp_equiv}
use Rattle.std.specs.FinMap.{get, get-insert, insert}
use Rattle.std.specs.Option.{option_map}
use Rattle.sis_journal.specs.Committing.{Both}
use Rattle.sis_name.specs.Files.{Files}
use Rattle.sis_name.specs.Units.{name_total}
use Rattle.sis_table.specs.Content.{content_of, files_of}
use Rattle.sis_table.specs.Edits.{IfThere}
use Rattle.sis_table.specs.Volume.{VolumeTable, IsTable, node_with}
use Rattle.sis_table.specs.declared.node.Node.{Node}
use Rattle.sis_table.proofs.ChangeLemmas.{found_id}
use Rattle.sis_table.proofs.ChangesContent.{content_of-kept}
use Rattle.sis_table.proofs.ChangesFiles.{files_of-rewritten}
use Rattle.sis_table.proofs.ChangesNodes.{changed-same, there_limits}
use Rattle.sis_table.proofs.ContentLemmas.{length-content_of}
use Rattle.sis_copyclose.specs.Changed.{bytes_in, with_bytes}
use Rattle.sis_copyclose.specs.Operating.{KeepsPlaces}

-- ---- the file that is there

pub there_is : (o : Option Node) (P : Node → Type 0) → IfThere o P → (n : Node) × (o ≡ Some n) × P n
there_is None P h = absurd h
there_is (Some n) P h = (n, refl, h)

pub there_by : (o : Option Node) (n : Node) (P : Node → Type 0) → o ≡ Some n → P n → IfThere o P
there_by o n P is h = subst (λ (x : Option Node). IfThere x P) (sym is) h

pub there_has : (o : Option Node) (n : Node) (P : Node → Type 0) → o ≡ Some n → IfThere o P → P n
there_has o n P is h = subst (λ (x : Option Node). IfThere x P) is h

pub there_map : (o : Option Node) (P Q : Node → Type 0) → ((n : Node) → o ≡ Some n → P n → Q n)
    → IfThere o P → IfThere o Q
there_map None P Q f h = absurd h
there_map (Some n) P Q f h = f n refl h

-- it has the id that it is found by
pub found : (v : VolumeTable) (id : ℕ) (n : Node) → node_with v id ≡ Some n → n.id ≡ id
found v id n is = found_id id v.nodes n is

pub found_by : (v : VolumeTable) (id : ℕ) (n : Node) → node_with v id ≡ Some n
    → node_with v n.id ≡ Some n
found_by v id n is = ap (node_with v) (found v id n is) ∙ is

-- ---- its bytes among the files

module _ (v : VolumeTable) (n : Node) (table : IsTable v) (is : node_with v n.id ≡ Some n) (live : List ℕ) where
  -- they stand under its name
  pub same_bytes : insert (files_of v live) n.name (content_of v live n) ≡ files_of v live
  same_bytes =
      sym (files_of-rewritten v live live (λ place used. refl) n (λ m. m) (content_of v live n) table is (λ m. refl) refl)
      ∙ ap (λ (w : VolumeTable). files_of w live) (changed-same v n.id (λ m. m) (λ m. refl))

  pub named_bytes : bytes_in (files_of v live) n.name ≡ content_of v live n
  named_bytes =
      ap (λ (o : Option (List ℕ)). unwrap_or o [])
      (ap (λ (files : Files). get files n.name) (sym same_bytes)
      ∙ get-insert name_total (files_of v live) n.name (content_of v live n) n.name
      ∙ ap (λ (b : Bool). cond b (Some (content_of v live n)) (get (files_of v live) n.name)) ((eq_by_cmp_equiv name_total).refl n.name))

  -- the files where they are changed, and where they aren't
  pub changed_in : (change : List ℕ → List ℕ) (bytes : List ℕ)
      → change (content_of v live n) ≡ bytes
      → insert (files_of v live) n.name bytes ≡ with_bytes n.name change (files_of v live)
  changed_in change bytes e =
      ap (insert (files_of v live) n.name) (sym (ap change named_bytes ∙ e))

  pub unchanged_in : (change : List ℕ → List ℕ)
      → change (content_of v live n) ≡ content_of v live n
      → files_of v live ≡ with_bytes n.name change (files_of v live)
  unchanged_in change e = sym same_bytes ∙ changed_in change (content_of v live n) e

  pub long : length live ≡ 4096 * v.layout.total → length (content_of v live n) ≡ n.size
  long whole = length-content_of v n live (there_limits v n.id n table is) whole

-- ---- where the disk tells its bytes

pub files_changed : (v w : VolumeTable) (change : Files → Files) (was now : Option (List ℕ))
    → Both (KeepsPlaces v) was now
    → ((old new : List ℕ) → was ≡ Some old → now ≡ Some new → KeepsPlaces v old new
    → files_of w new ≡ change (files_of v old))
    → option_map (files_of w) now ≡ option_map change (option_map (files_of v) was)
files_changed v w change None None keeps f = refl
files_changed v w change None (Some new) keeps f = absurd keeps
files_changed v w change (Some old) None keeps f = absurd keeps
files_changed v w change (Some old) (Some new) keeps f =
    ap (λ (files : Files). Some files) (f old new refl refl keeps)

pub if_some : (o : Option (List ℕ)) (P : List ℕ → Type 0) (xs : List ℕ) → o ≡ Some xs
    → IfSome o P → P xs
if_some o P xs is h = subst (λ (x : Option (List ℕ)). IfSome x P) is h

-- what holds of the bytes of a file in one image holds in the other
pub content_kept : (v : VolumeTable) (id : ℕ) (n : Node) → node_with v id ≡ Some n
    → (old new : List ℕ) → KeepsPlaces v old new → content_of v new n ≡ content_of v old n
content_kept v id n is old new keeps = content_of-kept v v old new id n is keeps.used
