-- A file whose id and version stay keeps its bytes.
use Rattle.std.proofs.Common.{◌≡◌, ℕ, ◌<◌, List, [], ◌∷◌, find, Option, None, Some, refl, sym, ap, ◌∙◌, subst, arith, inl, inr}
use Rattle.std.specs.Prelude.{◌==◌}
use Rattle.std.specs.List.{AllByRecursion}
use Rattle.std.proofs.lemmas.Bool.{cases_eq, cond-false, ne_eqb}
use Rattle.sis_journal.specs.Committing.{Both}
use Rattle.sis_table.specs.Changes.{MayResize, Resize, renamed, with_file, with_resize, without_file}
use Rattle.sis_table.specs.Content.{content_of}
use Rattle.sis_table.specs.Edits.{with_name}
use Rattle.sis_table.specs.Volume.{VolumeTable, IsTable, node_with}
use Rattle.sis_table.specs.declared.node.Node.{Node}
use Rattle.sis_table.proofs.ChangesContent.{content_of-kept}
use Rattle.sis_table.proofs.ChangesLaws.{make_others, remove_others, remove_there, rename_others, rename_there, resize_versions}
use Rattle.sis_table.proofs.ChangesNodes.{not_some, some_is}
use Rattle.sis_table.proofs.ContentLemmas.{content_of-plain}
use Rattle.sis_table.proofs.EditLemmas.{has_id}
use Rattle.sis_table.proofs.PutLemmas.{ids_below}
use Rattle.sis_copyclose.specs.Operating.{KeepsPlaces, KeepsVersions}
use Rattle.sis_copyclose.proofs.Works.{both_weaker, places_refl}

-- the file is the same one, in a table where it is found as before
kept_here : (v w : VolumeTable) (was now : List ℕ) → KeepsPlaces v was now → (id : ℕ) (n m : Node)
    → node_with v id ≡ Some n → node_with w id ≡ Some m → node_with w id ≡ node_with v id
    → content_of w now m ≡ content_of v was n
kept_here v w was now keeps id n m n_is m_is same =
    ap (content_of w now) (some_is m n (sym m_is ∙ same ∙ n_is))
    ∙ content_of-kept v w was now id n n_is keeps.used

pub table_versions : (v w : VolumeTable) (was now : List ℕ) → w ≡ v → KeepsPlaces v was now
    → KeepsVersions v w was now
table_versions v w was now same keeps id n m n_is m_is version =
    kept_here v w was now keeps id n m n_is m_is (ap (λ (t : VolumeTable). node_with t id) same)

pub versions_kept : (v w : VolumeTable) (was now : Option (List ℕ)) → w ≡ v
    → Both (KeepsPlaces v) was now → Both (KeepsVersions v w) was now
versions_kept v w was now same keeps =
    both_weaker (KeepsPlaces v) (KeepsVersions v w) (λ a b h. table_versions v w a b same h) was now
    keeps

pub versions_same : (v : VolumeTable) (live : Option (List ℕ)) → Both (KeepsVersions v v) live live
versions_same v live = versions_kept v v live live refl (places_refl v live)

-- a change raises its file's version
pub resized_versions : (v w : VolumeTable) (n : Node) (r : Resize) (places was now : List ℕ)
    → IsTable v → MayResize v n r → w ≡ with_resize n (Some r) places v → KeepsPlaces v was now
    → KeepsVersions v w was now
resized_versions v w n r places was now table may is keeps =
    subst (λ (x : VolumeTable). KeepsVersions v x was now) (sym is)
    (λ id k m k_is m_is version.
    resize_versions v n r table may places was now keeps.used id k m k_is m_is version)

-- no file had the next id
no_next : (v : VolumeTable) → IsTable v → node_with v v.next_id ≡ None
no_next v table = none v.nodes (ids_below v v.next_id table (omega arith))
  where
    none : (ms : List Node) → AllByRecursion (λ m. m.id < v.next_id) ms
        → find (has_id v.next_id) ms ≡ None
    none [] below = refl
    none (m ∷ ms) below =
        cond-false (m.id == v.next_id) (Some m) (find (has_id v.next_id) ms) (ne_eqb m.id v.next_id (λ e. omega (arith, below.0, e)))
        ∙ none ms below.1

pub made_versions : (v w : VolumeTable) (name : List ℕ) (size : ℕ) (places was now : List ℕ)
    → IsTable v → w ≡ with_file name size places v → KeepsPlaces v was now
    → KeepsVersions v w was now
made_versions v w name size places was now table is keeps id n m n_is m_is version =
    elim (cases_eq id v.next_id) [
      | inl next ↦
          absurd (not_some n (sym (no_next v table) ∙ sym (ap (node_with v) next) ∙ n_is))
      | inr other ↦
          kept_here v w was now keeps id n m n_is m_is
          (ap (λ (t : VolumeTable). node_with t id) is ∙ make_others v name size places id other)
    ]

pub removed_versions : (v w : VolumeTable) (gone : ℕ) (was now : List ℕ) → IsTable v
    → w ≡ without_file gone v → KeepsPlaces v was now → KeepsVersions v w was now
removed_versions v w gone was now table is keeps id n m n_is m_is version =
    let there : node_with w id ≡ node_with (without_file gone v) id =
    ap (λ (t : VolumeTable). node_with t id) is in
    elim (cases_eq id gone) [
      | inl here ↦
          absurd (not_some m (sym (remove_there v gone table)
          ∙ sym (ap (node_with (without_file gone v)) here) ∙ sym there ∙ m_is))
      | inr other ↦
          kept_here v w was now keeps id n m n_is m_is (there ∙ remove_others v gone id table other)
    ]

-- a name is none of the bytes
pub renamed_versions : (v w : VolumeTable) (file : ℕ) (name was now : List ℕ)
    → w ≡ renamed file name v → KeepsPlaces v was now → KeepsVersions v w was now
renamed_versions v w file name was now is keeps id n m n_is m_is version =
    let there : node_with w id ≡ node_with (renamed file name v) id =
    ap (λ (t : VolumeTable). node_with t id) is in
    elim (cases_eq id file) [
      | inl here ↦
          (let before : node_with v file ≡ Some n = ap (node_with v) (sym here) ∙ n_is in
          let its : m ≡ with_name name n =
          some_is m (with_name name n)
          (sym m_is ∙ there ∙ ap (node_with (renamed file name v)) here
          ∙ rename_there v file name n before) in
          ap (content_of w now) its
          ∙ content_of-plain w now (with_name name n)
          ∙ sym (content_of-plain v now n)
          ∙ content_of-kept v v was now id n n_is keeps.used)
      | inr other ↦
          kept_here v w was now keeps id n m n_is m_is (there ∙ rename_others v file name id other)
    ]
