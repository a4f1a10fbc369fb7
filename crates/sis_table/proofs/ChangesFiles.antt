-- For which files a table stands after a change.
use Rattle.std.proofs.Common.{◌≡◌, ℕ, false, List, [], ◌∷◌, ◌++◌, Some, ap, ap₂, ◌∙◌}
use Rattle.std.specs.List.{list_any}
use Rattle.std.specs.FinMap.{insert, remove}
use Rattle.sis_name.specs.Files.{Files}
use Rattle.sis_table.specs.declared.node.Node.{Node}
use Rattle.sis_table.specs.Content.{content_of, files_of}
use Rattle.sis_table.specs.Edits.{MayRename}
use Rattle.sis_table.specs.Volume.{VolumeTable, IsTable, has_name, node_with}
use Rattle.sis_table.specs.Changes.{KeepsUsed, renamed, without_file}
use Rattle.sis_table.proofs.ContentEdits.{files_of-changed, files_of-drop, files_of-made, files_of-rename}
use Rattle.sis_table.proofs.ContentLemmas.{files_of-same}
use Rattle.sis_table.proofs.ChangesNodes.{changed}
use Rattle.sis_table.proofs.ChangesContent.{content_of-kept}

module _ (v : VolumeTable) (old new : List ℕ) (keeps : KeepsUsed v old new) where
  -- the file that changed has its new bytes under its name
  pub files_of-rewritten : (n : Node) (change : Node → Node) (bytes : List ℕ) → IsTable v → node_with v n.id ≡ Some n → ((m : Node) → (change m).name ≡ m.name) → content_of v new (change n) ≡ bytes
      → files_of (changed n.id change v) new ≡ insert (files_of v old) n.name bytes
  files_of-rewritten n change bytes t is names content =
      files_of-changed v n.id change new n t is names ∙ ap₂ (λ (files : Files) (xs : List ℕ). insert files n.name xs) (files_of-same v old new keeps) content

  -- a new file has its bytes
  pub files_of-added : (n : Node) (next : ℕ) (bytes : List ℕ) → list_any (has_name n.name) v.nodes ≡ false → content_of v new n ≡ bytes
      → files_of (record v { next_id = next; nodes = v.nodes ++ n ∷ [] }) new ≡ insert (files_of v old) n.name bytes
  files_of-added n next bytes free content =
      files_of-made v n next new free ∙ ap₂ (λ (files : Files) (xs : List ℕ). insert files n.name xs) (files_of-same v old new keeps) content

  -- a removed one isn't there
  pub files_of-removed : (id : ℕ) (n : Node) → IsTable v → node_with v id ≡ Some n → files_of (without_file id v) new ≡ remove (files_of v old) n.name
  files_of-removed id n t is = files_of-drop v id new n t is ∙ ap (λ (files : Files). remove files n.name) (files_of-same v old new keeps)

  -- a renamed one has its bytes under the new name
  pub files_of-renamed : (id : ℕ) (name : List ℕ) (n : Node) → IsTable v → node_with v id ≡ Some n → MayRename v n name
      → files_of (renamed id name v) new ≡ insert (remove (files_of v old) n.name) name (content_of v old n)
  files_of-renamed id name n t is may =
      files_of-rename v id name new n t is may
      ∙ ap₂ (λ (files : Files) (xs : List ℕ). insert (remove files n.name) name xs) (files_of-same v old new keeps) (content_of-kept v v old new id n is keeps)
