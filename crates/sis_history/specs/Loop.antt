-- What a run keeps of its history between two commits.
use Rattle.std.specs.Prelude.{◌≡◌, ℕ, ◌≤◌, false, List, length, take, drop}
use Rattle.std.specs.List.{AllByRecursion}
use Rattle.sis_model.specs.History.{world_after}
use Rattle.sis_model.specs.World.{World}
use Rattle.sis_model.specs.declared.history.Entry.{Entry}
use Rattle.sis_name.specs.Files.{Files}
use Rattle.sis_history.specs.Durable.{is_durable}

-- none of the entries is durable
abbrev pub NoneDurable : List Entry → Type 0
NoneDurable entries = AllByRecursion (λ e. is_durable e ≡ false) entries

-- these are the files after the first `count` entries, and no later entry is durable
pub record AreCommitted (w : World) (entries : List Entry) (files : Files) : Type 0 where
  pub count : ℕ
  pub within : count ≤ length entries
  pub later : NoneDurable (drop count entries)
  pub same : files ≡ (world_after w (take count entries)).files
