-- What a stop may leave of a history.
use Rattle.std.specs.Prelude.{◌≡◌, ℕ, ◌+◌, ◌≤◌, nat_le, false, if◌then◌else◌, List, [], ◌∷◌, length, take, drop, Some, ⊤}
use Rattle.std.specs.List.{AllByRecursion}
use Rattle.sis_disk.specs.Record.{DiskRecord, Seen, IsImageAfter}
use Rattle.sis_model.specs.History.{world_after}
use Rattle.sis_model.specs.World.{World}
use Rattle.sis_model.specs.declared.history.Entry.{Entry}
use Rattle.sis_table.specs.Opens.{OpensAs}
use Rattle.sis_history.specs.Durable.{is_sure}

-- how many of the entries were decided by call k
abbrev pub decided_by : ℕ → List Entry → ℕ
decided_by k [] = 0
decided_by k (e ∷ es) = (if nat_le e.decided k then 1 else 0) + decided_by k es

-- none of the entries is sure at call k
abbrev pub NoneSure : ℕ → List Entry → Type 0
NoneSure k entries = AllByRecursion (λ e. is_sure k e ≡ false) entries

-- a stop after k calls may leave the first p of the entries
pub record IsCut (k p : ℕ) (entries : List Entry) : Type 0 where
  pub decided : p ≤ decided_by k entries
  pub none_lost : NoneSure k (drop p entries)

-- the image opens as the files after the first p entries
abbrev pub OpensAfter : World → List Entry → ℕ → List ℕ → Type 0
OpensAfter w entries p m = OpensAs (world_after w (take p entries)).files m

-- each image after k calls opens as the files up to a cut
abbrev pub SurvivesStop : World → List Entry → DiskRecord → ℕ → Type 0
SurvivesStop w entries r k =
    (m : List ℕ) → IsImageAfter r k m → (p : ℕ) × IsCut k p entries × OpensAfter w entries p m

-- the same after each number of calls from `first` on
abbrev pub SurvivesStops : ℕ → World → List Entry → DiskRecord → Type 0
SurvivesStops first w entries r =
    (k : ℕ) → first ≤ k → k ≤ length r.calls → SurvivesStop w entries r k

-- no entry was decided before an earlier one
abbrev pub AreInOrder : List Entry → Type 0
AreInOrder [] = ⊤
AreInOrder (e ∷ es) = AllByRecursion (λ later. e.decided ≤ later.decided) es × AreInOrder es

-- each entry was decided by call n
abbrev pub AreWithin : ℕ → List Entry → Type 0
AreWithin n entries = AllByRecursion (λ e. e.decided ≤ n) entries

-- The image opens as the files after some first entries, behind which none is sure at call `last`.
abbrev pub IsSafe : ℕ → World → List Entry → List ℕ → Type 0
IsSafe last w entries m =
    (p : ℕ) × (p ≤ length entries) × NoneSure last (drop p entries) × OpensAfter w entries p m

-- Where a disk tells its calls, every stop so far is survived, and all entries were decided.
pub record Survives (first : ℕ) (w : World) (entries : List Entry) (seen : Seen) : Type 0 where
  pub told : (r : DiskRecord) → seen.told ≡ Some r
      → SurvivesStops first w entries r × AreWithin (length r.calls) entries
