-- What a `Journal` shows, and which faults a text may have.
use Rattle.std.specs.Prelude.{◌≡◌, ℕ, ◌≤◌, Bool, Result, Err, ⊤}
use Rattle.sis_disk.specs.declared.layout.Layout.{Layout}
use Rattle.sis_disk.specs.Areas.{TextFault}
use Rattle.sis_journal.specs.declared.kept.KeptFault.{KeptFault}
use Rattle.sis_journal.specs.declared.kept.KeptFault.TheVariants as faults

-- the image's layout, and whether area B is selected
pub record JournalView : Type 0 where
  pub layout : Layout
  pub second : Bool

-- the fault is the one that reading gives, unless memory ran out
abbrev pub FailsText : {V : Type 0} → KeptFault → Result V TextFault → Type 0
FailsText (faults.At at kind) read = read ≡ Err (at, kind)
FailsText faults.Memory read = ⊤

-- a fault isn't behind so many bytes
abbrev pub IsWithin : ℕ → KeptFault → Type 0
IsWithin n (faults.At at _) = at ≤ n
IsWithin n faults.Memory = ⊤
