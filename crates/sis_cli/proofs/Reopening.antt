-- An image that a stop left is refused for nothing that it holds.
use Rattle.std.proofs.Common.{◌≡◌, ◌⊎◌, inl, inr, ℕ, List, refl}
use Rattle.std.specs.Prelude.{IfSome}
use Rattle.sis_disk.specs.Record.{BeginsWith, Seen, live_of}
use Rattle.sis_journal.specs.declared.fault.OpenFault.{OpenFault}
use Rattle.sis_journal.specs.declared.fault.OpenFault.TheVariants as fault
use Rattle.sis_name.specs.Files.{Files}
use Rattle.sis_table.specs.Image.{image_at}
use Rattle.sis_table.specs.Opens.{OpensAs}
use Rattle.sis_volume.specs.Opening.{FailsAs}
use Rattle.sis_cli.proofs.Defects.{read_sound}

pub image_refused : (files : Files) (m : List ℕ) (seen : Seen) (by : OpenFault) → OpensAs files m
    → BeginsWith m seen → IfSome (live_of seen) (λ live. FailsAs by (image_at live))
    → (by ≡ fault.Disk) ⊎ (by ≡ fault.Memory)
image_refused files m seen fault.Disk opens begins fails = inl refl
image_refused files m seen fault.Memory opens begins fails = inr refl
image_refused files m seen (fault.Image at kind) opens begins fails =
    let read = opens.read in
    let wrong = rw begins at fails in absurd cc
image_refused files m seen (fault.Bad kind file index) opens begins fails =
    let none = read_sound m opens.table opens.read opens.good in
    let read = opens.read in
    let wrong = rw begins at fails in
    let again = wrong.1 in
    let some = wrong.2 in absurd cc
