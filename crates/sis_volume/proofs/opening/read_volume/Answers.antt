use Rattle.std.proofs.Common.{Bool, List, sym, ap, ◌∙◌, subst}
use Rattle.std.specs.Prelude.{Result, Ok}
use Rattle.sis_disk.specs.Record.{live_of}
use Rattle.sis_disk.specs.Superblock.{ImageFault}
use Rattle.sis_journal.specs.Opening.{FailsReading}
use Rattle.sis_journal.specs.declared.fault.OpenFault.{OpenFault}
use Rattle.sis_journal.specs.declared.fault.OpenFault.TheVariants as faults
use Rattle.sis_journal.proofs.Readings.{if_some, passed_on}
use Rattle.sis_places.specs.Places.{PlacesView}
use Rattle.sis_table.specs.Good.{IsGood}
use Rattle.sis_table.specs.Image.{image_at}
use Rattle.sis_table.specs.Volume.{VolumeTable, IsTable, used_places}
use Rattle.sis_volume.specs.Opening.{FailsAs}
use Rattle.sis_volume.specs.Tables.{read-layout}
use Rattle.sis_volume.proofs.Committed.{kept-opened}
use Rattle.sis_volume.proofs.opening.read_volume.Goals as goal

abbrev both_of : List Bool → PlacesView
both_of bits = record { current = bits; committed = bits }

-- a fault of reading the table
fails_too : (fault : OpenFault) (read : Result VolumeTable ImageFault) → FailsReading fault read → FailsAs fault read
fails_too faults.Disk read h = tt
fails_too faults.Memory read h = tt
fails_too (faults.Image at k) read h = h
fails_too (faults.Bad k file index) read h = absurd h

pub returns-in_err-journal-clause-fault : goal.returns-in_err-journal-clause-fault
returns-in_err-journal-clause-fault g c =
    passed_on c.from_residual.result c.in_err-journal.field-0.0 _ c.from_residual.ensures.1
    (if_some (live_of (g.D.Disk.seen c.args.disk.now)) _ _ (λ live h. fails_too c.in_err-journal.field-0.0 (image_at live) h) c.in_err-journal.ensures.fault)

pub returns-in_err-judge-clause-fault : goal.returns-in_err-judge-clause-fault
returns-in_err-judge-clause-fault g c =
    passed_on c.from_residual-in_err-judge.result c.in_err-judge.field-0.0 _ c.from_residual-in_err-judge.ensures.1
    (if_some (live_of (g.D.Disk.seen c.args.disk.now)) _ _ (λ live e. subst (FailsAs c.in_err-judge.field-0.0) (sym e) (subst (λ (v : VolumeTable). FailsAs c.in_err-judge.field-0.0 (Ok v)) c.kept.view_is c.in_err-judge.ensures.fault)) c.in_ok-journal.ensures.image)

pub returns-clause-kept : goal.returns-clause-kept
returns-clause-kept g c =
    let read = c.in_ok-journal.ensures.read in
    let layout = c.in_ok-journal.ensures.layout in
    let places = c.in_ok-places.ensures.places ∙ ap (λ (v : VolumeTable). both_of (used_places v)) c.kept.view_is in
    kept-opened c.in_ok-journal.kept c.in_ok-journal.journal c.in_ok-journal.field-0-1 c.in_ok-places.places (g.D.Disk.seen c.open.new.disk)
    (read-layout c.in_ok-journal.field-0-1 read.0 c.in_ok-journal.kept read.1) layout.0 layout.2 layout.3 read.2
    (subst (λ (v : VolumeTable). IsTable v) c.kept.view_is c.of_table.ensures.table)
    (subst (λ (v : VolumeTable). IsGood v) c.kept.view_is c.in_ok-judge.ensures.good) places
    c.in_ok-journal.ensures.kept c.in_ok-journal.ensures.stable

pub returns-clause-good : goal.returns-clause-good
returns-clause-good g c =
    subst (λ (v : VolumeTable). IsGood v) c.kept.view_is c.in_ok-judge.ensures.good
