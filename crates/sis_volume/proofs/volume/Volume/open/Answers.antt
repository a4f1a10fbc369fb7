use Rattle.std.proofs.Common.{◌∙◌, ap, refl, subst, sym}
use Rattle.sis_table.specs.Volume.{used_places}
use Rattle.sis_volume.specs.Stopping.{OpensTable}
use Rattle.sis_volume.proofs.Committed.{opens-committed}
use Rattle.sis_volume.proofs.volume.Volume.open.Goals as goal

pub returns-in-Ok-new-clause-opens : goal.returns-in-Ok-new-clause-opens
returns-in-Ok-new-clause-opens g c =
    let kept = c.in-Ok.ensures.kept in
    subst (λ (d : g.row.D.Denot). OpensTable c.in-Ok.opened.kept (g.D.Disk.seen d)) (sym c.in-Ok-new.ensures.ok)
    (opens-committed c.in-Ok.opened.kept c.in-Ok.opened.journal.second c.in-Ok.opened.places.committed (g.D.Disk.seen c.read_volume.new.disk) kept.log c.in-Ok.ensures.good (kept.committed refl))

pub returns-in-Ok-new-clause-held : goal.returns-in-Ok-new-clause-held
returns-in-Ok-new-clause-held g c =
    let kept = c.in-Ok.ensures.kept.committed refl in
    kept.places ∙ ap used_places (kept.same refl)
