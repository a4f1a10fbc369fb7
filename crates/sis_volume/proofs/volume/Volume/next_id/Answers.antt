use Rattle.std.proofs.Common.{◌≡◌, ◌*◌, ℕ, length, subst}
use Rattle.std.specs.Prelude.{IfSome}
use Rattle.sis_disk.specs.Record.{live_of}
use Rattle.sis_journal.proofs.Readings.{live_sized}
use Rattle.sis_volume.specs.View.{VolumeView}
use Rattle.sis_volume.proofs.volume.Volume.next_id.Goals as goal

pub returns-clause-sized : goal.returns-clause-sized
returns-clause-sized g c =
    let seen = g.D.Disk.seen c.self.inside.disk in
    subst (λ (x : VolumeView). IfSome (live_of x.seen) (λ live. length live ≡ 4096 * x.table.layout.total)) c.self.view_is
    (subst (λ (n : ℕ). IfSome (live_of seen) (λ live. length live ≡ n)) c.self.invariant.size
    (live_sized seen.told seen.size (g.met.D.Disk.sized c.self.inside.disk)))
