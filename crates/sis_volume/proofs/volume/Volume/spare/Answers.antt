use Rattle.std.proofs.Common.{ap, ◌∙◌}
use Rattle.sis_places.specs.Places.{PlacesView}
use Rattle.sis_volume.specs.View.{VolumeView, count_of, is_spare, spare}
use Rattle.sis_volume.proofs.Counts.{held_is, spare_bits-is}
use Rattle.sis_volume.proofs.Volumes.{bits-kept}
use Rattle.sis_volume.proofs.volume.Volume.spare.Goals as goal

pub returns : goal.returns
returns g c =
    let l = c.self.inside.kept.layout in
    let p = c.self.inside.places in
    c.spare.ensures
    ∙ spare_bits-is l p c.self.invariant.table.layout (bits-kept _ _ _ _ _ _ c.self.invariant)
    ∙ ap (λ (q : PlacesView). count_of l (is_spare l q)) (held_is c.self.inside.kept p c.self.invariant.used)
    ∙ ap (λ (v : VolumeView). spare v) c.self.view_is
