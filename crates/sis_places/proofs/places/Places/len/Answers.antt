use Rattle.std.proofs.Common.{length, sym, ap, ◌∙◌}
use Rattle.sis_places.specs.Places.{PlacesView}
use Rattle.sis_places.proofs.BitLemmas.{length-bits_of}
use Rattle.sis_places.proofs.places.Places.len.Goals as goal

pub returns-clause-current : goal.returns-clause-current
returns-clause-current c =
    sym (length-bits_of c.self.inside.len c.self.inside.current.items) ∙ ap (λ (v : PlacesView). length v.current) c.self.view_is

pub returns-clause-committed : goal.returns-clause-committed
returns-clause-committed c =
    sym (length-bits_of c.self.inside.len c.self.inside.committed.items) ∙ ap (λ (v : PlacesView). length v.committed) c.self.view_is
