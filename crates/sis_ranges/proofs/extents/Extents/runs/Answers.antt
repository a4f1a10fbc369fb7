use Rattle.std.proofs.Common.{sym, ap, ◌∙◌}
use Rattle.sis_ranges.specs.Extents.{runs_of}
use Rattle.sis_ranges.proofs.MapLemmas.{runs_of-map_of}
use Rattle.sis_ranges.proofs.extents.Extents.runs.Goals as goal

pub returns-clause-value : goal.returns-clause-value
returns-clause-value c = c.deref.ensures.value ∙ sym (runs_of-map_of c.self.inside.runs.items c.self.invariant.extents.maximal) ∙ ap runs_of c.self.view_is
