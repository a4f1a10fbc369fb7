use Rattle.std.proofs.Common.{sym, ap, ◌∙◌}
use Rattle.std.specs.FinMap.{len}
use Rattle.sis_ranges.proofs.MapLemmas.{len-map_of}
use Rattle.sis_ranges.proofs.extents.Extents.len.Goals as goal

pub returns : goal.returns
returns c = c.self.invariant.count ∙ sym (len-map_of c.self.inside.runs.items c.self.invariant.extents.maximal) ∙ ap len c.self.view_is
