use Rattle.std.proofs.Common.{ap, ◌∙◌}
use Rattle.sis_table.specs.Volume.{last_id}
use Rattle.sis_table.proofs.KeptLemmas.{last_kept}
use Rattle.sis_table.proofs.files.Files.last_id.Goals as goal

pub returns-in-Some : goal.returns-in-Some
returns-in-Some c = last_kept c.self.inside.nodes (c.in-Some.id.now, c.in-Some.field-0-1.now) c.self.invariant.keyed c.in-Some.ensures.last ∙ ap last_id c.self.view_is
