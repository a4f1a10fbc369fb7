use Rattle.std.proofs.Common.{find, ap, ◌∙◌}
use Rattle.sis_table.proofs.EditLemmas.{has_id}
use Rattle.sis_table.proofs.KeptLemmas.{kept_find}
use Rattle.sis_table.proofs.files.Files.node.Goals as goal

pub returns : goal.returns
returns c = c.get.ensures.value ∙ kept_find c.self.inside.nodes c.args.id c.self.invariant.keyed ∙ ap (find (has_id c.args.id)) c.self.view_is
