use Rattle.std.proofs.Common.{is_some, ap, ◌∙◌}
use Rattle.sis_table.specs.Volume.{has_name, id_of}
use Rattle.sis_table.proofs.ContentLemmas.{find_any, some_mapped}
use Rattle.sis_table.proofs.files.Files.has_name.Goals as goal

pub returns : goal.returns
returns c =
    c.is_some.ensures ∙ ap is_some c.find.ensures ∙ some_mapped id_of _ ∙ find_any (has_name c.args.name.now) c.args.self.now
