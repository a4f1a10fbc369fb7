use Rattle.std.proofs.Common.{ap, ◌∙◌}
use Rattle.std.specs.Prelude.{nat_lt}
use Rattle.sis_core.specs.Opens.{has_file, is_in}
use Rattle.sis_core.specs.declared.opens.index.FileOpens.{FileOpens}
use Rattle.sis_core.proofs.OpensIndex.{any_counted}
use Rattle.sis_core.proofs.opens.Opens.has_file.Goals as goal

pub returns : goal.returns
returns c =
    ap (λ (f : FileOpens). nat_lt 0 f.opens)
    (c.opens_in.ensures ∙ c.self.invariant.files c.args.file)
    ∙ any_counted (is_in c.args.file) c.self.inside.opens.items
    ∙ ap (has_file c.args.file) c.self.view_is
