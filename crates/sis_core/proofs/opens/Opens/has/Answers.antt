use Rattle.std.proofs.Common.{ap, is_some, Option, ◌∙◌}
use Rattle.sis_core.specs.Opens.{is_as}
use Rattle.sis_core.specs.declared.opens.Open.{Open}
use Rattle.sis_core.proofs.OpensIndex.{some_as}
use Rattle.sis_core.proofs.opens.Opens.has.Goals as goal

pub returns : goal.returns
returns c =
    c.is_some.ensures ∙ ap (λ (o : Option Open). is_some o) c.find.ensures
    ∙ some_as (is_as c.args.client c.args.number) c.args.self.now
