use Rattle.std.proofs.Common.{◌==◌, arith}
use Rattle.std.proofs.lemmas.Grind.{common_steps}
use Rattle.sis_script.proofs.LineLemmas.{split_first, split_last}
use Rattle.sis_script.proofs.fields.split_once.Goals as goal

pub returns-in-Some-clause-parts : goal.returns-in-Some-clause-parts
returns-in-Some-clause-parts c =
    let e = split_first (λ b. b == c.args.byte) c.args.text.now c.in-Some.at c.in-Some.ensures.place in
    grind (arith, common_steps, e)

pub returns-in-None-clause-parts : goal.returns-in-None-clause-parts
returns-in-None-clause-parts c = split_last (λ b. b == c.args.byte) c.args.text.now c.in-None.ensures.place
