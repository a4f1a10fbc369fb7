use Rattle.std.proofs.Common.{◌≡◌, ◌+◌, ◌&&◌, Bool, true, false, sym, ap, ◌∙◌, arith}
use Rattle.std.specs.Prelude.{nat_le, nat_lt}
use Rattle.std.proofs.lemmas.Bool.Decides.{nat_tests}
use Rattle.sis_copyclose.proofs.FreshRuns.{among_is}
use Rattle.sis_copyclose.proofs.plan.is_within.Goals as goal

pub returns-then-first-block : goal.returns-then-first-block
returns-then-first-block c =
    let low : nat_le c.args.first c.args.block ≡ true = grind (arith, nat_tests) in
    sym (among_is c.args.first c.args.count c.args.block
    ∙ ap (λ (b : Bool). b && nat_lt c.args.block (c.args.first + c.args.count)) low)

pub returns-else-first-block : goal.returns-else-first-block
returns-else-first-block c =
    let low : nat_le c.args.first c.args.block ≡ false = grind (arith, nat_tests) in
    low
    ∙ sym (among_is c.args.first c.args.count c.args.block
    ∙ ap (λ (b : Bool). b && nat_lt c.args.block (c.args.first + c.args.count)) low)
