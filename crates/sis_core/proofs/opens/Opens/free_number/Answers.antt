use Rattle.std.proofs.Common.{not, ap, sym, ◌∙◌}
use Rattle.std.specs.List.{list_any}
use Rattle.sis_core.specs.Opens.{is_as}
use Rattle.sis_core.proofs.OpensLemmas.{least_behind, least_found, least_none}
use Rattle.sis_core.proofs.opens.Opens.free_number.Goals as goal

pub returns-then-not-has : goal.returns-then-not-has
returns-then-not-has c =
    least_found (λ n. not (list_any (is_as c.args.client n) c.args.self.now)) c.loop-number.number
    c.loop-number-test.true (ap not (sym c.has.ensures ∙ c.if-not-has.true)) c.loop-number.invariant

pub loop-number-preserved : goal.loop-number-preserved
loop-number-preserved c =
    least_behind (λ n. not (list_any (is_as c.args.client n) c.args.self.now)) c.loop-number.number
    c.loop-number-test.true (ap not (sym c.has.ensures ∙ c.if-not-has.false)) c.loop-number.invariant

pub returns : goal.returns
returns c =
    least_none (λ n. not (list_any (is_as c.args.client n) c.args.self.now)) c.loop-number.number
    c.loop-number-test.false c.loop-number.invariant
