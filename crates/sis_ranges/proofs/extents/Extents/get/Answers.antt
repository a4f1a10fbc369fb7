use Rattle.std.proofs.Common.{arith, sym, ◌∙◌}
use Rattle.sis_ranges.proofs.MapLemmas.{get_by}
use Rattle.sis_ranges.proofs.extents.Extents.get.Goals as goal

pub returns-in-Some : goal.returns-in-Some
returns-in-Some c = sym (get_by c.deref.result.now c.self.inside.runs.items c.args.self.now c.args.block c.deref.ensures.value c.self.view_is
    ∙ c.in-Some.ensures.mapped c.args.block c.if-run-block.true c.in-Some.ensures.later)

pub returns-in_default : goal.returns-in_default
returns-in_default c = sym (get_by c.deref.result.now c.self.inside.runs.items c.args.self.now c.args.block c.deref.ensures.value c.self.view_is
    ∙ c.in-Some.ensures.low c.args.block (omega arith) c.if-run-block.false)

pub returns-in_default-2 : goal.returns-in_default-2
returns-in_default-2 c = sym (get_by c.deref.result.now c.self.inside.runs.items c.args.self.now c.args.block c.deref.ensures.value c.self.view_is ∙ c.in_default.ensures c.args.block (omega arith))
