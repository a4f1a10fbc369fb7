use Rattle.std.proofs.Common.{sym, ◌∙◌}
use Rattle.sis_table.proofs.KeptLemmas.{kept_next_none, kept_next_some}
use Rattle.sis_table.proofs.files.Files.next_node.Goals as goal

pub returns-in_err-node : goal.returns-in_err-node
returns-in_err-node c =
    rw c.from_residual.ensures
    (kept_next_none c.self.inside.nodes c.args.self.now c.args.after c.self.invariant.keyed c.self.view_is
    (sym (c.range.ensures.between tt) ∙ c.in_err-node.ensures.steps.0))

pub returns : goal.returns
returns c =
    kept_next_some c.self.inside.nodes c.args.self.now c.args.after (c.in_ok-node.field-0-0.now, c.in_ok-node.node.now) _ c.self.invariant.keyed c.self.view_is c.self.invariant.indexed.rising
    (sym (c.range.ensures.between tt) ∙ c.in_ok-node.ensures.steps)
