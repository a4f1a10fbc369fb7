use Rattle.std.specs.Map.Iter.{deref}
use Rattle.std.proofs.lemmas.Map.Iter.{rest_more}
use Rattle.sis_table.proofs.FileLemmas.{follows}
use Rattle.sis_table.proofs.table.Table.copy.Goals as goal

pub push-requires-clause-rises : goal.push-requires-clause-rises
push-requires-clause-rises c =
    (follows c.self.inside.layout c.self.inside.next_id c.self.inside.files c.loop-node.files c.loop-node.node-iterator c.next.new.self c.in-Some.node.now c.in_ok-copy.field-0
    c.self.invariant.table.nodes c.loop-node.invariant (rest_more deref _ _ _ c.in-Some.node c.in-Some.is c.next.ensures.steps) c.in_ok-copy.ensures).0

pub push-requires-clause-free : goal.push-requires-clause-free
push-requires-clause-free c =
    (follows c.self.inside.layout c.self.inside.next_id c.self.inside.files c.loop-node.files c.loop-node.node-iterator c.next.new.self c.in-Some.node.now c.in_ok-copy.field-0
    c.self.invariant.table.nodes c.loop-node.invariant (rest_more deref _ _ _ c.in-Some.node c.in-Some.is c.next.ensures.steps) c.in_ok-copy.ensures).1
