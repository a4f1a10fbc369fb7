use Rattle.std.proofs.Common.{[]}
use Rattle.std.proofs.lemmas.Result.{err_from_is_err_and}
use Rattle.sis_table.specs.Reading.{nodes_at}
use Rattle.sis_table.proofs.ReadingLoops.{node_read, node_fails, nodes_read}
use Rattle.sis_table.proofs.reading.nodes_of.Goals as goal

pub returns-in_err-node-clause-value : goal.returns-in_err-node-clause-value
returns-in_err-node-clause-value c =
    let p = err_from_is_err_and c.from_residual.result c.from_residual.ensures.1 in
    rw (p.1, p.2) (node_fails c.args.total c.args.layout.now c.args.next_id c.in_err-node.field-0.0 c.loop.front c.args.count c.loop.counter c.loop.rest.now
    (nodes_at c.args.total c.args.layout.now c.args.next_id [] c.args.count c.args.bytes.now) c.loop-test.true c.in_err-node.ensures.value c.loop.invariant.told)

pub loop-preserved : goal.loop-preserved
loop-preserved c = record {
  told = rw c.in_ok-push.ensures.ok (node_read c.args.total c.args.layout.now c.args.next_id c.loop.front c.args.count c.loop.counter c.loop.rest.now c.in_ok-node.node c.in_ok-node.after.now
      (nodes_at c.args.total c.args.layout.now c.args.next_id [] c.args.count c.args.bytes.now) c.loop-test.true c.in_ok-node.ensures.value c.loop.invariant.told);
  whole = c.in_ok-node.ensures.shorter;
}

pub returns-clause-value : goal.returns-clause-value
returns-clause-value c =
    nodes_read c.args.total c.args.layout.now c.args.next_id c.loop.front c.args.count c.loop.counter c.loop.rest.now
    (nodes_at c.args.total c.args.layout.now c.args.next_id [] c.args.count c.args.bytes.now) c.loop-test.false c.loop.invariant.told
