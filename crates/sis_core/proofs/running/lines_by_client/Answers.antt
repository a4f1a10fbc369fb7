use Rattle.std.proofs.Common.{◌++◌, ◌∷◌, [], take, ap, sym, length, arith, ◌∙◌, refl}
use Rattle.std.proofs.lemmas.List.{take_more, length-set, length-take-le}
use Rattle.sis_model.specs.Order.{commands_of}
use Rattle.sis_model.specs.declared.history.Line.{Line}
use Rattle.sis_core.proofs.LineLemmas.{commands_few, counts_more}
use Rattle.sis_core.proofs.running.lines_by_client.Goals as goal

pub overflow_add-counts : goal.overflow_add-counts
overflow_add-counts c =
    let ls = take c.loop-line.line-index c.args.lines.now in
    let client = c.line-item.result.client in
    let most = (c.requires.clients c.loop-line.line-index c.line-item.result
    c.loop-line-test.true).1 in
    let same = ap (λ (l : Line). l.client) c.line-item.is in
    let is = c.loop-line.invariant.counted client (omega (arith, most, same)) in
    let few = commands_few client ls in
    let size = length-take-le c.loop-line.line-index c.args.lines.now
    (omega (arith, c.loop-line-test.true)) in
    omega (arith, is, few, size, c.loop-line-test.true, c.requires.few)

pub loop-line-preserved : goal.loop-line-preserved
loop-line-preserved c =
    let most = (c.requires.clients c.loop-line.line-index c.line-item.result
    c.loop-line-test.true).1 in
    let same = ap (λ (l : Line). l.client) c.line-item.is in
    record {
      counted = λ client lt.
          counts_more c.loop-line.counts _ (take c.loop-line.line-index c.args.lines.now)
          c.line-item.result _ c.loop-line.invariant.size (omega (arith, most, same)) refl refl
          c.loop-line.invariant.counted client lt
          ∙ ap length (ap (commands_of client)
          (sym (take_more c.args.lines.now c.loop-line.line-index c.line-item.result
          c.loop-line-test.true
          ∙ ap (λ (l : Line). take c.loop-line.line-index c.args.lines.now ++ l ∷ [])
          (sym c.line-item.is))));
      size =
          length-set c.loop-line.counts c.line-item.result.client _
          ∙ c.loop-line.invariant.size;
    }
