use Rattle.std.proofs.Common.{◌-◌, ◌%◌, arith}
use Rattle.sis_places.proofs.Searches.{matching_is, test_no, first_of}
use Rattle.sis_places.proofs.WordLemmas.{split, none_set}
use Rattle.sis_places.proofs.words.first.Goals as goal

pub loop-at-preserved : goal.loop-at-preserved
loop-at-preserved c =
    let at = c.loop-at.at in
    let step = c.min-at.ensures in
    let lt = c.loop-at-test.true in
    let behind = c.loop-at.invariant.behind in
    record {
      behind = omega (arith, behind);
      within = omega (arith, step, lt);
      before = λ i ge less. split at i
          (λ there.
          test_no c.args.current.now c.args.committed.now c.args.spare at i c.matching.result there (omega (arith, step, less))
          (matching_is c.args.current.now c.args.committed.now c.args.spare at c.word_at.result c.word_at-in-loop-at.result c.matching.result c.word_at.ensures c.word_at-in-loop-at.ensures c.matching.ensures)
          (none_set c.matching.result (at % 64) (i - at) c.if-word-ne0.false))
          (λ low. c.loop-at.invariant.before i ge low);
    }

pub returns-then-word-ne0 : goal.returns-then-word-ne0
returns-then-word-ne0 c =
    first_of c.args.current.now c.args.committed.now c.args.spare c.args.from c.args.below c.loop-at.at c.matching.result c.min.result
    c.loop-at.invariant.behind c.loop-at-test.true c.loop-at.invariant.before
    (matching_is c.args.current.now c.args.committed.now c.args.spare c.loop-at.at c.word_at.result c.word_at-in-loop-at.result c.matching.result c.word_at.ensures c.word_at-in-loop-at.ensures c.matching.ensures) c.matching.type_inv
    (omega (arith, c.if-word-ne0.true)) c.min.ensures
