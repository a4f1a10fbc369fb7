use Rattle.std.proofs.Common.{Bool, cond, ap, sym, ◌∙◌}
use Rattle.sis_places.specs.Inside.{has_bit, is_among}
use Rattle.sis_places.proofs.WordLemmas.{put_set, put_clear}
use Rattle.sis_places.proofs.words.put.Goals as goal

pub returns-then-value : goal.returns-then-value
returns-then-value c = λ i lt.
    put_set c.args.word c.args.low c.args.count _ i c.mask.ensures
    ∙ ap (λ (b : Bool). cond (is_among c.args.low c.args.count i) b (has_bit c.args.word i)) (sym c.if-value.true)

pub returns-else-value : goal.returns-else-value
returns-else-value c = λ i lt.
    put_clear c.args.word c.args.low c.args.count _ i c.mask-else-value.ensures c.requires.within lt
    ∙ ap (λ (b : Bool). cond (is_among c.args.low c.args.count i) b (has_bit c.args.word i)) (sym c.if-value.false)
