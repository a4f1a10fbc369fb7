use Rattle.std.proofs.Common.{Bool, ap, sym, ◌∙◌}
use Rattle.sis_places.specs.Inside.{has_bit, is_match}
use Rattle.sis_places.proofs.WordLemmas.{held_bit, spare_bit}
use Rattle.sis_places.proofs.words.matching.Goals as goal

pub returns-then-spare : goal.returns-then-spare
returns-then-spare c = λ i lt.
    spare_bit c.args.current c.args.committed i c.ranges.current.fits c.ranges.committed.fits lt
    ∙ ap (λ (b : Bool). is_match b (has_bit c.args.current i) (has_bit c.args.committed i)) (sym c.if-spare.true)

pub returns-else-spare : goal.returns-else-spare
returns-else-spare c = λ i lt.
    held_bit c.args.current c.args.committed i
    ∙ ap (λ (b : Bool). is_match b (has_bit c.args.current i) (has_bit c.args.committed i)) (sym c.if-spare.false)
