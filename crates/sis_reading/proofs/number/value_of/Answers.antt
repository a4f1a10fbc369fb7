use Rattle.std.proofs.Common.{◌∙◌}
use Rattle.sis_reading.proofs.NumberLemmas.{plain_utf8, parsed}
use Rattle.sis_reading.proofs.number.value_of.Goals as goal

pub returns-in-Some : goal.returns-in-Some
returns-in-Some c = c.ok.ensures.value ∙ parsed c.args.word.now c.in-Some.text.now c.parse.result c.requires c.in-Some.ensures.0 c.parse.ensures.value.0

pub returns-in-None : goal.returns-in-None
returns-in-None c = let k = plain_utf8 c.args.word.now c.requires in let n = c.in-None.ensures in cc
