use Rattle.sis_places.proofs.WordLemmas.{mask_is}
use Rattle.sis_places.proofs.words.mask.Goals as goal

pub returns : goal.returns
returns c = mask_is c.args.low c.args.count c.requires.some c.requires.within
