use Rattle.std.proofs.Common.{rules, tests}
use Rattle.std.proofs.lemmas.List.{map-id}
use Rattle.std.proofs.lemmas.Iterator.{YieldsList-from_map}
use Rattle.std.proofs.lemmas.Iterator.Consumers.{YieldsList-at}
use Rattle.std.proofs.lemmas.Iterator.Adapters.{YieldsList-from_bytes, items_from_extend}
use Rattle.sis_name.proofs.store.add_ascii.Goals as goal

pub returns : goal.returns
returns c =
    let added = items_from_extend c.extend.result c.extend.ensures.ran (YieldsList-from_map _ (λ x. x) (YieldsList-at c.map.ensures.source (YieldsList-from_bytes c.args.text.now c.bytes.ensures.rest)) c.map.ensures.closure (λ x r q k. search (rules, tests))) in
    let joined = rw (map-id c.args.text.now) at added in
    search rules
