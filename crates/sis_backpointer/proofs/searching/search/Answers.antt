use Rattle.std.proofs.Common.{rules}
use Rattle.std.proofs.lemmas.List.Sorted.{answers_always}
use Rattle.sis_backpointer.specs.Backs.{index_of}
use Rattle.sis_backpointer.proofs.Edits.{searched}
use Rattle.sis_backpointer.proofs.searching.search.Goals as goal

pub returns : goal.returns
returns c =
    let facts = c.binary_search_by_key.ensures in
    let by_key = facts.position index_of (answers_always _ _ _ (λ f a r g called. search rules)) in
    searched _ c.requires c.args.index _ facts.bound by_key
