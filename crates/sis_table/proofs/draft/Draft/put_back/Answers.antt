use Rattle.std.proofs.Common.{sym}
use Rattle.sis_table.specs.Drafts.{file_at}
use Rattle.sis_table.proofs.DraftLemmas.{put_back_stands}
use Rattle.sis_table.proofs.draft.Draft.put_back.Goals as goal

pub returns-clause-ok : goal.returns-clause-ok
returns-clause-ok c = λ nodes taken change lacks keeps is.
    put_back_stands c.args.files.now nodes c.args.self.now c.args.node taken change c.put.new.self c.len_of_node.result lacks keeps is c.requires.short c.len_of_node.ensures.value
    (λ now leads. c.in_ok-put.ensures (file_at c.args.files.now) now (sym c.has_node.ensures) leads)
