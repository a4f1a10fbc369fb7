use Rattle.std.proofs.Common.{sym, subst}
use Rattle.sis_table.specs.Drafts.{Drafts}
use Rattle.sis_table.specs.Volume.{VolumeTable}
use Rattle.sis_table.proofs.DraftLemmas.{drafts_measured}
use Rattle.sis_table.proofs.table.Table.publish.Goals as goal

pub invariant_of-self-2 : goal.invariant_of-self-2
invariant_of-self-2 c =
    let drafts = subst (λ (v : VolumeTable). Drafts v c.args.draft c.requires.0) (sym c.self.view_is) c.requires.1 in
    drafts_measured _ c.requires.0 c.args.draft c.publish.new.self drafts (c.in_ok-publish.ensures.ok c.requires.0.nodes drafts.stands.rising drafts.stands.leads)
