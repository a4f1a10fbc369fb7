use Rattle.std.proofs.Common.{ap, sym, ◌∙◌}
use Rattle.sis_name.specs.StoreNames.{store_guid}
use Rattle.sis_name.proofs.store.guid_of_units.Goals as goal

pub returns : goal.returns
returns c = c.guid_of_text.ensures ∙ sym (ap store_guid c.in_ok-text_between.ensures.some)
