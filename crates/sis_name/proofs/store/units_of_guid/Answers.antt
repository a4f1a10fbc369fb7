use Rattle.std.proofs.Common.{◌++◌, ap, ◌∙◌}
use Rattle.uuid.specs.Text.{hyphenated_text, lower}
use Rattle.sis_name.specs.Units.{store_prefix}
use Rattle.sis_name.specs.StoreNames.{store_ending}
use Rattle.sis_name.proofs.store.units_of_guid.Goals as goal

pub returns : goal.returns
returns c =
    let prefix = c.in_ok-extend_from_slice.ensures.items ∙ ap (λ xs. xs ++ store_prefix) c.in_ok-units.ensures.items in
    let text = c.encode_lower-text.ensures.text ∙ ap (hyphenated_text lower) (c.hyphenated.ensures ∙ c.from_bytes_le.ensures) in
    c.in_ok-extend_from_slice-2.ensures.items ∙ ap (λ xs. xs ++ store_ending) (c.in_ok-add_ascii.ensures ∙ ap (λ xs. xs ++ c.encode_lower-text.result.now) prefix ∙ ap (λ xs. store_prefix ++ xs) text)
