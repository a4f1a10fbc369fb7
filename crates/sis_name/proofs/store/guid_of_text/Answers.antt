use Rattle.std.proofs.Common.{◌≡◌, arith, ap, sym, ◌∙◌}
use Rattle.std.specs.Bool.{then_some}
use Rattle.std.specs.Str.{bytes_eq}
use Rattle.uuid.specs.Text.{hyphenated_text, lower, parsed}
use Rattle.sis_name.proofs.StoreLemmas.{no_byte, no_parse, spelled, ok_of_parse}
use Rattle.sis_name.proofs.store.guid_of_text.Goals as goal

pub returns-in_err-bytes : goal.returns-in_err-bytes
returns-in_err-bytes c = c.from_residual.ensures ∙ sym (no_byte c.args.text.now c.in_err-bytes.ensures.none)

pub returns-in_err-uuid : goal.returns-in_err-uuid
returns-in_err-uuid c =
    let read : c.ok.result ≡ parsed c.in_ok-bytes.bytes = c.ok.ensures.value ∙ ok_of_parse c.try_parse_ascii.result c.in_ok-bytes.bytes c.try_parse_ascii.ensures.ok c.try_parse_ascii.ensures.bytes in
    c.from_residual-in_err-uuid.ensures ∙ sym (no_parse c.args.text.now (ap parsed (sym c.in_ok-bytes.ensures.same) ∙ sym read ∙ c.in_err-uuid.was))

pub returns : goal.returns
returns c =
    let read : c.ok.result ≡ parsed c.in_ok-bytes.bytes = c.ok.ensures.value ∙ ok_of_parse c.try_parse_ascii.result c.in_ok-bytes.bytes c.try_parse_ascii.ensures.ok c.try_parse_ascii.ensures.bytes in
    let is_parsed = ap parsed (sym c.in_ok-bytes.ensures.same) ∙ sym read ∙ c.in_ok-uuid.was in
    let spelling = c.as_bytes.ensures.value ∙ c.encode_lower-spelling.ensures.text ∙ ap (hyphenated_text lower) c.hyphenated.ensures in
    let inside = c.as_slice.ensures ∙ c.in_ok-bytes.ensures.same in
    let test = c.eq.ensures ∙ ap (λ xs. bytes_eq xs c.as_slice.result.now) spelling ∙ ap (λ xs. bytes_eq (hyphenated_text lower c.in_ok-uuid.uuid) xs) inside in
    c.then_some.ensures ∙ ap (then_some c.eq.result) c.to_bytes_le.ensures ∙ spelled c.args.text.now c.in_ok-uuid.uuid c.eq.result (omega (arith, c.fits-text)) is_parsed (sym test)
