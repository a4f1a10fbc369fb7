use Rattle.std.proofs.Common.{◌≡◌, ◌+◌, ap, ◌∙◌, arith}
use Rattle.std.proofs.lemmas.List.{take_rest}
use Rattle.byteorder.specs.Endian.{little_number}
use Rattle.sis_request.specs.Request.{number_at}
use Rattle.sis_request.proofs.Ranges.{lent_range}
use Rattle.sis_request.proofs.reading.read.Goals as goal

pub returns-clause-destination : goal.returns-clause-destination
returns-clause-destination c =
    let first : c.in_ok-source_len.source_len ≡ number_at 0 c.args.bytes.now = c.in_ok-source_len.ensures.same ∙ c.read_u32.ensures in
    let second : c.in_ok-destination_len.destination_len ≡ number_at 4 c.args.bytes.now =
    c.in_ok-destination_len.ensures.same ∙ c.read_u32-2.ensures ∙ ap (little_number 4) (take_rest c.args.bytes.now 4) in
    lent_range c.args.bytes.now _ (12 + c.in_ok-source_len.source_len) (12 + c.in_ok-source_len.source_len + c.in_ok-destination_len.destination_len) _ _
    (omega arith) c.in_ok-enough-2.ensures.ok c.in_ok-destination.ensures.bytes
    (ap (λ n. 12 + n) first)
    (omega (arith, first, second, c.in_ok-destination_len.ensures.low))
