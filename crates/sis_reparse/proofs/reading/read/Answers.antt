use Rattle.std.proofs.Common.{◌∙◌, ap, arith}
use Rattle.std.proofs.lemmas.List.{take_rest}
use Rattle.std.proofs.lemmas.List.Elements.{All-from_get_or}
use Rattle.byteorder.specs.Endian.{little_number}
use Rattle.sis_reparse.proofs.Bytes.{IsByte}
use Rattle.sis_reparse.proofs.ReadLemmas.{fields_found}
use Rattle.sis_reparse.proofs.reading.read.Goals as goal

pub returns-clause-spelled : goal.returns-clause-spelled
returns-clause-spelled c =
    let bytes = c.args.bytes.now in
    fields_found bytes _ _ _ _ _ _ _ (All-from_get_or IsByte bytes 0 (λ i lt. omega (arith, c.type_inv.bytes i)))
    c.in_ok-whole.ensures.value c.in_ok-head.ensures c.bytes_at.ensures
    (c.read_u64.ensures ∙ ap (little_number 8) (take_rest bytes 32))
    (c.read_u64-2.ensures ∙ ap (little_number 8) (take_rest bytes 40))
    (c.read_u64-3.ensures ∙ ap (little_number 8) (take_rest bytes 48))
    c.bytes_at-2.ensures
