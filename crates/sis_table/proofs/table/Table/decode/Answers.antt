use Rattle.sis_table.specs.Reading.{named}
use Rattle.std.proofs.Common.{length, ap, sym, subst, ◌∙◌, arith}
use Rattle.std.proofs.lemmas.Result.{err_from_is_err_and}
use Rattle.sis_table.specs.Volume.{VolumeTable}
use Rattle.sis_reading.specs.Steps.{Fails}
use Rattle.sis_table.proofs.ReadingLaws.{table_at-found, only_this}
use Rattle.sis_table.proofs.table.Table.decode.Goals as goal

pub returns-in_err-next_id-clause-only : goal.returns-in_err-next_id-clause-only
returns-in_err-next_id-clause-only c = λ v table layout text.
    let p = err_from_is_err_and c.from_residual.result c.from_residual.ensures.1 in
    rw (p.1, p.2) (subst (Fails {Y = VolumeTable} (named c.in_err-next_id.field-0.0)) (only_this c.args.layout c.args.bytes.now v table layout text) c.in_err-next_id.ensures)

pub invariant_of-result : goal.invariant_of-result
invariant_of-result c =
    let found = table_at-found c.args.layout c.args.bytes.now _ c.requires (λ i. omega (arith, c.type_inv.bytes i)) c.in_ok-next_id.ensures in
    record { table = found.1; measure = ap length found.0 }

pub returns-clause-found : goal.returns-clause-found
returns-clause-found c =
    let found = table_at-found c.args.layout c.args.bytes.now _ c.requires (λ i. omega (arith, c.type_inv.bytes i)) c.in_ok-next_id.ensures in
    found.0

pub returns-clause-only : goal.returns-clause-only
returns-clause-only c = λ v table layout text. sym (only_this c.args.layout c.args.bytes.now v table layout text) ∙ c.in_ok-next_id.ensures
