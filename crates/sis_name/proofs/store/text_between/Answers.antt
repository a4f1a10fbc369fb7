use Rattle.std.proofs.Common.{ap, ◌∙◌}
use Rattle.sis_name.specs.StoreNames.{store_guid}
use Rattle.sis_name.proofs.StoreLemmas.{no_prefix, no_ending, no_len, around, match_then, at_none}
use Rattle.sis_name.proofs.store.text_between.Goals as goal

pub returns-in_err-strip_prefix-clause-none : goal.returns-in_err-strip_prefix-clause-none
returns-in_err-strip_prefix-clause-none c = at_none c.from_residual.result (no_prefix c.args.units.now c.in_err-strip_prefix.ensures.cases)

pub returns-in_err-strip_suffix-clause-none : goal.returns-in_err-strip_suffix-clause-none
returns-in_err-strip_suffix-clause-none c =
    at_none c.from_residual-in_err-strip_suffix.result (no_ending c.args.units.now c.in_ok-strip_prefix.field-0.now c.in_ok-strip_prefix.ensures.cases.1 c.in_err-strip_suffix.ensures.cases)

pub returns-clause-some : goal.returns-clause-some
returns-clause-some c =
    let prefix = c.in_ok-strip_prefix.ensures.cases in
    let ending = c.in_ok-strip_suffix.ensures.cases in
    match_then c.as_array.result c.as_array.ensures.cases (λ other. tt) (λ text whole.
    around c.args.units.now c.in_ok-strip_prefix.field-0.now text.now prefix.0 prefix.1 ending.0 (whole.same ∙ ending.1))

pub returns-clause-none : goal.returns-clause-none
returns-clause-none c =
    let prefix = c.in_ok-strip_prefix.ensures.cases in
    let ending = c.in_ok-strip_suffix.ensures.cases in
    let text = c.in_ok-strip_suffix.field-0.now in
    let units = around c.args.units.now c.in_ok-strip_prefix.field-0.now text prefix.0 prefix.1 ending.0 ending.1 in
    match_then c.as_array.result c.as_array.ensures.cases (λ other. ap store_guid units ∙ no_len text other) (λ array whole. tt)
