use Rattle.std.specs.Prelude.{min}
use Rattle.std.proofs.Common.{◌≡◌, ◌∙◌, ◌-◌, ℕ, ap, subst, sym, arith}
use Rattle.sis_ranges.specs.declared.run.Run.{Run}
use Rattle.sis_ranges.specs.Extents.{IsPart}
use Rattle.sis_ranges.proofs.MapLemmas.{get_by, part_by}
use Rattle.sis_ranges.proofs.extents.Extents.next_part.Goals as goal

pub returns-in-Some : goal.returns-in-Some
returns-in-Some c =
    let part : Run → Run = λ r. record { first = r.first; count = min r.count (c.args.below - r.first); place = r.place } in
    let read = part_by c.deref.result.now c.self.inside.runs.items c.args.self.now c.deref.ensures.value c.self.view_is c.args.from c.args.below c.in-Some.run' c.in-Some.ensures c.if-run-below.true c.if-from-below.true in
    let same : part c.from_block-run.result ≡ record { first = c.from_block-run.result.first; count = c.min.result; place = c.from_block-run.result.place }
    = ap (λ (n : ℕ). record { first = c.from_block-run.result.first; count = n; place = c.from_block-run.result.place }) (sym c.min.ensures) in
    subst (IsPart c.args.self.now c.args.from c.args.below) (ap part (sym c.from_block-run.ensures) ∙ same) read

pub returns-in_default : goal.returns-in_default
returns-in_default c q ge lt = absurd (omega (arith, c.if-from-below.false, ge, lt))

pub returns-in_default-2 : goal.returns-in_default-2
returns-in_default-2 c q ge lt = get_by c.deref.result.now c.self.inside.runs.items c.args.self.now q c.deref.ensures.value c.self.view_is
    ∙ c.in-Some.ensures.low q ge (omega (arith, c.if-run-below.false, lt))

pub returns-in_default-3 : goal.returns-in_default-3
returns-in_default-3 c q ge lt = get_by c.deref.result.now c.self.inside.runs.items c.args.self.now q c.deref.ensures.value c.self.view_is ∙ c.in_default.ensures q ge
