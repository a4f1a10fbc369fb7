use Rattle.std.proofs.Common.{arith}
use Rattle.sis_ranges.proofs.MapLemmas.{mapped_by, unmapped_by}
use Rattle.sis_ranges.proofs.extents.Extents.next_mapped.Goals as goal

pub returns-in-Some : goal.returns-in-Some
returns-in-Some c = (
  omega (arith, c.max-in-Some.ensures),
  omega (arith, c.max-in-Some.ensures, c.max.ensures, c.if-max-below.true),
  mapped_by c.deref.result.now c.self.inside.runs.items c.args.self.now c.deref.ensures.value c.self.view_is c.max-in-Some.result _
      (c.in-Some.ensures.mapped c.max-in-Some.result (omega (arith, c.max-in-Some.ensures)) (omega (arith, c.max-in-Some.ensures, c.in-Some.ensures.later, c.in-Some.ensures.some))),
  λ q ge lt. unmapped_by c.deref.result.now c.self.inside.runs.items c.args.self.now c.deref.ensures.value c.self.view_is q
      (c.in-Some.ensures.low q ge (omega (arith, c.max-in-Some.ensures, ge, lt))),
)

pub returns-in_default : goal.returns-in_default
returns-in_default c q ge lt = unmapped_by c.deref.result.now c.self.inside.runs.items c.args.self.now c.deref.ensures.value c.self.view_is q
    (c.in-Some.ensures.low q ge (omega (arith, c.max.ensures, c.if-max-below.false, ge, lt)))

pub returns-in_default-2 : goal.returns-in_default-2
returns-in_default-2 c q ge lt =
    unmapped_by c.deref.result.now c.self.inside.runs.items c.args.self.now c.deref.ensures.value c.self.view_is q (c.in_default.ensures q ge)
