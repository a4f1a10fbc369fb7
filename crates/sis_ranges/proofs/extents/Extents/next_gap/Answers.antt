use Rattle.std.proofs.Common.{arith}
use Rattle.sis_ranges.proofs.CutLemmas.{split}
use Rattle.sis_ranges.proofs.MapLemmas.{full_by, gap_by}
use Rattle.sis_ranges.proofs.extents.Extents.next_gap.Goals as goal

pub loop-next-preserved : goal.loop-next-preserved
loop-next-preserved c = record {
  behind = omega (arith, c.loop-next.invariant.behind, c.in-Some.ensures.later);
  mapped = λ q ge lt. split c.loop-next.next q
      (λ there. full_by c.deref.result.now c.self.inside.runs.items c.args.self.now c.deref.ensures.value c.self.view_is q _
      (c.in-Some.ensures.mapped q (omega (arith, c.if-run-next.true, there)) lt))
      (λ before. c.loop-next.invariant.mapped q ge before);
}

pub returns-in_default : goal.returns-in_default
returns-in_default c = (
  c.loop-next.invariant.behind,
  c.loop-next-test.true,
  gap_by c.deref.result.now c.self.inside.runs.items c.args.self.now c.deref.ensures.value c.self.view_is c.loop-next.next
      (c.in-Some.ensures.low c.loop-next.next (omega arith) c.if-run-next.false),
  c.loop-next.invariant.mapped,
)

pub returns-in_default-2 : goal.returns-in_default-2
returns-in_default-2 c = (
  c.loop-next.invariant.behind,
  c.loop-next-test.true,
  gap_by c.deref.result.now c.self.inside.runs.items c.args.self.now c.deref.ensures.value c.self.view_is c.loop-next.next
      (c.in_default.ensures c.loop-next.next (omega arith)),
  c.loop-next.invariant.mapped,
)
