use Rattle.std.proofs.Common.{◌≡◌, ◌≤◌, ◌-◌, ℕ, suc, arith, sym, ap, subst, ◌∙◌, take}
use Rattle.std.proofs.lemmas.Bool.Decides.{nat_tests}
use Rattle.sis_ranges.specs.declared.run.Run.{Run}
use Rattle.sis_ranges.specs.Extents.{block_end}
use Rattle.sis_ranges.proofs.CutLemmas.{begun-first, trim-set, trim-keep, trim-none, length-before}
use Rattle.sis_ranges.proofs.cutting.trim.Goals as goal
use Rattle.sis_ranges.proofs.cutting.trim.Goals.{else-count-gt0-via-then-count-gt0+else-not-ends_by, else-count-gt0-via-else-count-gt0}

pub index-requires : goal.index-requires
index-requires c = omega (arith, c.requires, c.if-count-gt0.true, length-before c.args.runs.now.items c.args.block, c.args.runs.now.ok.0)

pub index-requires-then-not-ends_by : goal.index-requires-then-not-ends_by
index-requires-then-not-ends_by c = omega (arith, c.requires, c.if-count-gt0.true, length-before c.args.runs.now.items c.args.block, c.args.runs.now.ok.0)

pub index_mut-requires : goal.index_mut-requires
index_mut-requires c = omega (arith, c.requires, c.if-count-gt0.true, length-before c.args.runs.now.items c.args.block, c.args.runs.now.ok.0)

pub overflow_sub-block : goal.overflow_sub-block
overflow_sub-block c =
    subst (λ (r : Run). r.first ≤ c.args.block) (sym c.index-then-not-ends_by.ensures)
    (begun-first c.args.runs.now.items c.args.block (c.args.count - 1) _ (omega (arith, c.requires, c.if-count-gt0.true)))

pub returns-then-not-ends_by-clause-front : goal.returns-then-not-ends_by-clause-front
returns-then-not-ends_by-clause-front c =
    trim-set c.args.runs.now.items c.args.block c.args.count (c.args.count - 1) _ _ _ (omega (arith, c.if-count-gt0.true)) c.requires
    (omega (arith, c.requires, c.if-count-gt0.true, length-before c.args.runs.now.items c.args.block))
    c.index_mut.ensures.value c.index.ensures c.index-then-not-ends_by.ensures
    (grind (arith, nat_tests, c.ends_by.ensures, c.if-not-ends_by.true))

pub returns-else-count-gt0-clause-front : goal.returns-else-count-gt0-clause-front
returns-else-count-gt0-clause-front c = elim c.else-count-gt0.branch [
  | else-count-gt0-via-then-count-gt0+else-not-ends_by w ↦
      let by : block_end w.index.result.now ≤ c.args.block = grind (arith, nat_tests, w.ends_by.ensures, w.if-not-ends_by.false) in
      let next : c.args.count ≡ suc (c.args.count - 1) = omega (arith, w.if-count-gt0.true) in
      ap (λ (n : ℕ). take n c.args.runs.now.items) next
      ∙ trim-keep c.args.runs.now.items c.args.block (c.args.count - 1) _ (sym next ∙ c.requires)
      (subst (λ (r : Run). block_end r ≤ c.args.block) w.index.ensures by)
  | else-count-gt0-via-else-count-gt0 w ↦
      let none : c.args.count ≡ 0 = omega (arith, w.if-count-gt0.false) in
      ap (λ (n : ℕ). take n c.args.runs.now.items) none ∙ trim-none c.args.runs.now.items c.args.block (sym none ∙ c.requires)
]
