use Rattle.std.proofs.Common.{◌∙◌, ◌-◌, ℕ, List, arith, sym, ap, subst}
use Rattle.std.specs.Prelude.{nat_lt}
use Rattle.std.specs.Ordering.{nat_cmp}
use Rattle.std.specs.FinMap.{FinMap, retain_keys}
use Rattle.sis_ranges.specs.declared.run.Run.{Run}
use Rattle.sis_ranges.specs.Extents.{map_of}
use Rattle.sis_ranges.specs.Inside.{AreCounted, blocks_between}
use Rattle.sis_ranges.proofs.PartLemmas.{map_of-before, AreCounted-before, gone-bound}
use Rattle.sis_ranges.proofs.extents.Extents.clear_from.Goals as goal

pub overflow_sub-self : goal.overflow_sub-self
overflow_sub-self c =
    gone-bound c.self.inside.runs.items c.self.inside.blocks c.args.block _ _ c.self.invariant
    (c.between.ensures ∙ ap (λ (l : List Run). blocks_between c.args.block 18446744073709551615 l) c.deref.ensures.value)

pub invariant_of-self : goal.invariant_of-self
invariant_of-self c =
    subst (λ (l : List Run). AreCounted l (c.self.inside.blocks - c.between.result)) (sym c.cut.ensures)
    (AreCounted-before c.self.inside.runs.items c.self.inside.blocks c.args.block 18446744073709551615 _ c.self.invariant (omega arith) (omega arith)
    (c.between.ensures ∙ ap (λ (l : List Run). blocks_between c.args.block 18446744073709551615 l) c.deref.ensures.value))

pub returns-clause-map : goal.returns-clause-map
returns-clause-map c =
    ap map_of c.cut.ensures
    ∙ map_of-before c.args.block c.self.inside.runs.items c.self.invariant.extents.maximal
    ∙ ap (λ (m : FinMap nat_cmp ℕ). retain_keys m (λ k. nat_lt k c.args.block)) c.self.view_is
