use Rattle.std.proofs.Common.{◌≡◌, ◌∙◌, ◌-◌, ◌+◌, ℕ, List, Some, refl, arith, sym, ap, subst}
use Rattle.std.specs.Ordering.{nat_cmp}
use Rattle.std.specs.FinMap.{FinMap}
use Rattle.sis_ranges.specs.declared.run.Run.{Run}
use Rattle.sis_ranges.specs.Extents.{block_end, map_of, with_blocks}
use Rattle.sis_ranges.specs.Inside.{AreCounted, blocks_between}
use Rattle.sis_ranges.proofs.PartLemmas.{map_of-set, AreCounted-put_over, gone-bound}
use Rattle.sis_ranges.proofs.MapLemmas.{blocks_bound, with_none}
use Rattle.sis_ranges.proofs.extents.Extents.set_run.Goals as goal
use Rattle.sis_ranges.proofs.extents.Extents.set_run.Goals.{In_ok-replace}

pub returns-then-run-eq0-clause-ok : goal.returns-then-run-eq0-clause-ok
returns-then-run-eq0-clause-ok c = with_none c.args.self.now c.args.run (omega (arith, c.if-run-eq0.true))

gone_is : (c : In_ok-replace) → c.between-gone.result ≡ blocks_between c.args.run.first (block_end c.args.run) c.self.inside.runs.items
gone_is c = c.between-gone.ensures ∙ ap (λ (l : List Run). blocks_between c.args.run.first (block_end c.args.run) l) c.deref.ensures.value

pub overflow_sub-self : goal.overflow_sub-self
overflow_sub-self c =
    gone-bound c.self.inside.runs.items c.self.inside.blocks c.args.run.first (block_end c.args.run) _ c.self.invariant (gone_is c)

pub overflow_add-self : goal.overflow_add-self
overflow_add-self c = omega (arith, c.self.invariant.count, blocks_bound c.self.inside.runs.items c.self.invariant.extents, c.requires.blocks)

pub invariant_of-self-2 : goal.invariant_of-self-2
invariant_of-self-2 c =
    subst (λ (l : List Run). AreCounted l (c.self.inside.blocks - c.between-gone.result + c.args.run.count)) (sym c.in_ok-replace.ensures.ok)
    (AreCounted-put_over c.args.run.first (block_end c.args.run) c.self.inside.blocks c.between-gone.result _ (Some c.args.run) c.self.inside.runs.items c.self.invariant
    (omega (arith, c.if-run-eq0.false), refl, refl) c.requires (gone_is (goal.at.invariant_of-self-2 c).In_ok-replace) (omega arith))

pub returns-clause-ok : goal.returns-clause-ok
returns-clause-ok c =
    ap map_of c.in_ok-replace.ensures.ok ∙ map_of-set c.args.run c.self.inside.runs.items c.self.invariant.extents.maximal
    ∙ ap (λ (m : FinMap nat_cmp ℕ). with_blocks m c.args.run) c.self.view_is
