use Rattle.std.proofs.Common.{◌≡◌, ◌∙◌, ◌-◌, ℕ, List, None, arith, sym, ap, subst}
use Rattle.std.specs.Prelude.{not}
use Rattle.std.specs.Ordering.{nat_cmp}
use Rattle.std.specs.FinMap.{FinMap, retain_keys}
use Rattle.sis_ranges.specs.declared.run.Run.{Run}
use Rattle.sis_ranges.specs.Extents.{in_stretch, map_of}
use Rattle.sis_ranges.specs.Inside.{AreCounted, blocks_between}
use Rattle.sis_ranges.proofs.PartLemmas.{map_of-cut, AreCounted-put_over, gone-bound}
use Rattle.sis_ranges.proofs.MapLemmas.{without_none}
use Rattle.sis_ranges.proofs.extents.Extents.clear_run.Goals as goal
use Rattle.sis_ranges.proofs.extents.Extents.clear_run.Goals.{In_ok-replace}

pub returns-then-count-eq0-clause-ok : goal.returns-then-count-eq0-clause-ok
returns-then-count-eq0-clause-ok c = without_none c.args.self.now c.args.first c.args.count (omega (arith, c.if-count-eq0.true))

gone_is : (c : In_ok-replace) → c.between-gone.result ≡ blocks_between c.args.first c.saturating_add-end.result c.self.inside.runs.items
gone_is c = c.between-gone.ensures ∙ ap (λ (l : List Run). blocks_between c.args.first c.saturating_add-end.result l) c.deref.ensures.value

pub overflow_sub-self : goal.overflow_sub-self
overflow_sub-self c =
    gone-bound c.self.inside.runs.items c.self.inside.blocks c.args.first c.saturating_add-end.result _ c.self.invariant (gone_is c)

pub invariant_of-self-2 : goal.invariant_of-self-2
invariant_of-self-2 c =
    subst (λ (l : List Run). AreCounted l (c.self.inside.blocks - c.between-gone.result)) (sym c.in_ok-replace.ensures.ok)
    (AreCounted-put_over c.args.first c.saturating_add-end.result c.self.inside.blocks c.between-gone.result _ None c.self.inside.runs.items c.self.invariant
    (omega (arith, c.ranges.first, c.saturating_add-end.ensures)) tt (gone_is (goal.at.invariant_of-self-2 c).In_ok-replace) (omega arith))

pub returns-clause-ok : goal.returns-clause-ok
returns-clause-ok c =
    ap map_of c.in_ok-replace.ensures.ok ∙ map_of-cut c.args.first c.args.count c.saturating_add-end.result c.self.inside.runs.items (omega (arith, c.ranges.first)) c.saturating_add-end.ensures c.self.invariant.extents
    ∙ ap (λ (m : FinMap nat_cmp ℕ). retain_keys m (λ k. not (in_stretch c.args.first c.args.count k))) c.self.view_is
