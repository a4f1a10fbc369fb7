use Rattle.std.proofs.Common.{◌≡◌, ℕ, List, IfSome, slice_get, refl, sym, ap, ◌∙◌, subst}
use Rattle.std.specs.Option.{option_copied}
use Rattle.std.specs.Range.Bound.{bound_map}
use Rattle.std.specs.declared.ops.Bound.TheVariants.{Unbounded}
use Rattle.std.specs.BTreeMap.Range.{IsEntryInRange, entries_between}
use Rattle.sis_name.specs.Units.{name_cmp}
use Rattle.sis_table.specs.Index.{AreIndexed}
use Rattle.sis_table.specs.declared.node.Node.{Node}
use Rattle.sis_table.proofs.NextLemmas.{from, next_none, next_some}
use Rattle.sis_table.proofs.files.Files.next.Goals as goal
use Rattle.sis_table.proofs.files.Files.next.Goals.{in-None, in-Some}

pub returns-in_err-id : goal.returns-in_err-id
returns-in_err-id c = λ v same.
    let start : bound_map (λ x. x.now) c.match-after.start ≡ from (option_copied c.args.after) = elim c.match-after.branch [
      | in-None w ↦ rw (w.start-is, w.in-None.is) refl
      | in-Some w ↦ rw (w.start-is, w.in-Some.is) refl
    ] in
    let indexed : AreIndexed v.nodes c.self.inside.names = subst (λ (nodes : List Node). AreIndexed nodes c.self.inside.names) (c.self.view_is ∙ sym same) c.self.invariant.indexed in
    rw c.from_residual.ensures
    (next_none v c.self.inside.names (option_copied c.args.after) indexed.index c.range.ensures.ordered
    (sym (ap (λ b. entries_between name_cmp b Unbounded c.self.inside.names.entries) start) ∙ sym (c.range.ensures.between tt) ∙ c.in_err-id.ensures.steps.0))

pub returns : goal.returns
returns c = λ v same.
    let start : bound_map (λ x. x.now) c.match-after.start ≡ from (option_copied c.args.after) = elim c.match-after.branch [
      | in-None w ↦ rw (w.start-is, w.in-None.is) refl
      | in-Some w ↦ rw (w.start-is, w.in-Some.is) refl
    ] in
    let indexed : AreIndexed v.nodes c.self.inside.names = subst (λ (nodes : List Node). AreIndexed nodes c.self.inside.names) (c.self.view_is ∙ sym same) c.self.invariant.indexed in
    let first = subst (λ (es : List (List ℕ × ℕ)). IfSome (slice_get es 0) (IsEntryInRange name_cmp (bound_map (λ x. x.now) c.match-after.start) Unbounded c.self.inside.names)) c.in_ok-id.ensures.steps (c.range.ensures.in_range tt).1 in
    next_some v c.self.inside.names (option_copied c.args.after) _ _ _ indexed c.range.ensures.ordered
    (sym (ap (λ b. entries_between name_cmp b Unbounded c.self.inside.names.entries) start) ∙ sym (c.range.ensures.between tt) ∙ c.in_ok-id.ensures.steps) first.1
