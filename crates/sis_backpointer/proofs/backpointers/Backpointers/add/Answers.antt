use Rattle.std.proofs.Common.{◌≡◌, ◌∙◌, true, refl, sym, ap, subst}
use Rattle.std.specs.List.{list_all}
use Rattle.sis_backpointer.specs.Backs.{IsRising, is_below, has_index, with_back}
use Rattle.sis_backpointer.proofs.Edits.{IsRising-with_back, with_back-above, with_back-gap, has_index-above, has_index-absent, has_index-found, gap_absent, found_in, gap_in, not_both}
use Rattle.sis_backpointer.proofs.backpointers.Backpointers.add.Goals as goal
use Rattle.sis_backpointer.proofs.backpointers.Backpointers.add.Goals.{Then-is_above}

-- above all others

above : (c : Then-is_above) → list_all (is_below c.args.back.index) c.self.inside.backs.items ≡ true
above c = sym (ap (list_all (is_below c.args.back.index)) c.deref.ensures.value) ∙ sym c.is_above.ensures ∙ c.if-is_above.true

pub invariant_of-self-then-is_above : goal.invariant_of-self-then-is_above
invariant_of-self-then-is_above c =
    let high = above (goal.at.invariant_of-self-then-is_above c).Then-is_above in
    subst IsRising (with_back-above c.args.back c.self.inside.backs.items high ∙ sym c.in_ok-push.ensures.items)
    (IsRising-with_back c.args.back c.self.inside.backs.items c.self.invariant (has_index-above c.args.back.index c.self.inside.backs.items high))

pub returns-then-is_above-clause-ok : goal.returns-then-is_above-clause-ok
returns-then-is_above-clause-ok c =
    c.in_ok-push.ensures.items
    ∙ sym (with_back-above c.args.back c.self.inside.backs.items (above (goal.at.returns-then-is_above-clause-ok c).Then-is_above))
    ∙ ap (with_back c.args.back) c.self.view_is

pub returns-then-is_above-clause-present : goal.returns-then-is_above-clause-present
returns-then-is_above-clause-present c there =
    absurd (not_both c.args.back.index c.self.inside.backs.items _ c.self.view_is (has_index-above c.args.back.index c.self.inside.backs.items (above (goal.at.returns-then-is_above-clause-present c).Then-is_above)) there)

pub returns-in_err-push-clause-present : goal.returns-in_err-push-clause-present
returns-in_err-push-clause-present c there =
    absurd (not_both c.args.back.index c.self.inside.backs.items _ c.self.view_is (has_index-above c.args.back.index c.self.inside.backs.items (above (goal.at.returns-in_err-push-clause-present c).Then-is_above)) there)

-- present

pub returns-in-Ok-clause-cause : goal.returns-in-Ok-clause-cause
returns-in-Ok-clause-cause c = (
  refl,
  sym (ap (has_index c.args.back.index) c.self.view_is)
      ∙ has_index-found c.args.back.index c.self.inside.backs.items c.in-Ok.field-0 c.self.invariant (found_in _ _ _ _ c.deref-2.ensures.value c.in-Ok.ensures.found),
)

-- in a gap

pub invariant_of-self-in-Err : goal.invariant_of-self-in-Err
invariant_of-self-in-Err c =
    let gap = gap_in c.args.back.index c.in-Err.at _ c.self.inside.backs.items c.deref-2.ensures.value c.in-Err.ensures.absent in
    subst IsRising (with_back-gap c.args.back c.self.inside.backs.items c.in-Err.at gap ∙ sym c.in_ok-insert-in-Err.ensures.items)
    (IsRising-with_back c.args.back c.self.inside.backs.items c.self.invariant (has_index-absent c.args.back.index c.self.inside.backs.items (gap_absent _ _ _ gap)))

pub returns-in_ok-insert-in-Err-clause-ok : goal.returns-in_ok-insert-in-Err-clause-ok
returns-in_ok-insert-in-Err-clause-ok c =
    c.in_ok-insert-in-Err.ensures.items
    ∙ sym (with_back-gap c.args.back c.self.inside.backs.items c.in-Err.at (gap_in _ _ _ _ c.deref-2.ensures.value c.in-Err.ensures.absent))
    ∙ ap (with_back c.args.back) c.self.view_is

pub returns-in_ok-insert-in-Err-clause-present : goal.returns-in_ok-insert-in-Err-clause-present
returns-in_ok-insert-in-Err-clause-present c there =
    absurd (not_both c.args.back.index c.self.inside.backs.items _ c.self.view_is
    (has_index-absent c.args.back.index c.self.inside.backs.items (gap_absent _ _ _ (gap_in _ _ _ _ c.deref-2.ensures.value c.in-Err.ensures.absent))) there)

pub returns-in_err-insert-in-Err-clause-present : goal.returns-in_err-insert-in-Err-clause-present
returns-in_err-insert-in-Err-clause-present c there =
    absurd (not_both c.args.back.index c.self.inside.backs.items _ c.self.view_is
    (has_index-absent c.args.back.index c.self.inside.backs.items (gap_absent _ _ _ (gap_in _ _ _ _ c.deref-2.ensures.value c.in-Err.ensures.absent))) there)
