use Rattle.std.proofs.Common.{◌≡◌, ◌++◌, List, take, drop, Option, arith, sym, ap, ap₂, ◌∙◌}
use Rattle.sis_ranges.specs.declared.run.Run.{Run}
use Rattle.sis_ranges.specs.Inside.{before, from, first_of, with_run, with_some}
use Rattle.sis_ranges.proofs.JoinLemmas.{with_runs-first}
use Rattle.sis_ranges.proofs.PartLemmas.{AreRuns-from, first_fits}
use Rattle.sis_ranges.proofs.cutting.replace.Goals as goal
use Rattle.sis_ranges.proofs.cutting.replace.Goals.{in-Some, in_default, in-Some-last, in_default-last, Joined-new, Joined-last}

last_is : (c : Joined-new) → c.first_from-last.result ≡ first_of (from c.args.end c.args.runs.now.items)
last_is c = c.first_from-last.ensures ∙ ap (λ (l : List Run). first_of (from c.args.end l)) c.deref.ensures.value

pub put-gap-requires-in-Some-last-clause-fits : goal.put-gap-requires-in-Some-last-clause-fits
put-gap-requires-in-Some-last-clause-fits c =
    omega (arith, (first_fits c.args.runs.now.items c.args.end c.in-Some-last.run' c.requires.runs.within (sym c.in-Some-last.is ∙ last_is (goal.at.put-gap-requires-in-Some-last-clause-fits c).Joined-new)).blocks)

front_new : (c : Joined-new) → take c.match-new.gap.at c.match-new.runs.items ≡ with_some (before c.args.first c.args.runs.now.items) c.args.new
front_new c = elim c.match-new.branch [
  | in-Some w ↦
      ap₂ (λ v g. take g.at v.items) w.runs-is w.gap-is ∙ w.put-gap.ensures.front
      ∙ ap (λ (l : List Run). with_run l w.in-Some.run') c.in_ok-gap.ensures.front
      ∙ sym (ap (λ (o : Option Run). with_some (before c.args.first c.args.runs.now.items) o) w.in-Some.is)
  | in_default w ↦
      ap₂ (λ v g. take g.at v.items) w.runs-is w.gap-is ∙ c.in_ok-gap.ensures.front
      ∙ sym (ap (λ (o : Option Run). with_some (before c.args.first c.args.runs.now.items) o) w.in_default.is)
]

back_new : (c : Joined-new) → drop c.match-new.gap.stop c.match-new.runs.items ≡ drop 1 (from c.args.end c.args.runs.now.items)
back_new c = elim c.match-new.branch [
  | in-Some w ↦ ap₂ (λ v g. drop g.stop v.items) w.runs-is w.gap-is ∙ w.put-gap.ensures.back ∙ c.in_ok-gap.ensures.back
  | in_default w ↦ ap₂ (λ v g. drop g.stop v.items) w.runs-is w.gap-is ∙ c.in_ok-gap.ensures.back
]

front_last : (c : Joined-last)
    → take c.match-new.gap.at c.match-new.runs.items ≡ with_some (before c.args.first c.args.runs.now.items) c.args.new
    → c.first_from-last.result ≡ first_of (from c.args.end c.args.runs.now.items)
    → take c.match-last.gap.at c.match-last.runs.items
    ≡ with_some (with_some (before c.args.first c.args.runs.now.items) c.args.new) (first_of (from c.args.end c.args.runs.now.items))
front_last c front is = elim c.match-last.branch [
  | in-Some-last w ↦
      ap₂ (λ v g. take g.at v.items) w.runs-is w.gap-is ∙ w.put-gap-in-Some-last.ensures.front
      ∙ ap (λ (l : List Run). with_run l w.in-Some-last.run') front
      ∙ ap (λ (o : Option Run). with_some (with_some (before c.args.first c.args.runs.now.items) c.args.new) o) (sym w.in-Some-last.is ∙ is)
  | in_default-last w ↦
      ap₂ (λ v g. take g.at v.items) w.runs-is w.gap-is ∙ front
      ∙ ap (λ (o : Option Run). with_some (with_some (before c.args.first c.args.runs.now.items) c.args.new) o) (sym w.in_default-last.is ∙ is)
]

back_last : (c : Joined-last) → drop c.match-new.gap.stop c.match-new.runs.items ≡ drop 1 (from c.args.end c.args.runs.now.items) → drop c.match-last.gap.stop c.match-last.runs.items ≡ drop 1 (from c.args.end c.args.runs.now.items)
back_last c back = elim c.match-last.branch [
  | in-Some-last w ↦ ap₂ (λ v g. drop g.stop v.items) w.runs-is w.gap-is ∙ w.put-gap-in-Some-last.ensures.back ∙ back
  | in_default-last w ↦ ap₂ (λ v g. drop g.stop v.items) w.runs-is w.gap-is ∙ back
]

pub returns-clause-ok : goal.returns-clause-ok
returns-clause-ok c =
    let n = (goal.at.returns-clause-ok c).Joined-new in
    let l = (goal.at.returns-clause-ok c).Joined-last in
    c.close.ensures ∙ ap₂ (λ (x y : List Run). x ++ y) (front_last l (front_new n) (last_is n)) (back_last l (back_new n))
    ∙ sym (with_runs-first (with_some (before c.args.first c.args.runs.now.items) c.args.new) (from c.args.end c.args.runs.now.items) (AreRuns-from c.args.runs.now.items c.args.end c.requires.runs.maximal))
