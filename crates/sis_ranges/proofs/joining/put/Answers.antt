use Rattle.std.proofs.Common.{◌≡◌, ℕ, ◌+◌, ◌-◌, List, take, drop, arith, sym, ap, ◌∙◌}
use Rattle.std.specs.List.{insert}
use Rattle.sis_ranges.specs.declared.run.Run.{Run}
use Rattle.sis_ranges.proofs.JoinLemmas.{with_run-set, with_run-push, with_run-none, take-written, take-put, drop-put}
use Rattle.sis_ranges.proofs.joining.put.Goals as goal
use Rattle.sis_ranges.proofs.joining.put.Goals.{else-at-gt0-via-then-at-gt0+else-joins, else-at-gt0-via-else-at-gt0}

pub returns-then-joins-clause-front : goal.returns-then-joins-clause-front
returns-then-joins-clause-front c =
    with_run-set c.args.runs.now.items c.args.run _ _ c.args.gap.at (c.args.gap.at - 1) (omega (arith, c.if-at-gt0.true))
    (omega (arith, c.if-at-gt0.true, c.requires.order, c.requires.there)) c.index.ensures c.index_mut.ensures.value (sym c.joins.ensures ∙ c.if-joins.true)

pub returns-then-at-stop-clause-front : goal.returns-then-at-stop-clause-front
returns-then-at-stop-clause-front c =
    take-written c.args.runs.now.items c.args.run c.args.gap.at _ (omega arith) (omega (arith, c.if-at-stop.true, c.requires.there)) ∙ elim c.else-at-gt0.branch [
      | else-at-gt0-via-then-at-gt0+else-joins w ↦
          with_run-push c.args.runs.now.items c.args.run _ c.args.gap.at (c.args.gap.at - 1) (omega (arith, w.if-at-gt0.true))
          (omega (arith, w.if-at-gt0.true, c.requires.order, c.requires.there)) w.index.ensures (sym w.joins.ensures ∙ w.if-joins.false)
      | else-at-gt0-via-else-at-gt0 w ↦ with_run-none c.args.runs.now.items c.args.run c.args.gap.at (omega (arith, w.if-at-gt0.false))
    ]

put_there : (c : goal.After-insert) → c.insert.new.self.items ≡ insert c.args.runs.now.items c.args.gap.at c.args.run
put_there c = grind (arith, c.insert.ensures.items, c.insert.ensures.succeeds, c.requires.room, c.requires.order, c.if-at-stop.false)

pub returns-clause-front : goal.returns-clause-front
returns-clause-front c =
    ap (λ (l : List Run). take (c.args.gap.at + 1) l) (put_there c)
    ∙ take-put c.args.runs.now.items c.args.run c.args.gap.at _ (omega arith) (omega (arith, c.requires.order, c.requires.there)) ∙ elim c.else-at-gt0.branch [
      | else-at-gt0-via-then-at-gt0+else-joins w ↦
          with_run-push c.args.runs.now.items c.args.run _ c.args.gap.at (c.args.gap.at - 1) (omega (arith, w.if-at-gt0.true))
          (omega (arith, w.if-at-gt0.true, c.requires.order, c.requires.there)) w.index.ensures (sym w.joins.ensures ∙ w.if-joins.false)
      | else-at-gt0-via-else-at-gt0 w ↦ with_run-none c.args.runs.now.items c.args.run c.args.gap.at (omega (arith, w.if-at-gt0.false))
    ]

pub returns-clause-back : goal.returns-clause-back
returns-clause-back c =
    ap (λ (l : List Run). drop (c.args.gap.stop + 1) l) (put_there c)
    ∙ drop-put c.args.runs.now.items c.args.run c.args.gap.at _ (omega (arith, c.if-at-stop.false, c.requires.order)) (omega (arith, c.requires.order, c.requires.there))
    ∙ ap (λ (n : ℕ). drop n c.args.runs.now.items) (omega (arith, c.if-at-stop.false, c.requires.order))
