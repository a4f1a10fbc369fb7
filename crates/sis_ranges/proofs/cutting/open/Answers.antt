use Rattle.std.proofs.Common.{◌≡◌, ◌≤◌, ◌+◌, List, drop, arith, ap, ◌∙◌}
use Rattle.std.specs.Prelude.{length, min}
use Rattle.sis_ranges.specs.declared.run.Run.{Run}
use Rattle.sis_ranges.specs.Inside.{before, passed_by}
use Rattle.sis_ranges.proofs.CutLemmas.{rest-from-by, stretch-order, later_drop}
use Rattle.sis_ranges.proofs.cutting.open.Goals as goal
use Rattle.sis_ranges.proofs.cutting.open.Goals.{After-min-stop}

stop_is : (c : After-min-stop) → c.min-stop.result ≡ min (passed_by c.args.end c.args.runs.now.items + 1) (length c.args.runs.now.items)
stop_is c =
    let count = c.passed.ensures.count ∙ ap (passed_by c.args.end) c.deref-2.ensures.value in
    omega (arith, c.min-stop.ensures, count, c.len.ensures, c.args.runs.now.ok.0)

at_is : (c : After-min-stop) → c.begun-at.result ≡ length (before c.args.first c.args.runs.now.items)
at_is c = c.begun-at.ensures.count ∙ ap (λ (l : List Run). length (before c.args.first l)) c.deref.ensures.value

order : (c : After-min-stop) → c.begun-at.result ≤ c.min-stop.result
order c = omega (arith, at_is c, stretch-order c.args.runs.now.items c.args.first c.args.end c.min-stop.result c.requires.order (stop_is c))

pub returns-clause-order : goal.returns-clause-order
returns-clause-order c = order (goal.at.returns-clause-order c).After-min-stop

pub returns-clause-back : goal.returns-clause-back
returns-clause-back c =
    let s = (goal.at.returns-clause-back c).After-min-stop in
    later_drop c.trim.new.runs.items c.args.runs.now.items c.begun-at.result c.min-stop.result (order s)
    (c.trim.ensures.back ∙ ap (λ (l : List Run). drop c.begun-at.result l) c.in_ok-reserve.ensures.items)
    ∙ rest-from-by c.args.runs.now.items c.args.end c.min-stop.result (stop_is s)
