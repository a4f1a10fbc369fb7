use Rattle.std.proofs.Common.{◌≤◌, length, get_or, sym, ◌∙◌, arith}
use Rattle.std.proofs.lemmas.List.{get_or_default}
use Rattle.sis_ranges.specs.Extents.{place_end}
use Rattle.sis_ranges.specs.declared.run.Run.{Run}
use Rattle.sis_table.proofs.GoodLemmas.{scan_hit, scan_more, scan_all}
use Rattle.sis_table.proofs.checking.maps_twice.Goals as goal

abbrev none : Run
none = record { first = 0; count = 0; place = 0 }

pub returns-then-mark-clause-value : goal.returns-then-mark-clause-value
returns-then-mark-clause-value c =
    let runs = c.args.runs.now in
    let i = c.loop-run.run-index in
    let r = get_or runs i none in
    let fits : place_end r ≤ length c.loop-run.marks = omega (arith, c.requires i none c.loop-run-test.true, c.loop-run.auto.marks) in
    λ before h. sym (scan_hit c.args.marks.now c.loop-run.marks runs i r c.loop-run-test.true (get_or_default runs i none r c.loop-run-test.true)
    fits (sym c.mark.ensures.value ∙ c.if-mark.true) c.loop-run.invariant before h)

pub loop-run-preserved : goal.loop-run-preserved
loop-run-preserved c =
    let runs = c.args.runs.now in
    let i = c.loop-run.run-index in
    let r = get_or runs i none in
    let fits : place_end r ≤ length c.loop-run.marks = omega (arith, c.requires i none c.loop-run-test.true, c.loop-run.auto.marks) in
    scan_more c.args.marks.now c.loop-run.marks c.mark.new.marks runs i r c.loop-run-test.true (get_or_default runs i none r c.loop-run-test.true)
    fits (sym c.mark.ensures.value ∙ c.if-mark.false) c.mark.ensures.marks c.loop-run.invariant

pub returns-clause-value : goal.returns-clause-value
returns-clause-value c = λ before h.
    sym (scan_all c.args.marks.now c.loop-run.marks c.args.runs.now c.loop-run.run-index c.loop-run-test.false c.loop-run.invariant before h).0

pub returns-clause-marks : goal.returns-clause-marks
returns-clause-marks c = λ before h.
    (scan_all c.args.marks.now c.loop-run.marks c.args.runs.now c.loop-run.run-index c.loop-run-test.false c.loop-run.invariant before h).1
