use Rattle.std.proofs.Common.{◌≡◌, sym, subst, ◌∙◌, ap, arith, length, ◌≤◌, ◌+◌}
use Rattle.std.specs.Str.Lines.{lines}
use Rattle.sis_script.specs.Script.{AreAllowed, joined, parts_from, with_front}
use Rattle.sis_script.specs.Views.{parts_of, parts_in}
use Rattle.sis_script.proofs.ReadLemmas.{made, one_more, few_more, allowed_more}
use Rattle.sis_script.proofs.reading.read_lines.Goals as goal

pub loop-line-preserved : goal.loop-line-preserved
loop-line-preserved c =
    let old = parts_of c.loop-line.script in
    let more = parts_in c.in-Ok.found in
    let before = c.loop-line.invariant in
    let no_error = sym c.is_err.ensures.value ∙ c.if-is_err.false in
    let added : parts_of c.add.new.script ≡ joined old more = made _ c.add.result no_error c.add.ensures.ok in
    let next = one_more old more c.loop-line.number c.in-Some.line.now (lines c.in-Some.behind.now) (omega (arith, c.if-number-ge-MOST_LINES.false)) c.in-Ok.ensures.value in
    let few = few_more old c.in-Ok.found c.loop-line.number before.few in
    record {
      read = ap (λ p. with_front p (parts_from (c.loop-line.number + 1) (lines c.in-Some.behind.now))) added ∙ next ∙ ap (λ ls. with_front old (parts_from c.loop-line.number ls)) (sym c.in-Some.ensures.lines) ∙ before.read;
      lines = omega (arith, c.if-number-ge-MOST_LINES.false);
      few = subst (λ p. length p.lines ≤ c.loop-line.number + 1) (sym added) few;
      allowed = subst AreAllowed (sym added) (allowed_more old more before.allowed c.in-Ok.ensures.allowed);
    }
