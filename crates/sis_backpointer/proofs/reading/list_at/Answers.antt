use Rattle.std.proofs.Common.{◌∙◌, length, refl, sym, ap, arith}
use Rattle.std.specs.List.{list_all}
use Rattle.std.proofs.lemmas.Bool.{eqb-true}
use Rattle.std.proofs.lemmas.List.{take_rest}
use Rattle.sis_backpointer.specs.Backs.{is_below}
use Rattle.sis_backpointer.proofs.Readings.{reads_none, reads_one, reads_all, reads_fall, some_left}
use Rattle.sis_backpointer.proofs.reading.list_at.Goals as goal

pub loop-rest-init : goal.loop-rest-init
loop-rest-init c = reads_none c.args.bytes.now c.in_ok-backs.backs.items c.in_ok-backs.ensures.items (omega (arith, c.if-bytes-ne0.false))

pub returns-then-not-is_above-clause-value : goal.returns-then-not-is_above-clause-value
returns-then-not-is_above-clause-value c =
    reads_fall c.args.bytes.now c.loop-rest.rest.now c.loop-rest.backs.items c.back_at-back.result _ c.loop-rest.invariant
    (some_left c.args.bytes.now c.loop-rest.rest.now c.loop-rest.backs.items c.loop-rest.invariant (sym c.is_empty.ensures ∙ c.loop-rest-test.true))
    c.back_at-back.ensures
    (sym (ap (list_all (is_below c.back_at-back.result.index)) c.deref.ensures.value) ∙ sym c.is_above.ensures ∙ c.if-not-is_above.true)
    refl

pub loop-rest-preserved : goal.loop-rest-preserved
loop-rest-preserved c =
    reads_one c.args.bytes.now c.loop-rest.rest.now _ c.loop-rest.backs.items _ c.back_at-back.result c.loop-rest.invariant
    (some_left c.args.bytes.now c.loop-rest.rest.now c.loop-rest.backs.items c.loop-rest.invariant (sym c.is_empty.ensures ∙ c.loop-rest-test.true))
    c.back_at-back.ensures (take_rest c.loop-rest.rest.now 16)
    (sym (ap (list_all (is_below c.back_at-back.result.index)) c.deref.ensures.value) ∙ sym c.is_above.ensures ∙ c.if-not-is_above.false)
    c.in_ok-push.ensures.items

pub returns-clause-value : goal.returns-clause-value
returns-clause-value c =
    reads_all c.args.bytes.now c.loop-rest.rest.now c.loop-rest.backs.items c.loop-rest.invariant
    (eqb-true (length c.loop-rest.rest.now) 0 (sym c.is_empty.ensures ∙ c.loop-rest-test.false))
