use Rattle.std.proofs.Common.{◌∙◌, sym}
use Rattle.sis_request.specs.Request.{units_of}
use Rattle.sis_request.proofs.NameUnits.{at_null, no_unit, position-is}
use Rattle.sis_request.proofs.reading.first_null.Goals as goal

pub returns-then-read_u16-eq0 : goal.returns-then-read_u16-eq0
returns-then-read_u16-eq0 c =
    at_null c.loop-rest.at c.loop-rest.rest.now _ c.loop-rest-test.true (sym c.read_u16.ensures ∙ c.if-read_u16-eq0.true) c.loop-rest.invariant.ahead
    ∙ sym (position-is (units_of c.args.name.now))

pub returns : goal.returns
returns c = no_unit c.loop-rest.at c.loop-rest.rest.now _ c.loop-rest-test.false c.loop-rest.invariant.ahead ∙ sym (position-is (units_of c.args.name.now))
