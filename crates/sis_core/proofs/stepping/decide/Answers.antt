use Rattle.sis_core.specs.Session.{session}
use Rattle.sis_core.proofs.Copied.{copied_decides}
use Rattle.sis_core.proofs.stepping.decide.Goals as goal

pub returns-clause-decides : goal.returns-clause-decides
returns-clause-decides g c = λ w shows.
    copied_decides w (session c.args.volume.now c.args.opens.now)
    (session c.answer.new.volume c.answer.new.opens) c.args.client c.args.command c.answer.result
    c.twice-reply.result.0 c.calls-calls.ensures.fits c.twice-reply.ensures.reply (c.answer.ensures.decides w shows)
