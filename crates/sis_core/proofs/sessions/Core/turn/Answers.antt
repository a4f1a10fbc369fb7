use Rattle.sis_core.proofs.TurnLemmas.{had_moved, had_nothing, next_served}
use Rattle.sis_core.proofs.sessions.Core.turn.Goals as goal

pub run_one-requires-clause-served : goal.run_one-requires-clause-served
run_one-requires-clause-served g c =
    next_served c.args.self.now c.args.rest.now c.take.new.self c.requires.ready.0 c.args.client
    c.in-Some.command c.requires.client c.in-Some.ensures.some c.requires.ready.1

pub returns-in-None-clause-turn : goal.returns-in-None-clause-turn
returns-in-None-clause-turn g c = λ lines ready.
    had_nothing c.args.self.now c.args.rest.now c.take.new.self lines c.args.client
    c.requires.client c.in-None.ensures.none c.in-None.ensures.done ready

pub returns-in-Some-clause-turn : goal.returns-in-Some-clause-turn
returns-in-Some-clause-turn g c = λ lines ready.
    had_moved c.args.self.now c.run_one.new.self c.args.rest.now c.take.new.self lines
    c.args.client c.in-Some.command c.requires.client c.in-Some.ensures.some
    c.in-Some.ensures.others ready c.run_one.ensures.kept c.run_one.ensures.idle
    c.run_one.ensures.spare c.run_one.ensures.opening c.run_one.ensures.saved
