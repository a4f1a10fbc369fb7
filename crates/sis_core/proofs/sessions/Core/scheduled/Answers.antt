use Rattle.sis_core.proofs.TurnLemmas.{had_no_client}
use Rattle.sis_core.proofs.sessions.Core.scheduled.Goals as goal

pub returns-else-is_client-clause-turn : goal.returns-else-is_client-clause-turn
returns-else-is_client-clause-turn g c = λ lines ready.
    had_no_client c.args.self.now c.args.rest.now lines c.args.client
    (c.is_client.ensures.no c.if-is_client.false) ready
