use Rattle.std.proofs.Common.{subst}
use Rattle.sis_core.specs.Sound.{IsSound}
use Rattle.sis_core.proofs.Sounding.{sound_clients}
use Rattle.sis_core.proofs.sessions.Core.history.Goals as goal

pub returns-clause-clients : goal.returns-clause-clients
returns-clause-clients g c =
    sound_clients c.args.self.now (subst IsSound c.self.view_is c.self.invariant)
