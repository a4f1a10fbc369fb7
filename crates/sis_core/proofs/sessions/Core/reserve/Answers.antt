use Rattle.std.proofs.Common.{ap, List}
use Rattle.sis_model.specs.declared.history.Entry.{Entry}
use Rattle.sis_core.specs.View.{core_view}
use Rattle.sis_core.proofs.Sounding.{spared_sound}
use Rattle.sis_core.proofs.sessions.Core.reserve.Goals as goal

pub invariant_of-self : goal.invariant_of-self
invariant_of-self g c =
    let i = c.self.inside in
    spared_sound (core_view i.volume i.opens i.history i.jobs i.synced i.start)
    (core_view i.volume i.opens c.reserve.new.self i.jobs i.synced i.start) c.self.invariant
    (ap (λ (es : List Entry).
    core_view i.volume i.opens (record {
      entries = es;
      spare = c.reserve.new.self.spare;
    }) i.jobs i.synced i.start) c.reserve.ensures.entries)
    c.reserve.ensures.spare

pub returns-clause-sound : goal.returns-clause-sound
returns-clause-sound g c = invariant_of-self g c
