use Rattle.std.proofs.Common.{rules, subst, ◌≡◌, ◌≢◌, ◌∙◌, ◌<◌, length, sym, arith}
use Rattle.std.specs.Prelude.{slice_set, None, Some}
use Rattle.sis_core.specs.Steps.{StepEnters}
use Rattle.sis_core.specs.View.{CoreView, core_view, job_of}
use Rattle.sis_core.proofs.JobLemmas.{has_client, job_taken, room_for}
use Rattle.sis_core.proofs.Sounding.{entered_sound, entered_steps, parts_entered}
use Rattle.sis_core.proofs.sessions.Core.step.Goals as goal

pub decide-reply-requires-clause-spare : goal.decide-reply-requires-clause-spare
decide-reply-requires-clause-spare g c =
    let client =
    has_client c.self.inside.jobs c.args.client c.self.invariant.jobs
    (subst (λ (v : CoreView). job_of v.jobs c.args.client ≢ None) (sym c.self.view_is) c.requires)
    in
    let lt : c.args.client < length c.self.inside.jobs =
    let most = client.1 in omega (arith, most, c.self.invariant.jobs.size) in
    room_for c.self.inside.jobs c.args.client c.in-Some-Begun.field-0 c.self.inside.history.spare lt
    (job_taken c.self.inside.jobs c.args.client c.index-self-client.result
    (Some c.in-Some-Begun.field-0) lt (sym c.in-Some-Begun.is ∙ c.replace.ensures.value))
    c.self.invariant.room

pub invariant_of-self : goal.invariant_of-self
invariant_of-self g c =
    let i = c.self.inside in
    let d = c.decide-reply in
    let client =
    has_client i.jobs c.args.client c.self.invariant.jobs
    (subst (λ (v : CoreView). job_of v.jobs c.args.client ≢ None) (sym c.self.view_is) c.requires)
    in
    let lt : c.args.client < length i.jobs =
    let most = client.1 in omega (arith, most, c.self.invariant.jobs.size) in
    let taken : job_of i.jobs c.args.client ≡ Some c.in-Some-Begun.field-0 =
    job_taken i.jobs c.args.client c.index-self-client.result
    (Some c.in-Some-Begun.field-0) lt (sym c.in-Some-Begun.is ∙ c.replace.ensures.value) in
    entered_sound (core_view i.volume i.opens i.history i.jobs i.synced i.start)
    (core_view d.new.volume d.new.opens d.new.history
    (slice_set i.jobs c.args.client c.replace.new.dest) i.synced i.start)
    c.args.client _ d.result c.self.invariant client
    (parts_entered i.volume d.new.volume i.opens d.new.opens i.history d.new.history i.jobs
    c.replace.new.dest c.args.client _ d.result i.synced i.start
    (search rules) c.replace.ensures.after d.ensures.decides d.ensures.stops d.ensures.durable
    d.ensures.saved d.ensures.entries d.ensures.spare d.ensures.counted d.ensures.table d.ensures.good
    d.ensures.fits)

pub returns-clause-steps : goal.returns-clause-steps
returns-clause-steps g c =
    let i = c.self.inside in
    let d = c.decide-reply in
    let new = core_view d.new.volume d.new.opens d.new.history
    (slice_set i.jobs c.args.client c.replace.new.dest) i.synced i.start in
    let client =
    has_client i.jobs c.args.client c.self.invariant.jobs
    (subst (λ (v : CoreView). job_of v.jobs c.args.client ≢ None) (sym c.self.view_is) c.requires)
    in
    let lt : c.args.client < length i.jobs =
    let most = client.1 in omega (arith, most, c.self.invariant.jobs.size) in
    let taken : job_of i.jobs c.args.client ≡ Some c.in-Some-Begun.field-0 =
    job_taken i.jobs c.args.client c.index-self-client.result
    (Some c.in-Some-Begun.field-0) lt (sym c.in-Some-Begun.is ∙ c.replace.ensures.value) in
    subst (λ (v : CoreView). StepEnters v c.args.client d.result new) c.self.view_is
    (entered_steps (core_view i.volume i.opens i.history i.jobs i.synced i.start) new
    c.args.client _ d.result c.self.invariant client
    (parts_entered i.volume d.new.volume i.opens d.new.opens i.history d.new.history i.jobs
    c.replace.new.dest c.args.client _ d.result i.synced i.start
    (search rules) c.replace.ensures.after d.ensures.decides d.ensures.stops d.ensures.durable
    d.ensures.saved d.ensures.entries d.ensures.spare d.ensures.counted d.ensures.table d.ensures.good
    d.ensures.fits))

pub returns-clause-sound : goal.returns-clause-sound
returns-clause-sound g c = invariant_of-self g c
