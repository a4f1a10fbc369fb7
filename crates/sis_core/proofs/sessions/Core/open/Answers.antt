use Rattle.std.proofs.Common.{◌∙◌}
use Rattle.sis_core.proofs.Openings.{opened_sound, opened_told}
use Rattle.sis_core.proofs.sessions.Core.open.Goals as goal

pub invariant_of-result : goal.invariant_of-result
invariant_of-result g c =
    let v = c.in_ok-volume.ensures in
    opened_sound (g.D.Disk.seen c.args.disk) c.in_ok-volume.volume c.new.result c.new-2.result
    c.idle_jobs.result c.calls-synced.result _ c.new.ensures c.new-2.ensures c.idle_jobs.ensures
    (record {
      synced_is = c.calls-synced.ensures;
      calls = c.calls.ensures.calls;
      faults = c.faults.ensures;
      image = v.image;
      table = v.table;
      good = v.good;
      size = v.size;
      opens = v.opens;
      clean = v.changed;
      up = v.down;
      reads = v.reads;
      synced_well = v.synced;
      sized = g.met.D.Disk.sized c.args.disk;
      counted = g.met.D.Disk.counted c.args.disk;
      counted_now = c.calls.ensures.counted;
    })

pub returns-clause-opened : goal.returns-clause-opened
returns-clause-opened g c =
    let v = c.in_ok-volume.ensures in
    record {
      reads = v.reads;
      is_synced = v.synced;
      synced = c.calls-synced.ensures;
      calls = c.calls.ensures.calls;
      faults = c.faults.ensures;
      quiet = c.faults.ensures ∙ v.quiet;
      entries = c.new-2.ensures;
      opens = c.new.ensures;
      jobs = c.idle_jobs.ensures;
      clean = v.changed;
      up = v.down;
      image = v.image;
      told =
          opened_told (g.D.Disk.seen c.args.disk) c.in_ok-volume.volume
          (record { calls = c.calls.result; faults = c.faults.result }) c.calls.ensures.calls
          c.calls.ensures.counted v.reads;
    }

pub returns-clause-sound : goal.returns-clause-sound
returns-clause-sound g c = invariant_of-result g c
