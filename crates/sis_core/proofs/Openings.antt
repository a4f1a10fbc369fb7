-- A core that was just opened.
use Rattle.std.proofs.Common.{◌≡◌, ℕ, ◌+◌, ◌*◌, Bool, false, List, [], length, Option, None, Some, refl, sym, ap, subst, ◌∙◌, arith}
use Rattle.std.specs.Prelude.{IfSome, Ok, replicate}
use Rattle.std.specs.Option.{option_map}
use Rattle.std.proofs.Math.Path.{fun_ext}
use Rattle.std.proofs.lemmas.List.{length-replicate, take_all}
use Rattle.sis_disk.specs.Record.{Call, DiskRecord, IsCounted, Seen, live_bytes, live_of}
use Rattle.sis_history.specs.Runs.{HasRun, first_stage}
use Rattle.sis_history.specs.Shown.{ShowsFiles}
use Rattle.sis_history.specs.Stage.{Stage}
use Rattle.sis_history.proofs.RunLemmas.{run_begun}
use Rattle.sis_journal.specs.Opening.{IsSynced, SyncThenReads}
use Rattle.sis_model.specs.Recorded.{Recorded}
use Rattle.sis_model.specs.World.{World, unopened}
use Rattle.sis_model.specs.declared.history.Entry.{Entry}
use Rattle.sis_table.specs.Content.{files_of}
use Rattle.sis_table.specs.Good.{IsGood}
use Rattle.sis_table.specs.Image.{image_at}
use Rattle.sis_table.specs.Opens.{OpensAs}
use Rattle.sis_table.specs.Volume.{VolumeTable, IsTable}
use Rattle.sis_table.proofs.CallerLemmas.{length-files_of}
use Rattle.sis_volume.specs.Stopping.{OpensTable}
use Rattle.sis_volume.specs.View.{VolumeView}
use Rattle.sis_volume.proofs.Stopping.{opens_table}
use Rattle.sis_core.specs.declared.job.Job.{Job}
use Rattle.sis_core.specs.declared.opens.Open.{Open}
use Rattle.sis_core.specs.declared.start.CoreStart.{CoreStart}
use Rattle.sis_core.specs.Jobs.{AreIdle}
use Rattle.sis_core.specs.Opening.{Starts, table_in, table_or}
use Rattle.sis_core.specs.Session.{Jobs, ShowsWorld, session, stage_of}
use Rattle.sis_core.specs.Sound.{IsSound, IsSurvived}
use Rattle.sis_core.specs.View.{CoreView, core_view, jobs_in, noted, up_to}
use Rattle.sis_core.proofs.JobLemmas.{idle_job, idle_jobs}
use Rattle.sis_core.proofs.Surviving.{opened_survives}

-- ---- the world

-- A world for which an opened volume stands: that of the image's bytes, or some one with these
-- names and sizes where the disk tells none.
record Opens (live : Option (List ℕ)) (v : VolumeView) : Type 0 where
  world : World
  shows : ShowsWorld world (session v [])
  starts : Starts live world v.table
  opens : IfSome live (λ m. OpensAs world.files m)

shows_sized : (v : VolumeTable) (live : List ℕ) → IsTable v → length live ≡ 4096 * v.layout.total
    → ShowsFiles (unopened v.layout.letter (files_of v live)) v
shows_sized v live is_table size =
    record { letter = refl; sizes = λ q. length-files_of v live q is_table size }

shows_opened : (v : VolumeView) (live : List ℕ) (told : Option (List ℕ)) → IsTable v.table
    → length live ≡ 4096 * v.table.layout.total → live_of v.seen ≡ told
    → IfSome (option_map (files_of v.table) told) (λ files. files ≡ files_of v.table live)
    → ShowsWorld (unopened v.table.layout.letter (files_of v.table live)) (session v [])
shows_opened v live told is_table size is stands = record {
  world = record { opens = tt; numbers = tt };
  files = shows_sized v.table live is_table size;
  stands =
      subst (λ (o : Option (List ℕ)). IfSome (option_map (files_of v.table) o)
      (λ files. files ≡ files_of v.table live)) (sym is) stands;
  opens = refl;
  there = tt;
}

opens_as : (told : Option DiskRecord) (v : VolumeView) (size : ℕ)
    → live_of v.seen ≡ option_map live_bytes told → size ≡ 4096 * v.table.layout.total
    → IfSome told (λ r. length (live_bytes r) ≡ size) → IsTable v.table → IsGood v.table
    → IfSome (option_map live_bytes told) (λ m. image_at m ≡ Ok v.table)
    → Opens (option_map live_bytes told) v
opens_as None v size is all sized is_table good image =
    let zeros = replicate (4096 * v.table.layout.total) 0 in
    let long = length-replicate (4096 * v.table.layout.total) 0 in
    record {
      world = unopened v.table.layout.letter (files_of v.table zeros);
      shows = shows_opened v zeros None is_table long is tt;
      starts = (shows_sized v.table zeros is_table long, refl);
      opens = tt;
    }
opens_as (Some r) v size is all sized is_table good image =
    let m = live_bytes r in
    let table : v.table ≡ table_in m = ap table_or (sym image) in
    record {
      world = unopened v.table.layout.letter (files_of v.table m);
      shows = shows_opened v m (Some m) is_table (sized ∙ all) is refl;
      starts = (ap (λ (t : VolumeTable). unopened t.layout.letter (files_of t m)) table, table);
      opens = record { table = v.table; read = image; good = good; stands = refl };
    }

-- ---- the core

-- all that a disk tells was told at its last call
told_all : (n : ℕ) (seen : Seen) → n ≡ seen.calls → IsCounted seen
    → option_map (up_to n) seen.told ≡ seen.told
told_all n seen is counted = by seen.told counted
  where
    by : (o : Option DiskRecord) → IfSome o (λ r. length r.calls ≡ seen.calls)
        → option_map (up_to n) o ≡ o
    by None h = refl
    by (Some r) h =
        ap (λ (cs : List Call). Some (record { opening = r.opening; calls = cs }))
        (take_all n r.calls (omega (arith, h, is)))

-- what was seen when the opening had ended is what is seen
all_seen : (seen : Seen) (start : CoreStart) → start.calls ≡ seen.calls
    → start.faults ≡ seen.faults → IsCounted seen
    → record {
      size = seen.size;
      calls = start.calls;
      faults = start.faults;
      told = option_map (up_to start.calls) seen.told;
    } ≡ seen
all_seen seen start calls faults counted =
    ap (λ (o : Option DiskRecord). record {
      size = seen.size;
      calls = start.calls;
      faults = start.faults;
      told = o;
    }) (told_all start.calls seen calls counted)
    ∙ ap (λ (n : ℕ). record {
      size = seen.size;
      calls = n;
      faults = start.faults;
      told = seen.told;
    }) calls
    ∙ ap (λ (n : ℕ). record {
      size = seen.size;
      calls = seen.calls;
      faults = n;
      told = seen.told;
    }) faults

-- the stage at which an opened volume is, is the first of a run
begun_stage : (w : World) (v : VolumeView) (jobs : Jobs) → v.is_changed ≡ false → v.down ≡ None
    → ((client : ℕ) → jobs client ≡ None) → stage_of w v jobs ≡ first_stage w v.table v.seen
begun_stage w v jobs clean up idle =
    ap (λ (b : Bool). stage_of w (record v { is_changed = b }) jobs) clean
    ∙ ap (λ (o : Option ℕ). stage_of w (record v { is_changed = false; down = o }) jobs) up
    ∙ ap (λ (js : Jobs). stage_of w (record v { is_changed = false; down = None }) js)
    (fun_ext idle)

-- a core without entries, opens and jobs
abbrev opened_core : VolumeView → ℕ → ℕ → CoreStart → CoreView
opened_core v spare synced start = record {
  volume = v;
  opens = [];
  entries = [];
  spare = spare;
  jobs = replicate 17 None;
  synced = synced;
  start = start;
}

-- what an opening gives of the volume
pub record IsOpened (old : Seen) (v : VolumeView) (synced : ℕ) (start : CoreStart) : Type 0 where
  pub synced_is : synced ≡ old.calls
  pub calls : start.calls ≡ v.seen.calls
  pub faults : start.faults ≡ v.seen.faults
  pub image : IfSome (live_of old) (λ m. image_at m ≡ Ok v.table)
  pub table : IsTable v.table
  pub good : IsGood v.table
  pub size : v.seen.size ≡ 4096 * v.table.layout.total
  pub opens : OpensTable v.table v.seen
  pub clean : v.is_changed ≡ false
  pub up : v.down ≡ None
  pub reads : SyncThenReads 4 old v.seen
  pub synced_well : IsSynced old v.seen
  pub sized : IfSome old.told (λ r. length (live_bytes r) ≡ old.size)
  pub counted : IsCounted old
  pub counted_now : IsCounted v.seen

-- the bytes were told when the opening had ended
pub opened_told : (old : Seen) (v : VolumeView) (start : CoreStart) → start.calls ≡ v.seen.calls
    → IsCounted v.seen → SyncThenReads 4 old v.seen
    → option_map live_bytes (option_map (up_to start.calls) v.seen.told) ≡ live_of old
opened_told old v start calls counted reads =
    ap (option_map live_bytes) (told_all start.calls v.seen calls counted) ∙ reads.live

core_sound : (old : Seen) (v : VolumeView) (spare synced : ℕ) (start : CoreStart)
    → IsOpened old v synced start → IsSound (opened_core v spare synced start)
core_sound old v spare synced start o =
    let all : old.size ≡ 4096 * v.table.layout.total = sym o.reads.elapses.size ∙ o.size in
    let opens = opens_as old.told v old.size o.reads.live all o.sized o.table o.good o.image in
    let w = opens.world in
    let files = opens_table v.table v.seen w.files o.opens opens.shows.stands in
    record {
      world = w;
      opened = v.table;
      begins = record {
        starts =
            subst (λ (live : Option (List ℕ)). Starts live w v.table)
            (sym (opened_told old v start o.calls o.counted_now o.reads)) opens.starts;
        table = o.table;
        good = o.good;
        size = o.size;
      };
      run =
          subst
          (λ (seen : Seen). HasRun w v.table seen [] (stage_of w v (jobs_in (replicate 17 None))))
          (sym (all_seen v.seen start o.calls o.faults o.counted_now))
          (subst (λ (s : Stage). HasRun w v.table v.seen [] s)
          (sym (begun_stage w v (jobs_in (replicate 17 None)) o.clean o.up
          (λ client. ap noted (idle_job 17 client))))
          (run_begun w v.table v.seen));
      shows = opens.shows;
      survived =
          subst (λ (n : ℕ). IsSurvived (n + 1) w [] v) (sym o.synced_is)
          (opened_survives old v w o.counted o.synced_well opens.opens files);
      table = o.table;
      good = o.good;
      counted = o.counted_now;
      jobs = idle_jobs;
      room = omega arith;
      elapsed = let calls = o.calls in omega (arith, calls);
    }

-- a core that was just opened is sound
pub opened_sound : (old : Seen) (v : VolumeView) (opens : List Open) (h : Recorded)
    (jobs : List (Option Job)) (synced : ℕ) (start : CoreStart) → opens ≡ [] → h.entries ≡ []
    → AreIdle jobs → IsOpened old v synced start → IsSound (core_view v opens h jobs synced start)
opened_sound old v opens h jobs synced start no_opens no_entries idle o =
    subst (λ (os : List Open). IsSound (core_view v os h jobs synced start)) (sym no_opens)
    (subst (λ (es : List Entry). IsSound (record {
      volume = v;
      opens = [];
      entries = es;
      spare = h.spare;
      jobs = jobs;
      synced = synced;
      start = start;
    })) (sym no_entries)
    (subst (λ (js : List (Option Job)). IsSound (record {
      volume = v;
      opens = [];
      entries = [];
      spare = h.spare;
      jobs = js;
      synced = synced;
      start = start;
    })) (sym idle) (core_sound old v h.spare synced start o)))
