-- What a run of a script leaves whose lines ran.
use Rattle.std.proofs.Common.{◌≡◌, inl, inr, ℕ, ◌+◌, Bool, true, false, List, [], Option, None}
use Rattle.std.proofs.Common.{Some, Result, Ok, Err, is_some, refl, sym, ap, subst, ◌∙◌, append-nil}
use Rattle.std.specs.Prelude.{IfSome, OnOk, OnErr, All}
use Rattle.std.specs.Option.{option_map}
use Rattle.sis_disk.specs.Record.{Rose, Seen, live_of}
use Rattle.sis_disk.specs.Streams.{Appended, AppendedFront}
use Rattle.sis_model.specs.World.{World}
use Rattle.sis_model.specs.History.{world_after}
use Rattle.sis_table.specs.Content.{files_of}
use Rattle.sis_table.specs.Good.{IsGood}
use Rattle.sis_table.specs.Image.{Holds, image_at}
use Rattle.sis_table.specs.Volume.{VolumeTable}
use Rattle.sis_script.specs.Printed.{printed}
use Rattle.sis_script.specs.Script.{Parts, script_of, IsClient, IsBuilt}
use Rattle.sis_script.specs.Taken.{TakesAtMost}
use Rattle.sis_script.specs.declared.faults.PrintFault.{PrintFault}
use Rattle.sis_script.specs.declared.faults.PrintFault.TheVariants as print
use Rattle.sis_script.specs.declared.limits.TheConstants.{MOST_SCRIPT_BYTES}
use Rattle.sis_history.specs.Entering.{any_down}
use Rattle.sis_history.specs.Stops.{SurvivesStops}
use Rattle.sis_history.proofs.DownLemmas.{run_falls}
use Rattle.sis_history.proofs.RunLemmas.{run_appears, run_legal, run_order}
use Rattle.sis_history.proofs.StopLemmas.{survives_stops}
use Rattle.sis_core.specs.Jobs.{AreIdle}
use Rattle.sis_core.specs.Opening.{IsOpenedFrom, Starts}
use Rattle.sis_core.specs.Sound.{IsSound}
use Rattle.sis_core.specs.Steps.{IsSaved}
use Rattle.sis_core.specs.View.{CoreView, Opening, opening_of}
use Rattle.sis_cli.specs.Exit.{risen, exit_of}
use Rattle.sis_cli.specs.Run.{IsScript, IsGoodImage, IsOnlyOpened, ScriptCause, RunsLines}
use Rattle.sis_cli.specs.Run.{HoldsFiles, IfUp, IsHistory, Serves, CallsOfScript, SparesScript}
use Rattle.sis_cli.specs.Run.{Counts, RunsScript, TellsDown, WritesAll}
use Rattle.sis_cli.specs.declared.usage.Verb.{Verb}
use Rattle.sis_cli.specs.declared.ending.Ending.TheVariants as ending
use Rattle.sis_cli.specs.declared.exit.Exit.{Exit}
use Rattle.sis_cli.proofs.Cores.{down_told, first_in, idle_jobs, last_in, none_seen}

-- what a source tells that was read is a script, and what a disk tells that was opened an image
pub is_script : (left : Option (List ℕ)) (parts : Parts)
    → IfSome left (λ bytes. script_of bytes ≡ Ok parts) → IsScript left
is_script None parts is = tt
is_script (Some bytes) parts is = (parts, is)

is_image : (live : Option (List ℕ)) (v : VolumeTable) → IsGood v
    → IfSome live (λ m. image_at m ≡ Ok v) → IsGoodImage live
is_image None v good is = tt
is_image (Some m) v good is = (v, is, good)

-- the disk was only opened, where this core is what opening gave
pub only_opened : (old : Seen) (o c : CoreView) → IsOpenedFrom old o → IsSound o → IsSound c
    → opening_of c ≡ opening_of o → IsOnlyOpened old (opening_of c).seen
only_opened old o c from before sound opening =
    subst (IsOnlyOpened old)
    (none_seen o before from.jobs from.entries ∙ sym (ap (λ (x : Opening). x.seen) opening))
    (record {
      reads = from.reads;
      synced = from.is_synced;
      quiet = sym from.faults ∙ from.quiet;
    })

pub none_opened : (old : Seen) (o c : CoreView) → IsOpenedFrom old o → IsSound o → IsSound c
    → opening_of c ≡ opening_of o → AreIdle c.jobs → c.entries ≡ []
    → IsOnlyOpened old c.volume.seen
none_opened old o c from before sound opening idle none =
    subst (IsOnlyOpened old) (sym (none_seen c sound idle none))
    (only_opened old o c from before sound opening)

-- A script was read, an image was opened as a core, and the lines were run on it.
pub record HasRunLines (asked : Verb) (left left_now : Option (List ℕ)) (parts : Parts) (old : Seen)
    (o c : CoreView) : Type 0 where
  pub some : (bytes : List ℕ) × (script_of bytes ≡ Ok parts)
  pub says : IfSome left (λ bytes. script_of bytes ≡ Ok parts)
  pub clients : All (λ l. IsClient l.client) parts.lines
  pub built : All (λ l. IsBuilt l.command) parts.lines
  pub taken : TakesAtMost (MOST_SCRIPT_BYTES + 1) left left_now
  pub ended : IfSome left (λ bytes. left_now ≡ Some [])
  pub from : IsOpenedFrom old o
  pub before : IsSound o
  pub sound : IsSound c
  pub idle : AreIdle c.jobs
  pub opening : opening_of c ≡ opening_of o
  pub runs : RunsLines asked parts c.entries
  pub saved : IsSaved c
  pub holds : c.volume.is_changed ≡ false → c.volume.down ≡ None
      → IfSome (live_of c.volume.seen) (λ m. Holds m c.volume.table)

module _ (asked : Verb) (left left_now : Option (List ℕ)) (parts : Parts) (old : Seen)
    (o c : CoreView) (h : HasRunLines asked left left_now parts old o c) where
  -- ---- the calls

  told_bytes : (o : Option (List ℕ)) → IfSome o (λ bytes. script_of bytes ≡ Ok parts)
      → (bytes : List ℕ) × IfSome o (λ told. bytes ≡ told) × (script_of bytes ≡ Ok parts)
  told_bytes None says = (h.some.0, tt, h.some.1)
  told_bytes (Some bytes) says = (bytes, refl, says)

  script_runs : RunsScript asked left c.entries
  script_runs =
      let told = told_bytes left h.says in
      record {
        bytes = told.0;
        told = told.1;
        parts = parts;
        is_script = told.2;
        clients = h.clients;
        built = h.built;
        runs = h.runs;
      }

  -- ---- the history

  abbrev w : World
  w = world_after h.sound.world c.entries

  abbrev HoldsNow : Type 0
  HoldsNow = IfSome (live_of c.volume.seen) (λ m. HoldsFiles m c.volume.table w)

  -- where no commit failed, the last live bytes hold the table, and stand for the world's files
  holds_now : any_down c.entries ≡ false → HoldsNow
  holds_now none =
      by (live_of c.volume.seen) h.sound.shows.stands (h.holds (h.saved up) up)
    where
      not_some : (o : Option ℕ) → is_some o ≡ false → o ≡ None
      not_some None e = refl
      not_some (Some at) e = absurd cc

      up : c.volume.down ≡ None
      up = not_some c.volume.down (sym (down_told c h.sound h.idle) ∙ none)

      by : (live : Option (List ℕ))
          → IfSome (option_map (files_of c.volume.table) live) (λ files. files ≡ w.files)
          → IfSome live (λ m. Holds m c.volume.table)
          → IfSome live (λ m. HoldsFiles m c.volume.table w)
      by None stands holds = tt
      by (Some m) stands holds =
          record { holds = holds; good = h.sound.good; stands = sym stands }

  history : (status : Exit) → IfUp status c.entries HoldsNow
      → IsHistory old c.volume.seen status c.entries
  history status image =
      let s = h.sound in
      let first = first_in c s in
      let last = last_in c s in
      let opened : (opening_of c).seen ≡ (opening_of o).seen =
      ap (λ (x : Opening). x.seen) h.opening in
      record {
        world = s.world;
        table = s.opened;
        opened = (opening_of c).seen;
        last = last;
        starts =
            subst (λ (live : Option (List ℕ)). Starts live s.world s.opened)
            (ap live_of opened ∙ h.from.told) s.begins.starts;
        first = λ some. record {
          table = s.begins.table;
          good = s.begins.good;
          length =
              sym h.from.reads.elapses.size ∙ sym (ap (λ (x : Seen). x.size) opened)
              ∙ s.begins.size;
          only = only_opened old o c h.from h.before s h.opening;
        };
        run = s.run;
        seen = refl;
        idle = idle_jobs c h.idle;
        after = refl;
        ends = λ some. (s.table, s.good);
        legal = λ r told. rw s.run.same (run_legal first last s.run.rows r s.run.run told);
        appears = rw s.run.same (run_appears first last s.run.rows s.run.run);
        order = rw s.run.same (run_order first last s.run.rows s.run.run).0;
        image = image;
        stops = λ before now was is_now opens.
            subst (λ (n : ℕ). SurvivesStops (n + 1) s.world c.entries now)
            (ap (λ (x : Opening). x.synced) h.opening ∙ h.from.synced)
            (survives_stops (c.synced + 1) s.world c.entries c.volume.seen now
            s.survived.survives is_now);
      }

  -- ---- all that it leaves

  module _ (out out_now : Option (List ℕ)) (source source_now sink sink_now : ℕ) where
    abbrev counts : Counts
    counts = record {
      disk = old.faults;
      disk_now = c.volume.seen.faults;
      source = source;
      source_now = source_now;
      sink = sink;
      sink_now = sink_now;
    }

    abbrev Leaves : Exit → Type 0
    Leaves status = Serves asked left left_now old c.volume.seen counts out out_now status c.entries

    leaves : (status : Exit) → IfUp status c.entries HoldsNow
        → CallsOfScript asked status left c.entries
        → SparesScript status old c.volume.seen c.entries → TellsDown status c.entries
        → WritesAll status (Appended out out_now (printed c.entries))
        → AppendedFront out out_now (printed c.entries)
        → ScriptCause left (live_of old) counts status → Leaves status
    leaves status image calls spared down written front cause = record {
      history = history status image;
      calls = calls;
      spared = spared;
      input = record { most = h.taken; all = λ done. h.ended };
      down = down;
      written = written;
      front = front;
      cause = cause;
    }

    script : IsScript left
    script = is_script left parts h.says

    image : IsGoodImage (live_of old)
    image = is_image (live_of old) o.volume.table h.before.good h.from.image

    told : any_down c.entries ≡ is_some c.volume.down
    told = down_told c h.sound h.idle

    only : c.entries ≡ [] → IsOnlyOpened old c.volume.seen
    only = none_opened old o c h.from h.before h.sound h.opening h.idle

    whole : Appended out out_now (printed c.entries) → AppendedFront out out_now (printed c.entries)
    whole all = (printed c.entries, [], sym (append-nil (printed c.entries)), all)

    -- where a commit failed, the disk's faults rose
    rose : (down : Option ℕ) → c.volume.down ≡ down → true ≡ is_some down
        → Rose old.faults c.volume.seen.faults
    rose None is fell = absurd cc
    rose (Some at) is fell =
        subst (λ (n : ℕ). Rose n c.volume.seen.faults)
        (ap (λ (x : Opening). x.seen.faults) h.opening ∙ h.from.quiet)
        (run_falls (first_in c h.sound) (last_in c h.sound) h.sound.run.rows at h.sound.run.run
        refl is)

    -- their history was printed or not
    pub serves_ran : (count : ℕ) (result : Result (Unit {0}) PrintFault) (is_down : Bool)
        → count ≡ risen old.faults c.volume.seen.faults → is_down ≡ is_some c.volume.down
        → OnOk result (Appended out out_now (printed c.entries))
        → OnErr result (AppendedFront out out_now (printed c.entries))
        → (result ≡ Err print.Sink → Rose sink sink_now)
        → Leaves (exit_of count (ending.Ran result is_down))
    serves_ran count (Ok x) true is fell ok err cause =
        leaves _ tt (inl script_runs)
        (λ none. absurd (let e : false ≡ true = sym (ap any_down none) ∙ told ∙ sym fell in cc))
        (inl (told ∙ sym fell)) ok (whole ok) (script, rose c.volume.down refl fell, is)
    serves_ran count (Ok x) false is fell ok err cause =
        leaves _ (holds_now (told ∙ sym fell)) script_runs only (told ∙ sym fell) ok (whole ok)
        (script, image)
    serves_ran count (Err print.Sink) is_down is fell ok err cause =
        leaves _ holds_now script_runs only tt tt err (script, image, cause refl)
    serves_ran count (Err print.Memory) is_down is fell ok err cause =
        leaves _ (λ some. holds_now) (inl script_runs) (λ none. inr (only none)) tt tt err tt
