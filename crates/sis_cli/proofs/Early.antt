-- What a run of a script leaves that ended before its first line.
use Rattle.std.proofs.Common.{◌≡◌, ◌⊎◌, inl, inr, ℕ, ◌+◌, List, [], length, Option, None, Some}
use Rattle.std.proofs.Common.{refl, sym, ap, subst, ◌∙◌, arith}
use Rattle.std.specs.Prelude.{IfSome, ◌≢◌}
use Rattle.std.specs.Option.{option_map}
use Rattle.std.specs.FinMap.{get-empty}
use Rattle.sis_name.specs.Units.{name_cmp}
use Rattle.sis_disk.specs.Record.{Seen, DiskRecord, IsCounted, Rose, live_of, live_bytes}
use Rattle.sis_disk.proofs.Appends.{Appended-none, AppendedFront-none}
use Rattle.sis_model.specs.World.{World, unopened}
use Rattle.sis_table.specs.Volume.{VolumeTable, empty_table}
use Rattle.sis_table.specs.Content.{files_of}
use Rattle.sis_table.specs.Image.{image_at}
use Rattle.sis_table.specs.Opens.{OpensAs}
use Rattle.sis_script.specs.Script.{script_of, FailsAs}
use Rattle.sis_script.specs.Taken.{TakesAtMost}
use Rattle.sis_script.specs.declared.faults.ScriptFault.{ScriptFault}
use Rattle.sis_script.specs.declared.faults.ScriptFault.TheVariants as script
use Rattle.sis_script.specs.declared.limits.TheConstants.{MOST_SCRIPT_BYTES}
use Rattle.sis_history.specs.Runs.{first_stage}
use Rattle.sis_history.specs.Stops.{SurvivesStops}
use Rattle.sis_history.proofs.RunLemmas.{run_begun}
use Rattle.sis_journal.specs.Opening.{Caused, CountsFault, IsSynced, SyncThenReads}
use Rattle.sis_journal.specs.declared.fault.OpenFault.{OpenFault}
use Rattle.sis_journal.specs.declared.fault.OpenFault.TheVariants as opening
use Rattle.sis_journal.proofs.Behind.{image_behind, synced_at}
use Rattle.sis_volume.specs.Opening as opening_words
use Rattle.sis_core.specs.Opening.{Starts, least_layout, table_in, table_or, world_in}
use Rattle.sis_cli.specs.Exit.{risen, exit_of}
use Rattle.sis_cli.specs.Run.{Counts, ScriptCause, IsGoodImage, IsOnlyOpened, IsScript, Serves}
use Rattle.sis_cli.specs.Run.{CallsOfScript, HasOpened, IfUp, IsHistory, SparesScript, TellsDown}
use Rattle.sis_cli.specs.Run.{WritesAll}
use Rattle.sis_cli.specs.declared.usage.Verb.{Verb}
use Rattle.sis_cli.specs.declared.usage.Verb.TheVariants as verb
use Rattle.sis_cli.specs.declared.ending.Ending.TheVariants as ending
use Rattle.sis_cli.specs.declared.exit.Exit.{Exit}
use Rattle.sis_cli.specs.declared.exit.Exit.TheVariants as exit

-- ---- how these runs end

-- the lines of a run that ended so may not have run
abbrev pub IsEarly : Exit → Type 0
IsEarly exit.Done = ⊥
IsEarly exit.Sink = ⊥
IsEarly _ = Unit {0}

-- what is to be said of a run without entries that ended so
record SaysNone (asked : Verb) (left : Option (List ℕ)) (status : Exit) : Type 1 where
  up : (P : Type 0) → IfUp status [] P
  calls : CallsOfScript asked status left []
  down : TellsDown status []
  writes : (P : Type 0) → P → WritesAll status P
  never : status ≢ exit.Done

says_none : (asked : Verb) (left : Option (List ℕ)) (status : Exit) → IsEarly status
    → SaysNone asked left status
says_none asked left exit.Done early = absurd early
says_none asked left exit.Sink early = absurd early
says_none asked left (exit.Disk count) early =
    record { up = λ P. tt; calls = inr refl; down = inr refl; writes = λ P p. p; never = λ e. cc }
says_none asked left exit.Memory early =
    let up : (P : Type 0) → IfUp exit.Memory [] P = λ P some. absurd (some refl) in
    record { up = up; calls = inr refl; down = tt; writes = λ P p. tt; never = λ e. cc }
says_none asked left _ early =
    record { up = λ P. tt; calls = refl; down = refl; writes = λ P p. p; never = λ e. cc }

-- ---- stops

-- an image that is opened opens as the files of its world
pub opens_in : (m : List ℕ) → IsGoodImage (Some m) → OpensAs (world_in m).files m
opens_in m image = record {
  table = image.0;
  read = image.1;
  good = image.2;
  stands = ap (λ (t : VolumeTable). files_of t m) (ap table_or image.1);
}

-- each stop is survived, where the disk was left alone, or the sync at its start succeeded
module _ (old new : Seen) (before now : DiskRecord) (counted : IsCounted old)
    (was : old.told ≡ Some before) (is_now : new.told ≡ Some now) where
  abbrev Stops : Type 0
  Stops = SurvivesStops (old.calls + 1) (world_in (live_bytes before)) [] now

  left_stops : new ≡ old → Stops
  left_stops same k from upto =
      let count : length now.calls ≡ old.calls =
      subst (λ (o : Option DiskRecord). IfSome o (λ r. length r.calls ≡ old.calls))
      (ap (λ (s : Seen). s.told) (sym same) ∙ is_now) counted in
      absurd (omega (arith, from, upto, count))

  synced_stops : IsSynced old new → IsGoodImage (live_of old) → Stops
  synced_stops synced image k from upto m after = (
    0,
    record { decided = omega arith; none_lost = tt },
    subst (λ (x : List ℕ). OpensAs (world_in (live_bytes before)).files x)
        (sym (image_behind old new before now k m counted synced was is_now from after))
        (opens_in (live_bytes before)
        (subst (λ (o : Option DiskRecord). IsGoodImage (option_map live_bytes o)) was image)),
  )

  memory_stops : (new ≡ old) ⊎ IsOnlyOpened old new → IsGoodImage (live_of old) → Stops
  memory_stops (inl same) image = left_stops same
  memory_stops (inr opened) image = synced_stops opened.synced image

  early_stops : (status : Exit) → IsEarly status → SparesScript status old new []
      → HasOpened status old now [] → Stops
  early_stops exit.Done early spared image = absurd early
  early_stops exit.Sink early spared image = absurd early
  early_stops (exit.Image at kind) early spared image = synced_stops spared.synced image
  early_stops (exit.Bad kind file index) early spared image = synced_stops spared.synced image
  early_stops (exit.Disk count) early spared (inl some) = absurd (some refl)
  early_stops (exit.Disk count) early spared (inr image) =
      synced_stops (synced_at 4 old new now counted (spared refl).reads is_now image.1) image.0
  early_stops exit.Memory early spared (inl some) = absurd (some refl)
  early_stops exit.Memory early spared (inr image) = memory_stops (spared refl) image
  early_stops _ early spared image = left_stops spared

-- ---- their history

-- the world of live bytes, and one without files where the disk doesn't tell them
abbrev world_of : Option (List ℕ) → World
world_of None = unopened least_layout.letter (files_of (empty_table least_layout) [])
world_of (Some m) = world_in m

abbrev table_of : Option (List ℕ) → VolumeTable
table_of None = empty_table least_layout
table_of (Some m) = table_in m

starts_of : (live : Option (List ℕ)) → Starts live (world_of live) (table_of live)
starts_of None =
    (record { letter = refl; sizes = λ q. ap (option_map length) (get-empty name_cmp q) }, refl)
starts_of (Some m) = (refl, refl)

-- nothing was decided
pub history_none : (old new : Seen) (status : Exit) → IsEarly status → IsCounted old
    → SparesScript status old new [] → IsHistory old new status []
history_none old new status early counted spared =
    let w = world_of (live_of old) in
    let v = table_of (live_of old) in
    record {
      world = w;
      table = v;
      opened = new;
      last = first_stage w v new;
      starts = starts_of (live_of old);
      first = λ some. absurd (some refl);
      run = run_begun w v new;
      seen = refl;
      idle = λ client. refl;
      after = refl;
      ends = λ some. absurd (some refl);
      legal = λ r told. tt;
      appears = tt;
      order = tt;
      image = (says_none verb.Exec None status early).up _;
      stops = λ before now was is_now opened.
          subst (λ (o : Option DiskRecord).
          SurvivesStops (old.calls + 1) (world_of (option_map live_bytes o)) [] now) (sym was)
          (early_stops old new before now counted was is_now status early spared opened);
    }

-- ---- all that they leave

module _ (asked : Verb) (left left_now : Option (List ℕ)) (out : Option (List ℕ)) (old new : Seen)
    (n : Counts) (counted : IsCounted old)
    (taken : TakesAtMost (MOST_SCRIPT_BYTES + 1) left left_now) where
  abbrev Leaves : Exit → Type 0
  Leaves status = Serves asked left left_now old new n out out status []

  leaves : (status : Exit) → IsEarly status → SparesScript status old new []
      → ScriptCause left (live_of old) n status → Leaves status
  leaves status early spared cause =
      let says = says_none asked left status early in
      record {
        history = history_none old new status early counted spared;
        calls = says.calls;
        spared = spared;
        input = record { most = taken; all = λ done. absurd (says.never done) };
        down = says.down;
        written = says.writes _ (Appended-none out);
        front = AppendedFront-none out [];
        cause = cause;
      }

  -- a script that was not read
  pub serves_no_script : (count : ℕ) (fault : ScriptFault) → new ≡ old
      → IfSome left (λ bytes. FailsAs fault (script_of bytes))
      → (fault ≡ script.Source → Rose n.source n.source_now)
      → Leaves (exit_of count (ending.Script fault))
  serves_no_script count script.Source same says rose = leaves exit.Source tt same (rose refl)
  serves_no_script count script.Memory same says rose = leaves exit.Memory tt (λ e. inl same) tt
  serves_no_script count _ same says rose = leaves _ tt same says

  -- an image that was not opened
  pub serves_no_image : (count : ℕ) (fault : OpenFault) → count ≡ risen n.disk n.disk_now
      → IsScript left → IfSome (live_of old) (λ m. opening_words.FailsAs fault (image_at m))
      → Caused fault n.disk n.disk_now → SyncThenReads 4 old new
      → CountsFault fault old.faults new.faults → (fault ≢ opening.Disk → IsSynced old new)
      → Leaves (exit_of count (ending.Image fault))
  serves_no_image count opening.Disk is says fails rose reads few synced =
      leaves _ tt (λ e. record { reads = reads; once = few }) (says, rose, is)
  serves_no_image count opening.Memory is says fails rose reads few synced =
      leaves _ tt
      (λ e. inr (record { reads = reads; synced = synced (λ f. cc); quiet = few })) tt
  serves_no_image count _ is says fails rose reads few synced =
      leaves _ tt (record { reads = reads; synced = synced (λ f. cc); quiet = few })
      (says, fails)

  -- no memory for the entries of lines
  pub serves_no_room : (count : ℕ) → IsOnlyOpened old new → Leaves (exit_of count ending.NoRoom)
  serves_no_room count only = leaves exit.Memory tt (λ e. inr only) tt
