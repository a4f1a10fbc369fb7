-- What a session decides by an operation on its volume.
use Rattle.std.proofs.Common.{◌≡◌, ◌⊎◌, inl, inr, ℕ, ◌+◌, ◌<◌, ◌≤◌, ◌&&◌, ◌||◌, not, Bool, true, false, List, [], length, map, Option, None, Some, Result, Ok, Err, if◌then◌else◌, refl, sym, ap, subst, ◌∙◌, arith}
use Rattle.std.specs.Prelude.{◌==◌, nat_lt, unwrap_or, IfSome, IsOk}
use Rattle.std.specs.Option.{option_map}
use Rattle.std.proofs.lemmas.Bool.Decides.{nat_tests}
use Rattle.sis_disk.specs.Layout.{data_blocks, first_byte, table_cap}
use Rattle.sis_disk.specs.Record.{Seen}
use Rattle.sis_disk.specs.Stops.{Elapses}
use Rattle.sis_disk.specs.declared.layout.Layout.{Layout}
use Rattle.sis_disk.proofs.GoesOn.{up_refl}
use Rattle.sis_history.specs.Appearing.{MayAppear}
use Rattle.sis_history.specs.Causes.{IsCause, commits, edits_table, moves_data, takes_memory}
use Rattle.sis_history.specs.Changed.{Fresh, changed_table, table_as}
use Rattle.sis_history.specs.Durable.{makes_durable}
use Rattle.sis_history.specs.Entering.{comes_first, is_down, may_have_called}
use Rattle.sis_history.specs.Needs.{IsTooLong, IsUnhindered, Need, hindrance_of, need_of}
use Rattle.sis_history.specs.Replies.{Fits}
use Rattle.sis_history.specs.Stage.{Stage}
use Rattle.sis_model.specs.Answer.{Answers, Kind, IsDone, IsRefused, IsHindered, MayReply, MayReplyAs, changed_by, kind_of, refusal_of, world_as, world_with}
use Rattle.sis_model.specs.World.{World}
use Rattle.sis_model.specs.declared.command.Command.{Command}
use Rattle.sis_model.specs.declared.command.Command.TheVariants as command
use Rattle.sis_model.specs.declared.reply.Hindrance.{Hindrance}
use Rattle.sis_model.specs.declared.reply.Hindrance.TheVariants as hindrance
use Rattle.sis_model.specs.declared.reply.LimitKind.TheVariants as limit
use Rattle.sis_model.specs.declared.reply.Reply.{Reply}
use Rattle.sis_model.specs.declared.reply.Reply.TheVariants as reply
use Rattle.sis_name.specs.Files.{Files}
use Rattle.sis_table.specs.Changes.{AreFreePlaces, Resize, renamed, size_of, with_resize, without_file, write_of}
use Rattle.sis_table.specs.Content.{files_in}
use Rattle.sis_table.specs.Spelling.{spelling}
use Rattle.sis_table.specs.Volume.{VolumeTable, greatest_number, most_nodes, used}
use Rattle.sis_table.specs.declared.node.Node.{Node}
use Rattle.sis_volume.specs.View.{VolumeView}
use Rattle.sis_copyclose.specs.Hindering.{Hinders, LacksRoom}
use Rattle.sis_copyclose.specs.Operating.{EndsBy, MadeRoom, Operates, StillUp}
use Rattle.sis_core.specs.declared.opens.Open.{Open}
use Rattle.sis_core.specs.Costs.{CallsFor, reads_for}
use Rattle.sis_core.specs.Deciding.{Decided, DecidesFor, plain_job}
use Rattle.sis_core.specs.Session.{AreThere, FitsArea, Jobs, SessionView, ShowsWorld, open_in, session, stage_of}
use Rattle.sis_core.proofs.CostLemmas.{calls_none, calls_operated}

-- ---- what an operation is for

-- A command that nothing refuses is carried out by an operation on the volume that needs this,
-- leads to one of these tables, and reads at most so many blocks.
pub record Suits (w : World) (s : SessionView) (client : ℕ) (c : Command) (need : Need)
    (MayLead : VolumeTable → Type 0) (reads : ℕ) : Type 0 where
  pub accepted : refusal_of w client c ≡ None
  pub need_is : (jobs : Jobs) → need_of (stage_of w s.volume jobs) client c ≡ need
  pub moves : (jobs : Jobs)
      → moves_data (stage_of w s.volume jobs) client c ≡ nat_lt 0 (need.blocks + reads)
  pub reads_is : (jobs : Jobs) → reads_for (stage_of w s.volume jobs) client c ≡ reads
  pub waits : commits c ≡ false
  pub memory : takes_memory c ≡ true
  pub leads : (next : VolumeTable) → MayLead next → (fresh : Fresh)
      × AreFreePlaces s.volume.table need.blocks fresh.places
      × ((jobs : Jobs) → next ≡ changed_table (stage_of w s.volume jobs) client c fresh)

-- the files that are open are there in the new table too, with the same names
pub record KeepsOpens (old new : VolumeTable) (opens : List Open) : Type 0 where
  pub names : map (open_in new) opens ≡ map (open_in old) opens
  pub there : AreThere new opens

-- ---- small facts

pub if_some : {X : Type 0} (P : Type 0) (o : Option X) → P → IfSome o (λ x. P)
if_some P None is = tt
if_some P (Some x) is = is

if_some_at : {X : Type 0} (P : X → Type 0) (o u : Option X) → o ≡ u → IfSome u P → IfSome o P
if_some_at P o u same is = subst (λ (a : Option _). IfSome a P) (sym same) is

-- a command that doesn't commit makes nothing durable
pub not_durable : (c : Command) (r : Reply) → commits c ≡ false → makes_durable c r ≡ false
not_durable (command.Put name bytes) r is = refl
not_durable (command.Open name write) r is = refl
not_durable (command.Read number at len) r is = refl
not_durable (command.Write number at bytes) r is = refl
not_durable (command.Size number len) r is = refl
not_durable (command.Close number) r is = absurd cc
not_durable (command.Remove name) r is = refl
not_durable (command.Rename old new) r is = refl
not_durable (command.Stat name) r is = refl
not_durable (command.List after) r is = refl
not_durable (command.Tell name) r is = refl
not_durable command.Space r is = refl
not_durable (command.Fsctl code bytes) r is = refl
not_durable command.Sync r is = absurd cc
not_durable command.Grovel r is = refl
not_durable command.End r is = absurd cc

pub different : true ≡ false → ⊥
different e = cc

-- no operation is hindered by the number of opens
pub not_opens : (v : VolumeTable) (need : Need)
    → hindrance_of v need ≡ Some (hindrance.Limit limit.Opens) → ⊥
not_opens v need is =
    by (nat_lt most_nodes (length v.nodes + need.nodes))
    (nat_lt greatest_number (v.next_id + need.ids))
    (nat_lt greatest_number (v.greatest + need.indexes)) (need.version == greatest_number)
    (nat_lt (data_blocks v.layout) (used v + need.blocks)) is
  where
    full : Hindrance
    full = hindrance.Full need.blocks (used v) (data_blocks v.layout)

    by : (a b c d e : Bool) → (if a then Some (hindrance.Limit limit.Files)
        else if b then Some (hindrance.Limit limit.Ids)
        else if c then Some (hindrance.Limit limit.Indexes)
        else if d then Some (hindrance.Limit limit.Versions)
        else if e then Some full else None) ≡ Some (hindrance.Limit limit.Opens) → ⊥
    by true b c d e is = absurd cc
    by false true c d e is = absurd cc
    by false false true d e is = absurd cc
    by false false false true e is = absurd cc
    by false false false false true is = absurd cc
    by false false false false false is = absurd cc

-- ---- the layout stays

resized_layout : (n : Node) (change : Option Resize) (places : List ℕ) (v : VolumeTable)
    → (with_resize n change places v).layout ≡ v.layout
resized_layout n None places v = refl
resized_layout n (Some r) places v = refl

either_layout : (v : VolumeTable) (change : Node → VolumeTable)
    → ((n : Node) → (change n).layout ≡ v.layout) → (o : Option Node)
    → (unwrap_or (option_map change o) v).layout ≡ v.layout
either_layout v change same None = refl
either_layout v change same (Some n) = same n

pub changed_layout : (s : Stage) (client : ℕ) (c : Command) (fresh : Fresh)
    → (changed_table s client c fresh).layout ≡ s.table.layout
changed_layout s client (command.Put name bytes) fresh = refl
changed_layout s client (command.Open name write) fresh = refl
changed_layout s client (command.Read number at len) fresh = refl
changed_layout s client (command.Write number at bytes) fresh =
    either_layout s.table (λ n. with_resize n (write_of n at (length bytes)) fresh.places s.table)
    (λ n. resized_layout n (write_of n at (length bytes)) fresh.places s.table) _
changed_layout s client (command.Size number len) fresh =
    either_layout s.table (λ n. with_resize n (size_of n len) fresh.places s.table)
    (λ n. resized_layout n (size_of n len) fresh.places s.table) _
changed_layout s client (command.Close number) fresh = refl
changed_layout s client (command.Remove name) fresh =
    either_layout s.table (λ n. without_file n.id s.table) (λ n. refl) _
changed_layout s client (command.Rename old new) fresh =
    either_layout s.table (λ n. renamed n.id new s.table) (λ n. refl) _
changed_layout s client (command.Stat name) fresh = refl
changed_layout s client (command.List after) fresh = refl
changed_layout s client (command.Tell name) fresh = refl
changed_layout s client command.Space fresh = refl
changed_layout s client (command.Fsctl code bytes) fresh = refl
changed_layout s client command.Sync fresh = refl
changed_layout s client command.Grovel fresh = refl
changed_layout s client command.End fresh = refl

-- ---- commands that leave the world

-- A command that changes neither world nor table was decided, and the session still shows the
-- world.
pub decides_same : (w : World) (s : SessionView) (new : VolumeView) (client : ℕ) (c : Command)
    (r : Reply) → ShowsWorld w s → world_with w client c r ≡ w → new.table ≡ s.volume.table
    → files_in new.table new.seen ≡ files_in s.volume.table s.volume.seen
    → Decided w s.volume new client c r → DecidesFor w s (session new s.opens) client c r
decides_same w s new client c r shows world table files decided = record {
  decided = decided;
  stands =
      if_some_at (λ (fs : Files). fs ≡ (world_with w client c r).files)
      (files_in new.table new.seen) (files_in s.volume.table s.volume.seen) files
      (subst
      (λ (x : World). IfSome (files_in s.volume.table s.volume.seen) (λ fs. fs ≡ x.files))
      (sym world) shows.stands);
  opens =
      ap (λ (x : World). x.opens) world ∙ shows.opens
      ∙ ap (λ (v : VolumeTable). map (open_in v) s.opens) (sym table);
  there = subst (λ (v : VolumeTable). AreThere v s.opens) (sym table) shows.there;
}

pub none_elapses : (seen : Seen) → Elapses seen seen
none_elapses seen = record { size = refl; calls = omega arith; faults = omega arith }

-- The command was refused, and nothing was done. At a reply that is known the premises behind the
-- refusal compute.
pub refused : (w : World) (s : SessionView) (client : ℕ) (c : Command) (r : Reply)
    → ShowsWorld w s → s.volume.down ≡ None → refusal_of w client c ≡ Some r
    → kind_of r ≡ IsRefused → is_down r ≡ false → makes_durable c r ≡ false
    → MayAppear w client c r
    → ((fresh : Fresh) (jobs later : Jobs) (next : World) → Fits (stage_of w s.volume jobs) fresh
    (stage_of next s.volume later) client (plain_job c) r)
    → DecidesFor w s (session s.volume s.opens) client c r
refused w s client c r shows up refusal kind not_down durable may fits =
    decides_same w s s.volume client c r shows (ap (world_as w client c) kind) refl refl
    (inl (
      record { places = [] },
      record {
        was_up = up;
        up = up;
        not_down = not_down;
        may = may;
        told = if_some (MayReply w client c r) s.volume.seen.told reply_is;
        fits = λ area jobs later next. fits (record { places = [] }) jobs later next;
        uncalled = λ jobs is. refl;
        quiet = λ is. refl;
        table = λ jobs.
            ap (table_as (stage_of w s.volume jobs) client c (record { places = [] }))
            (sym kind);
        edits = record {
          durable = λ is. absurd (different (sym is ∙ durable));
          only = λ jobs is_changed. inl is_changed;
        };
        needed = λ jobs. calls_none (stage_of w s.volume jobs) s.volume client c;
        calls = up_refl (first_byte s.volume.table.layout) s.volume.seen;
        elapses = none_elapses s.volume.seen;
      },
    ))
  where
    reply_is : MayReply w client c r
    reply_is = subst (λ (k : Kind). MayReplyAs w client c r k) (sym kind) refusal

-- ---- commands that edit the table

module _ (w : World) (s : SessionView) (client : ℕ) (c : Command) (need : Need)
    (MayLead : VolumeTable → Type 0) (change : Files → Files) (reads : ℕ)
    (is : Suits w s client c need MayLead reads) (shows : ShowsWorld w s)
    (up : s.volume.down ≡ None) where
  -- the command moves no data, so no call was made
  idle_uncalled : (new : VolumeView) (jobs : Jobs) (r : Reply) → comes_first r ≡ false
      → (need.blocks + reads ≡ 0 → new.seen ≡ s.volume.seen)
      → may_have_called (stage_of w s.volume jobs) client c r ≡ false
      → new.seen ≡ s.volume.seen
  idle_uncalled new jobs r later idle uncalled = idle (none (nat_lt 0 (need.blocks + reads)) refl
      (commits c) is.waits (comes_first r) later
      (subst
      (λ (b : Bool). ((b || (commits c && s.volume.is_changed)) && not (comes_first r)) ≡ false)
      (is.moves jobs) uncalled))
    where
      none : (some : Bool) → nat_lt 0 (need.blocks + reads) ≡ some → (waits : Bool)
          → waits ≡ false → (first : Bool) → first ≡ false
          → ((some || (waits && s.volume.is_changed)) && not first) ≡ false
          → need.blocks + reads ≡ 0
      none some is true waits first later test = absurd (different waits)
      none some is false waits true later test = absurd (different later)
      none true is false waits false later test = absurd (different test)
      none false is false waits false later test = grind (arith, nat_tests, is)

  -- what it called was for the command
  called : {T : Type 0} (result : Result T Hindrance) (new : VolumeView)
      → Operates {T = T} need MayLead change reads result s.volume new → (jobs : Jobs)
      → CallsFor (stage_of w s.volume jobs) s.volume new client c
  called result new left jobs =
      calls_operated (stage_of w s.volume jobs) client c need MayLead change reads s.volume new
      is.waits (is.need_is jobs) (is.reads_is jobs) up result left

  -- ---- nothing was carried out

  changed_before : (new : VolumeView)
      → (new ≡ record s.volume { seen = new.seen; down = new.down }) ⊎ MadeRoom need s.volume new
      → new.is_changed ≡ true → s.volume.is_changed ≡ true
  changed_before new (inl same) is_changed =
      sym (ap (λ (v : VolumeView). v.is_changed) same) ∙ is_changed
  changed_before new (inr room) is_changed =
      absurd (different (sym is_changed ∙ ap (λ (v : VolumeView). v.is_changed) room.same))

  -- the command was hindered, and by no commit that failed
  hindered : {T : Type 0} (by : Hindrance) (first : Bool) (fresh : Fresh) (new : VolumeView)
      → kind_of (reply.Hindered by) ≡ IsHindered first → is_down (reply.Hindered by) ≡ false
      → Operates {T = T} need MayLead change reads (Err by) s.volume new
      → StillUp s.volume new
      → ((jobs later : Jobs) (next : World)
      → IsCause (stage_of w s.volume jobs) fresh (stage_of next new later) client c by)
      → ((jobs : Jobs)
      → may_have_called (stage_of w s.volume jobs) client c (reply.Hindered by) ≡ false
      → new.seen ≡ s.volume.seen)
      → DecidesFor w s (session new s.opens) client c (reply.Hindered by)
  hindered by first fresh new kind not_down left goes cause uncalled =
      decides_same w s new client c (reply.Hindered by) shows (ap (world_as w client c) kind)
      left.err left.kept
      (inl (
        fresh,
        record {
          was_up = up;
          up = goes.down;
          not_down = not_down;
          may = may;
          told = if_some (MayReply w client c (reply.Hindered by)) new.seen.told may;
          fits = λ area jobs later next. cause jobs later next;
          uncalled = uncalled;
          quiet = λ done. absurd (other (sym kind ∙ done));
          table = λ jobs.
              left.err
              ∙ ap (table_as (stage_of w s.volume jobs) client c fresh) (sym kind);
          edits = record {
            durable = λ durable.
                absurd
                (different (sym durable ∙ not_durable c (reply.Hindered by) is.waits));
            only = λ jobs is_changed. inl (changed_before new left.books is_changed);
          };
          needed = called (Err by) new left;
          calls = goes.calls;
          elapses = left.elapses;
        },
      ))
    where
      may : MayReply w client c (reply.Hindered by)
      may = subst (λ (k : Kind). MayReplyAs w client c (reply.Hindered by) k) (sym kind)
          (inr is.accepted)

      other : IsHindered first ≡ IsDone → ⊥
      other e = cc

  -- nothing is taken
  none : Fresh
  none = record { places = [] }

  -- a limit that is met first, or want of room
  met : {T : Type 0} (by : Hindrance) (new : VolumeView)
      → kind_of (reply.Hindered by) ≡ IsHindered false → is_down (reply.Hindered by) ≡ false
      → Operates {T = T} need MayLead change reads (Err by) s.volume new
      → StillUp s.volume new → new ≡ s.volume
      → ((jobs later : Jobs) (next : World)
      → IsCause (stage_of w s.volume jobs) none (stage_of next new later) client c by)
      → DecidesFor w s (session new s.opens) client c (reply.Hindered by)
  met by new kind not_down left goes same cause =
      hindered by false none new kind not_down left goes cause
      (λ jobs test. ap (λ (v : VolumeView). v.seen) same)

  is_met : (by : Hindrance) (jobs : Jobs) → hindrance_of s.volume.table need ≡ Some by
      → hindrance_of s.volume.table (need_of (stage_of w s.volume jobs) client c) ≡ Some by
  is_met by jobs is_first =
      ap (hindrance_of s.volume.table) (is.need_is jobs) ∙ is_first

  free_of : (jobs : Jobs) → IsUnhindered s.volume.table need
      → IsUnhindered s.volume.table (need_of (stage_of w s.volume jobs) client c)
  free_of jobs unhindered = ap (hindrance_of s.volume.table) (is.need_is jobs) ∙ unhindered

  -- a command that needs no block, reads none, and doesn't commit, makes no call
  later_idle : {T : Type 0} (by : Hindrance) (new : VolumeView)
      → comes_first (reply.Hindered by) ≡ false
      → Operates {T = T} need MayLead change reads (Err by) s.volume new → (jobs : Jobs)
      → may_have_called (stage_of w s.volume jobs) client c (reply.Hindered by) ≡ false
      → new.seen ≡ s.volume.seen
  later_idle by new later left jobs test =
      idle_uncalled new jobs (reply.Hindered by) later left.idle test

  -- the command edits the table
  abbrev Tables : Type 0
  Tables = (jobs : Jobs) → edits_table (stage_of w s.volume jobs) client c ≡ true

  -- the command edits the table, or it has nothing to do, and so does nothing
  abbrev pub EditsOrStays : {T : Type 0} → Result T Hindrance → VolumeView → Type 0
  EditsOrStays result new = (jobs : Jobs)
      → (edits_table (stage_of w s.volume jobs) client c ≡ true)
      ⊎ (IsOk result × (new ≡ s.volume))

  -- an operation failed so
  failed : {T : Type 0} (by : Hindrance) (new : VolumeView)
      → Operates {T = T} need MayLead change reads (Err by) s.volume new → Tables
      → Hinders need MayLead s.volume new by → EndsBy s.volume new by
      → DecidesFor w s (session new s.opens) client c (reply.Hindered by)
  failed (hindrance.Limit limit.Opens) new left edits cause goes =
      absurd (not_opens s.volume.table need cause.0)
  failed (hindrance.Limit limit.Files) new left edits cause goes =
      met (hindrance.Limit limit.Files) new refl refl left goes cause.1
      (λ jobs later next. is_met (hindrance.Limit limit.Files) jobs cause.0)
  failed (hindrance.Limit limit.Ids) new left edits cause goes =
      met (hindrance.Limit limit.Ids) new refl refl left goes cause.1
      (λ jobs later next. is_met (hindrance.Limit limit.Ids) jobs cause.0)
  failed (hindrance.Limit limit.Indexes) new left edits cause goes =
      met (hindrance.Limit limit.Indexes) new refl refl left goes cause.1
      (λ jobs later next. is_met (hindrance.Limit limit.Indexes) jobs cause.0)
  failed (hindrance.Limit limit.Versions) new left edits cause goes =
      met (hindrance.Limit limit.Versions) new refl refl left goes cause.1
      (λ jobs later next. is_met (hindrance.Limit limit.Versions) jobs cause.0)
  failed (hindrance.Full needed mapped total) new left edits cause goes =
      met (hindrance.Full needed mapped total) new refl refl left goes cause.1
      (λ jobs later next. is_met (hindrance.Full needed mapped total) jobs cause.0)
  failed (hindrance.TableFull needed cap) new left edits cause goes =
      let next = cause.2 in
      let taken = is.leads next.0 next.1 in
      hindered (hindrance.TableFull needed cap) false taken.0 new refl refl left goes
      (λ jobs later after. (
        edits jobs,
        record {
          unhindered = free_of jobs cause.0;
          places =
              subst
              (λ (n : Need). AreFreePlaces s.volume.table n.blocks (taken.0).places)
              (sym (is.need_is jobs)) taken.1;
        },
        subst (λ (v : VolumeTable). IsTooLong s.volume.table v needed cap) (taken.2 jobs) next.2,
        cause.1,
      ))
      (later_idle (hindrance.TableFull needed cap) new refl left)
  failed hindrance.Disk new left edits cause goes =
      hindered hindrance.Disk false none new refl refl left goes
      (λ jobs later next. (
        is.moves jobs ∙ some_needed (left.needed refl),
        free_of jobs cause.0,
        record { rose = cause.1; once = cause.2; up = goes.calls },
      ))
      (later_idle hindrance.Disk new refl left)
    where
      some_needed : 1 ≤ need.blocks + reads → nat_lt 0 (need.blocks + reads) ≡ true
      some_needed some = grind (arith, nat_tests)
  failed hindrance.Memory new left edits cause goes =
      hindered hindrance.Memory true none new refl refl left goes
      (λ jobs later next. (is.memory, cause)) (later_idle hindrance.Memory new refl left)
  failed (hindrance.Down at) new left edits cause goes =
      decides_same w s new client c (reply.Hindered (hindrance.Down at)) shows refl left.err
      left.kept
      (inr (inl (
        at,
        record {
          was_up = up;
          down = goes.down;
          replied = refl;
          may = λ jobs. record {
            accepted = is.accepted;
            unhindered = free_of jobs cause.0;
            edited = (cause.2).edited;
            cause =
                inr
                (subst (λ (n : Need). 0 < n.blocks) (sym (is.need_is jobs))
                (some_blocks (cause.1)));
          };
          table = left.err;
          changed = ap (λ (v : VolumeView). v.is_changed) (cause.2).same;
          needed = called (Err (hindrance.Down at)) new left;
          calls = goes.calls;
          elapses = left.elapses;
        },
      )))
    where
      some_blocks : LacksRoom need s.volume → 0 < need.blocks
      some_blocks lacks = omega arith

  -- an operation failed
  pub operated_err : {T : Type 0} (result : Result T Hindrance) (by : Hindrance)
      (new : VolumeView) → Operates need MayLead change reads result s.volume new
      → result ≡ Err by → EditsOrStays result new
      → DecidesFor w s (session new s.opens) client c (reply.Hindered by)
  operated_err {T = T} result by new left err edits =
      given (subst (λ (q : Result T Hindrance). Operates need MayLead change reads q s.volume new)
      err left) (subst (λ (q : Result T Hindrance). EditsOrStays q new) err edits)
    where
      surely : EditsOrStays {T = T} (Err by) new → Tables
      surely edits jobs = elim (edits jobs) [
        | inl table ↦ table
        | inr nothing ↦ absurd (let ok = nothing.0 in cc)
      ]

      given : Operates {T = T} need MayLead change reads (Err by) s.volume new
          → EditsOrStays {T = T} (Err by) new
          → DecidesFor w s (session new s.opens) client c (reply.Hindered by)
      given left edits = failed by new left (surely edits) (left.cause up) (left.goes up)

  -- ---- it was carried out

  -- nothing hinders what was carried out
  unhindered_ok : {T : Type 0} (x : T) (new : VolumeView)
      → Operates {T = T} need MayLead change reads (Ok x) s.volume new
      → IsUnhindered s.volume.table need
  unhindered_ok {T = T} x new left = by (hindrance_of s.volume.table need) refl
    where
      never : (h : Hindrance) → (◌≡◌ {A = Result T Hindrance} (Ok x) (Err h))
          ⊎ (◌≡◌ {A = Result T Hindrance} (Ok x) (Err hindrance.Memory)) → ⊥
      never h (inl e) = absurd cc
      never h (inr e) = absurd cc

      by : (met : Option Hindrance) → hindrance_of s.volume.table need ≡ met → met ≡ None
      by None is = refl
      by (Some h) is = absurd (never h (left.limit up h is))

  -- the files were changed so
  stands_so : (old new : Option Files) (files : Files) → new ≡ option_map change old
      → ((fs : Files) → fs ≡ w.files → change fs ≡ files) → IfSome old (λ fs. fs ≡ w.files)
      → IfSome new (λ fs. fs ≡ files)
  stands_so None new files e so stands =
      if_some_at (λ (fs : Files). fs ≡ files) new None e tt
  stands_so (Some fs) new files e so stands =
      if_some_at (λ (x : Files). x ≡ files) new (Some (change fs)) e (so fs stands)

  -- an operation was carried out
  pub operated_ok : {T : Type 0} (result : Result T Hindrance) (x : T) (new : VolumeView)
      → Operates need MayLead change reads result s.volume new → result ≡ Ok x
      → EditsOrStays result new → Answers w client c reply.Done
      → ((files : Files) → files ≡ w.files → change files ≡ (changed_by w client c).files)
      → (changed_by w client c).opens ≡ w.opens
      → ((next : VolumeTable) → MayLead next → KeepsOpens s.volume.table next s.opens)
      → DecidesFor w s (session new s.opens) client c reply.Done
  operated_ok {T = T} result x new left ok edits answers so same_opens keeps =
      given (subst (λ (q : Result T Hindrance). Operates need MayLead change reads q s.volume new)
      ok left)
    where
      fits_area : (jobs : Jobs) (fresh : Fresh)
          → new.table ≡ changed_table (stage_of w s.volume jobs) client c fresh
          → FitsArea new.table
          → length (spelling (changed_table (stage_of w s.volume jobs) client c fresh))
          ≤ table_cap s.volume.table.layout
      fits_area jobs fresh same area =
          subst
          (λ (l : Layout).
          length (spelling (changed_table (stage_of w s.volume jobs) client c fresh))
          ≤ table_cap l)
          (changed_layout (stage_of w s.volume jobs) client c fresh)
          (subst FitsArea same area)

      edited_by : (jobs : Jobs) → new.is_changed ≡ true → (s.volume.is_changed ≡ true)
          ⊎ ((kind_of reply.Done ≡ IsDone)
          × (edits_table (stage_of w s.volume jobs) client c ≡ true))
      edited_by jobs is_changed = elim (edits jobs) [
        | inl table ↦ inr (refl, table)
        | inr nothing ↦
            inl (sym (ap (λ (v : VolumeView). v.is_changed) nothing.1) ∙ is_changed)
      ]

      given : Operates {T = T} need MayLead change reads (Ok x) s.volume new
          → DecidesFor w s (session new s.opens) client c reply.Done
      given left =
          let taken = is.leads new.table left.ok in
          let kept = keeps new.table left.ok in
          record {
            decided = inl (
              taken.0,
              record {
                was_up = up;
                up = left.up.down;
                not_down = refl;
                may = (is.accepted, answers);
                told =
                    if_some (MayReply w client c reply.Done) new.seen.told
                    (is.accepted, answers);
                fits = λ area jobs later next. record {
                  takes = record {
                    unhindered = free_of jobs (unhindered_ok x new left);
                    places =
                        subst
                        (λ (n : Need).
                        AreFreePlaces s.volume.table n.blocks (taken.0).places)
                        (sym (is.need_is jobs)) taken.1;
                  };
                  fits =
                      fits_area jobs taken.0 (taken.2 jobs) area;
                };
                uncalled = λ jobs test.
                    idle_uncalled new jobs reply.Done refl left.idle test;
                quiet = λ done. left.quiet;
                table = λ jobs. taken.2 jobs;
                edits = record {
                  durable = λ durable.
                      absurd
                      (different (sym durable ∙ not_durable c reply.Done is.waits));
                  only = edited_by;
                };
                needed = called (Ok x) new left;
                calls = left.up.calls;
                elapses = left.elapses;
              },
            );
            stands =
                stands_so (files_in s.volume.table s.volume.seen) (files_in new.table new.seen)
                (changed_by w client c).files left.files so shows.stands;
            opens = same_opens ∙ shows.opens ∙ sym kept.names;
            there = kept.there;
          }
