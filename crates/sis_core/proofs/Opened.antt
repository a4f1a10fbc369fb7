-- What a client has open in a world that a session shows, and what reading it gives.
use Rattle.std.proofs.Common.{◌≡◌, ◌⊎◌, inl, inr, ℕ, ◌<◌, ◌≤◌, Bool, true, false, cond, ◌||◌, List, [], ◌∷◌, ◌++◌, length, take, drop, map, find, Option, None, Some, is_some, refl, sym, ap, subst, ◌∙◌, arith, length-take, length-drop}
use Rattle.std.specs.Prelude.{IfSome, Result, nat_lt, not, unwrap_or, ◌&&◌, ◌==◌}
use Rattle.std.specs.FinMap.{get}
use Rattle.std.specs.List.{list_any}
use Rattle.std.specs.Option.{option_map}
use Rattle.std.proofs.lemmas.Bool.Decides.{nat_tests}
use Rattle.std.proofs.lemmas.Cmp.{nat_list_eq_equiv}
use Rattle.sis_copyclose.specs.Reading.{Appends, HindersReading, OnlyLooks}
use Rattle.sis_disk.specs.Layout.{first_byte, table_cap}
use Rattle.sis_disk.specs.Record.{DiskRecord, live_bytes, live_of}
use Rattle.sis_history.specs.Appearing.{MayAppear}
use Rattle.sis_history.specs.Causes.{moves_data}
use Rattle.sis_history.specs.Changed.{Fresh, table_as}
use Rattle.sis_history.specs.Durable.{makes_durable}
use Rattle.sis_history.specs.Entering.{comes_first, is_down}
use Rattle.sis_history.specs.Needs.{reads_in, reads_of}
use Rattle.sis_history.specs.Replies.{Fits}
use Rattle.sis_history.specs.Stage.{node_opened}
use Rattle.sis_history.proofs.ExactLemmas.{no_need_free}
use Rattle.sis_history.proofs.NamedLemmas.{found_has}
use Rattle.sis_model.specs.Answer.{IsDone, MayReply, greatest_size, kind_of, most_bytes, name_at, opened, refusal_of, refusal_of_open, world_with}
use Rattle.sis_model.specs.Copy.{or_refused}
use Rattle.sis_model.specs.World.{World, OpenFile, bytes_of, content, is_open_as, open_of}
use Rattle.sis_model.specs.declared.command.Command.{Command}
use Rattle.sis_model.specs.declared.command.Command.TheVariants as asked
use Rattle.sis_model.specs.declared.range.ByteRange.{ByteRange}
use Rattle.sis_model.specs.declared.reply.Hindrance.{Hindrance}
use Rattle.sis_model.specs.declared.reply.Hindrance.TheVariants as hindrance
use Rattle.sis_model.specs.declared.reply.Reply.{Reply}
use Rattle.sis_model.specs.declared.reply.Reply.TheVariants as reply
use Rattle.sis_name.specs.Files.{Files, same_name}
use Rattle.sis_table.specs.Content.{content_of, files_in, files_of}
use Rattle.sis_table.specs.Drafts.{HaveOwnNames}
use Rattle.sis_table.specs.Edits.{IfThere}
use Rattle.sis_table.specs.Kinds.{is_plain, plain_node}
use Rattle.sis_table.specs.Spelling.{spelling}
use Rattle.sis_table.specs.Volume.{VolumeTable, IsTable, has_name, node_named, node_with}
use Rattle.sis_table.specs.declared.kind.NodeKind.{NodeKind}
use Rattle.sis_table.specs.declared.kind.NodeKind.TheVariants.{Plain}
use Rattle.sis_table.specs.declared.node.Node.{Node}
use Rattle.sis_table.proofs.CallerLemmas.{get-files_of}
use Rattle.sis_table.proofs.ChangeLemmas.{own_names}
use Rattle.sis_table.proofs.FileLemmas.{same_units, some_is}
use Rattle.sis_view.proofs.CallerLemmas.{up_reading}
use Rattle.sis_volume.specs.View.{VolumeView}
use Rattle.sis_core.specs.Deciding.{DecidesFor, plain_job}
use Rattle.sis_core.specs.Opens.{is_as, open_as}
use Rattle.sis_core.specs.Session.{AreThere, Jobs, SessionView, ShowsWorld, name_by, open_in, session, stage_of}
use Rattle.sis_core.specs.declared.opens.Open.{Open}
use Rattle.sis_core.proofs.CostLemmas.{calls_read}
use Rattle.sis_core.proofs.Operated.{decides_same, if_some, refused}

-- ---- opens of the world, and of the session

find_mapped : {X Y : Type 0} (f : X → Y) (p : X → Bool) (q : Y → Bool) (xs : List X)
    → ((x : X) → q (f x) ≡ p x) → find q (map f xs) ≡ option_map f (find p xs)
find_mapped f p q [] same = refl
find_mapped {Y = Y} f p q (x ∷ xs) same =
    ap (λ (b : Bool). cond b (Some (f x)) (find q (map f xs))) (same x)
    ∙ by (p x) (find_mapped f p q xs same)
  where
    by : (b : Bool) → find q (map f xs) ≡ option_map f (find p xs)
        → cond b (Some (f x)) (find q (map f xs)) ≡ option_map f (cond b (Some x) (find p xs))
    by true rest = refl
    by false rest = rest

-- the client's open of a number is the one that the session has
pub open_shown : (w : World) (s : SessionView) (client number : ℕ) → ShowsWorld w s
    → open_of w client number
    ≡ option_map (open_in s.volume.table) (open_as client number s.opens)
open_shown w s client number shows =
    ap (λ (os : List OpenFile). find (is_open_as client number) os) shows.opens
    ∙ find_mapped (open_in s.volume.table) (is_as client number) (is_open_as client number)
    s.opens (λ o. refl)

none_opened : (w : World) (s : SessionView) (client number : ℕ) (o : Option Open)
    → ShowsWorld w s → o ≡ open_as client number s.opens → o ≡ None
    → open_of w client number ≡ None
none_opened w s client number o shows is none =
    open_shown w s client number shows
    ∙ ap (option_map (open_in s.volume.table)) (sym is ∙ none)

-- ---- files by name and by id

found_none : (p : Node → Bool) (ks : List Node) (k : Node) → find p ks ≡ Some k
    → list_any p ks ≡ false → ⊥
found_none p [] k found none = cc
found_none p (j ∷ js) k found none = here (p j) found none (found_none p js k)
  where
    here : (b : Bool) → cond b (Some j) (find p js) ≡ Some k → (b || list_any p js) ≡ false
        → (find p js ≡ Some k → list_any p js ≡ false → ⊥) → ⊥
    here true found none rest = cc
    here false found none rest = rest found none

found_by_name : (test : Node → Bool) (ns : List Node) (n : Node) → HaveOwnNames ns
    → find test ns ≡ Some n → find (has_name n.name) ns ≡ Some n
found_by_name test [] n own is = absurd cc
found_by_name test (m ∷ ms) n own is =
    by (test m) is (found_by_name test ms n own.1) (same_name m.name n.name) refl
  where
    by : (b : Bool) → cond b (Some m) (find test ms) ≡ Some n
        → (find test ms ≡ Some n → find (has_name n.name) ms ≡ Some n)
        → (c : Bool) → same_name m.name n.name ≡ c
        → cond c (Some m) (find (has_name n.name) ms) ≡ Some n
    by true is rest true same = is
    by true is rest false same =
        let one : m ≡ n = some_is m n is in
        let self : same_name m.name n.name ≡ true =
        subst (λ (k : Node). same_name m.name k.name ≡ true) one
        (nat_list_eq_equiv.refl m.name) in
        absurd (let both : true ≡ false = sym self ∙ same in cc)
    by false is rest false same = rest is
    by false is rest true same =
        let name : m.name ≡ n.name = same_units m.name n.name same in
        let none : list_any (has_name n.name) ms ≡ false =
        subst (λ (q : List ℕ). list_any (has_name q) ms ≡ false) name own.0 in
        absurd (found_none (has_name n.name) ms n (rest is) none)

-- the file with an id is the one of its name
pub named_by_id : (v : VolumeTable) (id : ℕ) (n : Node) → IsTable v → node_with v id ≡ Some n
    → node_named v n.name ≡ Some n
named_by_id v id n t is =
    found_by_name (λ m. m.id == id) v.nodes n (own_names v.layout v.next_id [] v.nodes t.nodes) is

always_plain : (kind : NodeKind) → is_plain kind ≡ true
always_plain Plain = refl

-- an open's file is there, and plain
pub open_file : (v : VolumeTable) (opens : List Open) (client number : ℕ) (o : Open)
    → AreThere v opens → open_as client number opens ≡ Some o
    → IfThere (node_with v o.file) (λ n. plain_node n ≡ true)
open_file v opens client number o there is =
    by (node_with v o.file)
    (found_has (λ p. is_some (node_with v p.file) ≡ true) (is_as client number) opens o there is)
  where
    by : (m : Option Node) → is_some m ≡ true → IfThere m (λ n. plain_node n ≡ true)
    by None is = absurd cc
    by (Some n) is = always_plain n.kind

-- ---- an open and its file

-- The client's open `o` of this number, and its file.
pub record IsOpened (w : World) (s : SessionView) (client number : ℕ) (o : Open) (n : Node)
    : Type 0 where
  pub open' : open_of w client number
      ≡ Some (record { client = o.client; number = o.number; name = n.name; writes = o.writes })
  pub there : node_with s.volume.table o.file ≡ Some n
  pub named : node_named s.volume.table n.name ≡ Some n
  pub plain : plain_node n ≡ true
  pub found : (jobs : Jobs) → node_opened (stage_of w s.volume jobs) client number ≡ Some n
  pub bytes : bytes_of w n.name ≡ Some (content w n.name)
  pub name_is : opened w client number ≡ content w n.name
  pub size : length (content w n.name) ≡ n.size

sized : (w : World) (name : List ℕ) (size : ℕ)
    → option_map length (bytes_of w name) ≡ Some size
    → (bytes_of w name ≡ Some (content w name)) × (length (content w name) ≡ size)
sized w name size is = by (bytes_of w name) is
  where
    by : (o : Option (List ℕ)) → option_map length o ≡ Some size
        → (o ≡ Some (unwrap_or o [])) × (length (unwrap_or o []) ≡ size)
    by None is = absurd cc
    by (Some bytes) is = (refl, some_is (length bytes) size is)

node_is_there : (o : Option Node) → is_some o ≡ true → (n : Node) × (o ≡ Some n)
node_is_there None is = absurd cc
node_is_there (Some n) is = (n, refl)

pub is_opened : (w : World) (s : SessionView) (client number : ℕ) (o : Open) → ShowsWorld w s
    → IsTable s.volume.table → open_as client number s.opens ≡ Some o
    → (n : Node) × IsOpened w s client number o n
is_opened w s client number o shows t is =
    let v = s.volume.table in
    let some = found_has (λ p. is_some (node_with v p.file) ≡ true) (is_as client number) s.opens o
    shows.there is in
    let node = node_is_there (node_with v o.file) some in
    let n = node.0 in
    let name = n.name in
    let file : OpenFile =
    record { client = o.client; number = o.number; name = n.name; writes = o.writes } in
    let open' : open_of w client number ≡ Some file =
    open_shown w s client number shows ∙ ap (option_map (open_in v)) is
    ∙ ap (λ (m : Option Node).
    Some (record {
      client = o.client;
      number = o.number;
      name = name_by m;
      writes = o.writes;
    })) node.1 in
    let named : node_named v n.name ≡ Some n = named_by_id v o.file n t node.1 in
    let bytes = sized w n.name n.size
    (shows.files.sizes n.name ∙ ap (option_map (λ (m : Node). m.size)) named) in (
      n,
      record {
        open' = open';
        there = node.1;
        named = named;
        plain = always_plain n.kind;
        found =
            λ jobs. ap (λ (f : Option OpenFile). node_named v (name_at f)) open' ∙ named;
        bytes = bytes.0;
        name_is = ap (λ (f : Option OpenFile). content w (name_at f)) open';
        size = bytes.1;
      },
    )

-- what each file would say, the file with an id says
pub there_says : (P : Node → Type 0) (Q : Type 0) (m : Option Node) → ((n : Node) → P n → Q)
    → IfThere m P → Q
there_says P Q None says holds = absurd holds
there_says P Q (Some n) says holds = says n holds

-- what stands of the file with an id stands of this one
pub at_node : (P : Node → Type 0) (m : Option Node) (n : Node) → m ≡ Some n → IfThere m P → P n
at_node P None n is holds = absurd holds
at_node P (Some k) n is holds = subst P (some_is k n is) holds

-- where the disk tells its bytes, the file's are the world's
pub content_told : (w : World) (s : SessionView) (client number : ℕ) (o : Open) (n : Node)
    (live : List ℕ) → ShowsWorld w s → IsOpened w s client number o n
    → live_of s.volume.seen ≡ Some live
    → content w n.name ≡ content_of s.volume.table live n
content_told w s client number o n live shows is told =
    let v = s.volume.table in
    let files : files_of v live ≡ w.files =
    subst (λ (m : Option (List ℕ)). IfSome (option_map (files_of v) m) (λ fs. fs ≡ w.files)) told
    shows.stands in
    ap (λ (fs : Files). unwrap_or (get fs n.name) []) (sym files)
    ∙ ap (λ (m : Option (List ℕ)). unwrap_or m [])
    (get-files_of v live n.name ∙ ap (option_map (content_of v live)) is.named)

-- ---- refusals

abbrev pub nothing : Fresh
nothing = record { places = [] }

-- a client that hasn't the file open is refused
pub unopened : (w : World) (s : SessionView) (client number : ℕ) (c : Command) (o : Option Open)
    → ShowsWorld w s → s.volume.down ≡ None → o ≡ open_as client number s.opens → o ≡ None
    → makes_durable c reply.InvalidOpen ≡ false
    → (open_of w client number ≡ None → refusal_of w client c ≡ Some reply.InvalidOpen)
    → DecidesFor w s s client c reply.InvalidOpen
unopened w s client number c o shows up is none passing refusal =
    let why = refusal (none_opened w s client number o shows is none) in
    refused w s client c reply.InvalidOpen shows up why refl refl passing why
    (λ fresh jobs later next. tt)

-- ---- reading

not_called : (a b first : Bool) (count : ℕ) → a ≡ nat_lt 0 count → first ≡ false
    → ((a || (false && b)) && not first) ≡ false → count ≡ 0
not_called a b first count is last none = grind (arith, nat_tests)

module _ (w : World) (s : SessionView) (new : VolumeView) (client number : ℕ) (range : ByteRange)
    (o : Open) (n : Node) (shows : ShowsWorld w s) (t : IsTable s.volume.table)
    (up : s.volume.down ≡ None) (is : IsOpened w s client number o n) (short : range.len ≤ 65536)
    (low : range.at ≤ 68719476736) where
  abbrev old : VolumeView
  old = s.volume

  abbrev reading : Command
  reading = asked.Read number range.at range.len

  read_accepted : refusal_of w client reading ≡ None
  read_accepted =
      let test : (nat_lt most_bytes range.len || nat_lt greatest_size range.at) ≡ false =
      grind (arith, nat_tests) in
      ap (λ (f : Option OpenFile). refusal_of_open f (or_refused
      (nat_lt most_bytes range.len || nat_lt greatest_size range.at) reply.InvalidParameter None))
      is.open'
      ∙ ap (λ (b : Bool). or_refused b reply.InvalidParameter None) test

  reads : (jobs : Jobs) → reads_of (stage_of w old jobs) client number range ≡ reads_in range n
  reads jobs =
      ap (λ (m : Option Node). unwrap_or (option_map (reads_in range) m) 0) (is.found jobs)

  moves : (jobs : Jobs)
      → moves_data (stage_of w old jobs) client reading ≡ nat_lt 0 (reads_in range n)
  moves jobs = ap (nat_lt 0) (reads jobs)

  -- a command that only looked leaves files and opens as they were
  looked : {T : Type 0} (result : Result T Hindrance) (r : Reply)
      → OnlyLooks (reads_in range n) result old new → is_down r ≡ false → comes_first r ≡ false
      → world_with w client reading r ≡ w
      → ((jobs : Jobs)
      → table_as (stage_of w old jobs) client reading nothing (kind_of r) ≡ old.table)
      → MayAppear w client reading r → IfSome new.seen.told (λ d. MayReply w client reading r)
      → ((jobs later : Jobs) (next : World) → length (spelling old.table) ≤ table_cap
      old.table.layout
      → Fits (stage_of w old jobs) nothing (stage_of next new later) client (plain_job reading) r)
      → (kind_of r ≡ IsDone → new.seen.faults ≡ old.seen.faults)
      → DecidesFor w s (session new s.opens) client reading r
  looked result r looks not_down last same_world same appears told fits quiet =
      let table : new.table ≡ old.table = ap (λ (v : VolumeView). v.table) looks.same in
      let files : files_in new.table new.seen ≡ files_in old.table old.seen =
      ap (λ (v : VolumeTable). files_in v new.seen) table
      ∙ ap (option_map (files_of old.table)) looks.reads.live in
      decides_same w s new client reading r shows same_world table files (inl (
        nothing,
        record {
          was_up = up;
          up = ap (λ (v : VolumeView). v.down) looks.same ∙ up;
          not_down = not_down;
          may = appears;
          told = told;
          fits = λ fitting jobs later next. fits jobs later next
              (subst (λ (v : VolumeTable). length (spelling v) ≤ table_cap v.layout) table fitting);
          uncalled = λ jobs idle.
              looks.idle (not_called (moves_data (stage_of w old jobs) client reading)
              old.is_changed (comes_first r) (reads_in range n) (moves jobs) last idle);
          quiet = quiet;
          table = λ jobs. table ∙ sym (same jobs);
          edits = record {
            durable = λ durable. absurd cc;
            only = λ jobs changed. inl (sym (ap (λ (v : VolumeView). v.is_changed) looks.same) ∙
                changed);
          };
          needed = λ jobs.
              calls_read (stage_of w old jobs) client number range n result old new (reads jobs)
              looks;
          calls = up_reading (first_byte old.table.layout) (reads_in range n) old.seen new.seen
              looks.reads;
          elapses = looks.reads.elapses;
        },
      ))

  pub read_failed : {T : Type 0} (result : Result T Hindrance) (by : Hindrance)
      → OnlyLooks (reads_in range n) result old new
      → HindersReading (reads_in range n) old.seen new.seen by
      → DecidesFor w s (session new s.opens) client reading (reply.Hindered by)
  read_failed result hindrance.Memory looks cause =
      looked result (reply.Hindered hindrance.Memory) looks refl refl refl (λ jobs. refl)
      (inr read_accepted) (if_some _ new.seen.told (inr read_accepted))
      (λ jobs later next fitting. (refl, cause)) (λ done. absurd cc)
  read_failed result hindrance.Disk looks cause =
      looked result (reply.Hindered hindrance.Disk) looks refl refl refl (λ jobs. refl)
      (inr read_accepted) (if_some _ new.seen.told (inr read_accepted))
      (λ jobs later next fitting. (
        (let some : 1 ≤ reads_in range n = cause.0 in
            let test : nat_lt 0 (reads_in range n) ≡ true = grind (arith, nat_tests) in
            moves jobs ∙ test),
        no_need_free old.table t,
        record {
          rose = cause.1;
          once = cause.2;
          up = up_reading (first_byte old.table.layout) (reads_in range n) old.seen new.seen
              looks.reads;
        },
      )) (λ done. absurd cc)
  read_failed result (hindrance.Limit kind) looks cause = absurd cause
  read_failed result (hindrance.Full needed used total) looks cause = absurd cause
  read_failed result (hindrance.TableFull needed cap) looks cause = absurd cause
  read_failed result (hindrance.Down at) looks cause = absurd cause

  read_told : (bytes : List ℕ) (d : Option DiskRecord)
      → IfSome (option_map live_bytes d)
      (λ now. bytes ≡ take range.len (drop range.at (content_of old.table now n)))
      → live_of old.seen ≡ option_map live_bytes d
      → IfSome d (λ r. MayReply w client reading (reply.Read bytes))
  read_told bytes None told live = tt
  read_told bytes (Some r) told live = (
    read_accepted,
    ap (λ (b : List ℕ). reply.Read b)
        (told ∙ ap (λ (b : List ℕ). take range.len (drop range.at b))
        (sym (is.name_is ∙ content_told w s client number o n (live_bytes r) shows is live))),
  )

  pub read_done : {T : Type 0} (result : Result T Hindrance) (before after : List ℕ)
      → OnlyLooks (reads_in range n) result old new
      → Appends old.table n range (live_of old.seen) before after → before ≡ []
      → new.seen.faults ≡ old.seen.faults
      → DecidesFor w s (session new s.opens) client reading (reply.Read after)
  read_done result before after looks appends none quiet =
      let all : after ≡ appends.bytes =
      appends.appended ∙ ap (λ (b : List ℕ). b ++ appends.bytes) none in
      let others = take range.len (drop range.at (opened w client number)) in
      let long : length others ≡ length after =
      omega (
        arith,
        appends.size,
        is.size,
        ap length all,
        ap length is.name_is,
        length-take range.len (drop range.at (opened w client number)),
        length-drop range.at (opened w client number),
      ) in
      let told = subst (λ (m : Option (List ℕ)).
      IfSome m (λ now.
      appends.bytes ≡ take range.len (drop range.at (content_of old.table now n))))
      (sym looks.reads.live) appends.told in
      looked result (reply.Read after) looks refl refl refl (λ jobs. refl)
      (others, long, (read_accepted, refl))
      (subst (λ (b : List ℕ).
      IfSome new.seen.told (λ r. MayReply w client reading (reply.Read b))) (sym all)
      (read_told appends.bytes new.seen.told told (sym looks.reads.live)))
      (λ jobs later next fitting. record {
        takes = record {
          unhindered = no_need_free old.table t;
          places = record { size = refl; free = refl };
        };
        fits = fitting;
      })
      (λ done. quiet)

-- a read of too many bytes, or too far behind
pub read_too_far : (w : World) (s : SessionView) (client number : ℕ) (range : ByteRange) (o : Open)
    (n : Node) → ShowsWorld w s → s.volume.down ≡ None → IsOpened w s client number o n
    → (65536 < range.len) ⊎ ((range.len ≤ 65536) × (68719476736 < range.at))
    → DecidesFor w s s client (asked.Read number range.at range.len) reply.InvalidParameter
read_too_far w s client number range o n shows up is far =
    refused w s client (asked.Read number range.at range.len) reply.InvalidParameter shows up why
    refl refl refl why (λ fresh jobs later next. tt)
  where
    test : (65536 < range.len) ⊎ ((range.len ≤ 65536) × (68719476736 < range.at))
        → (nat_lt most_bytes range.len || nat_lt greatest_size range.at) ≡ true
    test (inl long) = grind (arith, nat_tests)
    test (inr behind) = (let lt = behind.1 in grind (arith, nat_tests))

    why : refusal_of w client (asked.Read number range.at range.len)
        ≡ Some reply.InvalidParameter
    why =
        ap (λ (f : Option OpenFile). refusal_of_open f (or_refused
        (nat_lt most_bytes range.len || nat_lt greatest_size range.at) reply.InvalidParameter
        None)) is.open'
        ∙ ap (λ (b : Bool). or_refused b reply.InvalidParameter None) (test far)
