-- Changes of an open file: writes, and new sizes.
use Rattle.std.proofs.Common.{◌≡◌, ◌⊎◌, inl, inr, ℕ, ◌+◌, ◌-◌, ◌/◌, ◌<◌, ◌≤◌, Bool, true, false, cond, ◌||◌, eqb, List, [], ◌∷◌, length, Option, None, Some, is_some, Result, Ok, Err, refl, sym, ap, ap₂, subst, ◌∙◌, arith}
use Rattle.std.specs.Prelude.{IsOk, MatchOption, max, nat_lt, not, unwrap_or, ◌==◌}
use Rattle.std.specs.Option.{option_and_then, option_map}
use Rattle.std.proofs.lemmas.Bool.Decides.{nat_tests}
use Rattle.std.proofs.lemmas.List.FromFn.{length-range_with_len}
use Rattle.sis_copyclose.specs.Calls.{one_if, reads_around, size_reads, write_reads}
use Rattle.sis_copyclose.specs.Changed.{IsWithResize, with_bytes}
use Rattle.sis_copyclose.specs.Operating.{Operates}
use Rattle.sis_history.specs.Causes.{edits_table}
use Rattle.sis_history.specs.Changed.{Fresh}
use Rattle.sis_history.specs.Durable.{makes_durable}
use Rattle.sis_history.specs.Needs.{Need, no_need, resize_need}
use Rattle.sis_history.specs.Stage.{node_opened}
use Rattle.sis_model.specs.Answer.{greatest_size, most_bytes, refusal_of, refusal_of_writer, with_change, written}
use Rattle.sis_model.specs.Copy.{or_refused}
use Rattle.sis_model.specs.World.{World, OpenFile, open_of, resized}
use Rattle.sis_model.specs.declared.command.Command.{Command}
use Rattle.sis_model.specs.declared.command.Command.TheVariants as asked
use Rattle.sis_model.specs.declared.reply.Hindrance.{Hindrance}
use Rattle.sis_model.specs.declared.reply.Reply.{Reply}
use Rattle.sis_model.specs.declared.reply.Reply.TheVariants as reply
use Rattle.sis_name.specs.Files.{Files}
use Rattle.sis_table.specs.Changes.{AreFreePlaces, Resize, resized_node, rewrites_end, size_of, touched_blocks, with_end, with_resize, write_of}
use Rattle.sis_table.specs.Edits.{with_node}
use Rattle.sis_table.specs.Volume.{VolumeTable, IsTable, blocks_of, node_with}
use Rattle.sis_table.specs.declared.node.Node.{Node}
use Rattle.sis_table.proofs.ChangeLemmas.{find-with_node}
use Rattle.sis_volume.specs.View.{VolumeView}
use Rattle.sis_core.specs.Deciding.{DecidesFor}
use Rattle.sis_core.specs.Opens.{open_as}
use Rattle.sis_core.specs.Session.{AreThere, Jobs, SessionView, ShowsWorld, name_by, session, stage_of}
use Rattle.sis_core.specs.declared.opens.Open.{Open}
use Rattle.sis_core.proofs.Opened.{IsOpened, is_opened, unopened}
use Rattle.sis_core.proofs.Operated.{KeepsOpens, Suits, operated_err, operated_ok, refused}

-- ---- opens stay where a file is changed

-- the two are there both or not at all, and have one name
record AreAlike (a b : Option Node) : Type 0 where
  same_name : name_by a ≡ name_by b
  same_there : is_some a ≡ is_some b

alike_changed : (change : Node → Node) → ((n : Node) → (change n).name ≡ n.name) → (b : Bool)
    → (m : Option Node) → AreAlike (cond b (option_map change m) m) m
alike_changed change names true None = record { same_name = refl; same_there = refl }
alike_changed change names true (Some n) = record { same_name = names n; same_there = refl }
alike_changed change names false m = record { same_name = refl; same_there = refl }

alike_with : (v : VolumeTable) (id : ℕ) (change : Node → Node) (file : ℕ)
    → ((n : Node) → (change n).id ≡ n.id) → ((n : Node) → (change n).name ≡ n.name)
    → AreAlike (node_with (record v { nodes = with_node id change v.nodes }) file)
    (node_with v file)
alike_with v id change file ids names =
    subst (λ (m : Option Node). AreAlike m (node_with v file))
    (sym (find-with_node id change v.nodes file ids))
    (alike_changed change names (eqb file id) (node_with v file))

alike_opens : (v next : VolumeTable) (opens : List Open)
    → ((file : ℕ) → AreAlike (node_with next file) (node_with v file)) → AreThere v opens
    → KeepsOpens v next opens
alike_opens v next [] alike there = record { names = refl; there = tt }
alike_opens v next (o ∷ os) alike there =
    let rest = alike_opens v next os alike there.1 in
    record {
      names =
          ap₂ (λ (name : List ℕ) (fs : List OpenFile).
          record { client = o.client; number = o.number; name = name; writes = o.writes } ∷ fs)
          (alike o.file).same_name rest.names;
      there = ((alike o.file).same_there ∙ there.0, rest.there);
    }

-- a change of a file's size or bytes keeps its id and its name
keeps_opens : (v : VolumeTable) (opens : List Open) (n : Node) (change : Option Resize)
    (next : VolumeTable) → AreThere v opens → IsWithResize v n change next
    → KeepsOpens v next opens
keeps_opens v opens n change next there led =
    subst (λ (u : VolumeTable). KeepsOpens v u opens) (sym led.2) (by change)
  where
    by : (r : Option Resize) → KeepsOpens v (with_resize n r led.0 v) opens
    by None = record { names = refl; there = there }
    by (Some r) =
        alike_opens v (with_resize n (Some r) led.0 v) opens
        (λ file. alike_with v n.id (resized_node r.size r.blocks led.0) file (λ m. refl)
        (λ m. refl)) there

-- ---- what is needed, and what is read

-- where no block is written none is read
moved : (blocks reads : ℕ) → (blocks ≡ 0 → reads ≡ 0)
    → nat_lt 0 blocks ≡ nat_lt 0 (blocks + reads)
moved blocks reads none = by (blocks == 0) refl
  where
    by : (b : Bool) → (blocks == 0) ≡ b → nat_lt 0 blocks ≡ nat_lt 0 (blocks + reads)
    by true is =
        let zero_blocks : blocks ≡ 0 = grind (arith, nat_tests, is) in
        let zero_reads : reads ≡ 0 = none zero_blocks in
        rw (zero_blocks, zero_reads) refl
    by false is = grind (arith, nat_tests, is)

with_end-longer : (n : Node) (size : ℕ) (blocks : List ℕ)
    → length blocks ≤ length (with_end n size blocks)
with_end-longer n size blocks = by (rewrites_end n size blocks)
  where
    by : (b : Bool) → length blocks ≤ length (cond b (n.size / 4096 ∷ blocks) blocks)
    by true = omega arith
    by false = omega arith

write_moves : (n : Node) (at count : ℕ) → (resize_need n (write_of n at count)).blocks ≡ 0
    → write_reads n at count ≡ 0
write_moves n at count none = by (count == 0) refl none
  where
    size : ℕ
    size = max n.size (at + count)

    others : ℕ
    others =
        one_if (rewrites_end n size (touched_blocks at count)) + reads_around n at count

    by : (b : Bool) → (count == 0) ≡ b
        → (resize_need n (cond b None (Some (record {
          size = size;
          blocks = with_end n size (touched_blocks at count);
        })))).blocks ≡ 0
        → cond b 0 others ≡ 0
    by true is none = refl
    by false is none =
        let some : 1 ≤ count = grind (arith, nat_tests, is) in
        let touched : 1 ≤ blocks_of (at + count) - at / 4096 = omega (arith, some) in
        let long = with_end-longer n size (touched_blocks at count) in
        absurd (omega (
          arith,
          none,
          touched,
          long,
          length-range_with_len (at / 4096) (blocks_of (at + count) - at / 4096),
        ))

size_moves : (n : Node) (len : ℕ) → (resize_need n (size_of n len)).blocks ≡ 0
    → size_reads n len ≡ 0
size_moves n len none = by (len == n.size) refl none
  where
    last : (b : Bool) → length (cond b (n.size / 4096 ∷ []) []) ≡ 0 → ◌≡◌ {A = ℕ} (cond b 1 0) 0
    last true none = none
    last false none = refl

    by : (b : Bool) → (len == n.size) ≡ b
        → (resize_need n (cond b None (Some (record {
          size = len;
          blocks = with_end n len [];
        })))).blocks ≡ 0
        → size_reads n len ≡ 0
    by true is none =
        let same : nat_lt n.size len ≡ false = grind (arith, nat_tests, is) in
        rw same refl
    by false is none = last (rewrites_end n len []) none

-- ---- refusals

-- the client may not write under this number
pub not_writer : (w : World) (s : SessionView) (client number : ℕ) (c : Command)
    (next : Option Reply) (r : Reply) → ShowsWorld w s → IsTable s.volume.table
    → s.volume.down ≡ None
    → MatchOption (open_as client number s.opens) (r ≡ reply.InvalidOpen)
    (λ o. (o.writes ≡ false) × (r ≡ reply.AccessDenied))
    → refusal_of w client c ≡ refusal_of_writer (open_of w client number) next
    → makes_durable c reply.InvalidOpen ≡ false → makes_durable c reply.AccessDenied ≡ false
    → DecidesFor w s s client c r
not_writer w s client number c next r shows t up why asks passing_none passing =
    by (open_as client number s.opens) refl why
  where
    by : (m : Option Open) → open_as client number s.opens ≡ m
        → MatchOption m (r ≡ reply.InvalidOpen)
        (λ o. (o.writes ≡ false) × (r ≡ reply.AccessDenied))
        → DecidesFor w s s client c r
    by None is why =
        subst (λ (q : Reply). DecidesFor w s s client c q) (sym why)
        (unopened w s client number c None shows up (sym is) refl passing_none
        (λ none. asks ∙ ap (λ (f : Option OpenFile). refusal_of_writer f next) none))
    by (Some o) is why =
        let file = is_opened w s client number o shows t is in
        let refusal : refusal_of w client c ≡ Some reply.AccessDenied =
        asks ∙ ap (λ (f : Option OpenFile). refusal_of_writer f next) (file.1).open'
        ∙ ap (λ (b : Bool). or_refused (not b) reply.AccessDenied next) why.0 in
        subst (λ (q : Reply). DecidesFor w s s client c q) (sym why.1)
        (refused w s client c reply.AccessDenied shows up refusal refl refl passing refusal
        (λ fresh jobs later next. tt))

module _ (w : World) (s : SessionView) (client number : ℕ) (o : Open) (n : Node)
    (shows : ShowsWorld w s) (up : s.volume.down ≡ None)
    (is : IsOpened w s client number o n) where
  tested : (test : Bool) → o.writes ≡ true
      → refusal_of_writer (open_of w client number) (or_refused test reply.InvalidParameter None)
      ≡ or_refused test reply.InvalidParameter None
  tested test writes =
      ap (λ (f : Option OpenFile). refusal_of_writer f
      (or_refused test reply.InvalidParameter None)) is.open'
      ∙ ap (λ (b : Bool). or_refused (not b) reply.AccessDenied
      (or_refused test reply.InvalidParameter None)) writes

  -- too many bytes, or a file that would be too long
  too_much : (c : Command) (test : Bool) → o.writes ≡ true → test ≡ true
      → refusal_of w client c
      ≡ refusal_of_writer (open_of w client number) (or_refused test reply.InvalidParameter None)
      → makes_durable c reply.InvalidParameter ≡ false
      → DecidesFor w s s client c reply.InvalidParameter
  too_much c test writes fails asks passing =
      let why : refusal_of w client c ≡ Some reply.InvalidParameter =
      asks ∙ tested test writes
      ∙ ap (λ (b : Bool). or_refused b reply.InvalidParameter None) fails in
      refused w s client c reply.InvalidParameter shows up why refl refl passing why
      (λ fresh jobs later next. tt)

  pub write_too_much : (at : ℕ) (bytes : List ℕ) → o.writes ≡ true
      → (65536 < length bytes)
      ⊎ ((length bytes ≤ 65536) × (68719476736 < at + length bytes))
      → DecidesFor w s s client (asked.Write number at bytes) reply.InvalidParameter
  write_too_much at bytes writes much =
      too_much (asked.Write number at bytes)
      (nat_lt most_bytes (length bytes) || nat_lt greatest_size (at + length bytes)) writes
      (by much) refl refl
    where
      by : (65536 < length bytes)
          ⊎ ((length bytes ≤ 65536) × (68719476736 < at + length bytes))
          → (nat_lt most_bytes (length bytes) || nat_lt greatest_size (at + length bytes)) ≡ true
      by (inl long) = grind (arith, nat_tests)
      by (inr far) = (let lt = far.1 in grind (arith, nat_tests))

  pub size_too_much : (len : ℕ) → o.writes ≡ true → 68719476736 < len
      → DecidesFor w s s client (asked.Size number len) reply.InvalidParameter
  size_too_much len writes much =
      too_much (asked.Size number len) (nat_lt greatest_size len) writes
      (grind (arith, nat_tests)) refl refl

-- ---- operations

-- what a write of a file leaves, and what a new size does
abbrev pub Writes : {T : Type 0} → ℕ → List ℕ → Result T Hindrance → VolumeView → VolumeView
    → Node → Type 0
Writes at bytes result old new n =
    Operates (resize_need n (write_of n at (length bytes)))
    (IsWithResize old.table n (write_of n at (length bytes)))
    (with_bytes n.name (written at bytes)) (write_reads n at (length bytes)) result old new

abbrev pub Sizes : {T : Type 0} → ℕ → Result T Hindrance → VolumeView → VolumeView → Node
    → Type 0
Sizes len result old new n =
    Operates (resize_need n (size_of n len)) (IsWithResize old.table n (size_of n len))
    (with_bytes n.name (resized len)) (size_reads n len) result old new

-- there is a change, unless the test says that there is none
some_change : (b : Bool) (r : Resize) → b ≡ false → is_some (cond b None (Some r)) ≡ true
some_change true r is = absurd cc
some_change false r is = refl

-- the size that a file has is given to it without a call, and changes nothing
abbrev pub Stays : {T : Type 0} → ℕ → Result T Hindrance → VolumeView → VolumeView → Node → Type 0
Stays len result old new n = n.size ≡ len → old.down ≡ None → IsOk result × (new ≡ old)

module _ (w : World) (s : SessionView) (client number : ℕ) (o : Open) (n : Node)
    (shows : ShowsWorld w s) (up : s.volume.down ≡ None) (is : IsOpened w s client number o n)
    (writes : o.writes ≡ true) where
  needed : (resize : Node → Option Resize) (jobs : Jobs)
      → unwrap_or (option_map (λ m. resize_need m (resize m))
      (node_opened (stage_of w s.volume jobs) client number)) no_need
      ≡ resize_need n (resize n)
  needed resize jobs =
      ap (λ (m : Option Node). unwrap_or (option_map (λ k. resize_need k (resize k)) m) no_need)
      (is.found jobs)

  moves : (resize : Node → Option Resize) (reads : ℕ)
      → ((resize_need n (resize n)).blocks ≡ 0 → reads ≡ 0) → (jobs : Jobs)
      → nat_lt 0 (unwrap_or (option_map (λ m. resize_need m (resize m))
      (node_opened (stage_of w s.volume jobs) client number)) no_need).blocks
      ≡ nat_lt 0 ((resize_need n (resize n)).blocks + reads)
  moves resize reads none jobs =
      ap (λ (need : Need). nat_lt 0 need.blocks) (needed resize jobs)
      ∙ moved (resize_need n (resize n)).blocks reads none

  reads_are : (reads : Node → ℕ) (jobs : Jobs)
      → unwrap_or (option_map reads (node_opened (stage_of w s.volume jobs) client number)) 0
      ≡ reads n
  reads_are reads jobs =
      ap (λ (m : Option Node). unwrap_or (option_map reads m) 0) (is.found jobs)

  leads : (resize : Node → Option Resize) (next : VolumeTable)
      → IsWithResize s.volume.table n (resize n) next
      → (fresh : Fresh)
      × AreFreePlaces s.volume.table (resize_need n (resize n)).blocks fresh.places
      × ((jobs : Jobs) → next ≡ unwrap_or (option_map
      (λ m. with_resize m (resize m) fresh.places s.volume.table)
      (node_opened (stage_of w s.volume jobs) client number)) s.volume.table)
  leads resize next led = (
    record { places = led.0 },
    led.1,
    λ jobs.
        led.2 ∙ ap (λ (m : Option Node). unwrap_or (option_map
        (λ k. with_resize k (resize k) led.0 s.volume.table) m) s.volume.table)
        (sym (is.found jobs)),
  )

  changed_files : (change : List ℕ → List ℕ) (files : Files) → files ≡ w.files
      → with_bytes n.name change files
      ≡ (with_change w (open_of w client number) change).files
  changed_files change files same =
      ap (with_bytes n.name change) same
      ∙ ap (λ (f : Option OpenFile). (with_change w f change).files) (sym is.open')

  changed_opens : (change : List ℕ → List ℕ)
      → (with_change w (open_of w client number) change).opens ≡ w.opens
  changed_opens change =
      ap (λ (f : Option OpenFile). (with_change w f change).opens) is.open'

  module _ (at : ℕ) (bytes : List ℕ) (short : length bytes ≤ 65536)
      (end : at + length bytes ≤ 68719476736) where
    abbrev change_of : Node → Option Resize
    change_of m = write_of m at (length bytes)

    write_suits : Suits w s client (asked.Write number at bytes) (resize_need n (change_of n))
        (IsWithResize s.volume.table n (change_of n)) (write_reads n at (length bytes))
    write_suits = record {
      accepted =
          let test :
          (nat_lt most_bytes (length bytes) || nat_lt greatest_size (at + length bytes)) ≡ false =
          grind (arith, nat_tests) in
          tested w s client number o n shows up is _ writes
          ∙ ap (λ (b : Bool). or_refused b reply.InvalidParameter None) test;
      need_is = needed change_of;
      moves = moves change_of (write_reads n at (length bytes)) (write_moves n at (length bytes));
      reads_is = reads_are (λ m. write_reads m at (length bytes));
      waits = refl;
      memory = refl;
      leads = leads change_of;
    }

    -- a write of no bytes does nothing
    write_edits : {T : Type 0} (result : Result T Hindrance) (new : VolumeView)
        → (length bytes ≡ 0 → s.volume.down ≡ None → IsOk result × (new ≡ s.volume))
        → (jobs : Jobs)
        → (edits_table (stage_of w s.volume jobs) client (asked.Write number at bytes) ≡ true)
        ⊎ (IsOk result × (new ≡ s.volume))
    write_edits result new nothing jobs = by (length bytes == 0) refl
      where
        edits : is_some (option_and_then change_of
            (node_opened (stage_of w s.volume jobs) client number)) ≡ is_some (change_of n)
        edits = ap (λ (m : Option Node). is_some (option_and_then change_of m)) (is.found jobs)

        by : (b : Bool) → (length bytes == 0) ≡ b
            → (edits_table (stage_of w s.volume jobs) client (asked.Write number at bytes) ≡ true)
            ⊎ (IsOk result × (new ≡ s.volume))
        by true none = inr (nothing (grind (arith, nat_tests, none)) up)
        by false some =
            inl (edits ∙ some_change (length bytes == 0) (record {
              size = max n.size (at + length bytes);
              blocks =
                  with_end n (max n.size (at + length bytes)) (touched_blocks at (length bytes));
            }) some)

    pub written_ok : {T : Type 0} (result : Result T Hindrance) (x : T) (new : VolumeView)
        → Writes at bytes result s.volume new n
        → (length bytes ≡ 0 → s.volume.down ≡ None → IsOk result × (new ≡ s.volume))
        → result ≡ Ok x
        → DecidesFor w s (session new s.opens) client (asked.Write number at bytes) reply.Done
    written_ok result x new left nothing ok =
        operated_ok w s client (asked.Write number at bytes) _ _ _ _ write_suits shows up result x
        new left ok (write_edits result new nothing) refl (changed_files (written at bytes))
        (changed_opens (written at bytes))
        (λ next led. keeps_opens s.volume.table s.opens n (change_of n) next shows.there led)

    pub written_err : {T : Type 0} (result : Result T Hindrance) (by : Hindrance)
        (new : VolumeView) → Writes at bytes result s.volume new n
        → (length bytes ≡ 0 → s.volume.down ≡ None → IsOk result × (new ≡ s.volume))
        → result ≡ Err by
        → DecidesFor w s (session new s.opens) client (asked.Write number at bytes)
        (reply.Hindered by)
    written_err result by new left nothing err =
        operated_err w s client (asked.Write number at bytes) _ _ _ _ write_suits shows up result
        by new left err (write_edits result new nothing)

  module _ (len : ℕ) (limit : len ≤ 68719476736) where
    abbrev size_change : Node → Option Resize
    size_change m = size_of m len

    size_suits : Suits w s client (asked.Size number len) (resize_need n (size_change n))
        (IsWithResize s.volume.table n (size_change n)) (size_reads n len)
    size_suits = record {
      accepted =
          let test : nat_lt greatest_size len ≡ false = grind (arith, nat_tests) in
          tested w s client number o n shows up is _ writes
          ∙ ap (λ (b : Bool). or_refused b reply.InvalidParameter None) test;
      need_is = needed size_change;
      moves = moves size_change (size_reads n len) (size_moves n len);
      reads_is = reads_are (λ m. size_reads m len);
      waits = refl;
      memory = refl;
      leads = leads size_change;
    }

    -- the size that the file has
    size_edits : {T : Type 0} (result : Result T Hindrance) (new : VolumeView)
        → Stays len result s.volume new n → (jobs : Jobs)
        → (edits_table (stage_of w s.volume jobs) client (asked.Size number len) ≡ true)
        ⊎ (IsOk result × (new ≡ s.volume))
    size_edits result new nothing jobs = by (len == n.size) refl
      where
        edits : is_some (option_and_then size_change
            (node_opened (stage_of w s.volume jobs) client number)) ≡ is_some (size_change n)
        edits =
            ap (λ (m : Option Node). is_some (option_and_then size_change m)) (is.found jobs)

        by : (b : Bool) → (len == n.size) ≡ b
            → (edits_table (stage_of w s.volume jobs) client (asked.Size number len) ≡ true)
            ⊎ (IsOk result × (new ≡ s.volume))
        by true same = inr (nothing (grind (arith, nat_tests, same)) up)
        by false other =
            inl (edits ∙ some_change (len == n.size) (record {
              size = len;
              blocks = with_end n len [];
            }) other)

    pub sized_ok : {T : Type 0} (result : Result T Hindrance) (x : T) (new : VolumeView)
        → Sizes len result s.volume new n
        → Stays len result s.volume new n
        → result ≡ Ok x
        → DecidesFor w s (session new s.opens) client (asked.Size number len) reply.Done
    sized_ok result x new left nothing ok =
        operated_ok w s client (asked.Size number len) _ _ _ _ size_suits shows up result x new
        left ok (size_edits result new nothing) refl (changed_files (resized len))
        (changed_opens (resized len))
        (λ next led. keeps_opens s.volume.table s.opens n (size_change n) next shows.there led)

    pub sized_err : {T : Type 0} (result : Result T Hindrance) (by : Hindrance)
        (new : VolumeView) → Sizes len result s.volume new n
        → Stays len result s.volume new n
        → result ≡ Err by
        → DecidesFor w s (session new s.opens) client (asked.Size number len) (reply.Hindered by)
    sized_err result by new left nothing err =
        operated_err w s client (asked.Size number len) _ _ _ _ size_suits shows up result by new
        left err (size_edits result new nothing)
