-- What commands that only tell are answered, and names of files one after the other.
use Rattle.std.proofs.Common.{◌≡◌, inl, ℕ, ◌+◌, ◌<◌, ◌≤◌, ◌&&◌, Bool, true, false, cond, List, [], ◌∷◌, ◌++◌, length, map, take, filter, Option, None, Some, refl, sym, ap, ap₂, subst, ◌∙◌, arith, append-nil, append_assoc, T}
use Rattle.std.specs.Prelude.{find, nat_lt, unwrap_or, ◌==◌, ◌≢◌}
use Rattle.std.specs.BTreeMap.{is_at}
use Rattle.std.specs.FinMap.{FinMap, entries, entries-from_sorted, entries_sorted, from_entries, from_sorted, get, get-entries, get-from_entries, get-from_sorted, is_sorted, keys, same_map}
use Rattle.std.specs.FinMap.Entries.{below_all}
use Rattle.std.specs.Option.{option_map, option_copied}
use Rattle.std.specs.Borrow.{Bor}
use Rattle.std.specs.Ordering.{is_lt}
use Rattle.std.proofs.lemmas.Bool.Decides.{nat_tests}
use Rattle.std.proofs.lemmas.List.{length-append, take_all}
use Rattle.std.proofs.lemmas.Map.Made.{keys_of-map_values, lookup-map_values}
use Rattle.std.proofs.Math.Seq.{take-append_seam}
use Rattle.sis_disk.specs.Layout.{first_byte, table_cap}
use Rattle.sis_disk.specs.declared.layout.Layout.{Layout}
use Rattle.sis_disk.proofs.GoesOn.{up_refl}
use Rattle.sis_history.specs.Appearing.{MayAppear}
use Rattle.sis_history.specs.Causes.{IsCarriedOut, takes_memory}
use Rattle.sis_history.specs.Changed.{Fresh, changed_table, table_as}
use Rattle.sis_history.specs.Durable.{makes_durable}
use Rattle.sis_history.specs.Entering.{is_down}
use Rattle.sis_history.specs.Needs.{IsUnhindered, Need, need_of, no_need}
use Rattle.sis_history.specs.Replies.{Fits}
use Rattle.sis_history.specs.Shown.{ShowsFiles}
use Rattle.sis_history.specs.Stage.{Stage}
use Rattle.sis_history.proofs.AlikeLemmas.{long_zeros, zeros}
use Rattle.sis_history.proofs.ExactLemmas.{no_need_free}
use Rattle.sis_model.specs.Answer.{IsDone, MayReply, changed_by, kind_of, most_names, world_as}
use Rattle.sis_model.specs.World as world
use Rattle.sis_model.specs.World.{World, bytes_of}
use Rattle.sis_model.specs.declared.command.Command.{Command}
use Rattle.sis_model.specs.declared.command.Command.TheVariants as command
use Rattle.sis_model.specs.declared.reply.Hindrance.TheVariants as hindrance
use Rattle.sis_model.specs.declared.reply.Reply.{Reply}
use Rattle.sis_model.specs.declared.reply.Reply.TheVariants as reply
use Rattle.sis_name.specs.Files.{Files}
use Rattle.sis_name.specs.Units.{is_after, is_store_name, name_cmp, name_ties, name_total}
use Rattle.sis_name.proofs.Named.{get_named}
use Rattle.sis_table.specs.Changes.{AreFreePlaces}
use Rattle.sis_table.specs.Content.{files_of}
use Rattle.sis_table.specs.Spelling.{spelling}
use Rattle.sis_table.specs.declared.node.Node.{Node}
use Rattle.sis_table.specs.Volume.{VolumeTable, IsTable, AreNodes, IsNextFile, has_name, id_of, last_id, names_after, node_named, node_with}
use Rattle.sis_table.proofs.CallerLemmas.{keys-files_of, length-files_of}
use Rattle.sis_volume.specs.View.{VolumeView}
use Rattle.sis_core.specs.Deciding.{Decided, DecidesFor, plain_job}
use Rattle.sis_core.specs.Session.{FitsArea, Jobs, SessionView, ShowsWorld, session, stage_of}
use Rattle.sis_core.proofs.CostLemmas.{calls_none}
use Rattle.sis_core.proofs.Operated.{decides_same, different, if_some, none_elapses}

-- ---- the file of a name has its id

last_push : (front : List Node) (n : Node) → last_id (front ++ n ∷ []) ≡ n.id
last_push [] n = refl
last_push (m ∷ []) n = refl
last_push (m ∷ k ∷ ms) n = last_push (k ∷ ms) n

abbrev IsFound : List Node → List Node → Node → Type 0
IsFound front nodes n = (last_id front < n.id) × (find (λ m. m.id == n.id) nodes ≡ Some n)

found_by_name : (l : Layout) (next : ℕ) (front nodes : List Node) (name : List ℕ) (n : Node)
    → AreNodes l next front nodes → find (has_name name) nodes ≡ Some n → IsFound front nodes n
found_by_name l next front [] name n h is = absurd cc
found_by_name l next front (m ∷ ms) name n h is =
    by (has_name name m) is (λ rest. found_by_name l next (front ++ m ∷ []) ms name n h.4 rest)
  where
    same_id : (a b : ℕ) → a ≡ b → (a == b) ≡ true
    same_id a b e = grind (arith, nat_tests)

    other_id : (a b : ℕ) → a < b → (a == b) ≡ false
    other_id a b lt = grind (arith, nat_tests)

    by : (b : Bool) → cond b (Some m) (find (has_name name) ms) ≡ Some n
        → (find (has_name name) ms ≡ Some n → IsFound (front ++ m ∷ []) ms n)
        → IsFound front (m ∷ ms) n
    by true e rest =
        let same : m ≡ n = some_is e in
        subst (λ (x : Node). IsFound front (m ∷ ms) x) same (
          h.0,
          ap (λ (b : Bool). cond b (Some m) (find (λ k. k.id == m.id) ms)) (same_id m.id
              m.id refl),
        )
      where
        some_is : {X : Type 0} {x y : X} → Some x ≡ Some y → x ≡ y
        some_is e = cc
    by false e rest =
        let found = rest e in
        let above : m.id < n.id = omega (arith, found.0, last_push front m) in
        let low = h.0 in (
          omega arith,
          ap (λ (b : Bool). cond b (Some m) (find (λ k. k.id == n.id) ms)) (other_id
              m.id n.id above) ∙ found.1,
        )

some_id : (o : Option Node) (id : ℕ) → Some id ≡ option_map id_of o
    → (n : Node) × (o ≡ Some n) × (id ≡ n.id)
some_id None id e = absurd cc
some_id (Some n) id e = (n, refl, some_is e)
  where
    some_is : {X : Type 0} {x y : X} → Some x ≡ Some y → x ≡ y
    some_is e = cc

-- the file with the id that was found under a name is the file of this name
pub named_by_id : (v : VolumeTable) (name : List ℕ) (id : ℕ) → IsTable v
    → Some id ≡ option_map id_of (node_named v name) → node_with v id ≡ node_named v name
named_by_id v name id is e =
    let there = some_id (node_named v name) id e in
    let found = found_by_name v.layout v.next_id [] v.nodes name there.0 is.nodes there.1 in
    ap (node_with v) there.2 ∙ found.1 ∙ sym there.1

pub size_with : (v : VolumeTable) (name : List ℕ) (id : ℕ) (r : Option (Bor Node)) (node : Bor Node)
    → r ≡ Some node → option_copied r ≡ node_with v id → node_with v id ≡ node_named v name
    → Some node.now.size ≡ option_map (λ n. n.size) (node_named v name)
size_with v name id r node is found same =
    ap (λ (o : Option (Bor Node)). option_map (λ (n : Node). n.size) (option_copied o)) (sym is)
    ∙ ap (option_map (λ (n : Node). n.size)) (found ∙ same)

pub size_without : (v : VolumeTable) (name : List ℕ) (id : ℕ) (r : Option (Bor Node)) → r ≡ None
    → option_copied r ≡ node_with v id → node_with v id ≡ node_named v name
    → None ≡ option_map (λ n. n.size) (node_named v name)
size_without v name id r is found same =
    ap (λ (o : Option (Bor Node)). option_map (λ (n : Node). n.size) (option_copied o)) (sym is)
    ∙ ap (option_map (λ (n : Node). n.size)) (found ∙ same)

-- ---- a list of names

abbrev IsNextIn : VolumeTable → List (List ℕ) → Option ℕ → Type 0
IsNextIn v rest None = rest ≡ []
IsNextIn v rest (Some id) =
    (n : Node) × (node_with v id ≡ Some n) × (rest ≡ n.name ∷ names_after v (Some n.name))

-- of all names these were taken, and this is the next file
pub record Listing (v : VolumeTable) (all done : List (List ℕ)) (next : Option ℕ) : Type 0 where
  pub rest : List (List ℕ)
  pub parts : done ++ rest ≡ all
  pub goes : IsNextIn v rest next
  pub few : length done ≤ 100

next_in : (v : VolumeTable) (after : Option (List ℕ)) (next : Option ℕ) → IsNextFile v after next
    → IsNextIn v (names_after v after) next
next_in v after None h = h
next_in v after (Some id) h = h

pub list_begins : (v : VolumeTable) (after : Option (List ℕ)) (next : Option ℕ)
    (done : List (List ℕ)) → done ≡ [] → IsNextFile v after next
    → Listing v (names_after v after) done next
list_begins v after next done none h =
    subst (λ (ds : List (List ℕ)). Listing v (names_after v after) ds next) (sym none) (record {
      rest = names_after v after;
      parts = refl;
      goes = next_in v after next h;
      few = omega arith;
    })

pub list_more : (v : VolumeTable) (all done now : List (List ℕ)) (id : ℕ) (at next : Option ℕ)
    (node : Node) → at ≡ Some id → Listing v all done at → Some node ≡ node_with v id
    → length done ≢ 100
    → now ≡ done ++ node.name ∷ [] → IsNextFile v (Some node.name) next → Listing v all now next
list_more v all done now id at next node at_is held found other is goes =
    let h : Listing v all done (Some id) = subst (Listing v all done) at_is held in
    let same : node ≡ h.goes.0 = some_is (found ∙ h.goes.1) in
    let names : h.rest ≡ node.name ∷ names_after v (Some node.name) =
    h.goes.2 ∙ ap (λ (n : Node). n.name ∷ names_after v (Some n.name)) (sym same) in
    let few = h.few in
    subst (λ (ds : List (List ℕ)). Listing v all ds next) (sym is) (record {
      rest = names_after v (Some node.name);
      parts =
          append_assoc done (node.name ∷ []) (names_after v (Some node.name))
          ∙ ap (λ (ns : List (List ℕ)). done ++ ns) (sym names) ∙ h.parts;
      goes = next_in v (Some node.name) next goes;
      few = omega (arith, length-append done (node.name ∷ []));
    })
  where
    some_is : {X : Type 0} {x y : X} → Some x ≡ Some y → x ≡ y
    some_is e = cc

-- all names were taken
pub list_ends : (v : VolumeTable) (all done : List (List ℕ)) (next : Option ℕ) → next ≡ None
    → Listing v all done next → (done ≡ take 100 all) × (false ≡ nat_lt 100 (length all))
list_ends v all done next is held =
    let h : Listing v all done None = subst (Listing v all done) is held in
    let same : done ≡ all =
    sym (append-nil done) ∙ ap (λ (ns : List (List ℕ)). done ++ ns) (sym h.goes) ∙ h.parts in
    let few = h.few in
    let size = ap length same in
    (same ∙ sym (take_all 100 all (omega arith)), grind (arith, nat_tests))

-- as many as are given at once were taken, and one more follows
pub list_cut : (v : VolumeTable) (all done : List (List ℕ)) (id : ℕ) (next : Option ℕ)
    → next ≡ Some id → Listing v all done next → length done ≡ 100
    → (done ≡ take 100 all) × (true ≡ nat_lt 100 (length all))
list_cut v all done id next is held full =
    let h : Listing v all done (Some id) = subst (Listing v all done) is held in
    let size : length all ≡ length done + length h.rest =
    ap length (sym h.parts) ∙ length-append done h.rest in
    let some = ap length h.goes.2 in (
      sym (take-append_seam done h.rest) ∙ ap (λ (n : ℕ). take n (done ++ h.rest)) full
          ∙ ap (take 100) h.parts,
      grind (arith, nat_tests),
    )

pub other_size : (names shown : List (List ℕ)) → shown ≡ names → (length shown ≡ 100 → ⊥)
    → length names ≡ 100 → ⊥
other_size names shown same other full = other (ap length same ∙ full)

-- ---- the names of the world's files are the table's

-- the sizes of files in place of their bytes
sized : List (List ℕ × List ℕ) → List (List ℕ × ℕ)
sized es = map (λ e. (e.0, length e.1)) es

below_sized : (k : List ℕ) (es : List (List ℕ × List ℕ))
    → below_all name_cmp k (sized es) ≡ below_all name_cmp k es
unfolding sized
below_sized k [] = refl
below_sized k (e ∷ es) =
    ap (λ (b : Bool). is_lt (name_cmp k e.0) && b) (below_sized k es)

sorted_sized : (es : List (List ℕ × List ℕ)) → is_sorted name_cmp (sized es) ≡ is_sorted name_cmp es
unfolding sized
sorted_sized [] = refl
sorted_sized (e ∷ es) =
    ap₂ (λ (a b : Bool). a && b) (below_sized e.0 es) (sorted_sized es)

sizes : Files → FinMap name_cmp ℕ
sizes files = from_entries (sized (entries files))

entries_sizes : (files : Files) → entries (sizes files) ≡ sized (entries files)
unfolding sizes
entries_sizes files =
    let es = sized (entries files) in
    let s : T (is_sorted name_cmp es) =
    subst (λ (b : Bool). T b) (sym (sorted_sized (entries files))) (entries_sorted files) in
    ap entries (same_map name_total name_ties (from_entries es) (from_sorted es)
    (λ q. get-from_entries name_total es q ∙ sym (get-from_sorted name_cmp es q s)))
    ∙ entries-from_sorted name_cmp es s

get_sizes : (files : Files) (q : List ℕ) → get (sizes files) q ≡ option_map length (get files q)
unfolding sizes sized
get_sizes files q =
    get_named (map (λ e. (e.0, length e.1)) (entries files)) q
    ∙ lookup-map_values length (is_at (name_cmp q)) (entries files)
    ∙ ap (option_map length) (sym (get_named (entries files) q)
    ∙ get-from_entries name_total (entries files) q ∙ sym (get-entries files q))

keys_sizes : (files : Files) → keys (sizes files) ≡ keys files
unfolding sized
keys_sizes files =
    ap (λ (es : List (List ℕ × ℕ)). map (λ e. e.0) es) (entries_sizes files)
    ∙ keys_of-map_values length (entries files)

-- files of the same sizes have the same names
keys_alike : (a b : Files)
    → ((q : List ℕ) → option_map length (get a q) ≡ option_map length (get b q)) → keys a ≡ keys b
keys_alike a b same =
    sym (keys_sizes a)
    ∙ ap (λ (m : FinMap name_cmp ℕ). keys m) (same_map name_total name_ties (sizes a) (sizes b)
    (λ q. get_sizes a q ∙ same q ∙ sym (get_sizes b q)))
    ∙ keys_sizes b

pub names_shown : (w : World) (v : VolumeTable) (after : Option (List ℕ)) → IsTable v
    → ShowsFiles w v → names_after v after ≡ world.names_after w after
names_shown w v after t shown =
    ap (λ (ks : List (List ℕ)). filter (is_after after) ks)
    (sym (keys_alike w.files (files_of v (zeros v)) (λ q. shown.sizes q
    ∙ sym (length-files_of v (zeros v) q t (long_zeros v))) ∙ keys-files_of v (zeros v)))

-- ---- commands that leave the volume as it is

-- nothing is taken
abbrev pub no_fresh : Fresh
no_fresh = record { places = [] }

-- the command needs nothing, and leaves the table
pub record OnlyTells (w : World) (v : VolumeView) (client : ℕ) (c : Command) : Type 0 where
  pub needs : (jobs : Jobs) → need_of (stage_of w v jobs) client c ≡ no_need
  pub table : (jobs : Jobs) → changed_table (stage_of w v jobs) client c no_fresh ≡ v.table

-- so it is carried out where the table fits its area
pub carried : (s : Stage) (client : ℕ) (c : Command) → IsTable s.table
    → need_of s client c ≡ no_need → changed_table s client c no_fresh ≡ s.table
    → FitsArea s.table → IsCarriedOut s client c no_fresh
carried s client c t need same fits = record {
  takes = record {
    unhindered =
        subst (λ (n : Need). IsUnhindered s.table n) (sym need) (no_need_free s.table t);
    places =
        subst (λ (n : Need). AreFreePlaces s.table n.blocks []) (sym need)
        (record { size = refl; free = refl });
  };
  fits =
      subst (λ (v : VolumeTable). length (spelling v) ≤ table_cap s.table.layout) (sym same) fits;
}

-- what a reply says of the stage holds where the command was carried out
abbrev pub FitsTold : World → VolumeView → ℕ → Command → Reply → Type 0
FitsTold w v client c r = (jobs later : Jobs) (next : World)
    → IsCarriedOut (stage_of w v jobs) client c no_fresh
    → Fits (stage_of w v jobs) no_fresh (stage_of next v later) client (plain_job c) r

-- A command was carried out that only tells, or changes opens alone.
pub told_decided : (w : World) (v : VolumeView) (client : ℕ) (c : Command) (r : Reply)
    → v.down ≡ None → IsTable v.table → OnlyTells w v client c → kind_of r ≡ IsDone
    → is_down r ≡ false → makes_durable c r ≡ false → MayAppear w client c r
    → MayReply w client c r → FitsTold w v client c r → Decided w v v client c r
told_decided w v client c r up t only kind not_down durable may reply_is fits = inl (
  no_fresh,
  record {
    was_up = up;
    up = up;
    not_down = not_down;
    may = may;
    told = if_some (MayReply w client c r) v.seen.told reply_is;
    fits = λ area jobs later next. fits jobs later next
        (carried (stage_of w v jobs) client c t (only.needs jobs) (only.table jobs) area);
    uncalled = λ jobs is. refl;
    quiet = λ is. refl;
    table = λ jobs.
        sym (ap (table_as (stage_of w v jobs) client c no_fresh) kind ∙ only.table jobs);
    edits = record {
      durable = λ is. absurd (different (sym is ∙ durable));
      only = λ jobs is_changed. inl is_changed;
    };
    needed = λ jobs. calls_none (stage_of w v jobs) v client c;
    calls = up_refl (first_byte v.table.layout) v.seen;
    elapses = none_elapses v.seen;
  },
)

-- A command only told, and the session shows the same world.
pub only_told : (w : World) (s : SessionView) (client : ℕ) (c : Command) (r : Reply)
    → ShowsWorld w s → s.volume.down ≡ None → IsTable s.volume.table
    → OnlyTells w s.volume client c → kind_of r ≡ IsDone → changed_by w client c ≡ w
    → is_down r ≡ false → makes_durable c r ≡ false → MayAppear w client c r
    → MayReply w client c r → FitsTold w s.volume client c r
    → DecidesFor w s (session s.volume s.opens) client c r
only_told w s client c r shows up t only kind leaves not_down durable may reply_is fits =
    decides_same w s s.volume client c r shows (ap (world_as w client c) kind ∙ leaves) refl refl
    (told_decided w s.volume client c r up t only kind not_down durable may reply_is fits)

-- memory was short, and nothing was done
pub short_told : (w : World) (s : SessionView) (client : ℕ) (c : Command) → ShowsWorld w s
    → s.volume.down ≡ None → takes_memory c ≡ true
    → makes_durable c (reply.Hindered hindrance.Memory) ≡ false
    → DecidesFor w s (session s.volume s.opens) client c (reply.Hindered hindrance.Memory)
short_told w s client c shows up memory durable =
    decides_same w s s.volume client c (reply.Hindered hindrance.Memory) shows refl refl refl (inl (
      no_fresh,
      record {
        was_up = up;
        up = up;
        not_down = refl;
        may = inl refl;
        told = if_some (MayReply w client c (reply.Hindered hindrance.Memory))
            s.volume.seen.told (inl refl);
        fits = λ area jobs later next. (memory, refl);
        uncalled = λ jobs is. refl;
        quiet = λ is. refl;
        table = λ jobs. refl;
        edits = record {
          durable = λ is. absurd (different (sym is ∙ durable));
          only = λ jobs is_changed. inl is_changed;
        };
        needed = λ jobs. calls_none (stage_of w s.volume jobs) s.volume client c;
        calls = up_refl (first_byte s.volume.table.layout) s.volume.seen;
        elapses = none_elapses s.volume.seen;
      },
    ))

-- ---- sizes

some_is : {X : Type 0} {x y : X} → Some x ≡ Some y → x ≡ y
some_is e = cc

pub stat_found : (w : World) (s : SessionView) (client : ℕ) (name : List ℕ) (size : ℕ)
    → ShowsWorld w s → is_store_name name ≡ false
    → Some size ≡ option_map (λ n. n.size) (node_named s.volume.table name)
    → MayReply w client (command.Stat name) (reply.Sized size)
stat_found w s client name size shows user there =
    by (bytes_of w name) (shows.files.sizes name ∙ sym there) refl
  where
    by : (o : Option (List ℕ)) → option_map length o ≡ Some size → o ≡ bytes_of w name
        → MayReply w client (command.Stat name) (reply.Sized size)
    by None e same = absurd cc
    by (Some bytes) e same = (
      rw (user, sym same) refl,
      ap reply.Sized (some_is (sym e)
          ∙ ap (λ (o : Option (List ℕ)). length (unwrap_or o [])) same),
    )

pub stat_missing : (w : World) (s : SessionView) (client : ℕ) (name : List ℕ)
    → ShowsWorld w s → is_store_name name ≡ false
    → None ≡ option_map (λ n. n.size) (node_named s.volume.table name)
    → MayReply w client (command.Stat name) reply.NotFound
stat_missing w s client name shows user none =
    by (bytes_of w name) (shows.files.sizes name ∙ sym none) refl
  where
    by : (o : Option (List ℕ)) → option_map length o ≡ None → o ≡ bytes_of w name
        → MayReply w client (command.Stat name) reply.NotFound
    by None e same = rw (user, sym same) refl
    by (Some bytes) e same = absurd cc

-- ---- names

pub names_told : (w : World) (s : SessionView) (client : ℕ) (after : Option (List ℕ))
    (names : List (List ℕ)) (more : Bool) → ShowsWorld w s → IsTable s.volume.table
    → names ≡ take most_names (names_after s.volume.table after)
    → more ≡ nat_lt most_names (length (names_after s.volume.table after))
    → MayReply w client (command.List after) (reply.Names names more)
names_told w s client after names more shows t is follows =
    let same = names_shown w s.volume.table after t shows.files in (
      refl,
      ap₂ reply.Names (is ∙ ap (take most_names) same)
          (follows ∙ ap (λ (ns : List (List ℕ)). nat_lt most_names (length ns)) same),
    )
