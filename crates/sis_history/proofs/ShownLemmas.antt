-- The table keeps the names and the sizes of the world's files.
use Rattle.std.proofs.Common.{◌≡◌, ℕ, ◌+◌, Bool, true, false, not, ◌||◌, List, [], length, replicate, Option, None, Some, is_some, if◌then◌else◌, refl, sym, ap, subst, ◌∙◌, arith}
use Rattle.std.specs.Prelude.{◌==◌, max, nat_lt, unwrap_or}
use Rattle.std.specs.FinMap.{insert, remove}
use Rattle.std.specs.List.{list_any}
use Rattle.std.specs.Option.{option_map}
use Rattle.std.proofs.lemmas.Bool.Decides.{nat_tests}
use Rattle.std.proofs.lemmas.List.{take-append-le, take_all}
use Rattle.sis_name.specs.Files.{Files}
use Rattle.sis_name.specs.Units.{is_store_name}
use Rattle.sis_model.specs.Answer.{Kind, IsDone, IsRefused, IsHindered, MayReplyAs, changed_by, kind_of, name_at, refusal_of, refusal_of_writer, with_change, world_as, written}
use Rattle.sis_model.specs.Opens.{IsOpenIn, IsWorld}
use Rattle.sis_model.specs.World.{World, OpenFile, bytes_of, content, is_open_as, open_of, overwritten, resized, with_file, without_file as world_without_file}
use Rattle.sis_model.specs.declared.command.Command.{Command}
use Rattle.sis_model.specs.declared.command.Command.TheVariants as command
use Rattle.sis_model.specs.declared.history.Entry.{Entry}
use Rattle.sis_model.specs.declared.reply.Reply.{Reply}
use Rattle.sis_model.proofs.OpenLemmas.{not_false, refused_none}
use Rattle.sis_table.specs.Changes.{Resize, made_file, renamed, resized_node, size_of, with_file as table_with_file, with_resize, without_file, write_of}
use Rattle.sis_table.specs.Content.{content_of, files_of}
use Rattle.sis_table.specs.Edits.{MayRename, with_name}
use Rattle.sis_table.specs.Kinds.{is_user}
use Rattle.sis_table.specs.Volume.{VolumeTable, IsTable, has_name, node_named}
use Rattle.sis_table.specs.declared.kind.NodeKind.{NodeKind}
use Rattle.sis_table.specs.declared.kind.NodeKind.TheVariants.{Plain}
use Rattle.sis_table.specs.declared.node.Node.{Node}
use Rattle.sis_table.proofs.CallerLemmas.{files_of-changed, files_of-drop, files_of-made, files_of-rename, length-content_of, node_named-has}
use Rattle.sis_table.proofs.ChangesBytes.{length-overwritten, length-resized}
use Rattle.sis_table.proofs.ChangesNodes.{changed, changed-there, last_there, there_limits}
use Rattle.sis_table.proofs.FileLemmas.{some_is}
use Rattle.sis_history.specs.Changed.{Fresh, changed_table, table_as}
use Rattle.sis_history.specs.Replies.{IsServed}
use Rattle.sis_history.specs.Rows.{Row, Begins, Enters, Fails}
use Rattle.sis_history.specs.Runs.{IsRow}
use Rattle.sis_history.specs.Shown.{ShowsFiles}
use Rattle.sis_history.specs.Stage.{Stage}
use Rattle.sis_history.proofs.AlikeLemmas.{Alike, zeros, long_zeros, alike_shown, shown_alike, alike_insert, alike_remove, alike_same}
use Rattle.sis_history.proofs.AppearLemmas.{appears_like, like_as}
use Rattle.sis_history.proofs.NamedLemmas.{IsNamed, found_has, is_named}

-- ---- files of the world in the table

some_mapped : {X Y : Type 0} (f : X → Y) (o : Option X) → is_some (option_map f o) ≡ is_some o
some_mapped f None = refl
some_mapped f (Some x) = refl

in_both : (w : World) (v : VolumeTable) → ShowsFiles w v → (name : List ℕ)
    → is_some (bytes_of w name) ≡ is_some (node_named v name)
in_both w v shown name =
    sym (some_mapped length (bytes_of w name)) ∙ ap is_some (shown.sizes name)
    ∙ some_mapped (λ n. n.size) (node_named v name)

-- a file of the world is one of the table, of its size
pub record IsFile (w : World) (v : VolumeTable) (name : List ℕ) : Type 0 where
  pub node : Node
  pub found : IsNamed v name node
  pub bytes : bytes_of w name ≡ Some (content w name)
  pub size : length (content w name) ≡ node.size

file_is : (w : World) (v : VolumeTable) (name : List ℕ) → IsTable v → ShowsFiles w v
    → is_some (bytes_of w name) ≡ true → IsFile w v name
file_is w v name t shown there =
    by (bytes_of w name) refl (node_named v name) refl there (in_both w v shown name)
    (shown.sizes name)
  where
    by : (b : Option (List ℕ)) → bytes_of w name ≡ b → (o : Option Node)
        → node_named v name ≡ o → is_some b ≡ true → is_some b ≡ is_some o
        → option_map length b ≡ option_map (λ n. n.size) o → IsFile w v name
    by None e o f there both sizes = absurd cc
    by (Some b) e None f there both sizes = absurd cc
    by (Some b) e (Some n) f there both sizes =
        let same : content w name ≡ b = ap (λ (x : Option (List ℕ)). unwrap_or x []) e in
        record {
          node = n;
          found = is_named v name n t f;
          bytes = e ∙ ap (λ (x : List ℕ). Some x) (sym same);
          size = ap (λ (x : List ℕ). length x) same ∙ some_is (length b) n.size sizes;
        }

not_there : (w : World) (v : VolumeTable) → ShowsFiles w v → (name : List ℕ)
    → is_some (bytes_of w name) ≡ false → list_any (has_name name) v.nodes ≡ false
not_there w v shown name none =
    sym (node_named-has v name) ∙ sym (in_both w v shown name) ∙ none

-- ---- changes

-- the bytes after a change of a file are as long as it becomes
abbrev Matches : Option Resize → List ℕ → List ℕ → Type 0
Matches None bytes after = after ≡ bytes
Matches (Some r) bytes after = length after ≡ r.size

write_matches : (at : ℕ) (more : List ℕ) (n : Node) (bytes : List ℕ) → length bytes ≡ n.size
    → Matches (write_of n at (length more)) bytes (written at more bytes)
write_matches at more n bytes size = by (length more == 0) refl (nat_lt 0 (length more)) refl
  where
    by : (none : Bool) → (length more == 0) ≡ none → (some : Bool)
        → nat_lt 0 (length more) ≡ some
        → Matches (write_of n at (length more)) bytes
        (if some then overwritten at more bytes else bytes)
    by true is true more_is = absurd (grind (arith, nat_tests, is, more_is))
    by true is false more_is = rw is refl
    by false is true more_is =
        rw is (length-overwritten at more bytes ∙ ap (λ (k : ℕ). max k (at + length more)) size)
    by false is false more_is = absurd (grind (arith, nat_tests, is, more_is))

size_matches : (len : ℕ) (n : Node) (bytes : List ℕ) → length bytes ≡ n.size
    → Matches (size_of n len) bytes (resized len bytes)
size_matches len n bytes size = by (len == n.size) refl
  where
    by : (same : Bool) → (len == n.size) ≡ same
        → Matches (size_of n len) bytes (resized len bytes)
    by true is =
        let equal : len ≡ n.size = grind (arith, nat_tests, is) in
        let all : resized len bytes ≡ bytes =
        take-append-le len bytes (replicate len 0) (omega (arith, equal, size))
        ∙ take_all len bytes (omega (arith, equal, size)) in
        rw is all
    by false is = rw is (length-resized len bytes)

module _ (w : World) (v : VolumeTable) (t : IsTable v) (shown : ShowsFiles w v) where
  shown_made : (name bytes places : List ℕ) → is_some (bytes_of w name) ≡ false
      → IsTable (table_with_file name (length bytes) places v)
      → ShowsFiles (with_file w name bytes) (table_with_file name (length bytes) places v)
  shown_made name bytes places none later =
      let made = made_file v.next_id name (length bytes) places in
      let after = table_with_file name (length bytes) places v in
      let limits = there_limits after v.next_id made later (last_there v made t refl) in
      let size = length-content_of v made (zeros v) limits (long_zeros v) in
      let files = files_of-made v made (v.next_id + 1) (zeros v) (not_there w v shown name none) in
      shown_alike (with_file w name bytes) after later shown.letter
      (subst (λ (G : Files). Alike (insert w.files name bytes) G) (sym files)
      (alike_insert w.files (files_of v (zeros v)) name bytes (content_of v (zeros v) made)
      (alike_shown w v t shown) (sym size)))

  shown_changed : (name bytes : List ℕ) (n : Node) (change : Node → Node) → IsNamed v name n
      → ((m : Node) → (change m).id ≡ m.id) → ((m : Node) → (change m).name ≡ m.name)
      → length bytes ≡ (change n).size → IsTable (changed n.id change v)
      → ShowsFiles (with_file w name bytes) (changed n.id change v)
  shown_changed name bytes n change found ids names size later =
      let there = changed-there v n.id change n ids found.there in
      let limits = there_limits (changed n.id change v) n.id (change n) later there in
      let long = length-content_of v (change n) (zeros v) limits (long_zeros v) in
      let files = files_of-changed v n.id change (zeros v) n t found.there names
      ∙ ap (λ (q : List ℕ). insert (files_of v (zeros v)) q (content_of v (zeros v) (change n)))
      found.name_is in
      shown_alike (with_file w name bytes) (changed n.id change v) later shown.letter
      (subst (λ (G : Files). Alike (insert w.files name bytes) G) (sym files)
      (alike_insert w.files (files_of v (zeros v)) name bytes (content_of v (zeros v) (change n))
      (alike_shown w v t shown) (size ∙ sym long)))

  shown_same : (name : List ℕ) → bytes_of w name ≡ Some (content w name)
      → ShowsFiles (with_file w name (content w name)) v
  shown_same name is =
      shown_alike (with_file w name (content w name)) v t shown.letter
      (alike_same w.files (files_of v (zeros v)) name (content w name) (alike_shown w v t shown) is)

  shown_removed : (name : List ℕ) (n : Node) → IsNamed v name n → IsTable (without_file n.id v)
      → ShowsFiles (world_without_file w name) (without_file n.id v)
  shown_removed name n found later =
      let files = files_of-drop v n.id (zeros v) n t found.there
      ∙ ap (λ (q : List ℕ). remove (files_of v (zeros v)) q) found.name_is in
      shown_alike (world_without_file w name) (without_file n.id v) later shown.letter
      (subst (λ (G : Files). Alike (remove w.files name) G) (sym files)
      (alike_remove w.files (files_of v (zeros v)) name (alike_shown w v t shown)))

  is_users : (kind : NodeKind) → is_user kind ≡ true
  is_users Plain = refl

  shown_renamed : (old new : List ℕ) (n : Node) → IsNamed v old n
      → length (content w old) ≡ n.size → is_store_name new ≡ false
      → is_some (bytes_of w new) ≡ false → IsTable (renamed n.id new v)
      → ShowsFiles (with_file (world_without_file w old) new (content w old)) (renamed n.id new v)
  shown_renamed old new n found size store none later =
      let there = changed-there v n.id (with_name new) n (λ m. refl) found.there in
      let limits = there_limits (renamed n.id new v) n.id (with_name new n) later there in
      let may : MayRename v n new = record {
        user = is_users n.kind;
        is_name = limits.name;
        store = store;
        free = not_there w v shown new none;
      } in
      let before = there_limits v n.id n t found.there in
      let long = length-content_of v n (zeros v) before (long_zeros v) in
      let files = files_of-rename v n.id new (zeros v) n t found.there may
      ∙ ap (λ (q : List ℕ).
      insert (remove (files_of v (zeros v)) q) new (content_of v (zeros v) n)) found.name_is in
      shown_alike (with_file (world_without_file w old) new (content w old)) (renamed n.id new v)
      later shown.letter
      (subst (λ (G : Files). Alike (insert (remove w.files old) new (content w old)) G) (sym files)
      (alike_insert (remove w.files old) (remove (files_of v (zeros v)) old) new (content w old)
      (content_of v (zeros v) n)
      (alike_remove w.files (files_of v (zeros v)) old (alike_shown w v t shown))
      (size ∙ sym long)))

  shown_resized : (name : List ℕ) (file : IsFile w v name) (change : Option Resize)
      (places after : List ℕ) → Matches change (content w name) after
      → IsTable (with_resize file.node change places v)
      → ShowsFiles (with_file w name after) (with_resize file.node change places v)
  shown_resized name file None places after matches later =
      subst (λ (b : List ℕ). ShowsFiles (with_file w name b) v) (sym matches)
      (shown_same name file.bytes)
  shown_resized name file (Some r) places after matches later =
      shown_changed name after file.node (resized_node r.size r.blocks places) file.found
      (λ m. refl) (λ m. refl) matches later

  module _ (one : IsWorld w) (client number : ℕ) (resize : Node → Option Resize)
      (change : List ℕ → List ℕ) (places : List ℕ)
      (matches : (n : Node) (bytes : List ℕ) → length bytes ≡ n.size
      → Matches (resize n) bytes (change bytes)) where
    abbrev table_in : Option Node → VolumeTable
    table_in o = unwrap_or (option_map (λ n. with_resize n (resize n) places v) o) v

    shown_opened : (o : Option OpenFile) → open_of w client number ≡ o
        → (next : Option Reply) → refusal_of_writer o next ≡ None
        → IsTable (table_in (node_named v (name_at o)))
        → ShowsFiles (with_change w o change) (table_in (node_named v (name_at o)))
    shown_opened None is next none = absurd cc
    shown_opened (Some o) is next none =
        let open' = found_has (IsOpenIn w) (is_open_as client number) w.opens o one.opens is in
        let file = file_is w v o.name t shown open'.there in
        let after = change (content w o.name) in
        subst
        (λ (m : Option Node).
        IsTable (table_in m) → ShowsFiles (with_file w o.name after) (table_in m))
        (sym file.found.named)
        (shown_resized o.name file (resize file.node) places after
        (matches file.node (content w o.name) file.size))

-- ---- commands

second_false : (a b : Bool) → (a || b) ≡ false → b ≡ false
second_false true b none = absurd cc
second_false false b none = none

command_shown : (s : Stage) (client : ℕ) (c : Command) (fresh : Fresh) → IsTable s.table
    → IsWorld s.world → ShowsFiles s.world s.table → IsServed c
    → refusal_of s.world client c ≡ None → IsTable (changed_table s client c fresh)
    → ShowsFiles (changed_by s.world client c) (changed_table s client c fresh)
command_shown s client (command.Put name bytes) fresh t one shown served none later =
    let a = refused_none _ _ _ none in
    let b = refused_none (is_store_name name) _ _ a.1 in
    let c = refused_none (is_some (bytes_of s.world name)) _ _ b.1 in
    shown_made s.world s.table t shown name bytes fresh.places c.0 later
command_shown s client (command.Open name write) fresh t one shown served none later =
    record { letter = shown.letter; sizes = shown.sizes }
command_shown s client (command.Read number at len) fresh t one shown served none later = shown
command_shown s client (command.Write number at bytes) fresh t one shown served none later =
    shown_opened s.world s.table t shown one client number (λ n. write_of n at (length bytes))
    (written at bytes) fresh.places (write_matches at bytes) (open_of s.world client number) refl _
    none later
command_shown s client (command.Size number len) fresh t one shown served none later =
    shown_opened s.world s.table t shown one client number (λ n. size_of n len) (resized len)
    fresh.places (size_matches len) (open_of s.world client number) refl _ none later
command_shown s client (command.Close number) fresh t one shown served none later =
    record { letter = shown.letter; sizes = shown.sizes }
command_shown s client (command.Remove name) fresh t one shown served none later =
    let a = refused_none (is_store_name name) _ _ none in
    let b = refused_none (not (is_some (bytes_of s.world name))) _ _ a.1 in
    let file = file_is s.world s.table name t shown (not_false _ b.0) in
    subst
    (λ (o : Option Node).
    IsTable (unwrap_or (option_map (λ n. without_file n.id s.table) o) s.table)
    → ShowsFiles (world_without_file s.world name)
    (unwrap_or (option_map (λ n. without_file n.id s.table) o) s.table))
    (sym file.found.named)
    (shown_removed s.world s.table t shown name file.node file.found) later
command_shown s client (command.Rename old new) fresh t one shown served none later =
    let a = refused_none (is_store_name old || is_store_name new) _ _ none in
    let b = refused_none (not (is_some (bytes_of s.world old))) _ _ a.1 in
    let c = refused_none (is_some (bytes_of s.world new)) _ _ b.1 in
    let file = file_is s.world s.table old t shown (not_false _ b.0) in
    subst
    (λ (o : Option Node).
    IsTable (unwrap_or (option_map (λ n. renamed n.id new s.table) o) s.table)
    → ShowsFiles (with_file (world_without_file s.world old) new (content s.world old))
    (unwrap_or (option_map (λ n. renamed n.id new s.table) o) s.table))
    (sym file.found.named)
    (shown_renamed s.world s.table t shown old new file.node file.found file.size
    (second_false (is_store_name old) (is_store_name new) a.0) c.0) later
command_shown s client (command.Stat name) fresh t one shown served none later = shown
command_shown s client (command.List after) fresh t one shown served none later = shown
command_shown s client (command.Tell name) fresh t one shown served none later = shown
command_shown s client command.Space fresh t one shown served none later = shown
command_shown s client (command.Fsctl code bytes) fresh t one shown served none later =
    absurd served
command_shown s client command.Sync fresh t one shown served none later = shown
command_shown s client command.Grovel fresh t one shown served none later = shown
command_shown s client command.End fresh t one shown served none later =
    record { letter = shown.letter; sizes = shown.sizes }

-- ---- rows

shown_as : (w x : World) (v u : VolumeTable) → x ≡ w → u ≡ v → ShowsFiles w v → ShowsFiles x u
shown_as w x v u same_world same_table shown =
    subst (λ (y : World). ShowsFiles y u) (sym same_world)
    (subst (λ (a : VolumeTable). ShowsFiles w a) (sym same_table) shown)

kind_shown : (s : Stage) (e : Entry) (r : Reply) (fresh : Fresh) (kind : Kind)
    → IsTable s.table → IsWorld s.world → ShowsFiles s.world s.table → IsServed e.command
    → MayReplyAs s.world e.client e.command r kind
    → IsTable (table_as s e.client e.command fresh kind)
    → ShowsFiles (world_as s.world e.client e.command kind)
    (table_as s e.client e.command fresh kind)
kind_shown s e r fresh IsDone t one shown served may later =
    command_shown s e.client e.command fresh t one shown served may.0 later
kind_shown s e r fresh IsRefused t one shown served may later = shown
kind_shown s e r fresh (IsHindered first) t one shown served may later = shown

-- a row keeps what the table shows of the world's files, where it leaves a table
pub row_shown : (s t : Stage) (row : Row) → IsRow s row t → IsTable s.table → IsTable t.table
    → IsWorld s.world → ShowsFiles s.world s.table → ShowsFiles t.world t.table
row_shown s t (Begins client command) r before later one shown =
    shown_as s.world t.world s.table t.table r.world r.table shown
row_shown s t (Enters e fresh) r before later one shown =
    let like = appears_like s.world e.client e.command e.reply r.may.may in
    shown_as _ t.world _ t.table r.world r.table
    (kind_shown s e like.other fresh (kind_of e.reply) before one shown r.may.served
    (like_as s.world e.client e.command e.reply like) (subst IsTable r.table later))
row_shown s t (Fails client file at) r before later one shown =
    shown_as s.world t.world s.table t.table r.world r.table shown
