-- What puts, removals and renames are answered.
use Rattle.std.proofs.Common.{◌≡◌, inl, ℕ, ◌+◌, ◌<◌, ◌≤◌, ◌||◌, Bool, true, false, List, [], length, Option, None, Some, is_some, Result, Ok, Err, refl, sym, ap, subst, ◌∙◌, arith}
use Rattle.std.specs.Prelude.{nat_lt, unwrap_or}
use Rattle.std.specs.FinMap.{insert, remove}
use Rattle.std.specs.Option.{option_map}
use Rattle.std.proofs.lemmas.Bool.{le-ltb, lt-ltb}
use Rattle.sis_history.specs.Needs.{no_need, put_need}
use Rattle.sis_model.specs.Answer.{refusal_of}
use Rattle.sis_model.specs.World.{World, bytes_of, is_open}
use Rattle.sis_model.specs.declared.command.Command.TheVariants as command
use Rattle.sis_model.specs.declared.reply.Hindrance.{Hindrance}
use Rattle.sis_model.specs.declared.reply.Reply.TheVariants as reply
use Rattle.sis_name.specs.Files.{Files}
use Rattle.sis_name.specs.Units.{is_store_name}
use Rattle.sis_table.specs.Changes.{renamed, without_file}
use Rattle.sis_table.specs.Edits.{IfThere}
use Rattle.sis_table.specs.Kinds.{is_plain, plain_node}
use Rattle.sis_table.specs.Volume.{VolumeTable, IsTable, blocks_of, id_of, node_named, node_with}
use Rattle.sis_table.specs.declared.kind.NodeKind.{NodeKind}
use Rattle.sis_table.specs.declared.kind.NodeKind.TheVariants.{Plain}
use Rattle.sis_table.specs.declared.node.Node.{Node}
use Rattle.sis_volume.specs.View.{VolumeView}
use Rattle.sis_copyclose.specs.Changed.{IsRenamed, IsWithFile, IsWithoutFile, with_new_name}
use Rattle.sis_copyclose.specs.Operating.{Operates}
use Rattle.sis_core.specs.Deciding.{DecidesFor}
use Rattle.sis_core.specs.Opens.{has_file}
use Rattle.sis_core.specs.Session.{SessionView, ShowsWorld, session}
use Rattle.sis_core.proofs.Named.{IsFound, found_in, found_there, if_there, open_in_world, renamed_keeps, there_if, with_file_keeps, without_file_keeps}
use Rattle.sis_core.proofs.Operated.{KeepsOpens, Suits, operated_err, operated_ok, refused}

-- ---- puts

module _ (w : World) (s : SessionView) (client : ℕ) (name bytes : List ℕ) (shows : ShowsWorld w s)
    (up : s.volume.down ≡ None) where
  pub put_long : 65536 < length bytes
      → DecidesFor w s (session s.volume s.opens) client (command.Put name bytes)
      reply.InvalidParameter
  put_long long =
      refused w s client (command.Put name bytes) reply.InvalidParameter shows up
      (rw (lt-ltb 65536 (length bytes) long) refl) refl refl refl
      (rw (lt-ltb 65536 (length bytes) long) refl) (λ fresh jobs later next. tt)

  module _ (short : length bytes ≤ 65536) where
    pub put_store : is_store_name name ≡ true
        → DecidesFor w s (session s.volume s.opens) client (command.Put name bytes)
        reply.AccessDenied
    put_store store =
        let refusal : refusal_of w client (command.Put name bytes) ≡ Some reply.AccessDenied =
        rw (le-ltb 65536 (length bytes) short, store) refl in
        refused w s client (command.Put name bytes) reply.AccessDenied shows up refusal refl refl
        refl refusal (λ fresh jobs later next. tt)

    module _ (user : is_store_name name ≡ false) (found : Option ℕ)
        (e : found ≡ option_map id_of (node_named s.volume.table name)) where
      pub put_taken : is_some found ≡ true
          → DecidesFor w s (session s.volume s.opens) client (command.Put name bytes)
          reply.Collision
      put_taken taken =
          let there = found_in w s name found shows e ∙ taken in
          let refusal : refusal_of w client (command.Put name bytes) ≡ Some reply.Collision =
          rw (le-ltb 65536 (length bytes) short, user, there) refl in
          refused w s client (command.Put name bytes) reply.Collision shows up refusal refl refl
          refl refusal (λ fresh jobs later next. tt)

      abbrev Leads : VolumeTable → Type 0
      Leads = IsWithFile s.volume.table name (length bytes)

      abbrev change : Files → Files
      change files = insert files name bytes

      put_suits : is_some found ≡ false
          → Suits w s client (command.Put name bytes) (put_need (length bytes)) Leads 0
      put_suits free =
          let none = found_in w s name found shows e ∙ free in
          let same : blocks_of (length bytes) ≡ blocks_of (length bytes) + 0 = omega arith in
          record {
            accepted = rw (le-ltb 65536 (length bytes) short, user, none) refl;
            need_is = λ jobs. refl;
            moves = λ jobs. ap (nat_lt 0) same;
            reads_is = λ jobs. refl;
            waits = refl;
            memory = refl;
            leads = λ next made.
                (record { places = made.0 }, made.1, λ jobs. made.2);
          }

      pub put_failed : {T : Type 0} (result : Result T Hindrance) (by : Hindrance)
          (new : VolumeView) → is_some found ≡ false
          → Operates (put_need (length bytes)) Leads change 0 result s.volume new
          → result ≡ Err by
          → DecidesFor w s (session new s.opens) client (command.Put name bytes)
          (reply.Hindered by)
      put_failed result by new free left err =
          operated_err w s client (command.Put name bytes) (put_need (length bytes)) Leads change 0
          (put_suits free) shows up result by new left err (λ jobs. inl refl)

      pub put_done : {T : Type 0} (result : Result T Hindrance) (x : T) (new : VolumeView)
          → is_some found ≡ false
          → Operates (put_need (length bytes)) Leads change 0 result s.volume new
          → result ≡ Ok x
          → DecidesFor w s (session new s.opens) client (command.Put name bytes) reply.Done
      put_done result x new free left ok =
          operated_ok w s client (command.Put name bytes) (put_need (length bytes)) Leads change 0
          (put_suits free) shows up result x new left ok (λ jobs. inl refl) refl
          (λ files same. ap change same) refl
          (λ next made.
          subst
          (λ (v : VolumeTable). KeepsOpens s.volume.table v s.opens)
          (sym made.2)
          (with_file_keeps s.volume.table name (length bytes) made.0 s.opens shows.there))

-- ---- files that are there

always_plain : (kind : NodeKind) → is_plain kind ≡ true
always_plain Plain = refl

-- a file that a look-up found is there, and plain
pub plain_there : (v : VolumeTable) (name : List ℕ) (id : ℕ) → IsFound v name id
    → IfThere (node_with v id) (λ n. plain_node n ≡ true)
plain_there v name id f =
    there_if (node_with v id) f.node (λ n. plain_node n ≡ true) (found_there v name id f)
    (always_plain (f.node).kind)

found_some : (found : Option ℕ) (id : ℕ) → found ≡ Some id → is_some found ≡ true
found_some found id is = ap (λ (o : Option ℕ). is_some o) is

found_not : (found : Option ℕ) → found ≡ None → is_some found ≡ false
found_not found is = ap (λ (o : Option ℕ). is_some o) is

-- ---- removals

module _ (w : World) (s : SessionView) (client : ℕ) (name : List ℕ) (shows : ShowsWorld w s)
    (up : s.volume.down ≡ None) where
  pub remove_store : is_store_name name ≡ true
      → DecidesFor w s (session s.volume s.opens) client (command.Remove name) reply.AccessDenied
  remove_store store =
      let refusal : refusal_of w client (command.Remove name) ≡ Some reply.AccessDenied =
      rw store refl in
      refused w s client (command.Remove name) reply.AccessDenied shows up refusal refl refl refl
      refusal (λ fresh jobs later next. tt)

  module _ (user : is_store_name name ≡ false) (found : Option ℕ)
      (e : found ≡ option_map id_of (node_named s.volume.table name)) where
    pub remove_missing : found ≡ None
        → DecidesFor w s (session s.volume s.opens) client (command.Remove name) reply.NotFound
    remove_missing missing =
        let none = found_in w s name found shows e ∙ found_not found missing in
        let refusal : refusal_of w client (command.Remove name) ≡ Some reply.NotFound =
        rw (user, none) refl in
        refused w s client (command.Remove name) reply.NotFound shows up refusal refl refl refl
        refusal (λ fresh jobs later next. tt)

    module _ (id : ℕ) (is : found ≡ Some id) (t : IsTable s.volume.table)
        (f : IsFound s.volume.table name id) where
      there : is_some (bytes_of w name) ≡ true
      there = found_in w s name found shows e ∙ found_some found id is

      pub remove_in_use : has_file id s.opens ≡ true
          → DecidesFor w s (session s.volume s.opens) client (command.Remove name) reply.InUse
      remove_in_use opened =
          let test : is_open w name ≡ true = open_in_world w s name id shows t f ∙ opened in
          let refusal : refusal_of w client (command.Remove name) ≡ Some reply.InUse =
          rw (user, there, test) refl in
          refused w s client (command.Remove name) reply.InUse shows up refusal refl refl refl
          refusal (λ fresh jobs later next. tt)

      remove_suits : has_file id s.opens ≡ false
          → Suits w s client (command.Remove name) no_need (IsWithoutFile s.volume.table id) 0
      remove_suits closed =
          let test : is_open w name ≡ false = open_in_world w s name id shows t f ∙ closed in
          record {
            accepted = rw (user, there, test) refl;
            need_is = λ jobs. refl;
            moves = λ jobs. refl;
            reads_is = λ jobs. refl;
            waits = refl;
            memory = refl;
            leads = λ next same. (
              record { places = [] },
              record { size = refl; free = refl },
              λ jobs. same
                  ∙ ap (λ (i : ℕ). without_file i s.volume.table) (sym f.id_is)
                  ∙ ap
                  (λ (o : Option Node).
                  unwrap_or (option_map (λ n. without_file n.id s.volume.table) o)
                  s.volume.table)
                  (sym f.named.named),
            );
          }

      abbrev Removes : {T : Type 0} → Result T Hindrance → VolumeView → Type 0
      Removes result new =
          IfThere (node_with s.volume.table id) (λ n.
          Operates no_need (IsWithoutFile s.volume.table id) (λ files. remove files n.name) 0
          result s.volume new)

      removes : {T : Type 0} (result : Result T Hindrance) (new : VolumeView)
          → Removes result new
          → Operates no_need (IsWithoutFile s.volume.table id) (λ files. remove files name) 0
          result s.volume new
      removes result new left =
          subst
          (λ (q : List ℕ).
          Operates no_need (IsWithoutFile s.volume.table id) (λ files. remove files q) 0
          result s.volume new)
          f.named.name_is
          (if_there (node_with s.volume.table id) f.node
          (λ n. Operates no_need (IsWithoutFile s.volume.table id) (λ files. remove files n.name) 0
          result s.volume new)
          (found_there s.volume.table name id f) left)

      pub remove_failed : {T : Type 0} (result : Result T Hindrance) (by : Hindrance)
          (new : VolumeView) → has_file id s.opens ≡ false → Removes result new
          → result ≡ Err by
          → DecidesFor w s (session new s.opens) client (command.Remove name) (reply.Hindered by)
      remove_failed result by new closed left err =
          operated_err w s client (command.Remove name) no_need
          (IsWithoutFile s.volume.table id) (λ files. remove files name) 0 (remove_suits closed)
          shows up result by new (removes result new left) err (λ jobs. inl refl)

      pub remove_done : {T : Type 0} (result : Result T Hindrance) (x : T) (new : VolumeView)
          → has_file id s.opens ≡ false → Removes result new → result ≡ Ok x
          → DecidesFor w s (session new s.opens) client (command.Remove name) reply.Done
      remove_done result x new closed left ok =
          operated_ok w s client (command.Remove name) no_need
          (IsWithoutFile s.volume.table id) (λ files. remove files name) 0 (remove_suits closed)
          shows up result x new (removes result new left) ok (λ jobs. inl refl) refl
          (λ files same. ap (λ (fs : Files). remove fs name) same) refl
          (λ next same.
          subst
          (λ (v : VolumeTable). KeepsOpens s.volume.table v s.opens)
          (sym same)
          (without_file_keeps s.volume.table id s.opens t closed shows.there))

-- ---- renames

pub one_true : (a b : Bool) → a ≡ true → (a || b) ≡ true
one_true a b is = ap (λ (x : Bool). x || b) is

pub two_true : (a b : Bool) → b ≡ true → (a || b) ≡ true
two_true true b is = refl
two_true false b is = is

pub none_true : (a b : Bool) → a ≡ false → b ≡ false → (a || b) ≡ false
none_true a b no_a no_b = ap (λ (x : Bool). x || b) no_a ∙ no_b

module _ (w : World) (s : SessionView) (client : ℕ) (old new : List ℕ) (shows : ShowsWorld w s)
    (up : s.volume.down ≡ None) where
  pub rename_store : (is_store_name old || is_store_name new) ≡ true
      → DecidesFor w s (session s.volume s.opens) client (command.Rename old new)
      reply.AccessDenied
  rename_store store =
      let refusal : refusal_of w client (command.Rename old new) ≡ Some reply.AccessDenied =
      rw store refl in
      refused w s client (command.Rename old new) reply.AccessDenied shows up refusal refl refl
      refl refusal (λ fresh jobs later next. tt)

  module _ (users : (is_store_name old || is_store_name new) ≡ false) (found : Option ℕ)
      (e : found ≡ option_map id_of (node_named s.volume.table old)) where
    pub rename_missing : found ≡ None
        → DecidesFor w s (session s.volume s.opens) client (command.Rename old new) reply.NotFound
    rename_missing missing =
        let none = found_in w s old found shows e ∙ found_not found missing in
        let refusal : refusal_of w client (command.Rename old new) ≡ Some reply.NotFound =
        rw (users, none) refl in
        refused w s client (command.Rename old new) reply.NotFound shows up refusal refl refl refl
        refusal (λ fresh jobs later next. tt)

    module _ (id : ℕ) (is : found ≡ Some id) (t : IsTable s.volume.table)
        (f : IsFound s.volume.table old id) (taken : Option ℕ)
        (e_new : taken ≡ option_map id_of (node_named s.volume.table new)) where
      old_there : is_some (bytes_of w old) ≡ true
      old_there = found_in w s old found shows e ∙ found_some found id is

      pub rename_taken : is_some taken ≡ true
          → DecidesFor w s (session s.volume s.opens) client (command.Rename old new)
          reply.Collision
      rename_taken there =
          let new_there = found_in w s new taken shows e_new ∙ there in
          let refusal : refusal_of w client (command.Rename old new) ≡ Some reply.Collision =
          rw (users, old_there, new_there) refl in
          refused w s client (command.Rename old new) reply.Collision shows up refusal refl refl
          refl refusal (λ fresh jobs later next. tt)

      module _ (free : is_some taken ≡ false) where
        new_free : is_some (bytes_of w new) ≡ false
        new_free = found_in w s new taken shows e_new ∙ free

        pub rename_in_use : has_file id s.opens ≡ true
            → DecidesFor w s (session s.volume s.opens) client (command.Rename old new)
            reply.InUse
        rename_in_use opened =
            let test : is_open w old ≡ true = open_in_world w s old id shows t f ∙ opened in
            let refusal : refusal_of w client (command.Rename old new) ≡ Some reply.InUse =
            rw (users, old_there, new_free, test) refl in
            refused w s client (command.Rename old new) reply.InUse shows up refusal refl refl
            refl refusal (λ fresh jobs later next. tt)

        rename_suits : has_file id s.opens ≡ false
            → Suits w s client (command.Rename old new) no_need
            (IsRenamed s.volume.table id new) 0
        rename_suits closed =
            let test : is_open w old ≡ false = open_in_world w s old id shows t f ∙ closed in
            record {
              accepted = rw (users, old_there, new_free, test) refl;
              need_is = λ jobs. refl;
              moves = λ jobs. refl;
              reads_is = λ jobs. refl;
              waits = refl;
              memory = refl;
              leads = λ next same. (
                record { places = [] },
                record { size = refl; free = refl },
                λ jobs. same
                    ∙ ap (λ (i : ℕ). renamed i new s.volume.table) (sym f.id_is)
                    ∙ ap
                    (λ (o : Option Node).
                    unwrap_or (option_map (λ n. renamed n.id new s.volume.table) o)
                    s.volume.table)
                    (sym f.named.named),
              );
            }

        abbrev Renames : {T : Type 0} → Result T Hindrance → VolumeView → Type 0
        Renames result after =
            IfThere (node_with s.volume.table id) (λ n.
            Operates no_need (IsRenamed s.volume.table id new) (with_new_name n.name new) 0
            result s.volume after)

        renames : {T : Type 0} (result : Result T Hindrance) (after : VolumeView)
            → Renames result after
            → Operates no_need (IsRenamed s.volume.table id new) (with_new_name old new) 0
            result s.volume after
        renames result after left =
            subst
            (λ (q : List ℕ).
            Operates no_need (IsRenamed s.volume.table id new) (with_new_name q new) 0
            result s.volume after)
            f.named.name_is
            (if_there (node_with s.volume.table id) f.node
            (λ n. Operates no_need (IsRenamed s.volume.table id new) (with_new_name n.name new) 0
            result s.volume after)
            (found_there s.volume.table old id f) left)

        pub rename_failed : {T : Type 0} (result : Result T Hindrance) (by : Hindrance)
            (after : VolumeView) → has_file id s.opens ≡ false → Renames result after
            → result ≡ Err by
            → DecidesFor w s (session after s.opens) client (command.Rename old new)
            (reply.Hindered by)
        rename_failed result by after closed left err =
            operated_err w s client (command.Rename old new) no_need
            (IsRenamed s.volume.table id new) (with_new_name old new) 0 (rename_suits closed)
            shows up result by after (renames result after left) err (λ jobs. inl refl)

        pub rename_done : {T : Type 0} (result : Result T Hindrance) (x : T)
            (after : VolumeView) → has_file id s.opens ≡ false → Renames result after
            → result ≡ Ok x
            → DecidesFor w s (session after s.opens) client (command.Rename old new) reply.Done
        rename_done result x after closed left ok =
            operated_ok w s client (command.Rename old new) no_need
            (IsRenamed s.volume.table id new) (with_new_name old new) 0 (rename_suits closed)
            shows up result x after (renames result after left) ok (λ jobs. inl refl) refl
            (λ files same. ap (λ (fs : Files). with_new_name old new fs) same) refl
            (λ next same.
            subst
            (λ (v : VolumeTable). KeepsOpens s.volume.table v s.opens)
            (sym same)
            (renamed_keeps s.volume.table id new s.opens t closed shows.there))
