-- What a session has under names, and which of its files stay open.
use Rattle.std.proofs.Common.{◌≡◌, ℕ, Bool, true, false, cond, ◌||◌, List, [], ◌∷◌, map, find, length, Option, None, Some, is_some, refl, sym, ap, subst, ◌∙◌, arith}
use Rattle.std.specs.Prelude.{◌==◌}
use Rattle.std.specs.List.{AllByRecursion, list_any}
use Rattle.std.specs.Option.{option_map, option_or}
use Rattle.std.proofs.lemmas.Bool.{or_parts}
use Rattle.std.proofs.lemmas.Bool.Decides.{nat_tests}
use Rattle.std.proofs.lemmas.Cmp.{nat_list_eq_equiv}
use Rattle.sis_history.proofs.NamedLemmas.{IsNamed, is_named}
use Rattle.sis_model.specs.World.{World, OpenFile, bytes_of, is_open}
use Rattle.sis_name.specs.Files.{same_name}
use Rattle.sis_table.specs.Changes.{renamed, with_file, without_file, made_file}
use Rattle.sis_table.specs.Drafts.{HaveOwnNames}
use Rattle.sis_table.specs.Edits.{IfThere}
use Rattle.sis_table.specs.Volume.{VolumeTable, IsTable, has_name, id_of, node_named, node_with}
use Rattle.sis_table.specs.declared.edit.Edit.TheVariants as edit
use Rattle.sis_table.specs.declared.node.Node.{Node}
use Rattle.sis_table.proofs.CallerLemmas.{node_named-has, node_with-other}
use Rattle.sis_table.proofs.ChangeLemmas.{own_names}
use Rattle.sis_table.proofs.ContentLemmas.{some_mapped}
use Rattle.sis_table.proofs.FileLemmas.{find-push, same_units, some_is}
use Rattle.sis_core.specs.declared.opens.Open.{Open}
use Rattle.sis_core.specs.Opens.{has_file}
use Rattle.sis_core.specs.Session.{AreThere, SessionView, ShowsWorld, name_by, open_in}
use Rattle.sis_core.proofs.Operated.{KeepsOpens, different}

-- ---- names

-- what a look-up finds is there in the world
pub found_in : (w : World) (s : SessionView) (name : List ℕ) (found : Option ℕ) → ShowsWorld w s
    → found ≡ option_map id_of (node_named s.volume.table name)
    → is_some (bytes_of w name) ≡ is_some found
found_in w s name found shows e =
    let named = node_named s.volume.table name in
    let size : Node → ℕ = λ n. n.size in
    sym (some_mapped length (bytes_of w name)) ∙ ap is_some (shows.files.sizes name)
    ∙ some_mapped size named ∙ sym (some_mapped id_of named) ∙ ap is_some (sym e)

-- no file has a name that a look-up doesn't find
pub free_in : (v : VolumeTable) (name : List ℕ) (found : Option ℕ)
    → found ≡ option_map id_of (node_named v name) → is_some found ≡ false
    → list_any (has_name name) v.nodes ≡ false
free_in v name found e none =
    sym (node_named-has v name) ∙ sym (some_mapped id_of (node_named v name))
    ∙ ap is_some (sym e) ∙ none

-- the file of a name has this id
pub record IsFound (v : VolumeTable) (name : List ℕ) (id : ℕ) : Type 0 where
  pub node : Node
  pub named : IsNamed v name node
  pub id_is : node.id ≡ id

pub is_found : (v : VolumeTable) (name : List ℕ) (found : Option ℕ) (id : ℕ) → IsTable v
    → found ≡ option_map id_of (node_named v name) → found ≡ Some id → IsFound v name id
is_found v name found id t e is = by (node_named v name) refl (sym e ∙ is)
  where
    by : (o : Option Node) → node_named v name ≡ o → option_map id_of o ≡ Some id
        → IsFound v name id
    by None same is = absurd cc
    by (Some n) same is =
        record { node = n; named = is_named v name n t same; id_is = some_is n.id id is }

pub if_there : (o : Option Node) (n : Node) (P : Node → Type 0) → o ≡ Some n → IfThere o P → P n
if_there o n P is holds = subst (λ (a : Option Node). IfThere a P) is holds

pub there_if : (o : Option Node) (n : Node) (P : Node → Type 0) → o ≡ Some n → P n → IfThere o P
there_if o n P is holds = subst (λ (a : Option Node). IfThere a P) (sym is) holds

-- a file is found under its id
pub found_there : (v : VolumeTable) (name : List ℕ) (id : ℕ) (f : IsFound v name id)
    → node_with v id ≡ Some f.node
found_there v name id f =
    subst (λ (i : ℕ). node_with v i ≡ Some f.node) f.id_is f.named.there

-- ---- a file by its id, and by its name

pub found_passes : {X : Type 0} (test : X → Bool) (xs : List X) (x : X) → find test xs ≡ Some x
    → test x ≡ true
found_passes test [] x is = absurd cc
found_passes test (y ∷ ys) x is = by (test y) refl is (found_passes test ys x)
  where
    by : (b : Bool) → test y ≡ b → cond b (Some y) (find test ys) ≡ Some x
        → (find test ys ≡ Some x → test x ≡ true) → test x ≡ true
    by true passes is rest = subst (λ z. test z ≡ true) (some_is y x is) passes
    by false passes is rest = rest is

found_none : (p : Node → Bool) (ks : List Node) (k : Node) → find p ks ≡ Some k
    → list_any p ks ≡ false → ⊥
found_none p [] k is none = cc
found_none p (j ∷ js) k is none = by (p j) is none (found_none p js k)
  where
    by : (b : Bool) → cond b (Some j) (find p js) ≡ Some k → (b || list_any p js) ≡ false
        → (find p js ≡ Some k → list_any p js ≡ false → ⊥) → ⊥
    by true is none rest = cc
    by false is none rest = rest is none

-- where no two files have one name, a file that some test finds is found by its name
found_by_name : (test : Node → Bool) (ns : List Node) (n : Node) → HaveOwnNames ns
    → find test ns ≡ Some n → find (has_name n.name) ns ≡ Some n
found_by_name test [] n own is = absurd cc
found_by_name test (m ∷ ms) n own is =
    by (test m) is (found_by_name test ms n own.1) (same_name m.name n.name) refl
  where
    by : (b : Bool) → cond b (Some m) (find test ms) ≡ Some n
        → (find test ms ≡ Some n → find (has_name n.name) ms ≡ Some n)
        → (c : Bool) → same_name m.name n.name ≡ c
        → cond c (Some m) (find (has_name n.name) ms) ≡ Some n
    by true is rest true same = is
    by true is rest false same =
        let own_name : same_name m.name n.name ≡ true =
        subst (λ (k : Node). same_name m.name k.name ≡ true) (some_is m n is)
        (nat_list_eq_equiv.refl m.name) in
        absurd (different (sym own_name ∙ same))
    by false is rest true same =
        let name : m.name ≡ n.name = same_units m.name n.name same in
        let none : list_any (has_name n.name) ms ≡ false =
        subst (λ (q : List ℕ). list_any (has_name q) ms ≡ false) name own.0 in
        absurd (found_none (has_name n.name) ms n (rest is) none)
    by false is rest false same = rest is

-- the file with an id is the one of its name
pub named_by_id : (v : VolumeTable) (id : ℕ) (n : Node) → IsTable v → node_with v id ≡ Some n
    → node_named v n.name ≡ Some n
named_by_id v id n t is =
    found_by_name (λ m. m.id == id) v.nodes n (own_names v.layout v.next_id [] v.nodes t.nodes) is

-- ---- a file that is open

any_mapped : {X Y : Type 0} (f : X → Y) (p : Y → Bool) (xs : List X)
    → list_any p (map f xs) ≡ list_any (λ x. p (f x)) xs
any_mapped f p [] = refl
any_mapped f p (x ∷ xs) = ap (λ (b : Bool). p (f x) || b) (any_mapped f p xs)

-- an open has a file's name exactly where it has the file
pub same_file : (v : VolumeTable) (name : List ℕ) (id : ℕ) → IsTable v → IsFound v name id
    → (file : ℕ) (o : Option Node) → node_with v file ≡ o → is_some o ≡ true
    → same_name (name_by o) name ≡ (file == id)
same_file v name id t f file None is there = absurd cc
same_file v name id t f file (Some m) is there =
    by (same_name m.name name) refl (file == id) refl
  where
    own_id : m.id ≡ file
    own_id =
        let test : (m.id == file) ≡ true = found_passes (λ k. k.id == file) v.nodes m is in
        grind (arith, nat_tests)

    by : (a : Bool) → same_name m.name name ≡ a → (b : Bool) → (file == id) ≡ b → a ≡ b
    by true same true equal = refl
    by false same false equal = refl
    by true same false equal =
        let name_is : m.name ≡ name = same_units m.name name same in
        let found : node_named v name ≡ Some m =
        subst (λ (q : List ℕ). node_named v q ≡ Some m) name_is (named_by_id v file m t is) in
        let one : m ≡ f.node = some_is m f.node (sym found ∙ f.named.named) in
        let ids : m.id ≡ id = ap (λ (k : Node). k.id) one ∙ f.id_is in
        absurd (let test : (file == id) ≡ false = equal in grind (arith, nat_tests, own_id, ids))
    by false same true equal =
        let ids : file ≡ id = grind (arith, nat_tests, equal) in
        let there : node_with v file ≡ Some f.node =
        subst (λ (i : ℕ). node_with v i ≡ Some f.node) (sym ids) (found_there v name id f) in
        let one : m ≡ f.node = some_is m f.node (sym is ∙ there) in
        let name_is : m.name ≡ name = ap (λ (k : Node). k.name) one ∙ f.named.name_is in
        let both : same_name m.name name ≡ true =
        subst (λ (q : List ℕ). same_name m.name q ≡ true) name_is
        (nat_list_eq_equiv.refl m.name) in
        absurd (different (sym both ∙ same))

any_file : (v : VolumeTable) (name : List ℕ) (id : ℕ) → IsTable v → IsFound v name id
    → (opens : List Open) → AreThere v opens
    → list_any (λ o. same_name (name_by (node_with v o.file)) name) opens ≡ has_file id opens
any_file v name id t f [] there = refl
any_file v name id t f (o ∷ os) there =
    let here = same_file v name id t f o.file (node_with v o.file) refl there.0 in
    ap (λ (b : Bool). b || list_any (λ p. same_name (name_by (node_with v p.file)) name) os) here
    ∙ ap (λ (b : Bool). (o.file == id) || b) (any_file v name id t f os there.1)

-- a file is open in the world exactly where an open has its id
pub open_in_world : (w : World) (s : SessionView) (name : List ℕ) (id : ℕ) → ShowsWorld w s
    → IsTable s.volume.table → IsFound s.volume.table name id
    → is_open w name ≡ has_file id s.opens
open_in_world w s name id shows t f =
    ap (list_any (λ (o : OpenFile). same_name o.name name)) shows.opens
    ∙ any_mapped (open_in s.volume.table) (λ (o : OpenFile). same_name o.name name) s.opens
    ∙ any_file s.volume.table name id t f s.opens shows.there

-- ---- files that stay open

-- the open's file is there in the new table too, with the same name
pub record IsKept (old new : VolumeTable) (o : Open) : Type 0 where
  pub name : name_by (node_with new o.file) ≡ name_by (node_with old o.file)
  pub there : is_some (node_with new o.file) ≡ true

pub keeps_opens : (old new : VolumeTable) (opens : List Open)
    → AllByRecursion (IsKept old new) opens → KeepsOpens old new opens
keeps_opens old new [] kept = record { names = refl; there = tt }
keeps_opens old new (o ∷ os) kept =
    let rest = keeps_opens old new os kept.1 in
    record {
      names =
          ap (λ (name : List ℕ). record {
            client = o.client;
            number = o.number;
            name = name;
            writes = o.writes;
          } ∷ map (open_in new) os) (kept.0).name
          ∙ ap (λ (ps : List OpenFile). open_in old o ∷ ps) rest.names;
      there = ((kept.0).there, rest.there);
    }

-- a file that stays as it is
pub same_kept : (old new : VolumeTable) (o : Open) → node_with new o.file ≡ node_with old o.file
    → is_some (node_with old o.file) ≡ true → IsKept old new o
same_kept old new o same there =
    record { name = ap name_by same; there = ap (λ (n : Option Node). is_some n) same ∙ there }

-- where none of the opens has a file, what changes it alone keeps them
pub others_kept : (old new : VolumeTable) (id : ℕ) (opens : List Open)
    → ((file : ℕ) → (file == id) ≡ false → node_with new file ≡ node_with old file)
    → has_file id opens ≡ false → AreThere old opens → AllByRecursion (IsKept old new) opens
others_kept old new id [] same none there = tt
others_kept old new id (o ∷ os) same none there =
    let apart = or_parts (o.file == id) (has_file id os) none in (
      same_kept old new o (same o.file apart.0) there.0,
      others_kept old new id os same apart.1 there.1,
    )

-- a new file
with_file_kept : (v : VolumeTable) (name : List ℕ) (size : ℕ) (places : List ℕ)
    (opens : List Open) → AreThere v opens
    → AllByRecursion (IsKept v (with_file name size places v)) opens
with_file_kept v name size places [] there = tt
with_file_kept v name size places (o ∷ os) there = (
  same_kept v (with_file name size places v) o same there.0,
  with_file_kept v name size places os there.1,
)
  where
    first : (a b : Option Node) → is_some a ≡ true → option_or a b ≡ a
    first None b is = absurd cc
    first (Some n) b is = refl

    same : node_with (with_file name size places v) o.file ≡ node_with v o.file
    same =
        find-push (λ n. n.id == o.file) v.nodes (made_file v.next_id name size places)
        ∙ first (node_with v o.file) _ there.0

pub with_file_keeps : (v : VolumeTable) (name : List ℕ) (size : ℕ) (places : List ℕ)
    (opens : List Open) → AreThere v opens → KeepsOpens v (with_file name size places v) opens
with_file_keeps v name size places opens there =
    keeps_opens v (with_file name size places v) opens
    (with_file_kept v name size places opens there)

-- a removal, and another name, of a file that nobody has open
pub without_file_keeps : (v : VolumeTable) (id : ℕ) (opens : List Open) → IsTable v
    → has_file id opens ≡ false → AreThere v opens → KeepsOpens v (without_file id v) opens
without_file_keeps v id opens t none there =
    keeps_opens v (without_file id v) opens
    (others_kept v (without_file id v) id opens
    (λ file apart. node_with-other v (edit.Drop id) file t apart) none there)

pub renamed_keeps : (v : VolumeTable) (id : ℕ) (name : List ℕ) (opens : List Open) → IsTable v
    → has_file id opens ≡ false → AreThere v opens → KeepsOpens v (renamed id name v) opens
renamed_keeps v id name opens t none there =
    keeps_opens v (renamed id name v) opens
    (others_kept v (renamed id name v) id opens
    (λ file apart. node_with-other v (edit.Rename id name) file t apart) none there)
