-- Which files a table stands for after an edit.
use Rattle.std.proofs.Common.{◌≡◌, ℕ, ◌+◌, Bool, true, false, cond, ◌||◌, List, [], ◌∷◌, ◌++◌, map, find, Option, None, Some, eqb, refl, sym, ap, ap₂, ◌∙◌, subst, arith}
use Rattle.std.specs.List.{list_any}
use Rattle.std.specs.Option.{option_map, option_or}
use Rattle.std.specs.Cmp.{eq_by_cmp_equiv}
use Rattle.std.specs.FinMap.{from_entries, get-insert, get-remove, insert, remove, same_map}
use Rattle.std.specs.BTreeMap.{is_at}
use Rattle.std.proofs.lemmas.Bool.{or_parts}
use Rattle.std.proofs.lemmas.Bool.Decides.{nat_tests}
use Rattle.std.proofs.lemmas.Cmp.{nat_list_eq_equiv}
use Rattle.std.proofs.lemmas.List.Folds.{list_any-append}
use Rattle.sis_disk.specs.declared.layout.Layout.{Layout}
use Rattle.sis_name.specs.Files.{Files, same_name}
use Rattle.sis_name.specs.Units.{name_cmp, name_ties, name_total}
use Rattle.sis_name.proofs.Named.{get_named, insert_named, named}
use Rattle.sis_table.specs.declared.edit.Edit.{Edit}
use Rattle.sis_table.specs.declared.edit.Edit.TheVariants as edit
use Rattle.sis_table.specs.declared.kind.NodeKind.{NodeKind}
use Rattle.sis_table.specs.declared.node.Node.{Node}
use Rattle.sis_table.specs.Content.{content_of, files_of, own_content}
use Rattle.sis_table.specs.Edits.{IfThere, MayEdit, MayMake, MayRename, edited, made, with_map, with_name, with_node, with_size, with_version, without_map, without_node, stretch}
use Rattle.sis_table.specs.Volume.{VolumeTable, IsTable, AreNodes, has_name, node_with}
use Rattle.sis_table.proofs.ContentLemmas.{content_of-plain, plain_files, turned_test, same_test}
use Rattle.sis_table.proofs.EditLemmas.{has_id}
use Rattle.sis_table.proofs.ChangeLemmas.{find-with_node}
use Rattle.sis_table.proofs.FileLemmas.{find-push}
use Rattle.sis_table.proofs.PlaceLemmas.{node_with-drop}
use Rattle.sis_table.proofs.UseLemmas.{id_of_edit}

abbrev entry : List ℕ → Node → List ℕ × List ℕ
entry live n = (n.name, own_content live n)

abbrev under : List Node → List ℕ → List ℕ → Option (List ℕ)
under nodes live q = named (map (entry live) nodes) q

-- ---- the other files

-- the bytes of a file don't depend on the others
pub content_of-table : (v w : VolumeTable) (live : List ℕ) (n : Node) → content_of v live n ≡ content_of w live n
content_of-table v w live n = content_of-plain v live n ∙ sym (content_of-plain w live n)

not_this : {X : Type 0} (b : Bool) (x y : X) → b ≡ false → cond b x y ≡ y
not_this true x y e = cc
not_this false x y e = refl

-- an edit leaves each other file as it is
pub node_with-other : (v : VolumeTable) (e : Edit) (j : ℕ) → IsTable v → eqb j (id_of_edit e) ≡ false → node_with (edited v e) j ≡ node_with v j
node_with-other v (edit.Make id kind name) j h other = find-push (has_id j) v.nodes (made id kind name) ∙ by (node_with v j) (eqb id j) (grind (arith, nat_tests, other))
  where
    by : (o : Option Node) (b : Bool) → b ≡ false → option_or o (cond b (Some (made id kind name)) None) ≡ o
    by None true e = cc
    by None false e = refl
    by (Some n) b e = refl
node_with-other v (edit.Drop id) j h other = node_with-drop v id j h ∙ not_this (eqb j id) None (node_with v j) other
node_with-other v (edit.Rename id name) j h other = find-with_node id (with_name name) v.nodes j (λ n. refl) ∙ not_this (eqb j id) _ (node_with v j) other
node_with-other v (edit.Size id size) j h other = find-with_node id (with_size size) v.nodes j (λ n. refl) ∙ not_this (eqb j id) _ (node_with v j) other
node_with-other v (edit.Map id first count place) j h other = find-with_node id (with_map (stretch first count place)) v.nodes j (λ n. refl) ∙ not_this (eqb j id) _ (node_with v j) other
node_with-other v (edit.Unmap id first count) j h other = find-with_node id (without_map first count) v.nodes j (λ n. refl) ∙ not_this (eqb j id) _ (node_with v j) other
node_with-other v (edit.Version id version) j h other = find-with_node id (with_version version) v.nodes j (λ n. refl) ∙ not_this (eqb j id) _ (node_with v j) other

-- and makes of its own file this
pub node_with-changed : (v : VolumeTable) (id : ℕ) (change : Node → Node) → ((n : Node) → (change n).id ≡ n.id)
    → node_with (record v { nodes = with_node id change v.nodes }) id ≡ option_map change (node_with v id)
node_with-changed v id change ids =
    find-with_node id change v.nodes id ids
    ∙ (let e : eqb id id ≡ true = grind (arith, nat_tests) in ap (λ (b : Bool). cond b (option_map change (node_with v id)) (node_with v id)) e)

-- ---- names stand once

-- no file before one has its name
free_before : (l : Layout) (next : ℕ) (front nodes : List Node) (id : ℕ) (n : Node) → AreNodes l next front nodes → find (has_id id) nodes ≡ Some n → list_any (has_name n.name) front ≡ false
free_before l next front [] id n h is = absurd cc
free_before l next front (m ∷ ms) id n h is = by (has_id id m) is (λ later. free_before l next (front ++ m ∷ []) ms id n h.4 later)
  where
    by : (b : Bool) → cond b (Some m) (find (has_id id) ms) ≡ Some n → (find (has_id id) ms ≡ Some n → list_any (has_name n.name) (front ++ m ∷ []) ≡ false) → list_any (has_name n.name) front ≡ false
    by true e others = let same : m ≡ n = cc in subst (λ (k : Node). list_any (has_name k.name) front ≡ false) same h.2
    by false e others = (or_parts _ _ (sym (list_any-append (has_name n.name) front (m ∷ [])) ∙ others e)).0

-- the file before it
not_before : (l : Layout) (next : ℕ) (front : List Node) (m : Node) (ms : List Node) (id : ℕ) (n : Node) → AreNodes l next front (m ∷ ms) → find (has_id id) ms ≡ Some n → has_name n.name m ≡ false
not_before l next front m ms id n h is =
    let none = free_before l next (front ++ m ∷ []) ms id n h.4 is in
    (or_parts (has_name n.name m) false (or_parts _ _ (sym (list_any-append (has_name n.name) front (m ∷ [])) ∙ none)).1).0

is_no : (a : Bool) → (a ≡ true → ⊥) → a ≡ false
is_no true f = absurd (f refl)
is_no false f = refl

-- and none behind it
free_behind : (l : Layout) (next : ℕ) (front nodes : List Node) (name q : List ℕ) → AreNodes l next front nodes → list_any (has_name name) front ≡ true → same_name name q ≡ true → (live : List ℕ) → under nodes live q ≡ None
free_behind l next front [] name q h has same live = refl
free_behind l next front (m ∷ ms) name q h has same live =
    let away : is_at (name_cmp q) m.name ≡ false = is_no (is_at (name_cmp q) m.name) (λ here. absurd (taken here)) in
    not_this (is_at (name_cmp q) m.name) (Some (own_content live m)) (under ms live q) away
    ∙ free_behind l next (front ++ m ∷ []) ms name q h.4 (list_any-append (has_name name) front (m ∷ []) ∙ ap (λ (b : Bool). b || list_any (has_name name) (m ∷ [])) has) same live
  where
    by_name : (a b : List ℕ) (ns : List Node) → same_name a b ≡ true → list_any (has_name a) ns ≡ list_any (has_name b) ns
    by_name a b [] e = refl
    by_name a b (k ∷ ks) e = ap₂ (λ (x y : Bool). x || y) (nat_list_eq_equiv.symm k.name a ∙ nat_list_eq_equiv.congr a b k.name e ∙ nat_list_eq_equiv.symm b k.name) (by_name a b ks e)

    taken : is_at (name_cmp q) m.name ≡ true → ⊥
    taken here =
        let one : same_name m.name q ≡ true = sym (same_test q m.name) ∙ here in
        let two : same_name m.name name ≡ true = nat_list_eq_equiv.congr m.name q name one ∙ nat_list_eq_equiv.symm q name ∙ same in
        let none : list_any (has_name name) front ≡ false = sym (by_name m.name name front two) ∙ h.2 in
        cc

-- ---- one file changed

both_names : (a b q : List ℕ) → same_name b a ≡ false → is_at (name_cmp a) q ≡ true → is_at (name_cmp q) b ≡ true → ⊥
both_names a b q free qa bq =
    let one : same_name q a ≡ true = sym (same_test a q) ∙ qa in
    let two : same_name q b ≡ true = nat_list_eq_equiv.symm q b ∙ sym (same_test q b) ∙ bq in
    let three : same_name q a ≡ same_name b a = nat_list_eq_equiv.congr q b a two in
    cc

swapped : {X : Type 0} (a b : Bool) (x y z : X) → (a ≡ true → b ≡ true → ⊥) → cond b y (cond a x z) ≡ cond a x (cond b y z)
swapped true true x y z h = absurd (h refl refl)
swapped true false x y z h = refl
swapped false true x y z h = refl
swapped false false x y z h = refl

module _ (l : Layout) (next id : ℕ) (live : List ℕ) (n : Node) where
  covered : (a b : Bool) (x y z : Option (List ℕ)) → a ≡ b → cond a x z ≡ cond b x (cond a y z)
  covered true true x y z e = refl
  covered true false x y z e = absurd cc
  covered false true x y z e = absurd cc
  covered false false x y z e = refl

  changed_under : (change : Node → Node) → ((m : Node) → (change m).name ≡ m.name) → (front nodes : List Node) (q : List ℕ) → AreNodes l next front nodes → find (has_id id) nodes ≡ Some n
      → under (with_node id change nodes) live q ≡ cond (is_at (name_cmp n.name) q) (Some (own_content live (change n))) (under nodes live q)
  changed_under change names front [] q h is = absurd cc
  changed_under change names front (m ∷ ms) q h is =
      by (has_id id m) is (λ later. changed_under change names (front ++ m ∷ []) ms q h.4 later) (λ later. not_before l next front m ms id n h later)
    where
      by : (b : Bool) → cond b (Some m) (find (has_id id) ms) ≡ Some n
          → (find (has_id id) ms ≡ Some n → under (with_node id change ms) live q ≡ cond (is_at (name_cmp n.name) q) (Some (own_content live (change n))) (under ms live q))
          → (find (has_id id) ms ≡ Some n → has_name n.name m ≡ false)
          → under (cond b (change m ∷ ms) (m ∷ with_node id change ms)) live q ≡ cond (is_at (name_cmp n.name) q) (Some (own_content live (change n))) (under (m ∷ ms) live q)
      by true e others apart =
          let same : m ≡ n = cc in
          ap (λ (name : List ℕ). cond (is_at (name_cmp q) name) (Some (own_content live (change m))) (under ms live q)) (names m)
          ∙ covered (is_at (name_cmp q) m.name) (is_at (name_cmp m.name) q) (Some (own_content live (change m))) (Some (own_content live m)) (under ms live q) (turned_test q m.name)
          ∙ ap (λ (k : Node). cond (is_at (name_cmp k.name) q) (Some (own_content live (change k))) (under (m ∷ ms) live q)) same
      by false e others apart =
          ap (cond (is_at (name_cmp q) m.name) (Some (own_content live m))) (others e)
          ∙ swapped (is_at (name_cmp n.name) q) (is_at (name_cmp q) m.name) (Some (own_content live (change n))) (Some (own_content live m)) (under ms live q)
          (both_names n.name m.name q (apart e))

  gone_by : (a b : Bool) (x z : Option (List ℕ)) → a ≡ b → (b ≡ true → z ≡ None) → z ≡ cond b None (cond a x z)
  gone_by true true x z e none = none refl
  gone_by true false x z e none = absurd cc
  gone_by false true x z e none = absurd cc
  gone_by false false x z e none = refl

  last_has : (front : List Node) (m : Node) (q : List ℕ) → list_any (has_name m.name) (front ++ m ∷ []) ≡ true
  last_has [] m q = ap (λ (b : Bool). b || false) (nat_list_eq_equiv.refl m.name)
  last_has (k ∷ ks) m q = by (has_name m.name k) (last_has ks m q)
    where
      by : (b : Bool) → list_any (has_name m.name) (ks ++ m ∷ []) ≡ true → (b || list_any (has_name m.name) (ks ++ m ∷ [])) ≡ true
      by true e = refl
      by false e = e

  -- where the file goes, or keeps its bytes under another name, its name is free
  none_behind : (front : List Node) (m : Node) (ms : List Node) (q : List ℕ) → AreNodes l next front (m ∷ ms) → is_at (name_cmp m.name) q ≡ true → under ms live q ≡ None
  none_behind front m ms q h here =
      free_behind l next (front ++ m ∷ []) ms m.name q h.4 (last_has front m q) (nat_list_eq_equiv.symm m.name q ∙ sym (same_test m.name q) ∙ here) live

  dropped_under : (front nodes : List Node) (q : List ℕ) → AreNodes l next front nodes → find (has_id id) nodes ≡ Some n
      → under (without_node id nodes) live q ≡ cond (is_at (name_cmp n.name) q) None (under nodes live q)
  dropped_under front [] q h is = absurd cc
  dropped_under front (m ∷ ms) q h is =
      by (has_id id m) is (λ later. dropped_under (front ++ m ∷ []) ms q h.4 later) (λ later. not_before l next front m ms id n h later) (none_behind front m ms q h)
    where
      by : (b : Bool) → cond b (Some m) (find (has_id id) ms) ≡ Some n
          → (find (has_id id) ms ≡ Some n → under (without_node id ms) live q ≡ cond (is_at (name_cmp n.name) q) None (under ms live q))
          → (find (has_id id) ms ≡ Some n → has_name n.name m ≡ false) → (is_at (name_cmp m.name) q ≡ true → under ms live q ≡ None)
          → under (cond b ms (m ∷ without_node id ms)) live q ≡ cond (is_at (name_cmp n.name) q) None (under (m ∷ ms) live q)
      by true e others apart none =
          let same : m ≡ n = cc in
          gone_by (is_at (name_cmp q) m.name) (is_at (name_cmp m.name) q) (Some (own_content live m)) (under ms live q) (turned_test q m.name) none
          ∙ ap (λ (k : Node). cond (is_at (name_cmp k.name) q) None (under (m ∷ ms) live q)) same
      by false e others apart none =
          ap (cond (is_at (name_cmp q) m.name) (Some (own_content live m))) (others e)
          ∙ swapped (is_at (name_cmp n.name) q) (is_at (name_cmp q) m.name) None (Some (own_content live m)) (under ms live q) (both_names n.name m.name q (apart e))

  moved_by : (a b c : Bool) (x y z : Option (List ℕ)) → a ≡ b → (b ≡ true → z ≡ None) → cond c x z ≡ cond c x (cond b None (cond a y z))
  moved_by a b true x y z e none = refl
  moved_by a b false x y z e none = gone_by a b y z e none

  renamed_under : (name : List ℕ) (front nodes : List Node) (q : List ℕ) → AreNodes l next front nodes → find (has_id id) nodes ≡ Some n → list_any (has_name name) nodes ≡ false
      → under (with_node id (with_name name) nodes) live q ≡ cond (is_at (name_cmp name) q) (Some (own_content live n)) (cond (is_at (name_cmp n.name) q) None (under nodes live q))
  renamed_under name front [] q h is free = absurd cc
  renamed_under name front (m ∷ ms) q h is free =
      let both = or_parts (has_name name m) (list_any (has_name name) ms) free in
      by (has_id id m) is (λ later. renamed_under name (front ++ m ∷ []) ms q h.4 later both.1) (λ later. not_before l next front m ms id n h later) (none_behind front m ms q h) both.0
    where
      by : (b : Bool) → cond b (Some m) (find (has_id id) ms) ≡ Some n
          → (find (has_id id) ms ≡ Some n → under (with_node id (with_name name) ms) live q ≡ cond (is_at (name_cmp name) q) (Some (own_content live n)) (cond (is_at (name_cmp n.name) q) None (under ms live q)))
          → (find (has_id id) ms ≡ Some n → has_name n.name m ≡ false) → (is_at (name_cmp m.name) q ≡ true → under ms live q ≡ None) → has_name name m ≡ false
          → under (cond b (with_name name m ∷ ms) (m ∷ with_node id (with_name name) ms)) live q ≡ cond (is_at (name_cmp name) q) (Some (own_content live n)) (cond (is_at (name_cmp n.name) q) None (under (m ∷ ms) live q))
      by true e others apart none new =
          let same : m ≡ n = cc in
          ap (λ (b : Bool). cond b (Some (own_content live m)) (under ms live q)) (turned_test q name)
          ∙ moved_by (is_at (name_cmp q) m.name) (is_at (name_cmp m.name) q) (is_at (name_cmp name) q) (Some (own_content live m)) (Some (own_content live m)) (under ms live q) (turned_test q m.name) none
          ∙ ap (λ (k : Node). cond (is_at (name_cmp name) q) (Some (own_content live k)) (cond (is_at (name_cmp k.name) q) None (under (m ∷ ms) live q))) same
      by false e others apart none new =
          ap (cond (is_at (name_cmp q) m.name) (Some (own_content live m))) (others e)
          ∙ swapped (is_at (name_cmp name) q) (is_at (name_cmp q) m.name) (Some (own_content live n)) (Some (own_content live m)) (cond (is_at (name_cmp n.name) q) None (under ms live q)) (both_names name m.name q new)
          ∙ ap (cond (is_at (name_cmp name) q) (Some (own_content live n)))
          (swapped (is_at (name_cmp n.name) q) (is_at (name_cmp q) m.name) None (Some (own_content live m)) (under ms live q) (both_names n.name m.name q (apart e)))

-- ---- the files after an edit

-- entries that have nothing at one name make a map without it
remove_named : (es fs : List (List ℕ × List ℕ)) (name : List ℕ) → ((q : List ℕ) → named fs q ≡ cond (is_at (name_cmp name) q) None (named es q)) → from_entries {R = name_cmp} fs ≡ remove (from_entries es) name
remove_named es fs name h = same_map name_total name_ties _ _ (λ q.
    get_named fs q ∙ h q ∙ ap (λ b. cond b None (named es q)) ((eq_by_cmp_equiv name_total).symm name q)
    ∙ sym (get-remove name_total (from_entries es) name q ∙ ap (cond (is_at (name_cmp q) name) None) (get_named es q)))

-- a file whose name stays has other bytes
pub files_of-changed : (v : VolumeTable) (id : ℕ) (change : Node → Node) (live : List ℕ) (n : Node) → IsTable v → node_with v id ≡ Some n → ((m : Node) → (change m).name ≡ m.name)
    → files_of (record v { nodes = with_node id change v.nodes }) live ≡ insert (files_of v live) n.name (content_of v live (change n))
files_of-changed v id change live n h is names =
    plain_files (record v { nodes = with_node id change v.nodes }) live
    ∙ insert_named (map (entry live) v.nodes) (map (entry live) (with_node id change v.nodes)) n.name (own_content live (change n))
    (λ q. changed_under v.layout v.next_id id live n change names [] v.nodes q h.nodes is)
    ∙ ap₂ (λ (m : Files) (bytes : List ℕ). insert m n.name bytes) (sym (plain_files v live)) (sym (content_of-plain v live (change n)))

kept_entries : (id : ℕ) (change : Node → Node) (live : List ℕ) (nodes : List Node) → ((m : Node) → (change m).name ≡ m.name) → IfThere (find (has_id id) nodes) (λ n. own_content live (change n) ≡ own_content live n)
    → map (entry live) (with_node id change nodes) ≡ map (entry live) nodes
kept_entries id change live [] names same = refl
kept_entries id change live (n ∷ ns) names same =
    elim (has_id id n) as (λ b. IfThere (cond b (Some n) (find (has_id id) ns)) (λ m. own_content live (change m) ≡ own_content live m) → map (entry live) (cond b (change n ∷ ns) (n ∷ with_node id change ns)) ≡ map (entry live) (n ∷ ns)) [
      | true ↦ λ here. ap₂ (λ (name bytes : List ℕ). (name, bytes) ∷ map (entry live) ns) (names n) here
      | false ↦ λ there. ap (λ (es : List (List ℕ × List ℕ)). entry live n ∷ es) (kept_entries id change live ns names there)
    ] same

-- a file that keeps its name and its bytes
pub files_of-kept : (v : VolumeTable) (id : ℕ) (change : Node → Node) (live : List ℕ) → ((m : Node) → (change m).name ≡ m.name) → IfThere (node_with v id) (λ n. own_content live (change n) ≡ own_content live n)
    → files_of (record v { nodes = with_node id change v.nodes }) live ≡ files_of v live
files_of-kept v id change live names same =
    plain_files (record v { nodes = with_node id change v.nodes }) live ∙ ap (from_entries {R = name_cmp}) (kept_entries id change live v.nodes names same) ∙ sym (plain_files v live)

made_under : (nodes : List Node) (n : Node) (live q : List ℕ) → list_any (has_name n.name) nodes ≡ false
    → under (nodes ++ n ∷ []) live q ≡ cond (is_at (name_cmp n.name) q) (Some (own_content live n)) (under nodes live q)
made_under [] n live q free = ap (λ (b : Bool). cond b (Some (own_content live n)) None) (turned_test q n.name)
made_under (m ∷ ms) n live q free =
    ap (cond (is_at (name_cmp q) m.name) (Some (own_content live m))) (made_under ms n live q (or_parts (has_name n.name m) _ free).1)
    ∙ swapped (is_at (name_cmp n.name) q) (is_at (name_cmp q) m.name) (Some (own_content live n)) (Some (own_content live m)) (under ms live q) (both_names n.name m.name q (or_parts (has_name n.name m) _ free).0)

-- a file that is added under a new name
pub files_of-made : (v : VolumeTable) (n : Node) (next : ℕ) (live : List ℕ) → list_any (has_name n.name) v.nodes ≡ false
    → files_of (record v { next_id = next; nodes = v.nodes ++ n ∷ [] }) live ≡ insert (files_of v live) n.name (content_of v live n)
files_of-made v n next live free =
    plain_files (record v { next_id = next; nodes = v.nodes ++ n ∷ [] }) live
    ∙ insert_named (map (entry live) v.nodes) (map (entry live) (v.nodes ++ n ∷ [])) n.name (own_content live n) (λ q. made_under v.nodes n live q free)
    ∙ ap₂ (λ (m : Files) (bytes : List ℕ). insert m n.name bytes) (sym (plain_files v live)) (sym (content_of-plain v live n))

-- a new file has no bytes
pub files_of-make : (v : VolumeTable) (id : ℕ) (kind : NodeKind) (name live : List ℕ) → MayMake v id kind name → files_of (edited v (edit.Make id kind name)) live ≡ insert (files_of v live) name []
files_of-make v id kind name live may =
    files_of-made v (made id kind name) (id + 1) live may.free ∙ ap (λ (bytes : List ℕ). insert (files_of v live) name bytes) (content_of-plain v live (made id kind name))

pub files_of-drop : (v : VolumeTable) (id : ℕ) (live : List ℕ) (n : Node) → IsTable v → node_with v id ≡ Some n → files_of (edited v (edit.Drop id)) live ≡ remove (files_of v live) n.name
files_of-drop v id live n h is =
    plain_files (edited v (edit.Drop id)) live
    ∙ remove_named (map (entry live) v.nodes) (map (entry live) (without_node id v.nodes)) n.name (λ q. dropped_under v.layout v.next_id id live n [] v.nodes q h.nodes is)
    ∙ ap (λ (m : Files). remove m n.name) (sym (plain_files v live))

-- a file's bytes stand under its new name, and none under the old one
pub files_of-rename : (v : VolumeTable) (id : ℕ) (name live : List ℕ) (n : Node) → IsTable v → node_with v id ≡ Some n → MayRename v n name
    → files_of (edited v (edit.Rename id name)) live ≡ insert (remove (files_of v live) n.name) name (content_of v live n)
files_of-rename v id name live n h is may =
    plain_files (edited v (edit.Rename id name)) live
    ∙ same_map name_total name_ties _ _ (λ q.
    get_named (map (entry live) (with_node id (with_name name) v.nodes)) q
    ∙ renamed_under v.layout v.next_id id live n name [] v.nodes q h.nodes is may.free
    ∙ ap₂ (λ (a b : Bool). cond a (Some (own_content live n)) (cond b None (under v.nodes live q))) ((eq_by_cmp_equiv name_total).symm name q) ((eq_by_cmp_equiv name_total).symm n.name q)
    ∙ sym (get-insert name_total (remove (from_entries (map (entry live) v.nodes)) n.name) name (own_content live n) q
    ∙ ap (cond (is_at (name_cmp q) name) (Some (own_content live n)))
    (get-remove name_total (from_entries (map (entry live) v.nodes)) n.name q ∙ ap (cond (is_at (name_cmp q) n.name) None) (get_named (map (entry live) v.nodes) q))))
    ∙ ap₂ (λ (m : Files) (bytes : List ℕ). insert (remove m n.name) name bytes) (sym (plain_files v live)) (sym (content_of-plain v live n))

-- a version changes no bytes
pub files_of-version : (v : VolumeTable) (id version : ℕ) (live : List ℕ) → MayEdit v (edit.Version id version) → files_of (edited v (edit.Version id version)) live ≡ files_of v live
files_of-version v id version live may = files_of-kept v id (with_version version) live (λ m. refl) (any_there (node_with v id) _ (λ n. refl) may)
  where
    any_there : (o : Option Node) (P : Node → Type 0) → {Q : Node → Type 0} → ((n : Node) → Q n) → IfThere o P → IfThere o Q
    any_there None P f h = absurd h
    any_there (Some n) P f h = f n
