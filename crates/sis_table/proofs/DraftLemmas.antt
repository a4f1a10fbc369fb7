-- Drafts through edits.
use Rattle.std.proofs.Common.{◌≡◌, ℕ, suc, ◌+◌, ◌-◌, ◌<◌, ◌≤◌, ◌^◌, Bool, true, false, cond, List, [], ◌∷◌, ◌++◌, add-one, drop, find, get_or, length, sum_by, Option, None, Some, IsSome, refl, sym, ap, subst, ◌∙◌, arith}
use Rattle.std.specs.List.{AllByRecursion, list_any}
use Rattle.std.specs.Option.{option_or}
use Rattle.std.specs.FinMap.{FinMap, empty}
use Rattle.std.specs.Ordering.{nat_cmp, eq_by_cmp}
use Rattle.std.specs.declared.cmp.Ordering.{Ordering}
use Rattle.std.proofs.lemmas.Grind.{common_steps}
use Rattle.std.proofs.lemmas.List.Sums.{sum_by_push}
use Rattle.std.proofs.Math.Seq.{drop-cons}
use Rattle.sis_disk.specs.declared.layout.Layout.{Layout}
use Rattle.sis_name.specs.Name.{IsName}
use Rattle.sis_name.specs.Units.{name_cmp}
use Rattle.sis_table.specs.declared.draft.Draft.{Draft}
use Rattle.sis_table.specs.declared.node.Node.{Node}
use Rattle.sis_table.specs.declared.trees.Changes.{Changes}
use Rattle.sis_table.specs.Drafts.{Drafts, HaveOwnNames, KeepsPlace, Lacks, LacksNamed, Stands, file_at, owner_of}
use Rattle.sis_table.specs.Edits.{IfThere, MayEdit, MayEditBy, MayMake, edited, edited_by, made, with_name, with_node, without_node}
use Rattle.sis_table.specs.Inside.{Notes, used_by_all}
use Rattle.sis_table.specs.Uses.{IsDataUse, used_after}
use Rattle.sis_table.specs.declared.edit.Edit.{Edit}
use Rattle.sis_table.specs.declared.edit.Edit.TheVariants as edit
use Rattle.sis_table.specs.declared.kind.NodeKind.{NodeKind}
use Rattle.sis_table.specs.declared.place_use.PlaceUse.{PlaceUse}
use Rattle.sis_table.specs.Index.{AreRising}
use Rattle.sis_table.specs.Spelling.{IsMeasured, IsShort, node_len, spelling}
use Rattle.sis_table.specs.Trees.{Leads, put_at}
use Rattle.sis_table.specs.Volume.{VolumeTable, IsNode, IsTable, has_name, id_of, last_id}
use Rattle.sis_table.proofs.ChangeLemmas.{own_names, file_pushed, file_with, file_without, found_all, found_id, owner_pushed, owner_renamed, owner_with, owner_without, rising_nodes, rising_with, rising_without, short_pushed, short_with, short_without, sum_without}
use Rattle.sis_table.proofs.EditLemmas.{IsNode-made, IsTable-edited, all_nodes, has_id, measured_small, rises_make}
use Rattle.sis_table.proofs.FileLemmas.{rising_push, sum-with_node}
use Rattle.sis_table.proofs.Lengths.{IsShort-IsNode, all_short, length_name, length-spelling}

-- ---- changes of a tree

-- they lead to what has the same at each key
leads_same : {K X : Type 0} (R : K → K → Ordering) (c : Changes K X) (base now other : K → Option X) → ((q : K) → other q ≡ now q) → Leads R c base now → Leads R c base other
leads_same R c base now other same h = record { added = h.added; touched = h.touched; told = λ q. same q ∙ h.told q }

-- the last value that is put stays
put_again : {X : Type 0} (b : Bool) (v w x : Option X) → cond b v (cond b w x) ≡ cond b v x
put_again true v w x = refl
put_again false v w x = refl

pub same_file : (base nodes others : List Node) (d : Draft) (id : ℕ) → Stands base d nodes → Stands base d others → file_at nodes id ≡ file_at others id
same_file base nodes others d id h k = h.leads.files.told id ∙ sym (k.leads.files.told id)

-- ---- a file is made

pub made_stands : (base nodes : List Node) (d e : Draft) (n : Node) → Stands base d nodes → last_id nodes < n.id → list_any (has_name n.name) nodes ≡ false → IsShort n
    → Leads nat_cmp e.nodes (file_at base) (put_at nat_cmp n.id (Some n) (file_at nodes)) → Leads name_cmp e.names (owner_of base) (put_at name_cmp n.name (Some n.id) (owner_of nodes))
    → e.text_len ≡ d.text_len + node_len n → Stands base e (nodes ++ n ∷ [])
made_stands base nodes d e n h lt free one files owners longer = record {
  rising = rising_push nodes n h.rising lt;
  short = short_pushed nodes n h.short one;
  leads = record {
    files = leads_same nat_cmp e.nodes (file_at base) (put_at nat_cmp n.id (Some n) (file_at nodes)) (file_at (nodes ++ n ∷ [])) (file_pushed nodes n h.rising lt) files;
    owners = leads_same name_cmp e.names (owner_of base) (put_at name_cmp n.name (Some n.id) (owner_of nodes)) (owner_of (nodes ++ n ∷ [])) (owner_pushed nodes n free) owners;
  };
  len = omega (arith, longer, h.len, sum_by_push node_len nodes n);
}

-- ---- a file is taken out

-- what is found there is a file, and its text is in the length
pub record Found (d : Draft) (id : ℕ) (n : Node) : Type 0 where
  pub id_is : n.id ≡ id
  pub short : IsShort n
  pub fits : node_len n ≤ d.text_len

pub found_there : (base nodes : List Node) (d : Draft) (id : ℕ) (n : Node) → Stands base d nodes → file_at nodes id ≡ Some n → Found d id n
found_there base nodes d id n h is = record {
  id_is = found_id id nodes n is;
  short = found_all IsShort (has_id id) nodes n h.short is;
  fits = omega (arith, h.len, sum_without id nodes n is);
}

pub lacks_short : (base nodes : List Node) (d : Draft) (n : Node) → Lacks base d nodes n → IsShort n
lacks_short base nodes d n h = found_all IsShort (has_id n.id) nodes n h.short h.there

pub short_there : (base nodes : List Node) (d : Draft) (n : Node) (id : ℕ) (change : Node → Node) → Lacks base d nodes n → n.id ≡ id → IfThere (file_at nodes id) (λ m. IsShort (change m)) → IsShort (change n)
short_there base nodes d n id change h at there =
    subst (λ (o : Option Node). IfThere o (λ m. IsShort (change m))) (ap (file_at nodes) (sym at) ∙ h.there) there

-- a file that the changes have, or that they don't
pub taken_is : (base nodes : List Node) (d : Draft) (id : ℕ) (taken : Option Node) (n : Node) → Stands base d nodes → IsSome (file_at nodes id)
    → ((before now : ℕ → Option Node) → Leads nat_cmp d.nodes before now → IsSome (now id) → now id ≡ option_or taken (before id)) → taken ≡ Some n → file_at nodes id ≡ Some n
taken_is base nodes d id taken n h some value is = value (file_at base) (file_at nodes) h.leads.files some ∙ ap (λ (o : Option Node). option_or o (file_at base id)) is

pub untaken_is : (base nodes : List Node) (d : Draft) (id : ℕ) (taken : Option Node) → Stands base d nodes → IsSome (file_at nodes id)
    → ((before now : ℕ → Option Node) → Leads nat_cmp d.nodes before now → IsSome (now id) → now id ≡ option_or taken (before id)) → taken ≡ None → file_at nodes id ≡ file_at base id
untaken_is base nodes d id taken h some value is = value (file_at base) (file_at nodes) h.leads.files some ∙ ap (λ (o : Option Node). option_or o (file_at base id)) is

module _ (base nodes : List Node) (d : Draft) (id : ℕ) (n : Node) (by_id : Changes ℕ Node) (len : ℕ) (h : Stands base d nodes) (is : file_at nodes id ≡ Some n) (counted : len ≡ node_len n)
    (rest : (before now : ℕ → Option Node) → Leads nat_cmp d.nodes before now → Leads nat_cmp by_id before (put_at nat_cmp id (before id) now)) where
  pub taken_lacks : (n.id ≡ id) × Lacks base (record d { text_len = d.text_len - len; nodes = by_id }) nodes n
  taken_lacks =
      let found = found_there base nodes d id n h is in (
        found.id_is,
        record {
          there = ap (file_at nodes) found.id_is ∙ is;
          rising = h.rising;
          short = h.short;
          files = subst (λ (k : ℕ). Leads nat_cmp by_id (file_at base) (put_at nat_cmp k (file_at base k) (file_at nodes))) (sym found.id_is) (rest (file_at base) (file_at nodes) h.leads.files);
          owners = h.leads.owners;
          len = omega (arith, h.len, found.fits, counted);
        },
      )

  pub taken_named : (name : List ℕ) → name ≡ n.name → LacksNamed base (record d { text_len = d.text_len - len; nodes = by_id }) nodes id name
  taken_named name named = record { node = n; id_is = taken_lacks.0; name_is = sym named; lacks = taken_lacks.1 }

-- ---- and put back

pub put_back_stands : (base nodes : List Node) (d : Draft) (n taken : Node) (change : Node → Node) (by_id : Changes ℕ Node) (len : ℕ) → Lacks base d nodes taken → KeepsPlace change → n ≡ change taken → IsShort n → len ≡ node_len n
    → ((now : ℕ → Option Node) → Leads nat_cmp d.nodes (file_at base) now → Leads nat_cmp by_id (file_at base) (put_at nat_cmp n.id (Some n) now))
    → Stands base (record d { text_len = d.text_len + len; nodes = by_id }) (with_node n.id change nodes)
put_back_stands base nodes d n taken change by_id len h keeps is one counted put =
    let at : taken.id ≡ n.id = sym (ap id_of is ∙ keeps.id taken) in
    let there : file_at nodes n.id ≡ Some taken = ap (file_at nodes) (sym at) ∙ h.there in
    let same : (q : ℕ) → file_at (with_node n.id change nodes) q ≡ put_at nat_cmp n.id (Some n) (put_at nat_cmp taken.id (file_at base taken.id) (file_at nodes)) q = λ q.
    file_with n.id change nodes taken keeps.id there q
    ∙ ap (λ (m : Node). put_at nat_cmp n.id (Some m) (file_at nodes) q) (sym is)
    ∙ sym (put_again (eq_by_cmp nat_cmp n.id q) (Some n) (file_at base n.id) (file_at nodes q))
    ∙ ap (λ (k : ℕ). put_at nat_cmp n.id (Some n) (put_at nat_cmp k (file_at base k) (file_at nodes)) q) (sym at) in
    record {
      rising = rising_with n.id change nodes keeps.id h.rising;
      short = short_with n.id change nodes taken there h.short (subst IsShort is one);
      leads = record {
        files = leads_same nat_cmp by_id (file_at base) (put_at nat_cmp n.id (Some n) (put_at nat_cmp taken.id (file_at base taken.id) (file_at nodes))) (file_at (with_node n.id change nodes)) same
            (put (put_at nat_cmp taken.id (file_at base taken.id) (file_at nodes)) h.files);
        owners = leads_same name_cmp d.names (owner_of base) (owner_of nodes) (owner_of (with_node n.id change nodes)) (owner_with n.id change nodes keeps.id keeps.name) h.owners;
      };
      len = omega (arith, counted, h.len, sum-with_node n.id change nodes taken there, ap node_len is);
    }

-- ---- a file gets another name

pub short_named : (base nodes : List Node) (d : Draft) (n : Node) (name : List ℕ) → Lacks base d nodes n → IsName name → IsShort (with_name name n)
short_named base nodes d n name h is_name = record { name = length_name name is_name; runs = (lacks_short base nodes d n h).runs }

pub renamed_stands : (base nodes : List Node) (d e : Draft) (n : Node) (id : ℕ) (name : List ℕ) → Lacks base d nodes n → n.id ≡ id → HaveOwnNames nodes → list_any (has_name name) nodes ≡ false → IsShort (with_name name n)
    → ((now : ℕ → Option Node) → Leads nat_cmp d.nodes (file_at base) now → Leads nat_cmp e.nodes (file_at base) (put_at nat_cmp id (Some (with_name name n)) now))
    → Leads name_cmp e.names (owner_of base) (put_at name_cmp name (Some id) (put_at name_cmp n.name None (owner_of nodes)))
    → e.text_len ≡ d.text_len + node_len (with_name name n) → Stands base e (with_node id (with_name name) nodes)
renamed_stands base nodes d e n id name h at own free one put owners longer =
    let there : file_at nodes id ≡ Some n = ap (file_at nodes) (sym at) ∙ h.there in
    let same : (q : ℕ) → file_at (with_node id (with_name name) nodes) q ≡ put_at nat_cmp id (Some (with_name name n)) (put_at nat_cmp n.id (file_at base n.id) (file_at nodes)) q = λ q.
    file_with id (with_name name) nodes n (λ m. refl) there q
    ∙ sym (put_again (eq_by_cmp nat_cmp id q) (Some (with_name name n)) (file_at base id) (file_at nodes q))
    ∙ ap (λ (k : ℕ). put_at nat_cmp id (Some (with_name name n)) (put_at nat_cmp k (file_at base k) (file_at nodes)) q) (sym at) in
    record {
      rising = rising_with id (with_name name) nodes (λ m. refl) h.rising;
      short = short_with id (with_name name) nodes n there h.short one;
      leads = record {
        files = leads_same nat_cmp e.nodes (file_at base) (put_at nat_cmp id (Some (with_name name n)) (put_at nat_cmp n.id (file_at base n.id) (file_at nodes))) (file_at (with_node id (with_name name) nodes)) same
            (put (put_at nat_cmp n.id (file_at base n.id) (file_at nodes)) h.files);
        owners = leads_same name_cmp e.names (owner_of base) (put_at name_cmp name (Some id) (put_at name_cmp n.name None (owner_of nodes))) (owner_of (with_node id (with_name name) nodes)) (owner_renamed id name nodes n own free there) owners;
      };
      len = omega (arith, longer, h.len, sum-with_node id (with_name name) nodes n there);
    }

-- ---- a file is dropped

pub dropped_stands : (base nodes : List Node) (d e : Draft) (id : ℕ) (name : List ℕ) → LacksNamed base d nodes id name → HaveOwnNames nodes
    → ((now : ℕ → Option Node) → Leads nat_cmp d.nodes (file_at base) now → Leads nat_cmp e.nodes (file_at base) (put_at nat_cmp id None now))
    → Leads name_cmp e.names (owner_of base) (put_at name_cmp name None (owner_of nodes))
    → e.text_len ≡ d.text_len → Stands base e (without_node id nodes)
dropped_stands base nodes d e id name l own put owners len =
    let n = l.node in
    let h = l.lacks in
    let there : file_at nodes id ≡ Some n = ap (file_at nodes) (sym l.id_is) ∙ h.there in
    let same : (q : ℕ) → file_at (without_node id nodes) q ≡ put_at nat_cmp id None (put_at nat_cmp n.id (file_at base n.id) (file_at nodes)) q = λ q.
    file_without id nodes h.rising q
    ∙ sym (put_again (eq_by_cmp nat_cmp id q) None (file_at base id) (file_at nodes q))
    ∙ ap (λ (k : ℕ). put_at nat_cmp id None (put_at nat_cmp k (file_at base k) (file_at nodes)) q) (sym l.id_is) in
    record {
      rising = rising_without id nodes h.rising;
      short = short_without id nodes h.short;
      leads = record {
        files = leads_same nat_cmp e.nodes (file_at base) (put_at nat_cmp id None (put_at nat_cmp n.id (file_at base n.id) (file_at nodes))) (file_at (without_node id nodes)) same
            (put (put_at nat_cmp n.id (file_at base n.id) (file_at nodes)) h.files);
        owners = leads_same name_cmp e.names (owner_of base) (put_at name_cmp name None (owner_of nodes)) (owner_of (without_node id nodes))
            (λ q. owner_without id nodes n own there q ∙ ap (λ (units : List ℕ). put_at name_cmp units None (owner_of nodes) q) l.name_is) owners;
      };
      len = omega (arith, len, h.len, sum_without id nodes n there);
    }

-- ---- tables

pub drafts_small : (v now : VolumeTable) (d : Draft) → Drafts v d now → d.text_len ≤ 2 ^ 62
drafts_small v now d h =
    let small = measured_small now d.text_len (record { table = h.table; measure = h.stands.len ∙ sym (length-spelling now) }) in
    omega (arith, small)

-- a table as the code makes it
pub drafts_is : (v now : VolumeTable) (d : Draft) (nodes : List Node) → Drafts v d now → nodes ≡ now.nodes → record v { next_id = d.next_id; nodes = nodes } ≡ now
drafts_is v now d nodes h is = λ i. record { layout = sym h.layout i; next_id = h.next i; greatest = sym h.greatest i; nodes = is i }

pub drafts_measured : (v now : VolumeTable) (d : Draft) (nodes : List Node) → Drafts v d now → nodes ≡ now.nodes → IsMeasured (record v { next_id = d.next_id; nodes = nodes }) d.text_len
drafts_measured v now d nodes h is =
    subst (λ (w : VolumeTable). IsMeasured w d.text_len) (sym (drafts_is v now d nodes h is)) (record { table = h.table; measure = h.stands.len ∙ sym (length-spelling now) })

pub drafts_len : (v now : VolumeTable) (d : Draft) → Drafts v d now → d.text_len ≡ length (spelling now)
drafts_len v now d h = h.stands.len ∙ sym (length-spelling now)

pub drafts_none : (v now : VolumeTable) (d : Draft) (len : ℕ) → v ≡ now → IsMeasured v len
    → ((nodes : List Node) → AreRising nodes → AllByRecursion IsShort nodes → len ≡ 20 + sum_by node_len nodes → Stands nodes d nodes) → d.next_id ≡ v.next_id → Drafts now d now
drafts_none v now d len same h stands next = subst (λ (w : VolumeTable). Drafts w d w) same (record {
  table = h.table;
  layout = refl;
  greatest = refl;
  next = next;
  stands = stands v.nodes (rising_nodes v.layout v.next_id [] v.nodes h.table.nodes) (all_short v.layout v.next_id [] v.nodes h.table.nodes) (h.measure ∙ length-spelling v);
})

-- the table as the code has it, and as callers see it
module _ (inside v now : VolumeTable) (same : inside ≡ v) (d : Draft) (h : Drafts v d now) where
  pub drafts_inside : Drafts inside d now
  drafts_inside = subst (λ (w : VolumeTable). Drafts w d now) (sym same) h

  pub drafts_made : (e : Draft) (id : ℕ) (kind : NodeKind) (name : List ℕ) (n : Node) → MayMake now id kind name → n ≡ made id kind name
      → ((nodes : List Node) → Stands inside.nodes d nodes → last_id nodes < n.id → list_any (has_name n.name) nodes ≡ false → Stands inside.nodes e (nodes ++ n ∷ [])) → e.next_id ≡ n.id + 1
      → Drafts v e (edited now (edit.Make id kind name))
  drafts_made e id kind name n may is stands next = subst (λ (w : VolumeTable). Drafts w e (edited now (edit.Make id kind name))) same (record {
    table = IsTable-edited now (edit.Make id kind name) h.table may;
    layout = drafts_inside.layout;
    greatest = drafts_inside.greatest;
    next = next ∙ ap (λ (m : Node). m.id + 1) is;
    stands = subst (λ (m : Node). Stands inside.nodes e (now.nodes ++ m ∷ [])) is
        (stands now.nodes drafts_inside.stands (subst (λ (m : Node). last_id now.nodes < m.id) (sym is) (rises_make now id h.table may.fresh))
        (subst (λ (m : Node). list_any (has_name m.name) now.nodes ≡ false) (sym is) may.free));
  })

  drafts_nodes : (e : Draft) (nodes : List Node) → IsTable (record now { nodes = nodes }) → e.next_id ≡ d.next_id → (Stands inside.nodes d now.nodes → Stands inside.nodes e nodes) → Drafts v e (record now { nodes = nodes })
  drafts_nodes e nodes table next stands = subst (λ (w : VolumeTable). Drafts w e (record now { nodes = nodes })) same (record {
    table = table;
    layout = drafts_inside.layout;
    greatest = drafts_inside.greatest;
    next = next ∙ h.next;
    stands = stands drafts_inside.stands;
  })

  -- an edit that changes one file
  pub drafts_edited : (e : Draft) (x : Edit) (nodes : List Node) → MayEdit now x → edited now x ≡ record now { nodes = nodes } → e.next_id ≡ d.next_id
      → (Stands inside.nodes d now.nodes → Stands inside.nodes e nodes) → Drafts v e (edited now x)
  drafts_edited e x nodes may is next stands = subst (Drafts v e) (sym is) (drafts_nodes e nodes (subst IsTable is (IsTable-edited now x h.table may)) next stands)

  pub drafts_own : HaveOwnNames now.nodes
  drafts_own = own_names now.layout now.next_id [] now.nodes h.table.nodes

-- a new file keeps its limits, so its counts keep theirs
pub made_short : (now : VolumeTable) (id : ℕ) (kind : NodeKind) (name copy : List ℕ) (m : FinMap nat_cmp ℕ) → MayMake now id kind name → copy ≡ name → m ≡ empty → IsShort (record { id = id; name = copy; kind = kind; size = 0; version = 1; map = m })
made_short now id kind name copy m may named none =
    subst (λ (units : List ℕ). IsShort (record { id = id; name = units; kind = kind; size = 0; version = 1; map = m })) (sym named)
    (subst (λ (n : FinMap nat_cmp ℕ). IsShort (record { id = id; name = name; kind = kind; size = 0; version = 1; map = n })) (sym none)
    (IsShort-IsNode now.layout (made id kind name) (IsNode-made now.layout now id kind name may)))

-- and so does a file that an edit changes
found_short : (l : Layout) (id : ℕ) (change : Node → Node) (nodes : List Node) (P : Node → Type 0) → ((n : Node) → (change n).id ≡ n.id) → IfThere (file_at nodes id) P → AllByRecursion (IsNode l) (with_node id change nodes)
    → IfThere (file_at nodes id) (λ n. IsShort (change n))
found_short l id change [] P ids there all = there
found_short l id change (n ∷ ns) P ids there all =
    elim (has_id id n) as (λ b. IfThere (cond b (Some n) (find (has_id id) ns)) P → AllByRecursion (IsNode l) (cond b (change n ∷ ns) (n ∷ with_node id change ns)) → IfThere (cond b (Some n) (find (has_id id) ns)) (λ m. IsShort (change m))) [
      | true ↦ λ here each. IsShort-IsNode l (change n) each.0
      | false ↦ λ later each. found_short l id change ns P ids later each.1
    ] there all

pub changed_short : (now : VolumeTable) (id : ℕ) (change : Node → Node) (P : Node → Type 0) → ((n : Node) → (change n).id ≡ n.id) → IfThere (file_at now.nodes id) P → IsTable (record now { nodes = with_node id change now.nodes })
    → IfThere (file_at now.nodes id) (λ n. IsShort (change n))
changed_short now id change P ids there h =
    found_short now.layout id change now.nodes P ids there (all_nodes now.layout now.next_id [] (with_node id change now.nodes) h.nodes)

-- ---- edits in order

-- a draft of the first edits, with what was noted of them, and those that are left
pub record Drafting (v : VolumeTable) (d : Draft) (edits : List Edit) (uses : List PlaceUse) (i : ℕ) : Type 0 where
  pub now : VolumeTable
  pub drafts : Drafts v d now
  pub may : MayEditBy now (drop i edits)
  pub told : edited_by now (drop i edits) ≡ edited_by v edits
  pub noted : (place : ℕ) (before : Bool) → used_by_all now (drop i edits) place (used_after uses place before) ≡ used_by_all v edits place before
  pub places : AllByRecursion (IsDataUse v.layout) uses

module _ (v : VolumeTable) (d : Draft) (edits : List Edit) (uses : List PlaceUse) (i : ℕ) (h : Drafting v d edits uses i) where
  next_edit : (e : Edit) → i < length edits → e ≡ get_or edits i e → drop i edits ≡ e ∷ drop (i + 1) edits
  next_edit e lt is = drop-cons edits i e lt ∙ ap (λ (x : Edit). x ∷ drop (suc i) edits) (sym is) ∙ ap (λ k. e ∷ drop k edits) (sym (add-one i))

  pub may_next : (e : Edit) → i < length edits → e ≡ get_or edits i e → MayEdit h.now e × MayEditBy (edited h.now e) (drop (i + 1) edits)
  may_next e lt is = subst (MayEditBy h.now) (next_edit e lt is) h.may

  -- one more edit
  pub drafting_more : (e : Edit) (f : Draft) (more : List PlaceUse) → i < length edits → e ≡ get_or edits i e → Notes h.now e uses more → Drafts v f (edited h.now e) → Drafting v f edits more (i + 1)
  drafting_more e f more lt is notes drafts = record {
    now = edited h.now e;
    drafts = drafts;
    may = (may_next e lt is).1;
    told = sym (ap (edited_by h.now) (next_edit e lt is)) ∙ h.told;
    noted = λ place before.
        ap (used_by_all (edited h.now e) (drop (i + 1) edits) place) (notes.told place before)
        ∙ sym (ap (λ (es : List Edit). used_by_all h.now es place (used_after uses place before)) (next_edit e lt is)) ∙ h.noted place before;
    places = subst (λ (l : Layout). AllByRecursion (IsDataUse l) more) h.drafts.layout
        (notes.places (subst (λ (l : Layout). AllByRecursion (IsDataUse l) uses) (sym h.drafts.layout) h.places));
  }

  -- the end
  module _ (le : length edits ≤ i) where
    none_left : drop i edits ≡ []
    none_left = grind (arith, common_steps)

    pub drafting_all : Drafts v d (edited_by v edits)
    drafting_all = subst (Drafts v d) (sym (ap (edited_by h.now) none_left) ∙ h.told) h.drafts

    pub noted_all : (place : ℕ) (before : Bool) → used_after uses place before ≡ used_by_all v edits place before
    noted_all place before = sym (ap (λ (es : List Edit). used_by_all h.now es place (used_after uses place before)) none_left) ∙ h.noted place before
