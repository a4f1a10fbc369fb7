-- What a commit leaves: at every moment the committed table or the current one, and then the latter.
use Rattle.std.proofs.Common.{◌≡◌, ◌⊎◌, inl, inr, ℕ, ◌+◌, ◌-◌, ◌*◌, ◌≤◌, Bool, false, not, List, [], length, drop, take, Option, Some, None, refl, sym, ap, ap₂, ◌∙◌, subst, arith}
use Rattle.std.specs.Prelude.{IfSome, slice_range}
use Rattle.std.specs.Option.{option_map}
use Rattle.std.proofs.lemmas.List.{drop-drop}
use Rattle.sis_disk.specs.declared.layout.Layout.{Layout}
use Rattle.sis_disk.specs.Layout.{first_byte, first_place, table_cap}
use Rattle.sis_disk.specs.Record.{DiskRecord, Seen, State, is_loose, live_bytes, live_of, state_of}
use Rattle.sis_disk.specs.Stops.{IsFirm, Leaves, Now, Shows}
use Rattle.sis_disk.proofs.Images.{leaves_weaker}
use Rattle.sis_journal.specs.Committing.{Both, KeepsRest}
use Rattle.sis_journal.specs.Texts.{HoldsText, KeepsData, KeepsText, OldOrNew, made_stable}
use Rattle.sis_journal.specs.View.{JournalView}
use Rattle.sis_places.specs.Places.{PlacesView, after_commit}
use Rattle.sis_table.specs.Content.{files_of}
use Rattle.sis_name.specs.Files.{Files}
use Rattle.sis_table.specs.Good.{IsGood}
use Rattle.sis_table.specs.Image.{Holds}
use Rattle.sis_table.specs.Opens.{OpensAs}
use Rattle.sis_table.specs.Spelling.{spelling}
use Rattle.sis_table.specs.Volume.{VolumeTable, IsTable, used_places}
use Rattle.sis_table.proofs.CallerLemmas.{files_of-same}
use Rattle.sis_table.proofs.CallerLemmas.{is_used-between}
use Rattle.sis_volume.specs.Invariant.{HasCommitted, IsVolume, KeepsTable}
use Rattle.sis_volume.specs.Stopping.{IsCommitted, MayCommit, OnlyOpens, OpensTable}
use Rattle.sis_volume.specs.View.{VolumeView}
use Rattle.sis_volume.proofs.Fronts.{files-data, kept-opens, text-holds, text-opens, text-read}
use Rattle.sis_volume.proofs.Staged.{leaves_none}
use Rattle.sis_volume.proofs.Volumes.{live_is_image, now_of, one_reading}

-- nothing is loose, so what is mapped isn't
pub firm-none : (s : State) (at n : ℕ) → s.loose ≡ [] → IsFirm s.loose at n
firm-none s at n none i ge lt = ap (λ (ranges : List (ℕ × ℕ)). is_loose ranges i) none

pub keeps-stable : (second : Bool) (v : VolumeTable) (s : State) → KeepsText v.layout second (spelling v) s → s.loose ≡ [] → KeepsTable second v s
keeps-stable second v s keeps none = record { text = keeps; firm = λ place used. firm-none s (4096 * place) 4096 none }

-- each image of now opens as the committed table's files
pub opens-committed : (v : VolumeTable) (second : Bool) (bits : List Bool) (seen : Seen) (log : v.layout.log ≡ 0) → IsGood v → HasCommitted v second bits false seen → OpensTable v seen
opens-committed v second bits seen log good h r told =
    let same : h.committed ≡ v = h.same refl in
    let keeps : KeepsTable second v (state_of r) = subst (λ (c : VolumeTable). KeepsTable second c (state_of r)) same (h.stays r told) in
    let table : IsTable v = subst IsTable same h.table in
    now_of (Shows (OpensAs (files_of v (live_bytes r)))) seen r told (λ m image. kept-opens second v (state_of r) m table log good keeps image)

-- the live bytes hold it
pub live-committed : (v : VolumeTable) (second : Bool) (bits : List Bool) (seen : Seen) → HasCommitted v second bits false seen → IfSome (live_of seen) (λ live. Holds live v)
live-committed v second bits seen h = by_cases seen.told refl
  where
    keeps : (r : DiskRecord) → seen.told ≡ Some r → Holds (live_bytes r) v
    keeps r told =
        let same : h.committed ≡ v = h.same refl in
        subst (λ (c : VolumeTable). Holds (live_bytes r) c) same (text-holds h.committed (live_bytes r) h.table (let k = h.stays r told in k.text.holds))

    by_cases : (o : Option DiskRecord) → seen.told ≡ o → IfSome (live_of seen) (λ live. Holds live v)
    by_cases None e = subst (λ (o : Option DiskRecord). IfSome (option_map live_bytes o) (λ live. Holds live v)) (sym e) tt
    by_cases (Some r) e = subst (λ (o : Option DiskRecord). IfSome (option_map live_bytes o) (λ live. Holds live v)) (sym e) (keeps r e)

-- an image within a commit opens as the committed table's files or as the current one's
either_opens : (v c : VolumeTable) (second : Bool) (s : State) (files : Files) (m : List ℕ) → IsTable v → v.layout.log ≡ 0 → IsGood v → IsTable c → c.layout ≡ v.layout
    → KeepsTable second c s → OpensAs files s.live → OldOrNew c.layout (spelling c) (spelling v) s m → OpensAs files m ⊎ OpensAs (files_of v s.live) m
either_opens v c second s files m table log good c_table same keeps opens (inl old) =
    let c_log : c.layout.log ≡ 0 = ap (λ (l : Layout). l.log) same ∙ log in
    let is : opens.table ≡ c = one_reading s.live opens.table c opens.read (text-read c s.live c_table c_log keeps.text.holds) in
    inl (text-opens c m files c_table c_log (subst IsGood is opens.good) old.0
    (subst (λ (w : VolumeTable). files ≡ files_of w s.live) is opens.stands ∙ sym (files-data c s m c_table keeps.text.holds.size keeps.firm old.1)))
either_opens v c second s files m table log good c_table same keeps opens (inr new) =
    let size : length s.live ≡ 4096 * v.layout.total = keeps.text.holds.size ∙ ap (λ (l : Layout). 4096 * l.total) same in
    inr (text-opens v m (files_of v s.live) table log good (subst (λ (l : Layout). HoldsText l (spelling v) m) same new.0)
    (sym (files-data v (made_stable s) m table size (λ place used. firm-none (made_stable s) (4096 * place) 4096 refl) (subst (λ (l : Layout). KeepsData l (made_stable s) m) same new.1))))

-- so at every moment of a commit
pub may_commit : (v : VolumeTable) (l : Layout) (second is_changed : Bool) (bits : List Bool) (old new : Seen) → l ≡ v.layout → IsTable v → IsGood v → v.layout.log ≡ 0 → HasCommitted v second bits is_changed old
    → ((r : DiskRecord) (text : List ℕ) → old.told ≡ Some r → KeepsText l second text (state_of r) → Leaves (OldOrNew l text (spelling v) (state_of r)) old new)
    → MayCommit v old new
may_commit v l second is_changed bits old new is table good log h images files opens r told =
    let c = h.committed in
    let keeps = h.stays r told in
    let same : c.layout ≡ l = h.layout ∙ sym is in
    let text : KeepsText l second (spelling c) (state_of r) = subst (λ (x : Layout). KeepsText x second (spelling c) (state_of r)) same keeps.text in
    leaves_weaker (OldOrNew l (spelling c) (spelling v) (state_of r)) (λ m. OpensAs files m ⊎ OpensAs (files_of v (live_bytes r)) m) old new
    (λ m shown. either_opens v c second (state_of r) files m table log good h.table h.layout keeps (opens r told (live_bytes r) (live_is_image (state_of r)))
    (subst (λ (x : Layout). OldOrNew x (spelling c) (spelling v) (state_of r) m) (sym same) shown))
    (images r (spelling c) told text)

-- where no call is made
pub no_call : (seen : Seen) → OnlyOpens seen seen
no_call seen files opens = record { told = leaves_none (OpensAs files) seen.told opens }

pub no_commit : (v : VolumeTable) (old : Seen) → MayCommit v old old
no_commit v old files opens r told = record { told = leaves_none (λ m. OpensAs files m ⊎ OpensAs (files_of v (live_bytes r)) m) old.told (λ q is m image. inl (opens q is m image)) }

-- at Ok the current table is the committed one
pub is_committed : (v : VolumeTable) (l : Layout) (second was : Bool) (bits : List Bool) (old new : Seen) → l ≡ v.layout → IsTable v → (old.told ≡ None → new.told ≡ None) → HasCommitted v second bits was old
    → ((r : DiskRecord) (text : List ℕ) → old.told ≡ Some r → KeepsText l second text (state_of r) → Now (λ s. KeepsText l (not second) (spelling v) s × (s.loose ≡ [])) new)
    → HasCommitted v (not second) (used_places v) false new
is_committed v l second was bits old new is_l table untold h kept = record {
  committed = v;
  table = table;
  layout = refl;
  places = refl;
  same = λ e. refl;
  stays = λ q is. by_cases q is old.told refl;
}
  where
    by_cases : (q : DiskRecord) → new.told ≡ Some q → (o : Option DiskRecord) → old.told ≡ o → KeepsTable (not second) v (state_of q)
    by_cases q is None e = absurd (let none = untold e in let both : None ≡ Some q = sym none ∙ is in cc)
    by_cases q is (Some r) e =
        let keeps = h.stays r e in
        let now = kept r (spelling h.committed) e (subst (λ (x : Layout). KeepsText x second (spelling h.committed) (state_of r)) (h.layout ∙ sym is_l) keeps.text) q is in
        keeps-stable (not second) v (state_of q) (subst (λ (x : Layout). KeepsText x (not second) (spelling v) (state_of q)) is_l now.0) now.1

slice_dropped : (old new : List ℕ) (n a b : ℕ) → drop n new ≡ drop n old → n ≤ a → slice_range new a b ≡ slice_range old a b
slice_dropped old new n a b e le =
    let there : n + (a - n) ≡ a = omega arith in
    let at : (xs : List ℕ) → drop a xs ≡ drop (a - n) (drop n xs) = λ xs. sym (drop-drop (a - n) n xs ∙ ap (λ (k : ℕ). drop k xs) there) in
    ap (take (b - a)) (at new ∙ ap (drop (a - n)) e ∙ sym (at old))

-- the files stay as they are
pub files-rest : (v : VolumeTable) (l : Layout) (second : Bool) (old new : Option (List ℕ)) → IsTable v → v.layout ≡ l → Both (KeepsRest l second) old new
    → option_map (files_of v) new ≡ option_map (files_of v) old
files-rest v l second None None table is rest = refl
files-rest v l second None (Some new) table is rest = absurd rest
files-rest v l second (Some old) None table is rest = absurd rest
files-rest v l second (Some old) (Some new) table is rest = ap Some (files_of-same v old new (λ place used.
    let low = (is_used-between v place table used).0 in
    let n = ap first_place is in
    slice_dropped old new (4096 * first_place l) (4096 * place) (4096 * place + 4096) rest.blocks (omega arith)))

-- a disk that tells nothing goes on so
pub none_told : (l : Layout) (second : Bool) (old new : Option DiskRecord) → Both (KeepsRest l second) (option_map live_bytes old) (option_map live_bytes new) → old ≡ None → new ≡ None
none_told l second None None both e = refl
none_told l second None (Some new) both e = absurd both
none_told l second (Some old) new both e = absurd cc

-- what a volume keeps then
pub kept-committed : (v : VolumeTable) (j now : JournalView) (p : PlacesView) (was : Bool)
    (down : Option ℕ) (old new : Seen) → now.layout ≡ j.layout → now.second ≡ not j.second
    → new.size ≡ old.size → HasCommitted v (not j.second) (used_places v) false new
    → IsVolume v j p was down old → IsVolume v now (after_commit p) false down new
kept-committed v j now p was down old new same other size committed h = record {
  table = h.table;
  good = h.good;
  fits = h.fits;
  log = h.log;
  journal = same ∙ h.journal;
  size = size ∙ h.size;
  used = h.used;
  committed = λ up. subst (λ (b : Bool). HasCommitted v b p.current false new) (sym other)
      (subst (λ (xs : List Bool). HasCommitted v (not j.second) xs false new) (sym h.used) committed);
}

-- what it keeps where the commit failed
pub kept-down : (v : VolumeTable) (j now : JournalView) (p : PlacesView) (was : Bool) (at : ℕ)
    (down : Option ℕ) (old new : Seen) → now.layout ≡ j.layout → new.size ≡ old.size
    → IsVolume v j p was down old → IsVolume v now p was (Some at) new
kept-down v j now p was at down old new same size h = record {
  table = h.table;
  good = h.good;
  fits = h.fits;
  log = h.log;
  journal = same ∙ h.journal;
  size = size ∙ h.size;
  used = h.used;
  committed = λ up. absurd cc;
}

-- where the table wasn't edited
pub unchanged_committed : (v : VolumeView) (j : JournalView) (p : PlacesView)
    → p.committed ≡ v.committed → v.is_changed ≡ false → v.down ≡ None
    → IsVolume v.table j p v.is_changed v.down v.seen → IsCommitted v v
unchanged_committed v j p bits same up h =
    let c = h.committed up in
    record {
      same = ap₂ (λ (xs : List Bool) (b : Bool).
          record v { seen = v.seen; committed = xs; is_changed = b })
          (sym bits ∙ c.places ∙ ap used_places (c.same same)) same;
      up = up;
      opens = opens-committed v.table j.second p.committed v.seen h.log h.good
          (subst (λ (b : Bool). HasCommitted v.table j.second p.committed b v.seen) same c);
    }

-- what a volume keeps that was opened
pub kept-opened : (v : VolumeTable) (j : JournalView) (l : Layout) (p : PlacesView) (seen : Seen)
    → v.layout ≡ l → j.layout ≡ l → l.log ≡ 0 → seen.size ≡ 4096 * l.total
    → length (spelling v) ≤ table_cap l → IsTable v → IsGood v
    → p ≡ record { current = used_places v; committed = used_places v }
    → Now (KeepsText l j.second (spelling v)) seen → Now (λ s. s.loose ≡ []) seen
    → IsVolume v j p false None seen
kept-opened v j l p seen is is_j log size fits table good places keeps stable = record {
  table = table;
  good = good;
  fits = subst (λ (x : Layout). length (spelling v) ≤ table_cap x) (sym is) fits;
  log = ap (λ (x : Layout). x.log) is ∙ log;
  journal = is_j ∙ sym is;
  size = size ∙ ap (λ (x : Layout). 4096 * x.total) (sym is);
  used = ap (λ (x : PlacesView). x.current) places;
  committed = λ up. record {
    committed = v;
    table = table;
    layout = refl;
    places = ap (λ (x : PlacesView). x.committed) places;
    same = λ e. refl;
    stays = λ r told. keeps-stable j.second v (state_of r)
        (subst (λ (x : Layout). KeepsText x j.second (spelling v) (state_of r)) (sym is)
        (keeps r told)) (stable r told);
  };
}

-- the data blocks stay as they are
pub blocks-rest : (l : Layout) (second : Bool) (old new : Option (List ℕ)) → Both (KeepsRest l second) old new → option_map (drop (first_byte l)) new ≡ option_map (drop (first_byte l)) old
blocks-rest l second None None both = refl
blocks-rest l second None (Some new) both = absurd both
blocks-rest l second (Some old) None both = absurd both
blocks-rest l second (Some old) (Some new) both = ap Some both.blocks
