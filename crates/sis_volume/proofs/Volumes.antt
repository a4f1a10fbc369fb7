-- What a volume keeps where spare places are written.
use Rattle.std.proofs.Common.{◌≡◌, ℕ, ◌+◌, ◌-◌, ◌*◌, ◌/◌, ◌<◌, ◌≤◌, Bool, true, false, List, length, get_or, Option, Some, None, refl, sym, ap, ◌∙◌, subst, arith}
use Rattle.std.specs.Prelude.{Ok, ◌==◌}
use Rattle.std.specs.Option.{option_map}
use Rattle.sis_disk.specs.declared.layout.Layout.{Layout}
use Rattle.sis_disk.specs.Layout.{data_blocks, first_place}
use Rattle.sis_disk.specs.Record.{DiskRecord, IsImage, Seen, State, live_bytes, live_of, state_of}
use Rattle.sis_disk.specs.Stops.{GoesOn, Leaves, Now}
use Rattle.sis_disk.proofs.Images.{leaves_weaker}
use Rattle.sis_journal.specs.Committing.{Both}
use Rattle.sis_journal.specs.Texts.{HoldsText}
use Rattle.sis_journal.specs.View.{JournalView}
use Rattle.sis_places.specs.Places.{PlacesView}
use Rattle.sis_table.specs.Content.{files_of}
use Rattle.sis_table.specs.declared.edit.Edit.{Edit}
use Rattle.sis_name.specs.Files.{Files}
use Rattle.sis_table.specs.Good.{IsGood}
use Rattle.sis_table.specs.Image.{image_at}
use Rattle.sis_table.specs.Opens.{OpensAs}
use Rattle.sis_table.specs.Spelling.{spelling}
use Rattle.sis_table.specs.Volume.{VolumeTable, IsTable, is_used, used_places}
use Rattle.sis_table.proofs.CallerLemmas.{files_of-same}
use Rattle.sis_table.proofs.CallerLemmas.{get-used_places, is_used-between, length-used_places}
use Rattle.sis_volume.specs.Keeping.{AgreesOut, KeepsOut, WritesOnly}
use Rattle.sis_volume.specs.Invariant.{HasCommitted, IsVolume, KeepsTable}
use Rattle.sis_volume.specs.Staging.{KeepsOthers}
use Rattle.sis_volume.specs.Stopping.{OnlyOpens}
use Rattle.sis_volume.specs.View.{is_fresh}
use Rattle.sis_volume.proofs.Fronts.{front-image, text-front, text-opens, text-read}
use Rattle.sis_volume.proofs.Slices.{slice_below, take_below, take_same}
use Rattle.sis_volume.proofs.Freshness.{below_data, fresh_committed, fresh_current}
use Rattle.sis_volume.proofs.Writes.{same_record}

-- a record that is told has P where the disk tells this one
pub now_of : (P : State → Type 0) (seen : Seen) (r : DiskRecord) → seen.told ≡ Some r → P (state_of r) → Now P seen
now_of P seen r is h q is_q = subst (λ (x : DiskRecord). P (state_of x)) (same_record seen.told r q is is_q) h

-- by cases of whether the disk tells its calls
pub leaves_told : (P : List ℕ → Type 0) (old new : Seen) → (old.told ≡ None → new.told ≡ None) → ((r : DiskRecord) → old.told ≡ Some r → Leaves P old new) → Leaves P old new
leaves_told P old new untold told = record { told = by_cases old.told refl }
  where
    by_cases : (o : Option DiskRecord) → old.told ≡ o → GoesOn P old.told new.told
    by_cases None e = subst (λ (x : Option DiskRecord). GoesOn P x new.told) (sym e) (untold e)
    by_cases (Some r) e = (told r e).told

-- an image is what it is read as
pub one_reading : (m : List ℕ) (v w : VolumeTable) → image_at m ≡ Ok v → image_at m ≡ Ok w → v ≡ w
one_reading m v w is_v is_w = let both : Ok v ≡ Ok w = sym is_v ∙ is_w in cc

pub live_is_image : (s : State) → IsImage s s.live
live_is_image s = record { size = refl; same = λ i lt firm. refl }

-- a table's places have their bits among those of its mapped places
used_bit : (l : Layout) (v : VolumeTable) (bits : List Bool) (place : ℕ) → v.layout ≡ l → IsTable v
    → bits ≡ used_places v → is_used v place ≡ true
    → get_or bits (place - first_place l) false ≡ true
used_bit l v bits place is table are used =
    let between = is_used-between v place table used in
    let low = between.0 in
    let high = between.1 in
    let there : first_place v.layout + (place - first_place v.layout) ≡ place = omega arith in
    ap (λ (bs : List Bool). get_or bs (place - first_place l) false) are
    ∙ ap (λ (x : Layout). get_or (used_places v) (place - first_place x) false) (sym is)
    ∙ get-used_places v (place - first_place v.layout) (omega arith) ∙ ap (is_used v) there ∙ used

pub bits-kept : (v : VolumeTable) (j : JournalView) (p : PlacesView) (is_changed : Bool)
    (down : Option ℕ) (seen : Seen) → IsVolume v j p is_changed down seen
    → length p.current ≡ data_blocks v.layout
bits-kept v j p is_changed down seen h =
    ap (λ (bits : List Bool). length bits) h.used ∙ length-used_places v

-- writes to places that pass the test leave a table's places alone
abbrev pub Avoids : (ℕ → Bool) → VolumeTable → Type 0
Avoids test v = (place : ℕ) → is_used v place ≡ true → test place ≡ false

pub fresh-avoids_current : (l : Layout) (p : PlacesView) (edits : List Edit) (v : VolumeTable)
    → v.layout ≡ l → IsTable v → p.current ≡ used_places v → Avoids (is_fresh l p edits) v
fresh-avoids_current l p edits v is table are place used =
    fresh_current l p edits place (used_bit l v p.current place is table are used)

pub fresh-avoids_committed : (l : Layout) (p : PlacesView) (edits : List Edit) (c : VolumeTable)
    → c.layout ≡ l → IsTable c → p.committed ≡ used_places c → Avoids (is_fresh l p edits) c
fresh-avoids_committed l p edits c is table are place used =
    fresh_committed l p edits place (used_bit l c p.committed place is table are used)

module _ (l : Layout) (test : ℕ → Bool) (behind : (place : ℕ) → place < first_place l → test place ≡ false) where
  -- positions before the data blocks are left alone
  before_data : (i : ℕ) → i < 4096 * first_place l → test (i / 4096) ≡ false
  before_data i lt = behind (i / 4096) (omega arith)

  -- and those of a place that doesn't pass
  block_out : (place i : ℕ) → test place ≡ false → 4096 * place ≤ i → i < 4096 * place + 4096
      → test (i / 4096) ≡ false
  block_out place i out ge lt = let there : i / 4096 ≡ place = omega arith in ap test there ∙ out

  -- what agrees with a state that keeps a table holds its text, and has its files
  agreeing_text : (second : Bool) (c : VolumeTable) (s : State) (m : List ℕ) → c.layout ≡ l
      → IsTable c → KeepsTable second c s → AgreesOut test s m → HoldsText c.layout (spelling c) m
  agreeing_text second c s m is table keeps agrees =
      let size = keeps.text.holds.size in
      let some = table.layout.has_data in
      let long = agrees.size in
      let n = ap first_place is in
      text-front c.layout (spelling c) s.live m table.layout agrees.size
      (front-image c.layout s m keeps.text.firm (omega arith) agrees.size (λ i lt firm. agrees.same i (omega arith) (before_data i (omega arith)) firm)) keeps.text.holds

  agreeing_files : (second : Bool) (c : VolumeTable) (s : State) (m : List ℕ) → IsTable c
      → Avoids test c → KeepsTable second c s → AgreesOut test s m
      → files_of c m ≡ files_of c s.live
  agreeing_files second c s m table avoids keeps agrees =
      files_of-same c s.live m (λ place used.
      slice_below s.live m (4096 * place) (4096 * place + 4096) agrees.size (λ i lt ge below.
      let long = agrees.size in
      agrees.same i (omega arith) (block_out place i (avoids place used) ge below) (keeps.firm place used i ge below)))

  agreeing_opens : (second : Bool) (c : VolumeTable) (s : State) (files : Files) (m : List ℕ)
      → c.layout ≡ l → c.layout.log ≡ 0 → IsTable c → Avoids test c → KeepsTable second c s
      → OpensAs files s.live → AgreesOut test s m → OpensAs files m
  agreeing_opens second c s files m is log table avoids keeps opens agrees =
      let same : opens.table ≡ c = one_reading s.live opens.table c opens.read (text-read c s.live table log keeps.text.holds) in
      text-opens c m files table log (subst IsGood same opens.good) (agreeing_text second c s m is table keeps agrees)
      (subst (λ (v : VolumeTable). files ≡ files_of v s.live) same opens.stands ∙ sym (agreeing_files second c s m table avoids keeps agrees))

  -- a state keeps a table where other places are written
  keeps-table : (second : Bool) (c : VolumeTable) (s t : State) → c.layout ≡ l → IsTable c
      → Avoids test c → KeepsOut test s t → KeepsTable second c s → KeepsTable second c t
  keeps-table second c s t is table avoids out keeps =
      let size = keeps.text.holds.size in
      let some = table.layout.has_data in
      let n = ap first_place is in
      record {
        text = record {
          holds = text-front c.layout (spelling c) s.live t.live table.layout out.size
              (take_same s.live t.live (4096 * first_place c.layout) out.size (omega arith) (λ i lt. out.live i (omega arith) (before_data i (omega arith)))) keeps.text.holds;
          selector = ap (λ (b : ℕ). b == 1) (out.live 4096 (omega arith) (before_data 4096 (omega arith))) ∙ keeps.text.selector;
          firm = λ i ge lt. out.loose i (omega arith) (before_data i (omega arith)) (keeps.text.firm i ge lt);
        };
        firm = λ place used i ge lt. (let high = (is_used-between c place table used).1 in
            out.loose i (omega arith) (block_out place i (avoids place used) ge lt) (keeps.firm place used i ge lt));
      }

  now_kept : (P : State → Type 0) (first : ℕ) (old new : Seen) → WritesOnly first test old new
      → ((s t : State) → KeepsOut test s t → P s → P t) → Now P old → Now P new
  now_kept P first old new writes step here q is = by_cases old.told refl
    where
      by_cases : (o : Option DiskRecord) → old.told ≡ o → P (state_of q)
      by_cases None e = absurd (let none = writes.untold e in let both : None ≡ Some q = sym none ∙ is in cc)
      by_cases (Some r) e = let k = writes.keeps r e in now_of P new k.0 k.1 (step (state_of r) (state_of k.0) k.2 (here r e)) q is

  module _ (first : ℕ) (old new : Seen) (writes : WritesOnly first test old new) where
    committed-staged : (v : VolumeTable) (second is_changed : Bool) (bits : List Bool)
        → v.layout ≡ l → (h : HasCommitted v second bits is_changed old) → Avoids test h.committed
        → HasCommitted v second bits is_changed new
    committed-staged v second is_changed bits is h avoids = record {
      committed = h.committed;
      table = h.table;
      layout = h.layout;
      places = h.places;
      same = h.same;
      stays = now_kept (KeepsTable second h.committed) first old new writes (λ s t out keeps. keeps-table second h.committed s t (h.layout ∙ is) h.table avoids out keeps) h.stays;
    }

    -- a volume keeps its invariant
    pub kept-staged : (v : VolumeTable) (j : JournalView) (p : PlacesView) (is_changed : Bool)
        (down : Option ℕ) → v.layout ≡ l
        → ((c : VolumeTable) → c.layout ≡ l → IsTable c → p.committed ≡ used_places c → Avoids test c)
        → IsVolume v j p is_changed down old → IsVolume v j p is_changed down new
    kept-staged v j p is_changed down is avoids h = record {
      table = h.table;
      good = h.good;
      fits = h.fits;
      log = h.log;
      journal = h.journal;
      size = writes.elapses.size ∙ h.size;
      used = h.used;
      committed = λ up. (let c = h.committed up in
          committed-staged v j.second is_changed p.committed is c (avoids c.committed (c.layout ∙ is) c.table c.places));
    }

    -- at no moment a stop leaves other files
    pub only_opens : (v : VolumeTable) (j : JournalView) (p : PlacesView) (is_changed : Bool)
        (down : Option ℕ) → v.layout ≡ l
        → ((c : VolumeTable) → c.layout ≡ l → IsTable c → p.committed ≡ used_places c → Avoids test c)
        → down ≡ None → IsVolume v j p is_changed down old → OnlyOpens old new
    only_opens v j p is_changed down is avoids up h files opens =
        let c = h.committed up in
        leaves_told (OpensAs files) old new writes.untold (λ r told.
        leaves_weaker (AgreesOut test (state_of r)) (OpensAs files) old new
        (λ m agrees. agreeing_opens j.second c.committed (state_of r) files m (c.layout ∙ is) (ap (λ (x : Layout). x.log) c.layout ∙ h.log) c.table
        (avoids c.committed (c.layout ∙ is) c.table c.places) (c.stays r told)
        (opens r told (live_bytes r) (live_is_image (state_of r))) agrees)
        (writes.images r told))

    -- the files stay as they are
    pub files-staged : (v : VolumeTable) → Avoids test v
        → option_map (files_of v) (live_of new) ≡ option_map (files_of v) (live_of old)
    files-staged v avoids = by_cases old.told refl
      where
        by_cases : (o : Option DiskRecord) → old.told ≡ o → option_map (files_of v) (live_of new) ≡ option_map (files_of v) (live_of old)
        by_cases None e = ap (λ (o : Option DiskRecord). option_map (files_of v) (option_map live_bytes o)) (writes.untold e ∙ sym e)
        by_cases (Some r) e =
            let k = writes.keeps r e in
            ap (λ (o : Option DiskRecord). option_map (files_of v) (option_map live_bytes o)) k.1
            ∙ ap Some (files_of-same v (live_bytes r) (live_bytes k.0) (λ place used.
            slice_below (live_bytes r) (live_bytes k.0) (4096 * place) (4096 * place + 4096) k.2.size (λ i lt ge below.
            k.2.live i lt (block_out place i (avoids place used) ge below))))
            ∙ sym (ap (λ (o : Option DiskRecord). option_map (files_of v) (option_map live_bytes o)) e)

-- ---- what stays beside the fresh places

module _ (l : Layout) (p : PlacesView) (edits : List Edit) where
  others_kept : (s t : State) → KeepsOut (is_fresh l p edits) s t
      → KeepsOthers l p edits s.live t.live
  others_kept s t out = record {
    size = out.size;
    areas = take_below s.live t.live (4096 * first_place l) out.size (λ i lt below.
        out.live i lt (before_data l (is_fresh l p edits) (below_data l p edits) i below));
    blocks = λ place is. slice_below s.live t.live (4096 * place) (4096 * place + 4096) out.size (λ i lt ge below.
        out.live i lt (block_out l (is_fresh l p edits) (below_data l p edits) place i is ge below));
  }

  pub others_refl : (live : Option (List ℕ)) → Both (KeepsOthers l p edits) live live
  others_refl None = tt
  others_refl (Some live) = record { size = refl; areas = refl; blocks = λ place is. refl }

  pub others-staged : (first : ℕ) (old new : Seen) → WritesOnly first (is_fresh l p edits) old new
      → Both (KeepsOthers l p edits) (live_of old) (live_of new)
  others-staged first old new writes = by_cases old.told refl
    where
      Kept : Option DiskRecord → Option DiskRecord → Type 0
      Kept a b = Both (KeepsOthers l p edits) (option_map live_bytes a) (option_map live_bytes b)

      by_cases : (o : Option DiskRecord) → old.told ≡ o → Kept old.told new.told
      by_cases None e = subst (λ (a : Option DiskRecord). Kept a new.told) (sym e) (subst (λ (b : Option DiskRecord). Kept None b) (sym (writes.untold e)) tt)
      by_cases (Some r) e =
          let k = writes.keeps r e in
          subst (λ (a : Option DiskRecord). Kept a new.told) (sym e)
          (subst (λ (b : Option DiskRecord). Kept (Some r) b) (sym k.1) (others_kept (state_of r) (state_of k.0) k.2))
