-- What the calls of a step leave to a stop.
use Rattle.std.proofs.Common.{◌≡◌, ◌⊎◌, inl, inr, ⊎_elim, List, [], ◌∷◌, ◌++◌, Bool, true, false, Option, None, Some, refl, sym, ap, subst, ◌∙◌, ℕ, ◌+◌, ◌<◌, arith}
use Rattle.std.specs.Prelude.{IfSome, is_some, Result, Ok, Err, IfErr, IsOk, OnErr, OnOk}
use Rattle.std.specs.Option.{option_map}
use Rattle.sis_disk.specs.Causes.{GoesDown}
use Rattle.sis_disk.specs.Layout.{first_byte}
use Rattle.sis_disk.specs.Record.{Call, DiskRecord, Seen, State, after, after_all, live_bytes, state_of}
use Rattle.sis_disk.specs.Stops.{GoesOn, Leaves, Now, Shows, ShowsAlong}
use Rattle.sis_disk.proofs.Images.{after_all_append, leaves_none, leaves_trans, leaves_weaker}
use Rattle.sis_table.specs.Content.{files_in, files_of}
use Rattle.sis_name.specs.Files.{Files}
use Rattle.sis_table.specs.Opens.{OpensAs}
use Rattle.sis_table.specs.Volume.{VolumeTable}
use Rattle.sis_model.specs.declared.reply.Hindrance.{Hindrance}
use Rattle.sis_model.specs.declared.reply.Hindrance.TheVariants as hindrance
use Rattle.sis_view.proofs.CallerLemmas.{leaves_reading, now_reading}
use Rattle.sis_volume.specs.Lending.{Looks}
use Rattle.sis_volume.specs.Room.{HindersRoom}
use Rattle.sis_volume.specs.Stopping.{HasFiles, IsCommitted, MayCommit, OnlyOpens, OpensNow, OpensTable, StopsWell}
use Rattle.sis_volume.specs.View.{VolumeView}

-- ---- the files of a disk that tells its bytes

files_told : (v : VolumeTable) (seen : Seen) (r : DiskRecord) (files : Files) → seen.told ≡ Some r
    → IfSome (files_in v seen) (λ fs. fs ≡ files) → files_of v (live_bytes r) ≡ files
files_told v seen r files is stands =
    subst (λ (o : Option DiskRecord).
    IfSome (option_map (files_of v) (option_map live_bytes o)) (λ fs. fs ≡ files)) is stands

-- where each image opens as the table's files, these are the files that it stands for
pub opens_table : (v : VolumeTable) (seen : Seen) (files : Files) → OpensTable v seen
    → IfSome (files_in v seen) (λ fs. fs ≡ files) → OpensNow files seen
opens_table v seen files opens stands r is =
    subst (λ (fs : Files). Shows (OpensAs fs) (state_of r)) (files_told v seen r files is stands)
    (opens r is r is)

untold : (v w : VolumeTable) (old new : Seen) → files_in w new ≡ files_in v old → old.told ≡ None
    → new.told ≡ None
untold v w old new same none =
    by new.told
    (same ∙ ap (λ (o : Option DiskRecord). option_map (files_of v) (option_map live_bytes o)) none)
  where
    by : (o : Option DiskRecord) → option_map (files_of w) (option_map live_bytes o) ≡ None
        → o ≡ None
    by None e = refl
    by (Some r) e = absurd cc

-- ---- images when calls have gone by

along_last : (P : List ℕ → Type 0) (s : State) (cs : List Call) → ShowsAlong P s cs
    → Shows P (after_all s cs)
along_last P s [] h = h
along_last P s (c ∷ cs) h = along_last P (after s c) cs h.1

-- what each image has while calls go by, it has then
leaves_last : (P : List ℕ → Type 0) (old new : Seen) → Leaves P old new → Now (Shows P) new
leaves_last P old new leaves r is = by old.told new.told leaves.told is
  where
    by : (was now : Option DiskRecord) → GoesOn P was now → now ≡ Some r → Shows P (state_of r)
    by None now goes e = absurd cc
    by (Some q) now goes e =
        let same : record { opening = q.opening; calls = q.calls ++ goes.0 } ≡ r = cc in
        subst (λ (x : DiskRecord). Shows P (state_of x)) same
        (subst (Shows P) (sym (after_all_append _ q.calls goes.0))
        (along_last P (state_of q) goes.0 goes.2))

-- no call
leaves_same : (P : List ℕ → Type 0) (seen : Seen) → Now (Shows P) seen → Leaves P seen seen
leaves_same P seen here = leaves_none P seen seen (record { calls = refl; told = refl }) here

abbrev Either : Files → Files → List ℕ → Type 0
Either committed current m = OpensAs committed m ⊎ OpensAs current m

only_first : (committed current : Files) (old new : Seen) → Leaves (OpensAs committed) old new
    → Leaves (Either committed current) old new
only_first committed current old new leaves =
    leaves_weaker (OpensAs committed) (Either committed current) old new (λ m opens. inl opens)
    leaves

images_committed : (v : VolumeTable) (old new : Seen) (committed current : Files)
    → MayCommit v old new → IfSome (files_in v old) (λ fs. fs ≡ current)
    → OpensNow committed old → (old.told ≡ None → new.told ≡ None)
    → Leaves (Either committed current) old new
images_committed v old new committed current may stands opens none = by old.told refl
  where
    by : (o : Option DiskRecord) → old.told ≡ o → Leaves (Either committed current) old new
    by None is = record {
      told =
          subst (λ (x : Option DiskRecord). GoesOn (Either committed current) x new.told) (sym is)
          (none is);
    }
    by (Some r) is =
        subst (λ (fs : Files). Leaves (Either committed fs) old new)
        (files_told v old r current is stands) (may committed opens r is)

-- ---- steps

not_down : (down : Option ℕ) (P : Type 0) → down ≡ None → is_some down ≡ true → P
not_down down P none some = absurd (let e = ap is_some none in cc)

-- nothing was done
pub stops_none : (v : VolumeView) → StopsWell v v
stops_none v = record {
  up = λ up committed current has. record {
    images =
        only_first committed current v.seen v.seen
        (leaves_same (OpensAs committed) v.seen has.opens);
    last = λ still. inl has.opens;
  };
  down = λ some. refl;
}

-- the table was committed, or nothing changed, or a commit failed
stops_commit : (old new : VolumeView) → old.down ≡ None
    → (old.down ≡ None → MayCommit old.table old.seen new.seen)
    → files_in new.table new.seen ≡ files_in old.table old.seen
    → (new.down ≡ None → (new ≡ old) ⊎ IsCommitted old new) → StopsWell old new
stops_commit old new up may files how = record {
  up = λ up committed current has. record {
    images =
        images_committed old.table old.seen new.seen committed current (may up) has.stands
        has.opens (untold old.table new.table old.seen new.seen files);
    last = λ still.
        ⊎_elim
        (λ same. inl (subst (λ (v : VolumeView). OpensNow committed v.seen) (sym same) has.opens))
        (λ done. inr (opens_table new.table new.seen current done.opens
        (subst (λ (o : Option Files). IfSome o (λ fs. fs ≡ current)) (sym files) has.stands)))
        (how still);
  };
  down = λ some. not_down old.down (new.seen ≡ old.seen) up some;
}

-- blocks were written to places that no stop gives back
stops_stage : (old new : VolumeView) → old.down ≡ None → OnlyOpens old.seen new.seen
    → StopsWell old new
stops_stage old new up only = record {
  up = λ up committed current has. record {
    images = only_first committed current old.seen new.seen (only committed has.opens);
    last = λ still.
        inl (leaves_last (OpensAs committed) old.seen new.seen (only committed has.opens));
  };
  down = λ some. not_down old.down (new.seen ≡ old.seen) up some;
}

-- one after the other, the first with the same files
stops_then : (a b c : VolumeView) → a.down ≡ None → b.down ≡ None → b.table ≡ a.table
    → files_in b.table b.seen ≡ files_in a.table a.seen → StopsWell a b → StopsWell b c
    → StopsWell a c
stops_then a b c a_up b_up table files first second = record {
  up = λ up committed current has.
      let one = first.up up committed current has in
      let at : (fs : Files) → OpensNow fs b.seen → HasFiles fs current b =
      λ fs opens. record {
        stands =
            subst (λ (o : Option Files). IfSome o (λ x. x ≡ current)) (sym files) has.stands;
        opens = opens;
      } in
      ⊎_elim
      (λ opens.
      let two = second.up b_up committed current (at committed opens) in
      record {
        images =
            leaves_trans (Either committed current) a.seen b.seen c.seen one.images two.images;
        last = two.last;
      })
      (λ opens.
      let two = second.up b_up current current (at current opens) in
      record {
        images =
            leaves_trans (Either committed current) a.seen b.seen c.seen one.images
            (leaves_weaker (Either current current) (Either committed current) b.seen c.seen
            (λ m either. ⊎_elim (λ x. inr x) (λ x. inr x) either) two.images);
        last = λ still. ⊎_elim (λ x. inr x) (λ x. inr x) (two.last still);
      })
      (one.last b_up);
  down = λ some. not_down a.down (c.seen ≡ a.seen) a_up some;
}

-- what is seen of the disk decides
stops_seen : (old mid new : VolumeView) → new.seen ≡ mid.seen → new.down ≡ mid.down
    → StopsWell old mid → StopsWell old new
stops_seen old mid new seen down stops = record {
  up = λ up committed current has.
      let one = stops.up up committed current has in
      record {
        images =
            subst (λ (s : Seen). Leaves (Either committed current) old.seen s) (sym seen)
            one.images;
        last = λ still.
            subst (λ (s : Seen). OpensNow committed s ⊎ OpensNow current s) (sym seen)
            (one.last (sym down ∙ still));
      };
  down = λ some. seen ∙ stops.down some;
}

-- a commit failed
stops_failed : (old new : VolumeView) → old.down ≡ None
    → (old.down ≡ None → MayCommit old.table old.seen new.seen)
    → files_in new.table new.seen ≡ files_in old.table old.seen
    → (at : ℕ) → new.down ≡ Some at → StopsWell old new
stops_failed old new up may files at down =
    stops_commit old new up may files (λ still. absurd (let e = sym still ∙ down in cc))

-- a commit was tried
pub stops_tried : {T : Type 0} (r : Result T Hindrance) (old new : VolumeView) → old.down ≡ None
    → (old.down ≡ None → MayCommit old.table old.seen new.seen)
    → files_in new.table new.seen ≡ files_in old.table old.seen
    → OnOk r (IsCommitted old new)
    → IfErr r (λ h. (at : ℕ) × (h ≡ hindrance.Down at) × (new.down ≡ Some at)
    × (old.down ≡ None → GoesDown (first_byte old.table.layout) at old.seen new.seen)) → StopsWell old new
stops_tried (Ok x) old new up may files ok err = stops_commit old new up may files (λ still. inr ok)
stops_tried (Err h) old new up may files ok err = stops_failed old new up may files err.0 err.2

-- Why a commit for room failed: the table was edited, since else it would have gone well.
pub room_failed : {T : Type 0} (r : Result T Hindrance) (needed : ℕ) (old new : VolumeView)
    → old.down ≡ None
    → (old.down ≡ None → old.is_changed ≡ false → IsOk r × (new ≡ old))
    → OnErr r (new ≡ record old { seen = new.seen; down = new.down })
    → IfErr r (λ h. (at : ℕ) × (h ≡ hindrance.Down at) × (new.down ≡ Some at)
    × (old.down ≡ None → GoesDown (first_byte old.table.layout) at old.seen new.seen))
    → (old.down ≡ None → IfErr r (λ h. (at : ℕ) × (h ≡ hindrance.Down at)
    × (at < old.seen.calls + 4)))
    → IfErr r (HindersRoom needed old new)
room_failed (Ok x) needed old new up unchanged err at number = tt
room_failed (Err h) needed old new up unchanged err at number =
    let soon = number up in
    let down_is : hindrance.Down at.0 ≡ hindrance.Down soon.0 = sym at.1 ∙ soon.1 in
    let call : at.0 ≡ soon.0 = cc in
    subst (HindersRoom needed old new) (sym at.1) (record {
      edited = edited old.is_changed refl;
      soon = omega (arith, call, soon.2);
      down = at.2;
      failed = at.3 up;
      same = err;
    })
  where
    edited : (b : Bool) → old.is_changed ≡ b → old.is_changed ≡ true
    edited true is = is
    edited false is = absurd (let well = (unchanged up is).0 in cc)

-- room was made, or not
pub stops_room : {T : Type 0} (r : Result T Hindrance) (needed : ℕ) (old new : VolumeView)
    → old.down ≡ None
    → (old.down ≡ None → MayCommit old.table old.seen new.seen)
    → files_in new.table new.seen ≡ files_in old.table old.seen
    → OnOk r ((new ≡ old) ⊎ IsCommitted old new)
    → (old.down ≡ None → IfErr r (HindersRoom needed old new)) → StopsWell old new
stops_room (Ok x) needed old new up may files ok cause =
    stops_commit old new up may files (λ still. ok)
stops_room (Err hindrance.Memory) needed old new up may files ok cause = absurd (cause up)
stops_room (Err hindrance.Disk) needed old new up may files ok cause = absurd (cause up)
stops_room (Err (hindrance.Limit kind)) needed old new up may files ok cause = absurd (cause up)
stops_room (Err (hindrance.TableFull len most)) needed old new up may files ok cause =
    absurd (cause up)
stops_room (Err (hindrance.Full want mapped total)) needed old new up may files ok cause =
    stops_commit old new up may files (λ still. inl (cause up).1.same)
stops_room (Err (hindrance.Down at)) needed old new up may files ok cause =
    stops_failed old new up may files at (cause up).down

-- room that was made leaves no commit that failed
room_up : (old new : VolumeView) → old.down ≡ None → (new ≡ old) ⊎ IsCommitted old new
    → new.down ≡ None
room_up old new up how =
    ⊎_elim (λ same. ap (λ (v : VolumeView). v.down) same ∙ up) (λ done. done.up) how

-- blocks were staged in the room that was made
pub stops_staged : (old mid new : VolumeView) → old.down ≡ None
    → (mid ≡ old) ⊎ IsCommitted old mid → mid.table ≡ old.table
    → files_in mid.table mid.seen ≡ files_in old.table old.seen
    → StopsWell old mid → OnlyOpens mid.seen new.seen → StopsWell old new
stops_staged old mid new up how table files first only =
    let still = room_up old mid up how in
    stops_then old mid new up still table files first (stops_stage mid new still only)

-- edits were made in memory, or not
pub stops_applied : {T E : Type 0} (r : Result T E) (old mid new : VolumeView)
    (table : VolumeTable) (is_changed : Bool)
    → OnOk r (new ≡ record mid { table = table; is_changed = is_changed })
    → OnErr r (new ≡ mid) → StopsWell old mid → StopsWell old new
stops_applied (Ok x) old mid new table is_changed ok err stops =
    stops_seen old mid new (ap (λ (v : VolumeView). v.seen) ok) (ap (λ (v : VolumeView). v.down) ok)
    stops
stops_applied (Err e) old mid new table is_changed ok err stops =
    stops_seen old mid new (ap (λ (v : VolumeView). v.seen) err)
    (ap (λ (v : VolumeView). v.down) err) stops

-- blocks were lent, or not
pub stops_looked : {T E : Type 0} (most : ℕ) (r : Result T E) (old new : VolumeView)
    → old.down ≡ None → Looks most r old new → StopsWell old new
stops_looked most r old new up looks =
    let reads = looks.fetched.reads in
    record {
      up = λ up' committed current has. record {
        images =
            only_first committed current old.seen new.seen
            (leaves_reading (OpensAs committed) most old.seen new.seen reads has.opens);
        last = λ still.
            inl (now_reading (Shows (OpensAs committed)) most old.seen new.seen reads has.opens);
      };
      down = λ some. not_down old.down (new.seen ≡ old.seen) up some;
    }
