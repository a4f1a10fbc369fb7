-- What an operation leaves, by how it ended.
use Rattle.std.proofs.Common.{◌≡◌, ◌⊎◌, ⊎_elim, inl, inr, ℕ, ◌+◌, ◌≤◌, Bool, true, List, length, Option, Some, None, refl, sym, ap, ◌∙◌, subst, arith}
use Rattle.std.specs.Prelude.{IfErr, IfSome, OnErr, OnOk, Ok, Err, Result}
use Rattle.std.specs.Option.{option_map}
use Rattle.std.specs.Result.{IsErrAnd}
use Rattle.sis_disk.specs.Causes.{StaysUp}
use Rattle.sis_disk.specs.Stops.{Elapses}
use Rattle.sis_disk.proofs.GoesOn.{up_refl}
use Rattle.sis_disk.specs.Layout.{first_byte, table_cap}
use Rattle.sis_disk.specs.Record.{Seen, live_of}
use Rattle.sis_history.specs.Needs.{hindrance_of, IsUnhindered, Need}
use Rattle.sis_journal.specs.Committing.{Both}
use Rattle.sis_model.specs.declared.reply.Hindrance.{Hindrance}
use Rattle.sis_model.specs.declared.reply.Hindrance.TheVariants as hindrance
use Rattle.sis_model.specs.declared.reply.LimitKind.{LimitKind}
use Rattle.sis_name.specs.Files.{Files}
use Rattle.sis_table.specs.Content.{files_in}
use Rattle.sis_table.specs.Spelling.{spelling}
use Rattle.sis_table.specs.Volume.{VolumeTable, used_places}
use Rattle.sis_volume.specs.Applying.{HindersApplying}
use Rattle.sis_volume.specs.Stopping.{OnlyOpens}
use Rattle.sis_volume.specs.View.{VolumeView, spare}
use Rattle.sis_volume.proofs.Stopping.{stops_applied, stops_none}
use Rattle.sis_copyclose.specs.Calls.{room_calls}
use Rattle.sis_copyclose.specs.Hindering.{Hinders, LacksRoom}
use Rattle.sis_copyclose.specs.Inside.{GivesUp, NoTable, Readies}
use Rattle.sis_copyclose.specs.Operating.{EndsBy, KeepsPlaces, KeepsVersions, MadeRoom, Operates}
use Rattle.sis_copyclose.specs.Reading.{HindersReading}
use Rattle.sis_copyclose.proofs.Versions.{versions_kept, versions_same}
use Rattle.sis_copyclose.proofs.Works.{both_weaker, only_none, places_refl}

some_same : {X : Type 0} (a b : X) → Some a ≡ Some b → a ≡ b
some_same a b e = cc

-- the answer of a volume that was down
abbrev AnswersDown : {T : Type 0} → Result T Hindrance → VolumeView → VolumeView → Option ℕ → Type 0
AnswersDown r old new down = IfSome down (λ at. (r ≡ Err (hindrance.Down at)) × (new ≡ old))

pub answered_down : {T : Type 0} (r : Result T Hindrance) (old new : VolumeView) (at : ℕ)
    → old.down ≡ Some at → r ≡ Err (hindrance.Down at) → new ≡ old
    → IfSome old.down (λ a. (r ≡ Err (hindrance.Down a)) × (new ≡ old))
answered_down r old new at is answer same =
    subst (λ (o : Option ℕ). AnswersDown r old new o) (sym is) (answer, same)

pub never_down : {T : Type 0} (r : Result T Hindrance) (old new : VolumeView) → old.down ≡ None
    → IfSome old.down (λ a. (r ≡ Err (hindrance.Down a)) × (new ≡ old))
never_down r old new up = subst (λ (o : Option ℕ). AnswersDown r old new o) (sym up) tt

-- the volume was down before
pub was_down : {T : Type 0} (need : Need) (MayLead : VolumeTable → Type 0) (change : Files → Files)
    (reads : ℕ) (v : VolumeView) (at : ℕ) → v.down ≡ Some at
    → Operates {T = T} need MayLead change reads (Err (hindrance.Down at)) v v
was_down {T = T} need MayLead change reads v at is = record {
  ok = tt;
  err = refl;
  files = tt;
  kept = refl;
  versions = versions_same v.table (live_of v.seen);
  books = inl refl;
  changed = tt;
  held = tt;
  cause = λ up. absurd (let e = sym up ∙ is in cc);
  needed = λ e. absurd cc;
  limit = λ up. absurd (let e = sym up ∙ is in cc);
  down = answered_down {T = T} (Err (hindrance.Down at)) v v at is refl refl;
  places = places_refl v.table (live_of v.seen);
  stops = stops_none v;
  still = λ le. only_none v.seen;
  up = tt;
  goes = λ up. absurd (let e = sym up ∙ is in cc);
  elapses = record { size = refl; calls = omega arith; faults = omega arith };
  calls = omega arith;
  idle = λ none. refl;
  quiet = tt;
}

-- the first limit is what is answered
limit_by : {T : Type 0} (need : Need) (MayLead : VolumeTable → Type 0) (old new : VolumeView)
    (by : Hindrance) → Hinders need MayLead old new by → (h : Hindrance)
    → hindrance_of old.table need ≡ Some h
    → (◌≡◌ {A = Result T Hindrance} (Err by) (Err h)) ⊎ (◌≡◌ {A = Result T Hindrance} (Err by) (Err hindrance.Memory))
limit_by need MayLead old new (hindrance.Limit kind) cause h is =
    inl (ap (λ (x : Hindrance). Err x) (some_same _ h (sym cause.0 ∙ is)))
limit_by need MayLead old new (hindrance.Full needed mapped total) cause h is =
    inl (ap (λ (x : Hindrance). Err x) (some_same _ h (sym cause.0 ∙ is)))
limit_by need MayLead old new (hindrance.Down at) cause h is =
    absurd (let e = sym cause.0 ∙ is in cc)
limit_by need MayLead old new hindrance.Disk cause h is =
    absurd (let e = sym cause.0 ∙ is in cc)
limit_by need MayLead old new (hindrance.TableFull needed cap) cause h is =
    absurd (let e = sym cause.0 ∙ is in cc)
limit_by need MayLead old new hindrance.Memory cause h is = inr refl

err_disk : {T : Type 0} (by : Hindrance)
    → ◌≡◌ {A = Result T Hindrance} (Err by) (Err hindrance.Disk) → by ≡ hindrance.Disk
err_disk by e = cc

-- it gave up
pub failed : {T : Type 0} (need : Need) (MayLead : VolumeTable → Type 0) (change : Files → Files)
    (reads : ℕ) (old new : VolumeView) (by : Hindrance) → old.down ≡ None
    → GivesUp need MayLead (need.blocks + reads) old new by
    → Operates {T = T} need MayLead change reads (Err by) old new
failed {T = T} need MayLead change reads old new by up h = record {
  ok = tt;
  err = h.table;
  files = tt;
  kept = h.files;
  versions = versions_kept old.table new.table (live_of old.seen) (live_of new.seen) h.table h.places;
  books = h.books;
  changed = tt;
  held = tt;
  cause = λ still. h.cause;
  needed = λ e. (let some = h.needed (err_disk {T = T} by e) in omega (arith, some));
  limit = λ still x is. limit_by need MayLead old new by h.cause x is;
  down = never_down {T = T} (Err by) old new up;
  places = h.places;
  stops = h.stops;
  still = h.still;
  up = tt;
  goes = λ still. h.goes;
  elapses = h.elapses;
  calls = h.calls;
  idle = λ none. h.idle (omega (arith, none));
  quiet = tt;
}

-- an error that is passed on
pub failed_by : {T : Type 0} (need : Need) (MayLead : VolumeTable → Type 0) (change : Files → Files)
    (reads : ℕ) (r : Result T Hindrance) (old new : VolumeView) (by : Hindrance) → old.down ≡ None
    → IsErrAnd r (λ h. h ≡ by) → GivesUp need MayLead (need.blocks + reads) old new by
    → Operates need MayLead change reads r old new
failed_by {T = T} need MayLead change reads (Ok x) old new by up is h = absurd is
failed_by {T = T} need MayLead change reads (Err h) old new by up is gives =
    subst (λ (x : Hindrance). Operates {T = T} need MayLead change reads (Err x) old new) (sym is)
    (failed {T = T} need MayLead change reads old new by up gives)

-- ---- giving up

pub lacks_not : (need : Need) (v : VolumeView) (P : Type 0) → LacksRoom need v → need.blocks ≤ spare v
    → P
lacks_not need v P lt le = absurd (omega (arith, lt, le))

-- nothing was done, and so nothing changed
pub refused : (need : Need) (MayLead : VolumeTable → Type 0) (most : ℕ) (v : VolumeView)
    (by : Hindrance) → v.down ≡ None → (by ≡ hindrance.Disk → ⊥) → Hinders need MayLead v v by
    → EndsBy v v by → GivesUp need MayLead most v v by
refused need MayLead most v by up other cause ends = record {
  table = refl;
  books = inl refl;
  files = refl;
  places = places_refl v.table (live_of v.seen);
  cause = cause;
  needed = λ e. absurd (other e);
  stops = stops_none v;
  still = λ le. only_none v.seen;
  goes = ends;
  elapses = record { size = refl; calls = omega arith; faults = omega arith };
  calls = omega arith;
  idle = λ none. refl;
}

-- a limit is met
pub limit_refused : (need : Need) (MayLead : VolumeTable → Type 0) (most : ℕ) (v : VolumeView)
    (kind : LimitKind) → v.down ≡ None → hindrance_of v.table need ≡ Some (hindrance.Limit kind)
    → GivesUp need MayLead most v v (hindrance.Limit kind)
limit_refused need MayLead most v kind up is =
    refused need MayLead most v (hindrance.Limit kind) up (λ e. absurd cc) (is, refl)
    (record { down = up; calls = up_refl (first_byte v.table.layout) v.seen })

module _ (need : Need) (MayLead : VolumeTable → Type 0) (most : ℕ) (old new : VolumeView)
    (ready : Readies need most old new) where
  books_kept : (new ≡ record old { seen = new.seen; down = new.down }) ⊎ MadeRoom need old new
  books_kept =
      ⊎_elim
      (λ same.
      inl (same
      ∙ ap (λ (d : Option ℕ). record old { seen = new.seen; down = d })
      (sym (ap (λ (v : VolumeView). v.down) same))))
      (λ made. inr made) ready.books

  -- what went by was right, and the error says why
  pub gave_up : (by : Hindrance) → (by ≡ hindrance.Disk → 1 ≤ need.blocks + most)
      → Hinders need MayLead old new by → EndsBy old new by → GivesUp need MayLead most old new by
  gave_up by needed cause ends = record {
    table = ready.table;
    books = books_kept;
    files = ready.files;
    places = ready.places;
    cause = cause;
    needed = needed;
    stops = ready.stops;
    still = ready.still;
    goes = ends;
    elapses = ready.elapses;
    calls = ready.calls;
    idle = ready.idle;
  }

  pub memory_short : new.seen.faults ≡ old.seen.faults
      → GivesUp need MayLead most old new hindrance.Memory
  memory_short quiet = gave_up hindrance.Memory (λ e. absurd cc) quiet ready.up

  -- reading or staging failed
  pub work_short : (by : Hindrance) → IsUnhindered old.table need
      → HindersReading most old.seen new.seen by → GivesUp need MayLead most old new by
  work_short hindrance.Memory free cause = memory_short cause
  work_short hindrance.Disk free cause =
      gave_up hindrance.Disk (λ e. omega (arith, cause.0)) (free, cause.1, cause.2) ready.up
  work_short (hindrance.TableFull needed cap) free cause = absurd cause
  work_short (hindrance.Limit kind) free cause = absurd cause
  work_short (hindrance.Full needed mapped total) free cause = absurd cause
  work_short (hindrance.Down at) free cause = absurd cause

-- over more calls, or for more tables
hinders_any : (need : Need) (MayLead : VolumeTable → Type 0) (old new : VolumeView)
    (by : Hindrance) → Hinders need NoTable old new by → Hinders need MayLead old new by
hinders_any need MayLead old new hindrance.Memory h = h
hinders_any need MayLead old new hindrance.Disk h = h
hinders_any need MayLead old new (hindrance.TableFull needed most) h = absurd h.2.1
hinders_any need MayLead old new (hindrance.Limit kind) h = h
hinders_any need MayLead old new (hindrance.Full needed mapped total) h = h
hinders_any need MayLead old new (hindrance.Down at) h = h

pub gives_up_wider : (need : Need) (MayLead : VolumeTable → Type 0) (m most : ℕ)
    (old new : VolumeView) (by : Hindrance) → m ≤ most → GivesUp need NoTable m old new by
    → GivesUp need MayLead most old new by
gives_up_wider need MayLead m most old new by few h = record {
  table = h.table;
  books = h.books;
  files = h.files;
  places = h.places;
  cause = hinders_any need MayLead old new by h.cause;
  needed = λ e. (let some = h.needed e in omega (arith, some, few));
  stops = h.stops;
  still = h.still;
  goes = h.goes;
  elapses = h.elapses;
  calls = omega (arith, few, h.calls);
  idle = λ none. h.idle (omega (arith, few, none));
}

pub gives_up_longer : (need : Need) (MayLead : VolumeTable → Type 0) (m most : ℕ)
    (old new : VolumeView) (by : Hindrance) → m ≤ most → GivesUp need MayLead m old new by
    → GivesUp need MayLead most old new by
gives_up_longer need MayLead m most old new by few h = record {
  table = h.table;
  books = h.books;
  files = h.files;
  places = h.places;
  cause = h.cause;
  needed = λ e. (let some = h.needed e in omega (arith, some, few));
  stops = h.stops;
  still = h.still;
  goes = h.goes;
  elapses = h.elapses;
  calls = omega (arith, few, h.calls);
  idle = λ none. h.idle (omega (arith, few, none));
}

-- an error that is passed on
pub given_up : {T : Type 0} (r : Result T Hindrance) (by : Hindrance) (P : Hindrance → Type 0)
    → IsErrAnd r (λ h. h ≡ by) → P by → IfErr r P
given_up (Ok x) by P is h = tt
given_up (Err h) by P is p = subst P (sym is) p

-- ---- the edits were applied, or not

module _ (need : Need) (MayLead : VolumeTable → Type 0) (change : Files → Files) (reads : ℕ)
    (old mid new : VolumeView) (edited : VolumeTable) (up : old.down ≡ None)
    (free : IsUnhindered old.table need) (ready : Readies need (need.blocks + reads) old mid)
    (still : mid.seen.faults ≡ old.seen.faults) where
  held_bits : (new : VolumeView) → new.committed ≡ mid.committed → (new.committed ≡ old.committed)
      ⊎ (LacksRoom need old × (new.committed ≡ used_places old.table))
  held_bits new same =
      ⊎_elim
      (λ is. inl (same ∙ ap (λ (v : VolumeView). v.committed) is))
      (λ made. inr (made.lacked, same ∙ ap (λ (v : VolumeView). v.committed) made.same))
      ready.books

  applied_ok : {T : Type 0} (is_changed : Bool) (x : T)
      → new ≡ record mid { table = edited; is_changed = is_changed } → is_changed ≡ true
      → MayLead edited → files_in edited mid.seen ≡ option_map change (files_in old.table old.seen)
      → ((was now : List ℕ) → KeepsPlaces old.table was now → KeepsVersions old.table edited was now)
      → Operates {T = T} need MayLead change reads (Ok x) old new
  applied_ok {T = T} is_changed x is edits leads files versions =
      let table : new.table ≡ edited = ap (λ (v : VolumeView). v.table) is in
      let seen : new.seen ≡ mid.seen = ap (λ (v : VolumeView). v.seen) is in
      let places : Both (KeepsPlaces old.table) (live_of old.seen) (live_of new.seen) =
      subst (λ (s : Seen). Both (KeepsPlaces old.table) (live_of old.seen) (live_of s)) (sym seen) ready.places in
      record {
        ok = subst MayLead (sym table) leads;
        err = tt;
        files = ap (λ (v : VolumeView). files_in v.table v.seen) is ∙ files;
        kept = tt;
        versions =
            subst (λ (w : VolumeTable). Both (KeepsVersions old.table w) (live_of old.seen) (live_of new.seen)) (sym table)
            (both_weaker (KeepsPlaces old.table) (KeepsVersions old.table edited) versions (live_of old.seen) (live_of new.seen) places);
        books = tt;
        changed = inr (ap (λ (v : VolumeView). v.is_changed) is ∙ edits);
        held = held_bits new (ap (λ (v : VolumeView). v.committed) is);
        cause = λ was. tt;
        needed = λ e. absurd cc;
        limit = λ was h met. absurd (let e = sym free ∙ met in cc);
        down = never_down {T = T} (Ok x) old new up;
        places = places;
        stops = stops_applied {E = Hindrance} (Ok x) old mid new edited is_changed is tt ready.stops;
        still = λ le. subst (λ (s : Seen). OnlyOpens old.seen s) (sym seen) (ready.still le);
        up = record {
          down = ap (λ (v : VolumeView). v.down) is ∙ ready.up.down;
          calls = subst (λ (s : Seen). StaysUp (first_byte old.table.layout) old.seen s) (sym seen) ready.up.calls;
        };
        goes = λ was. tt;
        elapses = subst (λ (s : Seen). Elapses old.seen s) (sym seen) ready.elapses;
        calls = subst (λ (s : Seen). s.calls ≤ old.seen.calls + (need.blocks + reads + room_calls need old)) (sym seen) ready.calls;
        idle = λ none. seen ∙ ready.idle (omega (arith, none));
        quiet = ap (λ (s : Seen). s.faults) seen ∙ still;
      }

  applied_short : (by : Hindrance) → new ≡ mid
      → HindersApplying (length (spelling edited)) (table_cap mid.table.layout) by
      → MayLead edited → GivesUp need MayLead (need.blocks + reads) old new by
  applied_short by is cause leads =
      subst (λ (v : VolumeView). GivesUp need MayLead (need.blocks + reads) old v by) (sym is) (at_mid by cause)
    where
      at_mid : (by : Hindrance)
          → HindersApplying (length (spelling edited)) (table_cap mid.table.layout) by
          → GivesUp need MayLead (need.blocks + reads) old mid by
      at_mid hindrance.Memory cause =
          memory_short need MayLead (need.blocks + reads) old mid ready still
      at_mid (hindrance.TableFull needed cap) cause =
          gave_up need MayLead (need.blocks + reads) old mid ready (hindrance.TableFull needed cap)
          (λ e. absurd cc) (
            free,
            still,
            (
              edited,
              leads,
              record {
                size = cause.0;
                most = cause.1 ∙ ap (λ (v : VolumeTable). table_cap v.layout) ready.table;
                above = omega (arith, cause.0, cause.1, cause.2);
              },
            ),
          ) ready.up
      at_mid (hindrance.Limit kind) cause = absurd cause
      at_mid (hindrance.Full needed mapped total) cause = absurd cause
      at_mid hindrance.Disk cause = absurd cause
      at_mid (hindrance.Down at) cause = absurd cause

  pub applied : {T : Type 0} (r : Result T Hindrance) (is_changed : Bool)
      → OnOk r (new ≡ record mid { table = edited; is_changed = is_changed })
      → OnErr r (new ≡ mid)
      → IfErr r (HindersApplying (length (spelling edited)) (table_cap mid.table.layout))
      → is_changed ≡ true → MayLead edited
      → files_in edited mid.seen ≡ option_map change (files_in old.table old.seen)
      → ((was now : List ℕ) → KeepsPlaces old.table was now → KeepsVersions old.table edited was now)
      → Operates need MayLead change reads r old new
  applied (Ok x) is_changed ok err cause edits leads files versions =
      applied_ok is_changed x ok edits leads files versions
  applied (Err by) is_changed ok err cause edits leads files versions =
      failed need MayLead change reads old new by up (applied_short by err cause leads)

  -- the same, passed on
  pub applied_err : {S T : Type 0} (r : Result S Hindrance) (by : Hindrance) (q : Result T Hindrance)
      → r ≡ Err by → IsErrAnd q (λ h. h ≡ by) → OnErr r (new ≡ mid)
      → IfErr r (HindersApplying (length (spelling edited)) (table_cap mid.table.layout))
      → MayLead edited → Operates need MayLead change reads q old new
  applied_err (Ok x) by q is passed err cause leads = absurd cc
  applied_err (Err h) by q is passed err cause leads =
      let same : h ≡ by = cc in
      failed_by need MayLead change reads q old new by up passed
      (subst (λ (x : Hindrance). GivesUp need MayLead (need.blocks + reads) old new x) same
      (applied_short h err cause leads))
