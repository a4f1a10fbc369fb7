-- Calls that go by until a table is changed.
use Rattle.std.proofs.Common.{◌≡◌, ◌⊎◌, ⊎_elim, inl, inr, ℕ, ◌+◌, ◌-◌, ◌*◌, ◌≤◌, true, List, [], ◌∷◌, ◌++◌, length, take, drop, Option, Some, None, refl, sym, ap, ◌∙◌, subst, arith, length-drop}
use Rattle.std.specs.Prelude.{IfErr, IfSome, OnErr, Ok, Err, Result, is_some, slice_range}
use Rattle.std.specs.Option.{option_map}
use Rattle.std.proofs.lemmas.List.{drop-drop}
use Rattle.sis_disk.specs.Causes.{StaysUp}
use Rattle.sis_disk.specs.Layout.{first_byte}
use Rattle.sis_disk.specs.declared.layout.Layout.{Layout}
use Rattle.sis_disk.specs.Record.{Call, DiskRecord, Rose, Seen, State, after, after_all, live_of, state_of}
use Rattle.sis_disk.specs.Stops.{Elapses, GoesOn, Leaves, Now, Shows, ShowsAlong}
use Rattle.sis_disk.proofs.GoesOn.{up_refl, up_trans}
use Rattle.sis_disk.proofs.Images.{after_all_append, leaves_none, leaves_trans, leaves_weaker}
use Rattle.sis_history.specs.Needs.{Need}
use Rattle.sis_journal.specs.Committing.{Both}
use Rattle.sis_model.specs.declared.reply.Hindrance.{Hindrance}
use Rattle.sis_model.specs.declared.reply.Hindrance.TheVariants as hindrance
use Rattle.sis_name.specs.Files.{Files}
use Rattle.sis_places.specs.Places.{PlacesView}
use Rattle.sis_table.specs.Content.{block_at, files_in, files_of}
use Rattle.sis_table.specs.Opens.{OpensAs}
use Rattle.sis_table.specs.Volume.{VolumeTable, IsTable, used_places}
use Rattle.sis_table.specs.declared.edit.Edit.{Edit}
use Rattle.sis_table.proofs.CallerLemmas.{is_used-between}
use Rattle.sis_view.specs.Reading.{OnlyReads}
use Rattle.sis_view.proofs.CallerLemmas.{leaves_reading, up_reading}
use Rattle.sis_volume.specs.Staging.{HindersStaging, KeepsOthers}
use Rattle.sis_volume.specs.Stopping.{OnlyOpens, StopsWell}
use Rattle.sis_volume.specs.View.{VolumeView, held}
use Rattle.sis_volume.proofs.Stopping.{stops_none}
use Rattle.sis_volume.proofs.Volumes.{fresh-avoids_current}
use Rattle.sis_copyclose.specs.Calls.{room_calls}
use Rattle.sis_copyclose.specs.Inside.{Readies, Works}
use Rattle.sis_copyclose.specs.Operating.{KeepsPlaces}
use Rattle.sis_copyclose.specs.Reading.{HindersReading}

-- ---- what stops leave

along_last : (P : List ℕ → Type 0) (s : State) (cs : List Call) → ShowsAlong P s cs
    → Shows P (after_all s cs)
along_last P s [] h = h
along_last P s (c ∷ cs) h = along_last P (after s c) cs h.1

leaves_last : (P : List ℕ → Type 0) (old new : Seen) → Leaves P old new → Now (Shows P) new
leaves_last P old new leaves r is = by old.told new.told leaves.told is
  where
    by : (was now : Option DiskRecord) → GoesOn P was now → now ≡ Some r → Shows P (state_of r)
    by None now goes e = absurd cc
    by (Some q) now goes e =
        let same : record { opening = q.opening; calls = q.calls ++ goes.0 } ≡ r = cc in
        subst (λ (x : DiskRecord). Shows P (state_of x)) same
        (subst (Shows P) (sym (after_all_append _ q.calls goes.0))
        (along_last P (state_of q) goes.0 goes.2))

pub only_none : (seen : Seen) → OnlyOpens seen seen
only_none seen files opens =
    leaves_none (OpensAs files) seen seen (record { calls = refl; told = refl }) opens

only_trans : (a b c : Seen) → OnlyOpens a b → OnlyOpens b c → OnlyOpens a c
only_trans a b c first second files opens =
    leaves_trans (OpensAs files) a b c (first files opens)
    (second files (leaves_last (OpensAs files) a b (first files opens)))

-- ---- bytes of places

both_refl : (P : List ℕ → List ℕ → Type 0) → ((m : List ℕ) → P m m) → (live : Option (List ℕ))
    → Both P live live
both_refl P same None = tt
both_refl P same (Some live) = same live

both_trans : (P : List ℕ → List ℕ → Type 0)
    → ((k m n : List ℕ) → P k m → P m n → P k n) → (a b c : Option (List ℕ)) → Both P a b
    → Both P b c → Both P a c
both_trans P then' None None None f g = tt
both_trans P then' None None (Some z) f g = absurd g
both_trans P then' None (Some y) c f g = absurd f
both_trans P then' (Some x) None c f g = absurd f
both_trans P then' (Some x) (Some y) None f g = absurd g
both_trans P then' (Some x) (Some y) (Some z) f g = then' x y z f g

pub both_weaker : (P Q : List ℕ → List ℕ → Type 0) → ((m n : List ℕ) → P m n → Q m n)
    → (a b : Option (List ℕ)) → Both P a b → Both Q a b
both_weaker P Q f None None h = tt
both_weaker P Q f None (Some y) h = absurd h
both_weaker P Q f (Some x) None h = absurd h
both_weaker P Q f (Some x) (Some y) h = f x y h

pub places_refl : (v : VolumeTable) (live : Option (List ℕ)) → Both (KeepsPlaces v) live live
places_refl v live =
    both_refl (KeepsPlaces v) (λ m. record { size = refl; used = λ place is. refl }) live

places_trans : (v : VolumeTable) (a b c : Option (List ℕ)) → Both (KeepsPlaces v) a b
    → Both (KeepsPlaces v) b c → Both (KeepsPlaces v) a c
places_trans v a b c f g =
    both_trans (KeepsPlaces v)
    (λ k m n one two. record {
      size = two.size ∙ one.size;
      used = λ place is. two.used place is ∙ one.used place is;
    }) a b c f g

-- what isn't fresh stays
places_staged : (v : VolumeTable) (p : PlacesView) (edits : List Edit)
    (old new : Option (List ℕ)) → IsTable v → p.current ≡ used_places v
    → Both (KeepsOthers v.layout p edits) old new → Both (KeepsPlaces v) old new
places_staged v p edits old new table bits keeps =
    both_weaker (KeepsOthers v.layout p edits) (KeepsPlaces v)
    (λ m n others. record {
      size = others.size;
      used = λ place is.
          others.blocks place
          (fresh-avoids_current v.layout p edits v refl table bits place is);
    }) old new keeps

pub others_refl : (l : Layout) (p : PlacesView) (edits : List Edit) (live : Option (List ℕ))
    → Both (KeepsOthers l p edits) live live
others_refl l p edits live =
    both_refl (KeepsOthers l p edits)
    (λ m. record { size = refl; areas = refl; blocks = λ place is. refl }) live

-- a block behind some bytes is one of those behind them
block_behind : (m : List ℕ) (k place : ℕ) → k ≤ 4096 * place
    → block_at m place ≡ slice_range (drop k m) (4096 * place - k) (4096 * place + 4096 - k)
block_behind m k place le =
    let there : k + (4096 * place - k) ≡ 4096 * place = omega arith in
    let len : 4096 * place + 4096 - k - (4096 * place - k) ≡ 4096 * place + 4096 - 4096 * place
    = omega arith in
    sym (ap (λ (n : ℕ). take n (drop (4096 * place - k) (drop k m))) len
    ∙ ap (take (4096 * place + 4096 - 4096 * place))
    (drop-drop (4096 * place - k) k m ∙ ap (λ (n : ℕ). drop n m) there))

-- the data blocks are the same
pub places_dropped : (v : VolumeTable) (old new : Option (List ℕ)) → IsTable v
    → IfSome old (λ m. length m ≡ 4096 * v.layout.total)
    → option_map (drop (first_byte v.layout)) new ≡ option_map (drop (first_byte v.layout)) old
    → Both (KeepsPlaces v) old new
places_dropped v None None table sized e = tt
places_dropped v None (Some n) table sized e = absurd cc
places_dropped v (Some m) None table sized e = absurd cc
places_dropped v (Some m) (Some n) table sized e =
    let k = first_byte v.layout in
    let same : drop k n ≡ drop k m = cc in
    let more = table.layout.has_data in
    record {
      size =
          omega (
            arith,
            sized,
            more,
            sym (length-drop k n) ∙ ap (λ (xs : List ℕ). length xs) same ∙ length-drop k m,
          );
      used = λ place is.
          let low = (is_used-between v place table is).0 in
          let le : k ≤ 4096 * place = omega arith in
          block_behind n k place le
          ∙ ap (λ (xs : List ℕ). slice_range xs (4096 * place - k) (4096 * place + 4096 - k)) same
          ∙ sym (block_behind m k place le);
    }

-- ---- works

pub works_none : (v : VolumeView) → Works 0 v v
works_none v = record {
  same = refl;
  up = up_refl (first_byte v.table.layout) v.seen;
  images = only_none v.seen;
  files = refl;
  places = places_refl v.table (live_of v.seen);
  elapses = record { size = refl; calls = omega arith; faults = omega arith };
  calls = omega arith;
  idle = λ none. refl;
}

pub works_reads : (most : ℕ) (old new : VolumeView) → new ≡ record old { seen = new.seen }
    → OnlyReads most old.seen new.seen → (most ≡ 0 → new.seen ≡ old.seen) → Works most old new
works_reads most old new same reads idle = record {
  same = same;
  up = up_reading (first_byte old.table.layout) most old.seen new.seen reads;
  images = λ files opens. leaves_reading (OpensAs files) most old.seen new.seen reads opens;
  files =
      ap (λ (v : VolumeTable). files_in v new.seen) (ap (λ (v : VolumeView). v.table) same)
      ∙ ap (option_map (files_of old.table)) reads.live;
  places =
      subst (λ (o : Option (List ℕ)). Both (KeepsPlaces old.table) (live_of old.seen) o)
      (sym reads.live) (places_refl old.table (live_of old.seen));
  elapses = reads.elapses;
  calls = reads.calls;
  idle = idle;
}

pub works_then : (m n most : ℕ) (a b c : VolumeView) → m + n ≤ most → Works m a b → Works n b c
    → Works most a c
works_then m n most a b c few one two =
    let table : b.table ≡ a.table = ap (λ (v : VolumeView). v.table) one.same in
    record {
      same = two.same ∙ ap (λ (v : VolumeView). record v { seen = c.seen }) one.same;
      up =
          up_trans (first_byte a.table.layout) a.seen b.seen c.seen one.up
          (subst (λ (v : VolumeTable). StaysUp (first_byte v.layout) b.seen c.seen) table two.up);
      images = only_trans a.seen b.seen c.seen one.images two.images;
      files = two.files ∙ one.files;
      places =
          places_trans a.table (live_of a.seen) (live_of b.seen) (live_of c.seen) one.places
          (subst (λ (v : VolumeTable). Both (KeepsPlaces v) (live_of b.seen) (live_of c.seen)) table
          two.places);
      elapses = record {
        size = two.elapses.size ∙ one.elapses.size;
        calls = omega (arith, one.elapses.calls, two.elapses.calls);
        faults = omega (arith, one.elapses.faults, two.elapses.faults);
      };
      calls = omega (arith, one.calls, two.calls, few);
      idle = λ none. two.idle (omega (arith, few, none)) ∙ one.idle (omega (arith, few, none));
    }

pub works_staged : (most : ℕ) (edits : List Edit) (old new : VolumeView) → IsTable old.table
    → new ≡ record old { seen = new.seen }
    → Both (KeepsOthers old.table.layout (held old) edits) (live_of old.seen) (live_of new.seen)
    → StaysUp (first_byte old.table.layout) old.seen new.seen → OnlyOpens old.seen new.seen
    → files_in new.table new.seen ≡ files_in old.table old.seen → Elapses old.seen new.seen
    → new.seen.calls ≤ old.seen.calls + most → 1 ≤ most → Works most old new
works_staged most edits old new table same others up images files elapses calls some = record {
  same = same;
  up = up;
  images = images;
  files = files;
  places =
      places_staged old.table (held old) edits (live_of old.seen) (live_of new.seen) table refl others;
  elapses = elapses;
  calls = calls;
  idle = λ none. absurd (omega (arith, some, none));
}

pub works_wider : (m most : ℕ) (a b : VolumeView) → m ≤ most → Works m a b → Works most a b
works_wider m most a b few one = record {
  same = one.same;
  up = one.up;
  images = one.images;
  files = one.files;
  places = one.places;
  elapses = one.elapses;
  calls = omega (arith, one.calls, few);
  idle = λ none. one.idle (omega (arith, few, none));
}

-- ---- readied

pub readied_none : (need : Need) (v : VolumeView) → v.down ≡ None → Readies need 0 v v
readied_none need v up = record {
  table = refl;
  books = inl refl;
  up = record { down = up; calls = up_refl (first_byte v.table.layout) v.seen };
  stops = stops_none v;
  still = λ le. only_none v.seen;
  files = refl;
  places = places_refl v.table (live_of v.seen);
  elapses = record { size = refl; calls = omega arith; faults = omega arith };
  calls = omega arith;
  idle = λ none. refl;
}

-- a stop during calls that leave what was there finds the files that the calls before left
abbrev Either : Files → Files → List ℕ → Type 0
Either committed current m = OpensAs committed m ⊎ OpensAs current m

down_not : (down : Option ℕ) (P : Type 0) → down ≡ None → is_some down ≡ true → P
down_not down P none some = absurd (let e = ap is_some none in cc)

pub stops_then : (a b c : VolumeView) → a.down ≡ None → b.down ≡ None → StopsWell a b
    → OnlyOpens b.seen c.seen → StopsWell a c
stops_then a b c a_up b_up first only = record {
  up = λ up committed current has.
      let one = first.up up committed current has in
      record {
        images =
            ⊎_elim
            (λ opens.
            leaves_trans (Either committed current) a.seen b.seen c.seen one.images
            (leaves_weaker (OpensAs committed) (Either committed current) b.seen c.seen
            (λ m x. inl x) (only committed opens)))
            (λ opens.
            leaves_trans (Either committed current) a.seen b.seen c.seen one.images
            (leaves_weaker (OpensAs current) (Either committed current) b.seen c.seen
            (λ m x. inr x) (only current opens)))
            (one.last b_up);
        last = λ still.
            ⊎_elim
            (λ opens.
            inl (leaves_last (OpensAs committed) b.seen c.seen (only committed opens)))
            (λ opens. inr (leaves_last (OpensAs current) b.seen c.seen (only current opens)))
            (one.last b_up);
      };
  down = λ some. down_not a.down (c.seen ≡ a.seen) a_up some;
}

-- more calls that change nothing
pub readied_then : (need : Need) (m n most : ℕ) (a b c : VolumeView) → m + n ≤ most
    → a.down ≡ None → Readies need m a b → Works n b c → Readies need most a c
readied_then need m n most a b c few up one two =
    let table : b.table ≡ a.table = one.table in
    let fewer : m + n + room_calls need a ≤ most + room_calls need a = omega (arith, few) in
    record {
      table = ap (λ (v : VolumeView). v.table) two.same ∙ table;
      books =
          ⊎_elim
          (λ same. inl (two.same ∙ ap (λ (v : VolumeView). record v { seen = c.seen }) same))
          (λ made. inr (record {
            lacked = made.lacked;
            same = two.same ∙ ap (λ (v : VolumeView). record v { seen = c.seen }) made.same;
          }))
          one.books;
      up = record {
        down = ap (λ (v : VolumeView). v.down) two.same ∙ one.up.down;
        calls =
            up_trans (first_byte a.table.layout) a.seen b.seen c.seen one.up.calls
            (subst (λ (v : VolumeTable). StaysUp (first_byte v.layout) b.seen c.seen) table two.up);
      };
      stops = stops_then a b c up one.up.down one.stops two.images;
      still = λ le. only_trans a.seen b.seen c.seen (one.still le) two.images;
      files = two.files ∙ one.files;
      places =
          places_trans a.table (live_of a.seen) (live_of b.seen) (live_of c.seen) one.places
          (subst (λ (v : VolumeTable). Both (KeepsPlaces v) (live_of b.seen) (live_of c.seen)) table
          two.places);
      elapses = record {
        size = two.elapses.size ∙ one.elapses.size;
        calls = omega (arith, one.elapses.calls, two.elapses.calls);
        faults = omega (arith, one.elapses.faults, two.elapses.faults);
      };
      calls = omega (arith, one.calls, two.calls, few);
      idle = λ none. two.idle (omega (arith, few, none)) ∙ one.idle (omega (arith, few, none));
    }

pub readied_wider : (need : Need) (m most : ℕ) (a b : VolumeView) → m ≤ most
    → Readies need m a b → Readies need most a b
readied_wider need m most a b few one = record {
  table = one.table;
  books = one.books;
  up = one.up;
  stops = one.stops;
  still = one.still;
  files = one.files;
  places = one.places;
  elapses = one.elapses;
  calls = omega (arith, one.calls, few);
  idle = λ none. one.idle (omega (arith, few, none));
}

pub sized_kept : (v : VolumeTable) (a b : Option (List ℕ)) → Both (KeepsPlaces v) a b
    → IfSome a (λ m. length m ≡ 4096 * v.layout.total)
    → IfSome b (λ m. length m ≡ 4096 * v.layout.total)
sized_kept v None None keeps whole = tt
sized_kept v None (Some x) keeps whole = absurd keeps
sized_kept v (Some m) None keeps whole = tt
sized_kept v (Some m) (Some x) keeps whole = keeps.size ∙ whole

-- ---- why reading and staging fail

pub if_err_map : {T : Type 0} (r : Result T Hindrance) (P Q : Hindrance → Type 0)
    → ((by : Hindrance) → P by → Q by) → IfErr r P → IfErr r Q
if_err_map (Ok x) P Q f h = tt
if_err_map (Err by) P Q f h = f by h

-- the same after calls that didn't fail, and over more of them
pub reading_wider : (m most : ℕ) (a b c : Seen) (by : Hindrance) → m ≤ most → b.faults ≡ a.faults
    → HindersReading m b c by → HindersReading most a c by
reading_wider m most a b c hindrance.Memory few quiet h = h ∙ quiet
reading_wider m most a b c hindrance.Disk few quiet h = (
  omega (arith, few, h.0),
  subst (λ (k : ℕ). Rose k c.faults) quiet h.1,
  omega (arith, quiet, h.2),
)
reading_wider m most a b c (hindrance.Limit kind) few quiet h = absurd h
reading_wider m most a b c (hindrance.Full needed mapped total) few quiet h = absurd h
reading_wider m most a b c (hindrance.TableFull needed cap) few quiet h = absurd h
reading_wider m most a b c (hindrance.Down at) few quiet h = absurd h

staging_reads : (most : ℕ) (a b : Seen) (by : Hindrance) → 1 ≤ most → b.faults ≤ a.faults + 1
    → HindersStaging a b by → HindersReading most a b by
staging_reads most a b hindrance.Memory some once h = h
staging_reads most a b hindrance.Disk some once h = (some, h, once)
staging_reads most a b (hindrance.Limit kind) some once h = absurd h
staging_reads most a b (hindrance.Full needed mapped total) some once h = absurd h
staging_reads most a b (hindrance.TableFull needed cap) some once h = absurd h
staging_reads most a b (hindrance.Down at) some once h = absurd h

pub staged_cause : {T : Type 0} (r : Result T Hindrance) (most : ℕ) (a b : Seen) → 1 ≤ most
    → OnErr r (b.faults ≤ a.faults + 1) → IfErr r (HindersStaging a b)
    → IfErr r (HindersReading most a b)
staged_cause (Ok x) most a b some once h = tt
staged_cause (Err by) most a b some once h = staging_reads most a b by some once h
