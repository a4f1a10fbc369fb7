-- Room was made, or not.
use Rattle.std.proofs.Common.{◌≡◌, ◌⊎◌, ⊎_elim, inl, inr, ℕ, ◌+◌, ◌*◌, ◌<◌, ◌≤◌, length, drop, Some, None, refl, sym, ap, ◌∙◌, subst, arith}
use Rattle.std.specs.Prelude.{IfErr, IfSome, IsOk, OnOk, Ok, Err, Result}
use Rattle.std.specs.Option.{option_map}
use Rattle.std.proofs.lemmas.Bool.{cases_lt}
use Rattle.std.proofs.lemmas.Bool.Decides.{nat_tests}
use Rattle.sis_disk.specs.Causes.{GoesWell}
use Rattle.sis_disk.specs.Stops.{Elapses}
use Rattle.sis_disk.proofs.GoesOn.{up_refl, up_well}
use Rattle.sis_disk.specs.Layout.{data_blocks, first_byte}
use Rattle.sis_disk.specs.Record.{live_of}
use Rattle.sis_history.specs.Needs.{hindrance_of, IsUnhindered, Need}
use Rattle.sis_journal.specs.Committing.{Both}
use Rattle.sis_model.specs.declared.reply.Hindrance.{Hindrance}
use Rattle.sis_model.specs.declared.reply.Hindrance.TheVariants as hindrance
use Rattle.sis_table.specs.Content.{files_in}
use Rattle.sis_table.specs.Volume.{VolumeTable, IsTable, used}
use Rattle.sis_volume.specs.Room.{HindersRoom}
use Rattle.sis_volume.specs.Stopping.{IsCommitted, MayCommit, StopsWell}
use Rattle.sis_volume.specs.View.{VolumeView, spare}
use Rattle.sis_volume.proofs.Stopping.{stops_room}
use Rattle.sis_copyclose.specs.Calls.{room_calls}
use Rattle.sis_copyclose.specs.Hindering.{LacksRoom}
use Rattle.sis_copyclose.specs.Inside.{AsksBlocks, GivesUp, NoTable, Readies, blocks_alone}
use Rattle.sis_copyclose.specs.Operating.{KeepsPlaces}
use Rattle.sis_copyclose.proofs.Needing.{alone_fits, alone_full}
use Rattle.sis_copyclose.proofs.Operations.{lacks_not, refused}
use Rattle.sis_copyclose.proofs.Works.{places_dropped, readied_none}

err_same : {T : Type 0} (a b : Hindrance) → ◌≡◌ {A = Result T Hindrance} (Err a) (Err b) → a ≡ b
err_same a b e = cc

-- the answer of a want of room
abbrev AnswersFull : {T : Type 0} → ℕ → Result T Hindrance → VolumeView → VolumeView → Type 0
AnswersFull blocks r old new =
    (r ≡ Err (hindrance.Full blocks (used old.table) (data_blocks old.table.layout))) × (new ≡ old)

four_calls : (need : Need) (v : VolumeView) → LacksRoom need v → room_calls need v ≡ 4
four_calls need v lt = grind (arith, nat_tests)

-- what asks for blocks alone fits where they do
pub unhindered_by : (v : VolumeTable) (need : Need) (blocks : ℕ) → AsksBlocks v need
    → need.blocks ≡ blocks → IsUnhindered v (blocks_alone blocks) → IsUnhindered v need
unhindered_by v need blocks asks same fits =
    asks ∙ ap (λ (n : ℕ). hindrance_of v (blocks_alone n)) same ∙ fits

module _ (blocks : ℕ) (old new : VolumeView) (up : old.down ≡ None) (is_table : IsTable old.table)
    (sized : IfSome (live_of old.seen) (λ live. length live ≡ 4096 * old.table.layout.total))
    (table : new.table ≡ old.table)
    (images : old.down ≡ None → MayCommit old.table old.seen new.seen)
    (files : files_in new.table new.seen ≡ files_in old.table old.seen)
    (dropped : option_map (drop (first_byte old.table.layout)) (live_of new.seen)
    ≡ option_map (drop (first_byte old.table.layout)) (live_of old.seen))
    (elapses : Elapses old.seen new.seen) (calls : new.seen.calls ≤ old.seen.calls + 4) where
  places : Both (KeepsPlaces old.table) (live_of old.seen) (live_of new.seen)
  places = places_dropped old.table (live_of old.seen) (live_of new.seen) is_table sized dropped

  few_calls : (need : Need) → LacksRoom need old
      → new.seen.calls ≤ old.seen.calls + (0 + room_calls need old)
  few_calls need lacks = omega (arith, calls, four_calls need old lacks)

  lacked_ready : (need : Need) → LacksRoom need old → (new ≡ old) ⊎ IsCommitted old new
      → GoesWell (first_byte old.table.layout) old.seen new.seen → StopsWell old new
      → Readies need 0 old new
  lacked_ready need lacks how went stops = record {
    table = table;
    books =
        ⊎_elim (λ same. inl (subst (λ (v : VolumeView). v ≡ record old { seen = v.seen }) (sym same) refl))
        (λ done. inr (record { lacked = lacks; same = done.same })) how;
    up = record {
      down =
          ⊎_elim (λ same. ap (λ (v : VolumeView). v.down) same ∙ up) (λ done. done.up) how;
      calls = up_well (first_byte old.table.layout) old.seen new.seen went;
    };
    stops = stops;
    still = λ le. lacks_not need old _ lacks le;
    files = files;
    places = places;
    elapses = elapses;
    calls = few_calls need lacks;
    idle = λ none. lacks_not need old _ lacks (omega (arith, none));
  }

  module _ {T : Type 0} (r : Result T Hindrance)
      (enough : old.down ≡ None → blocks ≤ spare old → IsOk r × (new ≡ old))
      (ok : OnOk r ((new ≡ old) ⊎ IsCommitted old new))
      (full : old.down ≡ None → data_blocks old.table.layout < used old.table + blocks
      → AnswersFull blocks r old new)
      (cause : old.down ≡ None → IfErr r (HindersRoom blocks old new)) where
    stops : StopsWell old new
    stops = stops_room r blocks old new up images files ok cause

    pub room_fits : OnOk r (IsUnhindered old.table (blocks_alone blocks))
    room_fits = by r full
      where
        by : (r : Result T Hindrance)
            → (old.down ≡ None → data_blocks old.table.layout < used old.table + blocks
            → AnswersFull blocks r old new)
            → OnOk r (IsUnhindered old.table (blocks_alone blocks))
        by (Ok x) full =
            alone_fits old.table blocks is_table
            (λ lt. absurd (let e = (full up lt).0 in cc))
        by (Err h) full = tt

    pub room_ready : OnOk r (GoesWell (first_byte old.table.layout) old.seen new.seen)
        → OnOk r ((need : Need) → need.blocks ≡ blocks → Readies need 0 old new)
    room_ready = by r ok enough stops
      where
        by : (r : Result T Hindrance) → OnOk r ((new ≡ old) ⊎ IsCommitted old new)
            → (old.down ≡ None → blocks ≤ spare old → IsOk r × (new ≡ old)) → StopsWell old new
            → OnOk r (GoesWell (first_byte old.table.layout) old.seen new.seen)
            → OnOk r ((need : Need) → need.blocks ≡ blocks → Readies need 0 old new)
        by (Err h) ok enough well went = tt
        by (Ok x) ok enough well went = λ need same. elim (cases_lt (spare old) blocks) [
          | inl lt ↦ lacked_ready need (omega (arith, lt, same)) ok went well
          | inr le ↦
              subst (λ (v : VolumeView). Readies need 0 old v) (sym (enough up le).1)
              (readied_none need old up)
        ]

    pub room_gives_up : IfErr r (λ by. (need : Need) → need.blocks ≡ blocks → AsksBlocks old.table need
        → GivesUp need NoTable 0 old new by)
    room_gives_up = by r enough full cause stops
      where
        by : (r : Result T Hindrance)
            → (old.down ≡ None → blocks ≤ spare old → IsOk r × (new ≡ old))
            → (old.down ≡ None → data_blocks old.table.layout < used old.table + blocks
            → AnswersFull blocks r old new)
            → (old.down ≡ None → IfErr r (HindersRoom blocks old new)) → StopsWell old new
            → IfErr r (λ by. (need : Need) → need.blocks ≡ blocks → AsksBlocks old.table need
            → GivesUp need NoTable 0 old new by)
        by (Ok x) enough full cause well = tt
        by (Err hindrance.Memory) enough full cause well = λ need same asks. absurd (cause up)
        by (Err hindrance.Disk) enough full cause well = λ need same asks. absurd (cause up)
        by (Err (hindrance.Limit kind)) enough full cause well = λ need same asks. absurd (cause up)
        by (Err (hindrance.TableFull needed most)) enough full cause well = λ need same asks.
            absurd (cause up)
        by (Err (hindrance.Full needed mapped total)) enough full cause well = λ need same asks.
            let why = (cause up).1 in
            let lt : data_blocks old.table.layout < used old.table + blocks =
            omega (arith, (cause up).0, why.mapped_now, why.total_now, why.cause) in
            let is = err_same {T = T} _ _ (full up lt).0 in
            let met : hindrance_of old.table need ≡ Some (hindrance.Full needed mapped total) =
            asks
            ∙ ap (λ (n : ℕ). hindrance_of old.table (blocks_alone n)) same
            ∙ alone_full old.table blocks is_table lt
            ∙ ap (λ (h : Hindrance). Some h) (sym is) in
            subst (λ (v : VolumeView). GivesUp need NoTable 0 old v (hindrance.Full needed mapped total)) (sym why.same)
            (refused need NoTable 0 old (hindrance.Full needed mapped total) up (λ e. absurd cc)
            (met, refl)
            (record { down = up; calls = up_refl (first_byte old.table.layout) old.seen }))
        by (Err (hindrance.Down at)) enough full cause well = λ need same asks.
            let went = cause up in
            let lacks : LacksRoom need old =
            elim (cases_lt (spare old) blocks) [
              | inl lt ↦ omega (arith, lt, same)
              | inr le ↦ absurd (let e = (enough up le).0 in cc)
            ] in
            record {
              table = table;
              books = inl went.same;
              files = files;
              places = places;
              cause = (
                asks
                    ∙ ap (λ (n : ℕ). hindrance_of old.table (blocks_alone n)) same
                    ∙ alone_fits old.table blocks is_table
                    (λ lt. absurd (let e = (full up lt).0 in cc)),
                lacks,
                went,
              );
              needed = λ e. absurd cc;
              stops = well;
              still = λ le. lacks_not need old _ lacks le;
              goes = record { down = went.down; calls = went.failed };
              elapses = elapses;
              calls = few_calls need lacks;
              idle = λ none. lacks_not need old _ lacks (omega (arith, none));
            }
