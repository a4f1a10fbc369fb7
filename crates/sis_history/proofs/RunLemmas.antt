-- How runs go on.
use Rattle.std.proofs.Common.{◌≡◌, ℕ, ◌≤◌, inl, inr, List, [], ◌∷◌, ◌++◌, refl, sym, ap, subst, ◌∙◌, arith}
use Rattle.std.specs.Prelude.{Option, Some, None, IfSome}
use Rattle.sis_disk.specs.Causes.{AllServe, LastFails, NoneFails}
use Rattle.sis_disk.specs.Layout.{first_byte}
use Rattle.sis_disk.specs.Record.{Call, DiskRecord, Seen}
use Rattle.sis_disk.specs.Stops.{GoesOnBy}
use Rattle.sis_model.specs.Answer.{MayReply, world_with}
use Rattle.sis_model.specs.History.{IsLegal, world_after}
use Rattle.sis_model.specs.Opens.{IsWorld}
use Rattle.sis_model.specs.World.{World}
use Rattle.sis_model.specs.declared.history.Entry.{Entry}
use Rattle.sis_model.proofs.Histories.{IsLegal-push, world_after-push}
use Rattle.sis_table.specs.Volume.{VolumeTable}
use Rattle.sis_history.specs.Appearing.{AppearsLegal, MayAppear}
use Rattle.sis_history.specs.Entries.{with_row, with_rows}
use Rattle.sis_history.specs.Rows.{Row, Begins, Enters, Fails}
use Rattle.sis_history.specs.Runs.{HasRun, IsRow, IsRun, MayCall, first_stage}
use Rattle.sis_history.specs.Stage.{Stage}
use Rattle.sis_history.specs.Stops.{AreInOrder, AreWithin}
use Rattle.sis_history.proofs.AppearLemmas.{IsTold, appears_push, world_appeared}
use Rattle.sis_history.proofs.CountLemmas.{in_order_push, within_later, within_push}

pub run_append : (s m t : Stage) (rows more : List Row) → IsRun s rows m → IsRun m more t
    → IsRun s (rows ++ more) t
run_append s m t [] more first second = subst (λ (x : Stage). IsRun x more t) first second
run_append s m t (row ∷ rows) more first second =
    (first.0, first.1, run_append first.0 m t rows more first.2 second)

-- ---- a failed commit

pub row_keeps_down : (s n : Stage) (row : Row) (at : ℕ) → IsRow s row n → s.down ≡ Some at
    → n.down ≡ Some at
row_keeps_down s n (Begins client command) at r is = r.down ∙ is
row_keeps_down s n (Enters entry fresh) at r is = r.down ∙ is
row_keeps_down s n (Fails client file call) at r is =
    absurd (let none : s.down ≡ None = r.may.0 in cc)

pub run_keeps_down : (s t : Stage) (rows : List Row) (at : ℕ) → IsRun s rows t
    → s.down ≡ Some at → t.down ≡ Some at
run_keeps_down s t [] at run' is = ap (λ (x : Stage). x.down) run' ∙ is
run_keeps_down s t (row ∷ rows) at run' is =
    run_keeps_down run'.0 t rows at run'.2 (row_keeps_down s run'.0 row at run'.1 is)

-- ---- entries

pub rows_append : (rows more : List Row) (es : List Entry)
    → with_rows es (rows ++ more) ≡ with_rows (with_rows es rows) more
rows_append [] more es = refl
rows_append (row ∷ rows) more es = rows_append rows more (with_row es row)

-- ---- worlds

-- the world of the stage after a row is the one after its entries
row_after : (w : World) (es : List Entry) (s n : Stage) (row : Row) → IsRow s row n
    → s.world ≡ world_after w es → n.world ≡ world_after w (with_row es row)
row_after w es s n (Begins client command) r is = r.world ∙ is
row_after w es s n (Enters e fresh) r is =
    let after = ap (λ (v : World). world_with v e.client e.command e.reply) is in
    r.world ∙ after ∙ sym (world_after-push w es e)
row_after w es s n (Fails client file at) r is = r.world ∙ is

rows_after : (w : World) (es : List Entry) (s t : Stage) (rows : List Row) → IsRun s rows t
    → s.world ≡ world_after w es → t.world ≡ world_after w (with_rows es rows)
rows_after w es s t [] run' is = ap (λ (x : Stage). x.world) run' ∙ is
rows_after w es s t (row ∷ rows) run' is =
    rows_after w (with_row es row) run'.0 t rows run'.2 (row_after w es s run'.0 row run'.1 is)

pub run_after : (s t : Stage) (rows : List Row) → IsRun s rows t
    → t.world ≡ world_after s.world (with_rows [] rows)
run_after s t rows run' = rows_after s.world [] s t rows run' refl

row_stays_world : (s n : Stage) (row : Row) → IsRow s row n → IsWorld s.world
    → IsWorld n.world
row_stays_world s n (Begins client command) r is = subst IsWorld (sym r.world) is
row_stays_world s n (Enters e fresh) r is =
    subst IsWorld (sym r.world)
    (world_appeared s.world e.client e.command e.reply is r.may.may)
row_stays_world s n (Fails client file at) r is = subst IsWorld (sym r.world) is

pub run_world : (s t : Stage) (rows : List Row) → IsRun s rows t → IsWorld s.world
    → IsWorld t.world
run_world s t [] run' is = subst (λ (x : Stage). IsWorld x.world) (sym run') is
run_world s t (row ∷ rows) run' is =
    run_world run'.0 t rows run'.2 (row_stays_world s run'.0 row run'.1 is)

-- ---- what is told

went_on : (Are : List Call → Type 0) (old new : Option DiskRecord) (r : DiskRecord)
    → GoesOnBy Are old new → new ≡ Some r → IsTold old
went_on Are None new r goes is = absurd (let none : new ≡ None = goes in cc)
went_on Are (Some q) new r goes is = (q, refl)

same_told : (old new : Seen) (r : DiskRecord) → new ≡ old → new.told ≡ Some r → IsTold old.told
same_told old new r same is = (r, sym (ap (λ (x : Seen). x.told) same) ∙ is)

row_told : (s n : Stage) (row : Row) (r : DiskRecord) → IsRow s row n → n.seen.told ≡ Some r
    → IsTold s.seen.told
row_told s n row r has is = by_down s.down row has.calls
  where
    by_down : (down : Option ℕ) (row : Row)
        → MayCall down row (first_byte s.table.layout) s.seen n.seen → IsTold s.seen.told
    by_down (Some at) row calls = same_told s.seen n.seen r calls is
    by_down None (Begins client command) calls = same_told s.seen n.seen r calls is
    by_down None (Enters e fresh) calls =
        went_on (NoneFails (first_byte s.table.layout)) s.seen.told n.seen.told r calls.told is
    by_down None (Fails client file at) calls = elim calls.told [
      | inl made ↦
          went_on (LastFails (first_byte s.table.layout)) s.seen.told n.seen.told r made.1 is
      | inr none ↦
          went_on (AllServe (first_byte s.table.layout)) s.seen.told n.seen.told r none.1 is
    ]

-- a run that ends with a disk that tells its calls began with one
run_told : (s t : Stage) (rows : List Row) (r : DiskRecord) → IsRun s rows t
    → t.seen.told ≡ Some r → IsTold s.seen.told
run_told s t [] r run' is = (r, sym (ap (λ (x : Stage). x.seen.told) run') ∙ is)
run_told s t (row ∷ rows) r run' is =
    let later = run_told run'.0 t rows r run'.2 is in
    row_told s run'.0 row later.0 run'.1 later.1

-- ---- legality

-- a row takes a legal history on
row_legal : (w : World) (es : List Entry) (s n : Stage) (row : Row) → IsRow s row n
    → s.world ≡ world_after w es → IsTold n.seen.told → IsLegal w es
    → IsLegal w (with_row es row)
row_legal w es s n (Begins client command) r is told legal = legal
row_legal w es s n (Enters e fresh) r is told legal =
    let here : MayReply s.world e.client e.command e.reply =
    subst
    (λ (o : Option DiskRecord). IfSome o (λ r. MayReply s.world e.client e.command e.reply))
    told.1 r.may.told in
    IsLegal-push w es e legal
    (subst (λ (v : World). MayReply v e.client e.command e.reply) is here)
row_legal w es s n (Fails client file at) r is told legal = legal

rows_legal : (w : World) (es : List Entry) (s t : Stage) (rows : List Row) (r : DiskRecord)
    → IsRun s rows t → s.world ≡ world_after w es → t.seen.told ≡ Some r → IsLegal w es
    → IsLegal w (with_rows es rows)
rows_legal w es s t [] r run' is told legal = legal
rows_legal w es s t (row ∷ rows) r run' is told legal =
    let n = run'.0 in
    rows_legal w (with_row es row) n t rows r run'.2 (row_after w es s n row run'.1 is) told
    (row_legal w es s n row run'.1 is (run_told n t rows r run'.2 told) legal)

pub run_legal : (s t : Stage) (rows : List Row) (r : DiskRecord) → IsRun s rows t
    → t.seen.told ≡ Some r → IsLegal s.world (with_rows [] rows)
run_legal s t rows r run' told = rows_legal s.world [] s t rows r run' refl told tt

row_appears : (w : World) (es : List Entry) (s n : Stage) (row : Row) → IsRow s row n
    → s.world ≡ world_after w es → AppearsLegal w es → AppearsLegal w (with_row es row)
row_appears w es s n (Begins client command) r is legal = legal
row_appears w es s n (Enters e fresh) r is legal =
    appears_push w es e legal
    (subst (λ (v : World). MayAppear v e.client e.command e.reply) is r.may.may)
row_appears w es s n (Fails client file at) r is legal = legal

rows_appear : (w : World) (es : List Entry) (s t : Stage) (rows : List Row) → IsRun s rows t
    → s.world ≡ world_after w es → AppearsLegal w es → AppearsLegal w (with_rows es rows)
rows_appear w es s t [] run' is legal = legal
rows_appear w es s t (row ∷ rows) run' is legal =
    let n = run'.0 in
    rows_appear w (with_row es row) n t rows run'.2 (row_after w es s n row run'.1 is)
    (row_appears w es s n row run'.1 is legal)

pub run_appears : (s t : Stage) (rows : List Row) → IsRun s rows t
    → AppearsLegal s.world (with_rows [] rows)
run_appears s t rows run' = rows_appear s.world [] s t rows run' refl tt

-- ---- order

-- a row takes entries in order on, each decided by now
row_order : (s n : Stage) (row : Row) (es : List Entry) → IsRow s row n
    → AreInOrder es → AreWithin s.seen.calls es
    → AreInOrder (with_row es row) × AreWithin n.seen.calls (with_row es row)
row_order s n (Begins client command) es r order within =
    (order, within_later s.seen.calls n.seen.calls es r.elapses.calls within)
row_order s n (Enters e fresh) es r order within =
    let before : s.seen.calls ≤ n.seen.calls = r.elapses.calls in
    let decided : e.decided ≡ n.seen.calls = r.may.decided in
    let later = within_later s.seen.calls n.seen.calls es before within in (
      in_order_push s.seen.calls es e order within (omega (arith, before, decided)),
      within_push n.seen.calls es e (omega (arith, decided)) later,
    )
row_order s n (Fails client file at) es r order within =
    (order, within_later s.seen.calls n.seen.calls es r.elapses.calls within)

rows_order : (s t : Stage) (rows : List Row) (es : List Entry) → IsRun s rows t
    → AreInOrder es → AreWithin s.seen.calls es
    → AreInOrder (with_rows es rows) × AreWithin t.seen.calls (with_rows es rows)
rows_order s t [] es run' order within =
    (order, subst (λ (x : Stage). AreWithin x.seen.calls es) (sym run') within)
rows_order s t (row ∷ rows) es run' order within =
    let step = row_order s run'.0 row es run'.1 order within in
    rows_order run'.0 t rows (with_row es row) run'.2 step.0 step.1

pub run_order : (s t : Stage) (rows : List Row) → IsRun s rows t
    → AreInOrder (with_rows [] rows) × AreWithin t.seen.calls (with_rows [] rows)
run_order s t rows run' = rows_order s t rows [] run' tt tt

-- a row without an entry leaves the world
pub row_world : (s t : Stage) (row : Row) → IsRow s row t → with_row [] row ≡ []
    → t.world ≡ s.world
row_world s t (Begins client command) r none = r.world
row_world s t (Enters entry fresh) r none = absurd cc
row_world s t (Fails client file at) r none = r.world

-- ---- the run of a session

pub run_extended : (w : World) (v : VolumeTable) (seen : Seen) (es : List Entry) (s t : Stage)
    (rows : List Row) → HasRun w v seen es s → IsRun s rows t
    → HasRun w v seen (with_rows es rows) t
run_extended w v seen es s t rows has more = record {
  rows = has.rows ++ rows;
  run = run_append (first_stage w v seen) s t has.rows rows has.run more;
  same =
      let rest = rows_append has.rows rows [] in
      ap (λ (ds : List Entry). with_rows ds rows) has.same ∙ sym rest;
}

pub run_begun : (w : World) (v : VolumeTable) (seen : Seen)
    → HasRun w v seen [] (first_stage w v seen)
run_begun w v seen = record { rows = []; run = refl; same = refl }
