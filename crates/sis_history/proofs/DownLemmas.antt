-- A commit that failed, faults of the disk, and when it isn't called.
use Rattle.std.proofs.Common.{◌≡◌, ℕ, ◌≤◌, Bool, true, false, ◌||◌, ◌&&◌, List, [], ◌∷◌, ◌++◌, Option, Some, None, is_some, refl, sym, ap, subst, ◌∙◌, arith}
use Rattle.sis_disk.specs.Layout.{first_byte}
use Rattle.sis_disk.specs.Record.{Rose, Seen}
use Rattle.sis_model.specs.Answer.{IsDone, kind_of}
use Rattle.sis_model.specs.declared.command.Command.{Command}
use Rattle.sis_model.specs.declared.history.Entry.{Entry}
use Rattle.sis_model.specs.declared.reply.Hindrance.{Hindrance}
use Rattle.sis_model.specs.declared.reply.Hindrance.TheVariants as hindrance
use Rattle.sis_model.specs.declared.reply.Reply.{Reply}
use Rattle.sis_model.specs.declared.reply.Reply.TheVariants as reply
use Rattle.sis_history.specs.Causes.{IsCause, needs_disk}
use Rattle.sis_history.specs.Changed.{Fresh}
use Rattle.sis_history.specs.Entering.{AnswersDown, Decides, any_down, is_down, may_have_called}
use Rattle.sis_history.specs.Entries.{with_row, with_rows}
use Rattle.sis_history.specs.Replies.{Fits}
use Rattle.sis_history.specs.Rows.{Row, Begins, Enters, Fails}
use Rattle.sis_history.specs.Runs.{IsRow, IsRun, MayCall}
use Rattle.sis_history.specs.Stage.{Job, Stage}
use Rattle.sis_history.proofs.ExactLemmas.{some_and}
use Rattle.sis_history.proofs.FaultLemmas.{faults_rise, row_rose}
use Rattle.sis_history.proofs.RunLemmas.{row_keeps_down}

-- ---- replies that say that a commit failed

Tells : Bool → Option ℕ → Type 0
Tells says down = says ≡ true → is_some down ≡ true

any_pushed : (es : List Entry) (e : Entry) (down : Option ℕ) → Tells (any_down es) down
    → Tells (is_down e.reply) down → Tells (any_down (es ++ e ∷ [])) down
unfolding Tells
any_pushed [] e down before here = by (is_down e.reply) here
  where
    by : (b : Bool) → (b ≡ true → is_some down ≡ true) → (b || false) ≡ true
        → is_some down ≡ true
    by true here says = here refl
    by false here says = absurd cc
any_pushed (x ∷ es) e down before here = by (is_down x.reply) before (any_pushed es e down)
  where
    by : (b : Bool) → ((b || any_down es) ≡ true → is_some down ≡ true)
        → ((any_down es ≡ true → is_some down ≡ true)
        → (is_down e.reply ≡ true → is_some down ≡ true) → any_down (es ++ e ∷ []) ≡ true
        → is_some down ≡ true)
        → (b || any_down (es ++ e ∷ [])) ≡ true → is_some down ≡ true
    by true before rest says = before refl
    by false before rest says = rest before here says

answer_tells : (down : Option ℕ) (r : Reply) → AnswersDown down r → Tells (is_down r) down
unfolding Tells
answer_tells None r answers says =
    absurd (let both : true ≡ false = sym says ∙ answers in cc)
answer_tells (Some at) r answers says = refl

row_tells : (s n : Stage) (row : Row) (es : List Entry) → IsRow s row n
    → Tells (any_down es) s.down → Tells (any_down (with_row es row)) n.down
unfolding Tells
row_tells s n (Begins client command) es r before says =
    ap (λ (d : Option ℕ). is_some d) r.down ∙ before says
row_tells s n (Enters e fresh) es r before says =
    ap (λ (d : Option ℕ). is_some d) r.down
    ∙ any_pushed es e s.down before (answer_tells s.down e.reply r.may.down) says
row_tells s n (Fails client file at) es r before says =
    ap (λ (d : Option ℕ). is_some d) r.down

rows_tell : (s t : Stage) (rows : List Row) (es : List Entry) → IsRun s rows t
    → Tells (any_down es) s.down → Tells (any_down (with_rows es rows)) t.down
rows_tell s t [] es run' before =
    subst (λ (x : Stage). Tells (any_down es) x.down) (sym run') before
rows_tell s t (row ∷ rows) es run' before =
    rows_tell run'.0 t rows (with_row es row) run'.2 (row_tells s run'.0 row es run'.1 before)

pub run_tells : (s t : Stage) (rows : List Row) → IsRun s rows t
    → any_down (with_rows [] rows) ≡ true → is_some t.down ≡ true
unfolding Tells
run_tells s t rows run' says = rows_tell s t rows [] run' (λ never. absurd cc) says

-- ---- counts

pub calls_rise : (s t : Stage) (rows : List Row) → IsRun s rows t
    → s.seen.calls ≤ t.seen.calls
calls_rise s t [] run' = omega (arith, ap (λ (x : Stage). x.seen.calls) run')
calls_rise s t (row ∷ rows) run' =
    omega (arith, run'.1.elapses.calls, calls_rise run'.0 t rows run'.2)

-- only a row that says so lets a commit fail
row_falls : (s n : Stage) (row : Row) (at : ℕ) → IsRow s row n → s.down ≡ None
    → n.down ≡ Some at → Rose s.seen.faults n.seen.faults
row_falls s n (Begins client command) at r up is =
    absurd (let both : Some at ≡ None = sym is ∙ r.down ∙ up in cc)
row_falls s n (Enters e fresh) at r up is =
    absurd (let both : Some at ≡ None = sym is ∙ r.down ∙ up in cc)
row_falls s n (Fails client file call) at r up is =
    row_rose s n (Fails client file call) refl r

pub run_falls : (s t : Stage) (rows : List Row) (at : ℕ) → IsRun s rows t → s.down ≡ None
    → t.down ≡ Some at → Rose s.seen.faults t.seen.faults
run_falls s t [] at run' up is =
    absurd
    (let both : Some at ≡ None = sym is ∙ ap (λ (x : Stage). x.down) run' ∙ up in cc)
run_falls s t (row ∷ rows) at run' up is =
    by run'.0.down refl (λ still. run_falls run'.0 t rows at run'.2 still is)
  where
    by : (down : Option ℕ) → run'.0.down ≡ down
        → (run'.0.down ≡ None → Rose run'.0.seen.faults t.seen.faults)
        → Rose s.seen.faults t.seen.faults
    by None still later =
        let rose : Rose run'.0.seen.faults t.seen.faults = later still in
        omega (arith, run'.1.elapses.faults, rose)
    by (Some call) fell later =
        let rose : Rose s.seen.faults run'.0.seen.faults =
        row_falls s run'.0 row call run'.1 up fell in
        omega (arith, rose, faults_rise run'.0 t rows run'.2)

-- ---- no call of the disk

row_left : (s n : Stage) (row : Row) (at : ℕ) → IsRow s row n → s.down ≡ Some at
    → n.seen ≡ s.seen
row_left s n row at r is =
    let calls : MayCall (Some at) row (first_byte s.table.layout) s.seen n.seen =
    subst
    (λ (down : Option ℕ). MayCall down row (first_byte s.table.layout) s.seen n.seen) is r.calls in
    calls

pub run_left : (s t : Stage) (rows : List Row) (at : ℕ) → IsRun s rows t → s.down ≡ Some at
    → t.seen ≡ s.seen
run_left s t [] at run' is = ap (λ (x : Stage). x.seen) run'
run_left s t (row ∷ rows) at run' is =
    let n = run'.0 in
    run_left n t rows at run'.2 (row_keeps_down s n row at run'.1 is)
    ∙ row_left s n row at run'.1 is

pub entry_left : (s t : Stage) (e : Entry) (fresh : Fresh) → IsRow s (Enters e fresh) t
    → may_have_called s e.client e.command e.reply ≡ false → t.seen ≡ s.seen
entry_left s t e fresh r none = r.may.uncalled none

-- ---- a fault that a client is answered

not_needed : (b : Bool) → (b && false) ≡ false
not_needed true = refl
not_needed false = refl

module _ (s : Stage) (fresh : Fresh) (t : Stage) (client : ℕ) (c : Command) (j : Job)
    (changes : t.seen.faults ≡ s.seen.faults → ⊥) where
  stays : {P : Type 0} → t.seen.faults ≡ s.seen.faults → P
  stays same = absurd (changes same)

  first : {P : Type 0} → ((needs_disk s client c && false) ≡ false → t.seen ≡ s.seen) → P
  first uncalled =
      stays (ap (λ (seen : Seen). seen.faults) (uncalled (not_needed (needs_disk s client c))))

  cause_disk : (by : Hindrance)
      → (may_have_called s client c (reply.Hindered by) ≡ false → t.seen ≡ s.seen)
      → is_down (reply.Hindered by) ≡ false → IsCause s fresh t client j.command by
      → reply.Hindered by ≡ reply.Hindered hindrance.Disk
  cause_disk (hindrance.Limit kind) uncalled up cause = first uncalled
  cause_disk (hindrance.Full needed used' total) uncalled up cause = first uncalled
  cause_disk (hindrance.TableFull needed cap) uncalled up cause = stays cause.3
  cause_disk hindrance.Disk uncalled up cause = refl
  cause_disk (hindrance.Down at) uncalled up cause = absurd cc
  cause_disk hindrance.Memory uncalled up cause = stays cause.1

  reply_disk : (r : Reply) → (may_have_called s client c r ≡ false → t.seen ≡ s.seen)
      → (kind_of r ≡ IsDone → t.seen.faults ≡ s.seen.faults) → is_down r ≡ false
      → Fits s fresh t client j r → r ≡ reply.Hindered hindrance.Disk
  reply_disk (reply.Hindered by) uncalled quiet up fits = cause_disk by uncalled up fits
  reply_disk reply.Done uncalled quiet up fits = stays (quiet refl)
  reply_disk (reply.Opened number) uncalled quiet up fits = stays (quiet refl)
  reply_disk (reply.Read bytes) uncalled quiet up fits = stays (quiet refl)
  reply_disk (reply.Closed fate) uncalled quiet up fits = stays (quiet refl)
  reply_disk (reply.Sized size) uncalled quiet up fits = stays (quiet refl)
  reply_disk (reply.Names names more) uncalled quiet up fits = stays (quiet refl)
  reply_disk (reply.Told kind) uncalled quiet up fits = stays (quiet refl)
  reply_disk (reply.Space used' total) uncalled quiet up fits = stays (quiet refl)
  reply_disk (reply.Groveled report) uncalled quiet up fits = stays (quiet refl)
  reply_disk (reply.Ended closed unsettled) uncalled quiet up fits = stays (quiet refl)
  reply_disk reply.InvalidOpen uncalled quiet up fits = first uncalled
  reply_disk reply.InvalidParameter uncalled quiet up fits = first uncalled
  reply_disk (reply.InvalidRequest fault) uncalled quiet up fits = first uncalled
  reply_disk reply.InvalidDeviceRequest uncalled quiet up fits = first uncalled
  reply_disk reply.AccessDenied uncalled quiet up fits = first uncalled
  reply_disk reply.NotShared uncalled quiet up fits = first uncalled
  reply_disk reply.NameInvalid uncalled quiet up fits = first uncalled
  reply_disk reply.NotFound uncalled quiet up fits = first uncalled
  reply_disk reply.Collision uncalled quiet up fits = first uncalled
  reply_disk reply.InUse uncalled quiet up fits = first uncalled
  reply_disk reply.NotSameDevice uncalled quiet up fits = first uncalled
  reply_disk (reply.Unsettled left) uncalled quiet up fits = first uncalled

pub fault_answered : (s t : Stage) (e : Entry) (fresh : Fresh) → IsRow s (Enters e fresh) t
    → s.down ≡ None → (t.seen.faults ≡ s.seen.faults → ⊥)
    → e.reply ≡ reply.Hindered hindrance.Disk
fault_answered s t e fresh r up changes =
    let job = some_and (Decides s fresh t e) (s.jobs e.client) r.may.job in
    let decides : Decides s fresh t e job.0 = job.2 in
    reply_disk s fresh t e.client e.command job.0 changes e.reply r.may.uncalled r.may.quiet
    (subst (λ (down : Option ℕ). AnswersDown down e.reply) up r.may.down) decides.fits
