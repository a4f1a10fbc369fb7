-- Each fault that a run tells of is one of the disk.
use Rattle.std.proofs.Common.{◌≡◌, ℕ, ◌+◌, ◌-◌, ◌<◌, ◌≤◌, Bool, true, false, List, [], ◌∷◌, if◌then◌else◌, Option, None, refl, ap, subst, arith}
use Rattle.std.specs.Prelude.{◌^◌}
use Rattle.sis_disk.specs.Layout.{first_byte}
use Rattle.sis_disk.specs.Record.{Rose}
use Rattle.sis_model.specs.declared.reply.Hindrance.TheVariants as hindrance
use Rattle.sis_model.specs.declared.reply.Reply.{Reply}
use Rattle.sis_model.specs.declared.reply.Reply.TheVariants as reply
use Rattle.sis_history.specs.Changed.{Fresh}
use Rattle.sis_history.specs.Entering.{Decides}
use Rattle.sis_history.specs.Faults.{faults_told, is_disk, tells_fault}
use Rattle.sis_history.specs.Replies.{Fits}
use Rattle.sis_history.specs.Rows.{Row, Begins, Enters, Fails}
use Rattle.sis_history.specs.Runs.{IsRow, IsRun, MayCall}
use Rattle.sis_history.specs.Stage.{Job, Stage}
use Rattle.sis_history.proofs.ExactLemmas.{some_and}

reply_rose : (s : Stage) (fresh : Fresh) (t : Stage) (client : ℕ) (j : Job) (r : Reply)
    → is_disk r ≡ true → Fits s fresh t client j r → Rose s.seen.faults t.seen.faults
reply_rose s fresh t client j (reply.Hindered hindrance.Disk) is fits = (fits.2).rose
reply_rose s fresh t client j _ is fits = absurd cc

-- a row that tells of a fault has one of its own
pub row_rose : (s t : Stage) (row : Row) → tells_fault row ≡ true → IsRow s row t
    → Rose s.seen.faults t.seen.faults
row_rose s t (Begins client command) is r = absurd cc
row_rose s t (Enters e fresh) is r =
    let job = some_and (Decides s fresh t e) (s.jobs e.client) r.may.job in
    reply_rose s fresh t e.client job.0 e.reply is (job.2).fits
row_rose s t (Fails client file at) is r =
    let calls : MayCall None (Fails client file at) (first_byte s.table.layout) s.seen t.seen =
    subst
    (λ (down : Option ℕ).
    MayCall down (Fails client file at) (first_byte s.table.layout) s.seen t.seen)
    r.may.0 r.calls in
    calls.rose

row_faults : (s n : Stage) (row : Row) → IsRow s row n → n.seen.faults < 2 ^ 64 - 1
    → s.seen.faults + (if tells_fault row then 1 else 0) ≤ n.seen.faults
row_faults s n row r few = by_test (tells_fault row) refl
  where
    by_test : (b : Bool) → tells_fault row ≡ b
        → s.seen.faults + (if b then 1 else 0) ≤ n.seen.faults
    by_test true tells =
        let rose : Rose s.seen.faults n.seen.faults = row_rose s n row tells r in
        omega (arith, rose, few)
    by_test false tells = omega (arith, r.elapses.faults)

pub faults_rise : (s t : Stage) (rows : List Row) → IsRun s rows t
    → s.seen.faults ≤ t.seen.faults
faults_rise s t [] run' = omega (arith, ap (λ (x : Stage). x.seen.faults) run')
faults_rise s t (row ∷ rows) run' =
    omega (arith, run'.1.elapses.faults, faults_rise run'.0 t rows run'.2)

-- the disk's count rose by as many faults as the rows tell of, or stands at its end
pub run_faults : (s t : Stage) (rows : List Row) → IsRun s rows t → t.seen.faults < 2 ^ 64 - 1
    → s.seen.faults + faults_told rows ≤ t.seen.faults
run_faults s t [] run' few = omega (arith, ap (λ (x : Stage). x.seen.faults) run')
run_faults s t (row ∷ rows) run' few =
    let later = faults_rise run'.0 t rows run'.2 in
    let here = row_faults s run'.0 row run'.1 (omega (arith, later, few)) in
    omega (arith, here, run_faults run'.0 t rows run'.2 few)
