-- Whose commands are in hand, and whose entries a run has.
use Rattle.std.proofs.Common.{◌≡◌, ℕ, ◌≤◌, Bool, true, false, List, [], ◌∷◌, ◌++◌, Option, Some, None, if◌then◌else◌, refl, sym, ap, subst, ◌∙◌, arith}
use Rattle.std.specs.Prelude.{◌==◌}
use Rattle.std.specs.List.{AllByRecursion}
use Rattle.std.specs.Option.{option_map}
use Rattle.std.proofs.lemmas.Bool.Decides.{nat_tests}
use Rattle.sis_model.specs.Order.{most_clients}
use Rattle.sis_model.specs.declared.history.Entry.{Entry}
use Rattle.sis_history.specs.Entering.{Decides}
use Rattle.sis_history.specs.Entries.{with_row, with_rows}
use Rattle.sis_history.specs.Rows.{Row, Begins, Enters, Fails, client_of, other_job, own_job, without_looks}
use Rattle.sis_history.specs.Runs.{AreOfClients, HasClients, IsRow, IsRun}
use Rattle.sis_history.specs.Stage.{Job, Stage}
use Rattle.sis_history.proofs.ExactLemmas.{some_and}

InRange : ℕ → Type 0
InRange client = (1 ≤ client) × (client ≤ most_clients)

Held : Option Job → Type 0
Held job = (j : Job) × (job ≡ Some j)

held_before : (job : Option Job) (j : Job) → option_map without_looks job ≡ Some j → Held job
unfolding Held
held_before None j is = absurd cc
held_before (Some i) j is = (i, refl)

held_in_range : (s : Stage) (client : ℕ) → HasClients s → Held (s.jobs client) → InRange client
unfolding Held InRange
held_in_range s client has held = has client held.0 held.1

-- the row's own client, where it has a command in hand after it
own_in_range : (s n : Stage) (row : Row) (j : Job) → IsRow s row n → HasClients s
    → own_job s row (s.jobs (client_of row)) ≡ Some j → InRange (client_of row)
unfolding InRange
own_in_range s n (Begins client command) j r has is = (r.may.low, r.may.high)
own_in_range s n (Enters e fresh) j r has is = absurd cc
own_in_range s n (Fails client file at) j r has is =
    held_in_range s client has (held_before (s.jobs client) j is)

other_in_range : (s : Stage) (row : Row) (client : ℕ) (j : Job) → HasClients s
    → other_job s row (s.jobs client) ≡ Some j → InRange client
other_in_range s (Begins who command) client j has is =
    held_in_range s client has (held_before (s.jobs client) j is)
other_in_range s (Enters e fresh) client j has is =
    held_in_range s client has (held_before (s.jobs client) j is)
other_in_range s (Fails who file at) client j has is =
    held_in_range s client has (held_before (s.jobs client) j is)

row_clients : (s n : Stage) (row : Row) → IsRow s row n → HasClients s → HasClients n
unfolding InRange
row_clients s n row r has client j is =
    by (client == client_of row) refl (sym (r.jobs client) ∙ is)
  where
    by : (mine : Bool) → (client == client_of row) ≡ mine
        → (if mine then own_job s row (s.jobs client) else other_job s row (s.jobs client)) ≡ Some j
        → InRange client
    by true m next =
        let same : client ≡ client_of row = grind (arith, nat_tests, m) in
        subst InRange (sym same)
        (own_in_range s n row j r has
        (ap (λ (k : ℕ). own_job s row (s.jobs k)) (sym same) ∙ next))
    by false m next = other_in_range s row client j has next

pub run_clients : (s t : Stage) (rows : List Row) → IsRun s rows t → HasClients s
    → HasClients t
run_clients s t [] run' has = subst HasClients (sym run') has
run_clients s t (row ∷ rows) run' has =
    run_clients run'.0 t rows run'.2 (row_clients s run'.0 row run'.1 has)

-- ---- entries

all_push : (P : Entry → Type 0) (es : List Entry) (e : Entry) → AllByRecursion P es → P e
    → AllByRecursion P (es ++ e ∷ [])
all_push P [] e all last = (last, tt)
all_push P (x ∷ es) e all last = (all.0, all_push P es e all.1 last)

row_entries : (s n : Stage) (row : Row) (es : List Entry) → IsRow s row n → HasClients s
    → AreOfClients es → AreOfClients (with_row es row)
row_entries s n (Begins client command) es r has all = all
row_entries s n (Enters e fresh) es r has all =
    let job = some_and (Decides s fresh n e) (s.jobs e.client) r.may.job in
    all_push (λ e. (1 ≤ e.client) × (e.client ≤ most_clients)) es e all
    (has e.client job.0 job.1)
row_entries s n (Fails client file at) es r has all = all

rows_entries : (s t : Stage) (rows : List Row) (es : List Entry) → IsRun s rows t
    → HasClients s → AreOfClients es → AreOfClients (with_rows es rows)
rows_entries s t [] es run' has all = all
rows_entries s t (row ∷ rows) es run' has all =
    let n = run'.0 in
    rows_entries n t rows (with_row es row) run'.2 (row_clients s n row run'.1 has)
    (row_entries s n row es run'.1 has all)

pub run_entries : (s t : Stage) (rows : List Row) → IsRun s rows t → HasClients s
    → AreOfClients (with_rows [] rows)
run_entries s t rows run' has = rows_entries s t rows [] run' has tt
