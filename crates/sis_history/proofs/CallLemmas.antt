-- Each command of a client has one entry, or is in hand.
use Rattle.std.proofs.Common.{◌≡◌, ℕ, Bool, true, false, cond, List, [], ◌∷◌, ◌++◌, Option, Some, None, if◌then◌else◌, refl, sym, ap, ◌∙◌, arith, append_assoc, append-nil}
use Rattle.std.specs.Prelude.{◌==◌}
use Rattle.std.specs.Option.{option_map}
use Rattle.std.proofs.lemmas.Bool.Decides.{nat_tests}
use Rattle.sis_model.specs.Order.{calls_of}
use Rattle.sis_model.specs.declared.command.Command.{Command}
use Rattle.sis_model.specs.declared.history.Entry.{Entry}
use Rattle.sis_history.specs.Calls.{begun_by, begun_in, in_hand}
use Rattle.sis_history.specs.Entering.{Decides}
use Rattle.sis_history.specs.Entries.{entries_of, with_row, with_rows}
use Rattle.sis_history.specs.Rows.{Row, Begins, Enters, Fails, new_job, without_looks}
use Rattle.sis_history.specs.Runs.{IsRow, IsRun}
use Rattle.sis_history.specs.Stage.{Job, Stage}
use Rattle.sis_history.proofs.ExactLemmas.{some_and}

-- ---- entries of rows

calls_append : (client : ℕ) (es more : List Entry)
    → calls_of (es ++ more) client ≡ calls_of es client ++ calls_of more client
calls_append client [] more = refl
calls_append client (e ∷ es) more = by (e.client == client) (calls_append client es more)
  where
    by : (b : Bool) → calls_of (es ++ more) client ≡ calls_of es client ++ calls_of more client
        → cond b (e.command ∷ calls_of (es ++ more) client) (calls_of (es ++ more) client)
        ≡ cond b (e.command ∷ calls_of es client) (calls_of es client) ++ calls_of more client
    by true rest = ap (λ (cs : List Command). e.command ∷ cs) rest
    by false rest = rest

calls_with_row : (client : ℕ) (es : List Entry) (row : Row)
    → calls_of (with_row es row) client ≡ calls_of es client ++ calls_of (with_row [] row) client
calls_with_row client es (Begins who command) = sym (append-nil (calls_of es client))
calls_with_row client es (Enters e fresh) = calls_append client es (e ∷ [])
calls_with_row client es (Fails who file at) = sym (append-nil (calls_of es client))

pub calls_with_rows : (client : ℕ) (es : List Entry) (rows : List Row)
    → calls_of (with_rows es rows) client ≡ calls_of es client ++ calls_of (entries_of rows) client
calls_with_rows client es [] = sym (append-nil (calls_of es client))
calls_with_rows client es (row ∷ rows) =
    let here = calls_with_row client es row in
    let one = calls_of (with_row [] row) client in
    let rest = calls_of (entries_of rows) client in
    calls_with_rows client (with_row es row) rows
    ∙ ap (λ (cs : List Command). cs ++ rest) here
    ∙ append_assoc (calls_of es client) one rest
    ∙ ap (λ (cs : List Command). calls_of es client ++ cs)
    (sym (calls_with_rows client (with_row [] row) rows))

-- ---- one row

held_by : (job : Option Job) → in_hand (option_map without_looks job) ≡ in_hand job
held_by None = refl
held_by (Some j) = refl

-- what a client had in hand and began is what it was answered and has in hand
IsKept : Stage → Row → Stage → ℕ → Type 0
IsKept s row t client =
    in_hand (s.jobs client) ++ begun_in row client
    ≡ calls_of (with_row [] row) client ++ in_hand (t.jobs client)

row_calls : (s t : Stage) (row : Row) (client : ℕ) → IsRow s row t → IsKept s row t client
unfolding IsKept
row_calls s t (Begins who c) client r =
    by (client == who) refl (who == client) refl (r.jobs client)
  where
    by : (mine : Bool) → (client == who) ≡ mine → (here : Bool) → (who == client) ≡ here
        → t.jobs client
        ≡ (if mine then Some (new_job s c) else option_map without_looks (s.jobs client))
        → in_hand (s.jobs client) ++ (if here then c ∷ [] else []) ≡ in_hand (t.jobs client)
    by true m true h next =
        let same : client ≡ who = grind (arith, nat_tests, m) in
        let none : s.jobs client ≡ None = ap s.jobs same ∙ r.may.idle in
        ap (λ (j : Option Job). in_hand j ++ c ∷ []) none ∙ sym (ap in_hand next)
    by true m false h next = absurd (grind (arith, nat_tests, m, h))
    by false m true h next = absurd (grind (arith, nat_tests, m, h))
    by false m false h next =
        append-nil (in_hand (s.jobs client))
        ∙ sym (ap in_hand next ∙ held_by (s.jobs client))
row_calls s t (Enters e fresh) client r =
    by (client == e.client) refl (e.client == client) refl (r.jobs client)
  where
    by : (mine : Bool) → (client == e.client) ≡ mine → (here : Bool)
        → (e.client == client) ≡ here
        → t.jobs client ≡ (if mine then None else option_map without_looks (s.jobs client))
        → in_hand (s.jobs client) ++ []
        ≡ cond here (e.command ∷ []) [] ++ in_hand (t.jobs client)
    by true m true h next =
        let same : client ≡ e.client = grind (arith, nat_tests, m) in
        let job = some_and (Decides s fresh t e) (s.jobs e.client) r.may.job in
        let had : s.jobs client ≡ Some job.0 = ap s.jobs same ∙ job.1 in
        let asked : e.command ≡ (job.0).command = (job.2).asked in
        ap (λ (j : Option Job). in_hand j ++ []) had
        ∙ ap (λ (c : Command). c ∷ []) (sym asked)
        ∙ sym (ap (λ (j : Option Job). (e.command ∷ []) ++ in_hand j) next)
    by true m false h next = absurd (grind (arith, nat_tests, m, h))
    by false m true h next = absurd (grind (arith, nat_tests, m, h))
    by false m false h next =
        append-nil (in_hand (s.jobs client))
        ∙ sym (ap in_hand next ∙ held_by (s.jobs client))
row_calls s t (Fails who file at) client r = by (client == who) (r.jobs client)
  where
    by : (mine : Bool)
        → t.jobs client ≡ (if mine then option_map without_looks (s.jobs client)
        else option_map without_looks (s.jobs client))
        → in_hand (s.jobs client) ++ [] ≡ in_hand (t.jobs client)
    by true next =
        append-nil (in_hand (s.jobs client))
        ∙ sym (ap in_hand next ∙ held_by (s.jobs client))
    by false next =
        append-nil (in_hand (s.jobs client))
        ∙ sym (ap in_hand next ∙ held_by (s.jobs client))

-- ---- a run

pub run_calls : (s t : Stage) (rows : List Row) (client : ℕ) → IsRun s rows t
    → in_hand (s.jobs client) ++ begun_by rows client
    ≡ calls_of (entries_of rows) client ++ in_hand (t.jobs client)
unfolding IsKept
run_calls s t [] client run' =
    append-nil (in_hand (s.jobs client))
    ∙ sym (ap (λ (x : Stage). in_hand (x.jobs client)) run')
run_calls s t (row ∷ rows) client run' =
    let hand = in_hand (s.jobs client) in
    let next = in_hand (run'.0.jobs client) in
    let one = calls_of (with_row [] row) client in
    let rest = begun_by rows client in
    let more = calls_of (entries_of rows) client in
    let last = in_hand (t.jobs client) in
    sym (append_assoc hand (begun_in row client) rest)
    ∙ ap (λ (cs : List Command). cs ++ rest) (row_calls s run'.0 row client run'.1)
    ∙ append_assoc one next rest
    ∙ ap (λ (cs : List Command). one ++ cs) (run_calls run'.0 t rows client run'.2)
    ∙ sym (append_assoc one more last)
    ∙ ap (λ (cs : List Command). cs ++ last) (sym (calls_with_rows client (with_row [] row) rows))
