-- Commands in hand are answered before nobody has one any more.
use Rattle.std.proofs.Common.{◌≡◌, ℕ, Bool, true, false, List, [], ◌∷◌, ◌++◌, Option, None, Some}
use Rattle.std.proofs.Common.{is_some, refl, sym, ap, ◌∙◌, arith, append_assoc, append-nil}
use Rattle.std.specs.Prelude.{◌≢◌, if◌then◌else◌, ◌==◌}
use Rattle.std.specs.Option.{option_map}
use Rattle.std.proofs.lemmas.Bool.{or_left, or_right}
use Rattle.std.proofs.lemmas.Bool.Decides.{nat_tests}
use Rattle.sis_model.specs.declared.history.Entry.{Entry}
use Rattle.sis_history.specs.Entering.{MayCommit, any_down, is_down}
use Rattle.sis_history.specs.Entries.{entries_of, with_rows}
use Rattle.sis_history.specs.Rows.{Row, Begins, Enters, Fails, new_job, without_looks}
use Rattle.sis_history.specs.Runs.{IsRun}
use Rattle.sis_history.specs.Stage.{Job, Stage}
use Rattle.sis_history.proofs.CallLemmas.{run_calls}
use Rattle.sis_history.proofs.DownLemmas.{run_tells}
use Rattle.sis_history.proofs.ExactLemmas.{some_and}
use Rattle.sis_history.proofs.RunLemmas.{row_keeps_down}

-- ---- entries

-- the entries of rows stand behind those before
entries_behind : (rows : List Row) (es : List Entry) → with_rows es rows ≡ es ++ entries_of rows
entries_behind [] es = sym (append-nil es)
entries_behind (Enters e fresh ∷ rows) es =
    entries_behind rows (es ++ e ∷ []) ∙ append_assoc es (e ∷ []) (entries_of rows)
    ∙ sym (ap (λ (ds : List Entry). es ++ ds) (entries_behind rows (e ∷ [])))
entries_behind (row ∷ rows) es = entries_behind rows es

-- a command that is in hand, and isn't any more, has its entry
hand_entered : (s t : Stage) (rows : List Row) (client : ℕ) (j : Job) → IsRun s rows t
    → s.jobs client ≡ Some j → t.jobs client ≡ None → entries_of rows ≢ []
hand_entered s t rows client j run' has none empty =
    (let calls = rw (has, empty, none) at (run_calls s t rows client run') in cc)

-- ---- commits that failed

-- behind a commit that failed, each entry says so
first_down : (s t : Stage) (rows : List Row) (at : ℕ) → IsRun s rows t → s.down ≡ Some at
    → entries_of rows ≢ [] → any_down (entries_of rows) ≡ true
first_down s t [] at run' is some = absurd (some refl)
first_down s t (Enters e fresh ∷ rows) at run' is some =
    ap any_down (entries_behind rows (e ∷ []))
    ∙ or_left (is_down e.reply) (any_down (entries_of rows))
    (ap is_down (rw is at run'.1.may.down))
first_down s t (row ∷ rows) at run' is some =
    first_down run'.0 t rows at run'.2 (row_keeps_down s run'.0 row at run'.1 is) some

rows_down : (s t : Stage) (rows : List Row) → IsRun s rows t → s.down ≡ None
    → is_some t.down ≡ true → ((client : ℕ) → t.jobs client ≡ None)
    → any_down (entries_of rows) ≡ true
rows_down s t [] run' up is idle =
    absurd (let down : is_some t.down ≡ false = ap (λ (x : Stage). is_some x.down) run'
    ∙ ap (λ (o : Option ℕ). is_some o) up in cc)
rows_down s t (Begins who c ∷ rows) run' up is idle =
    rows_down run'.0 t rows run'.2 (run'.1.down ∙ up) is idle
rows_down s t (Enters e fresh ∷ rows) run' up is idle =
    ap any_down (entries_behind rows (e ∷ []))
    ∙ or_right (is_down e.reply) (any_down (entries_of rows))
    (rows_down run'.0 t rows run'.2 (run'.1.down ∙ up) is idle)
rows_down s t (Fails who file at ∷ rows) run' up is idle =
    let job = some_and (MayCommit s who) (s.jobs who) run'.1.may.2 in
    first_down run'.0 t rows at run'.2 run'.1.down
    (hand_entered s t (Fails who file at ∷ rows) who job.0 run' job.1 (idle who))

-- where nobody has a command in hand any more, an entry says so exactly where a commit failed
pub down_is_answered : (s t : Stage) (rows : List Row) → IsRun s rows t → s.down ≡ None
    → ((client : ℕ) → t.jobs client ≡ None) → any_down (entries_of rows) ≡ is_some t.down
down_is_answered s t rows run' up idle =
    by (any_down (entries_of rows)) (is_some t.down) (run_tells s t rows run')
    (λ is. rows_down s t rows run' up is idle)
  where
    by : (a b : Bool) → (a ≡ true → b ≡ true) → (b ≡ true → a ≡ true) → a ≡ b
    by true b to from = sym (to refl)
    by false true to from = from refl
    by false false to from = refl

-- ---- runs without entries

-- where nobody has a command in hand before and after, nothing was done
pub nothing_done : (s t : Stage) (rows : List Row) → IsRun s rows t
    → ((client : ℕ) → s.jobs client ≡ None) → ((client : ℕ) → t.jobs client ≡ None)
    → entries_of rows ≡ [] → t ≡ s
nothing_done s t [] run' before after none = run'
nothing_done s t (Begins who c ∷ rows) run' before after none =
    let same : (who == who) ≡ true = grind (arith, nat_tests) in
    absurd (hand_entered run'.0 t rows who (new_job s c) run'.2
    (run'.1.jobs who ∙ ap (λ (b : Bool). if b then Some (new_job s c)
    else option_map without_looks (s.jobs who)) same) (after who) none)
nothing_done s t (Enters e fresh ∷ rows) run' before after none =
    absurd (let some = sym (entries_behind rows (e ∷ [])) ∙ none in cc)
nothing_done s t (Fails who file at ∷ rows) run' before after none =
    let job = some_and (MayCommit s who) (s.jobs who) run'.1.may.2 in
    absurd (let some = sym (before who) ∙ job.1 in cc)
