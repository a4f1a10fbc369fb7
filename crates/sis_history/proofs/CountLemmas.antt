-- Which entries are decided, durable and sure at a call.
use Rattle.std.proofs.Common.{◌≡◌, ◌⊎◌, inl, inr, ℕ, ◌+◌, ◌<◌, ◌≤◌, Bool, true, false, List, [], ◌∷◌, ◌++◌, length, drop, if◌then◌else◌, refl, arith}
use Rattle.std.specs.Prelude.{nat_le, ◌&&◌}
use Rattle.std.specs.List.{AllByRecursion}
use Rattle.std.proofs.lemmas.Bool.Decides.{nat_tests}
use Rattle.sis_model.specs.Answer.{IsDone, kind_of}
use Rattle.sis_model.specs.declared.command.Command.{Command}
use Rattle.sis_model.specs.declared.command.Command.TheVariants as command
use Rattle.sis_model.specs.declared.history.Entry.{Entry}
use Rattle.sis_model.specs.declared.reply.Reply.{Reply}
use Rattle.sis_model.specs.declared.reply.Reply.TheVariants as reply
use Rattle.sis_history.specs.Durable.{is_done, is_closed, is_ended, makes_durable, is_durable, is_sure}
use Rattle.sis_history.specs.Loop.{NoneDurable}
use Rattle.sis_history.specs.Stops.{decided_by, AreInOrder, AreWithin, NoneSure}

-- ---- all entries of a list

pub all_push : (P : Entry → Type 0) (es : List Entry) (e : Entry) → AllByRecursion P es → P e
    → AllByRecursion P (es ++ e ∷ [])
all_push P [] e all here = (here, tt)
all_push P (d ∷ es) e all here = (all.0, all_push P es e all.1 here)

pub all_weaker : (P Q : Entry → Type 0) (es : List Entry) → ((e : Entry) → P e → Q e)
    → AllByRecursion P es → AllByRecursion Q es
all_weaker P Q [] f all = tt
all_weaker P Q (e ∷ es) f all = (f e all.0, all_weaker P Q es f all.1)

-- behind all entries nothing is left
pub none_behind : (P : Entry → Type 0) (es : List Entry) → AllByRecursion P (drop (length es) es)
none_behind P [] = tt
none_behind P (e ∷ es) = none_behind P es

-- ---- decided

pub within_later : (n now : ℕ) (es : List Entry) → n ≤ now → AreWithin n es → AreWithin now es
within_later n now es le all =
    all_weaker (λ e. e.decided ≤ n) (λ e. e.decided ≤ now) es (λ e here. omega arith) all

pub within_push : (n : ℕ) (es : List Entry) (e : Entry) → e.decided ≤ n → AreWithin n es
    → AreWithin n (es ++ e ∷ [])
within_push n es e le all = all_push (λ d. d.decided ≤ n) es e all le

pub in_order_push : (n : ℕ) (es : List Entry) (e : Entry) → AreInOrder es → AreWithin n es
    → n ≤ e.decided → AreInOrder (es ++ e ∷ [])
in_order_push n [] e order all le = (tt, tt)
in_order_push n (d ∷ es) e order all le =
    let here : d.decided ≤ n = all.0 in
    let later = all_push (λ later. d.decided ≤ later.decided) es e order.0 (omega arith) in
    (later, in_order_push n es e order.1 all.1 le)

pub decided_bound : (k : ℕ) (es : List Entry) → decided_by k es ≤ length es
decided_bound k [] = omega arith
decided_bound k (e ∷ es) = by_test (nat_le e.decided k) (decided_bound k es)
  where
    by_test : (b : Bool) → decided_by k es ≤ length es
        → (if b then 1 else 0) + decided_by k es ≤ length (e ∷ es)
    by_test true rest = omega arith
    by_test false rest = omega arith

pub decided_push : (k : ℕ) (es : List Entry) (e : Entry)
    → decided_by k es ≤ decided_by k (es ++ e ∷ [])
decided_push k [] e = omega arith
decided_push k (d ∷ es) e = omega (arith, decided_push k es e)

-- all that were decided by now count later
pub all_decided : (k : ℕ) (es : List Entry) → AreWithin k es → decided_by k es ≡ length es
all_decided k [] all = refl
all_decided k (e ∷ es) all =
    let rest = all_decided k es all.1 in
    let here : nat_le e.decided k ≡ true =
    (let le : e.decided ≤ k = all.0 in grind (arith, nat_tests)) in
    rw here (omega arith)

-- ---- durable

-- only these commands are durable
pub durable_command : (c : Command) (r : Reply) → makes_durable c r ≡ true
    → (c ≡ command.Sync) ⊎ ((number : ℕ) × (c ≡ command.Close number)) ⊎ (c ≡ command.End)
durable_command command.Sync r durable = inl refl
durable_command (command.Close number) r durable = inr (inl (number, refl))
durable_command command.End r durable = inr (inr refl)
durable_command _ r durable = absurd cc

-- only what was carried out is durable
done_of : (c : Command) (r : Reply) → makes_durable c r ≡ true → kind_of r ≡ IsDone
done_of command.Sync r durable = done r durable
  where
    done : (r : Reply) → is_done r ≡ true → kind_of r ≡ IsDone
    done reply.Done durable = refl
    done _ durable = cc
done_of (command.Close number) r durable = closed r durable
  where
    closed : (r : Reply) → is_closed r ≡ true → kind_of r ≡ IsDone
    closed (reply.Closed fate) durable = refl
    closed _ durable = cc
done_of command.End r durable = ended r durable
  where
    ended : (r : Reply) → is_ended r ≡ true → kind_of r ≡ IsDone
    ended (reply.Ended closed unsettled) durable = refl
    ended _ durable = cc
done_of _ r durable = cc

pub durable_done : (e : Entry) → is_durable e ≡ true → kind_of e.reply ≡ IsDone
durable_done e durable = done_of e.command e.reply durable

pub not_done_not_durable : (e : Entry) → ¬ (kind_of e.reply ≡ IsDone) → is_durable e ≡ false
not_done_not_durable e not_done = by_test (is_durable e) refl
  where
    by_test : (b : Bool) → is_durable e ≡ b → is_durable e ≡ false
    by_test true durable = absurd (not_done (durable_done e durable))
    by_test false not_durable = not_durable

-- ---- sure

pub less_sure : (k last : ℕ) (e : Entry) → k ≤ last → is_sure last e ≡ false → is_sure k e ≡ false
less_sure k last e le unsure = by_tests (is_durable e) e.answered unsure
  where
    by_tests : (durable : Bool) (answered : ℕ) → (durable && nat_le answered last) ≡ false
        → (durable && nat_le answered k) ≡ false
    by_tests true answered unsure = grind (arith, nat_tests)
    by_tests false answered unsure = refl

pub none_sure_before : (k last : ℕ) (es : List Entry) → k ≤ last → NoneSure last es → NoneSure k es
none_sure_before k last es le none =
    all_weaker (λ e. is_sure last e ≡ false) (λ e. is_sure k e ≡ false) es
    (λ e unsure. less_sure k last e le unsure) none

-- an entry that isn't durable is never sure, and one is not before its answer
pub not_durable_unsure : (k : ℕ) (e : Entry) → is_durable e ≡ false → is_sure k e ≡ false
not_durable_unsure k e not_durable = rw not_durable refl

pub unanswered_unsure : (k : ℕ) (e : Entry) → k < e.answered → is_sure k e ≡ false
unanswered_unsure k e later = by_test (is_durable e)
  where
    by_test : (durable : Bool) → (durable && nat_le e.answered k) ≡ false
    by_test true = grind (arith, nat_tests)
    by_test false = refl

pub none_durable_none_sure : (k : ℕ) (es : List Entry) → NoneDurable es → NoneSure k es
none_durable_none_sure k es none =
    all_weaker (λ e. is_durable e ≡ false) (λ e. is_sure k e ≡ false) es
    (λ e not_durable. not_durable_unsure k e not_durable) none
