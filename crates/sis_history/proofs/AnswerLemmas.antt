-- A client that is answered later leaves what a history says.
use Rattle.std.proofs.Common.{◌≡◌, ℕ, ◌≤◌, Bool, true, false, List, [], ◌∷◌, length, take, drop, if◌then◌else◌, refl, sym, ap, subst, ◌∙◌, arith}
use Rattle.std.specs.Prelude.{nat_le, ◌&&◌, ◌==◌, not}
use Rattle.std.specs.List.{AllByRecursion}
use Rattle.std.proofs.lemmas.Bool.Decides.{nat_tests}
use Rattle.std.proofs.lemmas.List.{take-map, drop-map, length-map}
use Rattle.sis_disk.specs.Record.{DiskRecord, Seen}
use Rattle.sis_model.specs.Answer.{world_with}
use Rattle.sis_model.specs.History.{IsLegal, world_after}
use Rattle.sis_model.specs.World.{World}
use Rattle.sis_model.specs.declared.history.Entry.{Entry}
use Rattle.sis_name.specs.Files.{Files}
use Rattle.sis_table.specs.Opens.{OpensAs}
use Rattle.sis_history.specs.Answered.{answer_client, answer_one, is_waiting, unanswered}
use Rattle.sis_history.specs.Durable.{is_durable, is_sure}
use Rattle.sis_history.specs.Loop.{AreCommitted, NoneDurable}
use Rattle.sis_history.specs.Stops.{AreInOrder, AreWithin, NoneSure, OpensAfter, SurvivesStop, Survives, decided_by}

-- ---- legality

pub answered_world : (client calls : ℕ) (w : World) (es : List Entry)
    → world_after w (answer_client client calls es) ≡ world_after w es
answered_world client calls w [] = refl
answered_world client calls w (e ∷ es) =
    by_test (is_waiting client e)
    (answered_world client calls (world_with w e.client e.command e.reply) es)
  where
    by_test : (b : Bool)
        → world_after (world_with w e.client e.command e.reply) (answer_client client calls es)
        ≡ world_after w (e ∷ es)
        → world_after w ((if b then record e { answered = calls } else e)
        ∷ answer_client client calls es) ≡ world_after w (e ∷ es)
    by_test true same = same
    by_test false same = same

pub answered_legal : (client calls : ℕ) (w : World) (es : List Entry) → IsLegal w es
    → IsLegal w (answer_client client calls es)
answered_legal client calls w [] legal = tt
answered_legal client calls w (e ∷ es) legal =
    by_test (is_waiting client e)
    (answered_legal client calls (world_with w e.client e.command e.reply) es legal.1)
  where
    by_test : (b : Bool)
        → IsLegal (world_with w e.client e.command e.reply) (answer_client client calls es)
        → IsLegal w ((if b then record e { answered = calls } else e)
        ∷ answer_client client calls es)
    by_test true rest = (legal.0, rest)
    by_test false rest = (legal.0, rest)

-- ---- stops

-- what holds of each entry, whatever its answer's number
all_answered : (P : Entry → Type 0) (client calls : ℕ) (es : List Entry)
    → ((e : Entry) → P e → P (answer_one client calls e))
    → AllByRecursion P es → AllByRecursion P (answer_client client calls es)
all_answered P client calls [] keeps all = tt
all_answered P client calls (e ∷ es) keeps all =
    (keeps e all.0, all_answered P client calls es keeps all.1)

decided_same : (client calls : ℕ) (e : Entry) → (answer_one client calls e).decided ≡ e.decided
decided_same client calls e = by_test (is_waiting client e)
  where
    by_test : (b : Bool) → (if b then record e { answered = calls } else e).decided ≡ e.decided
    by_test true = refl
    by_test false = refl

durable_same : (client calls : ℕ) (e : Entry)
    → is_durable (answer_one client calls e) ≡ is_durable e
durable_same client calls e = by_test (is_waiting client e)
  where
    by_test : (b : Bool)
        → is_durable (if b then record e { answered = calls } else e) ≡ is_durable e
    by_test true = refl
    by_test false = refl

-- an entry whose number changes isn't durable
sure_same : (k client calls : ℕ) (e : Entry)
    → is_sure k (answer_one client calls e) ≡ is_sure k e
sure_same k client calls e =
    by_tests (e.client == client) (is_durable e) refl (e.answered == unanswered)
  where
    by_tests : (mine durable : Bool) → is_durable e ≡ durable → (late : Bool)
        → is_sure k (if mine && not durable && late then record e { answered = calls } else e)
        ≡ is_sure k e
    by_tests false durable is late = refl
    by_tests true true is late = refl
    by_tests true false is false = refl
    by_tests true false is true =
        ap (λ b. b && nat_le calls k) is ∙ sym (ap (λ b. b && nat_le e.answered k) is)

answered_decided : (client calls k : ℕ) (es : List Entry)
    → decided_by k (answer_client client calls es) ≡ decided_by k es
answered_decided client calls k [] = refl
answered_decided client calls k (e ∷ es) =
    rw (decided_same client calls e, answered_decided client calls k es) refl

unsure_answered : (k client calls : ℕ) (es : List Entry) → NoneSure k es
    → NoneSure k (answer_client client calls es)
unsure_answered k client calls es none =
    all_answered (λ e. is_sure k e ≡ false) client calls es
    (λ e unsure. sure_same k client calls e ∙ unsure) none

pub answered_within : (client calls n : ℕ) (es : List Entry) → AreWithin n es
    → AreWithin n (answer_client client calls es)
answered_within client calls n es all =
    all_answered (λ e. e.decided ≤ n) client calls es
    (λ e le. rw (decided_same client calls e) le) all

pub answered_order : (client calls : ℕ) (es : List Entry) → AreInOrder es
    → AreInOrder (answer_client client calls es)
answered_order client calls [] order = tt
answered_order client calls (e ∷ es) order =
    let rest = answered_order client calls es order.1 in
    let later = all_answered (λ later. e.decided ≤ later.decided) client calls es
    (λ later le. rw (decided_same client calls later) le) order.0 in
    (rw (decided_same client calls e) later, rest)

opens_answered : (client calls : ℕ) (w : World) (es : List Entry) (p : ℕ) (m : List ℕ)
    → OpensAfter w es p m → OpensAfter w (answer_client client calls es) p m
opens_answered client calls w es p m opens =
    let front : take p (answer_client client calls es) ≡ answer_client client calls (take p es) =
    take-map (answer_one client calls) p es in
    let same = ap (world_after w) front ∙ answered_world client calls w (take p es) in
    subst (λ (v : World). OpensAs v.files m) (sym same) opens

stop_answered : (client calls : ℕ) (w : World) (es : List Entry) (r : DiskRecord) (k : ℕ)
    → SurvivesStop w es r k → SurvivesStop w (answer_client client calls es) r k
stop_answered client calls w es r k before m image =
    let cut = before m image in (
      cut.0,
      record {
        decided = rw (answered_decided client calls k es) cut.1.decided;
        none_lost =
            rw (drop-map (answer_one client calls) cut.0 es)
            (unsure_answered k client calls (drop cut.0 es) cut.1.none_lost);
      },
      opens_answered client calls w es cut.0 m cut.2,
    )

pub survives_answer : (first : ℕ) (w : World) (es : List Entry) (client calls : ℕ) (seen : Seen)
    → Survives first w es seen → Survives first w (answer_client client calls es) seen
survives_answer first w es client calls seen before = record {
  told = λ r is. (
    λ k from upto. stop_answered client calls w es r k ((before.told r is).0 k from upto),
    answered_within client calls (length r.calls) es (before.told r is).1,
  );
}

none_durable_answered : (client calls : ℕ) (es : List Entry) → NoneDurable es
    → NoneDurable (answer_client client calls es)
none_durable_answered client calls es none =
    all_answered (λ e. is_durable e ≡ false) client calls es
    (λ e not_durable. durable_same client calls e ∙ not_durable) none

-- files that are committed stay so
pub committed_answer : (w : World) (es : List Entry) (files : Files) (client calls : ℕ)
    → AreCommitted w es files → AreCommitted w (answer_client client calls es) files
committed_answer w es files client calls c = record {
  count = c.count;
  within = rw (length-map es (answer_one client calls)) c.within;
  later =
      rw (drop-map (answer_one client calls) c.count es)
      (none_durable_answered client calls (drop c.count es) c.later);
  same =
      let front = take-map (answer_one client calls) c.count es in
      let world = ap (world_after w) front ∙ answered_world client calls w (take c.count es) in
      c.same ∙ ap (λ (v : World). v.files) (sym world);
}

-- ---- one answer alone

module _ (client first second : ℕ) (other : first ≡ unanswered → ⊥) where
  is_late : (first == unanswered) ≡ false
  is_late = by (first == unanswered) refl
    where
      by : (b : Bool) → (first == unanswered) ≡ b → (first == unanswered) ≡ false
      by true is = absurd (other (let test = is in grind (arith, nat_tests)))
      by false is = is

  one_answer : (e : Entry)
      → answer_one client second (answer_one client first e) ≡ answer_one client first e
  one_answer e =
      by_tests (e.client == client) refl (is_durable e) refl (e.answered == unanswered) refl
    where
      by_tests : (mine : Bool) → (e.client == client) ≡ mine → (durable : Bool)
          → is_durable e ≡ durable → (late : Bool) → (e.answered == unanswered) ≡ late
          → answer_one client second
          (if mine && not durable && late then record e { answered = first } else e)
          ≡ (if mine && not durable && late then record e { answered = first } else e)
      by_tests false m durable d late l = rw m refl
      by_tests true m true d late l = rw (m, d) refl
      by_tests true m false d false l = rw (m, d, l) refl
      by_tests true m false d true l = rw (m, d, is_late) refl

  pub answered_again : (es : List Entry)
      → answer_client client second (answer_client client first es)
      ≡ answer_client client first es
  answered_again [] = refl
  answered_again (e ∷ es) =
      ap (λ (x : Entry). x ∷ answer_client client second (answer_client client first es))
      (one_answer e)
      ∙ ap (λ (xs : List Entry). answer_one client first e ∷ xs) (answered_again es)

pub answered_once : (es : List Entry) (client first second : ℕ) → (first ≡ unanswered → ⊥)
    → answer_client client second (answer_client client first es) ≡ answer_client client first es
answered_once es client first second other = answered_again client first second other es
