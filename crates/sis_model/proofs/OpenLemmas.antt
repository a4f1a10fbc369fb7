-- A world stays one.
use Rattle.std.proofs.Common.{◌≡◌, ℕ, ◌<◌, Bool, true, false, not, cond, ◌||◌, List, [], ◌∷◌, ◌++◌, length, filter, Option, None, Some, is_some, Result, Ok, Err, refl, sym, ap, ◌∙◌, arith}
use Rattle.std.specs.Prelude.{◌==◌, nat_le}
use Rattle.std.specs.Cmp.{unsigned_ties}
use Rattle.std.specs.Cmp.Lexicographic.{lists_ties}
use Rattle.std.specs.FinMap.{get, get-insert, get-remove}
use Rattle.std.specs.List.{AllByRecursion, list_any}
use Rattle.std.specs.Ordering.{nat_cmp, eq_by_cmp}
use Rattle.std.proofs.lemmas.Bool.Decides.{nat_tests}
use Rattle.sis_name.specs.Files.{Files, same_name}
use Rattle.sis_name.specs.Units.{name_cmp, name_total, is_store_name}
use Rattle.sis_request.specs.Request.{Request, request_at}
use Rattle.sis_request.specs.declared.fault.RequestFault.{RequestFault}
use Rattle.sis_model.specs.Answer.{Kind, IsDone, IsRefused, IsHindered, MayReply, MayReplyAs, changed_by, kind_of, refusal_of, with_change, world_as, world_with, written}
use Rattle.sis_model.specs.Copy.{copied, copied_paths, or_refused, path_in}
use Rattle.sis_model.specs.History.{IsLegal, world_after}
use Rattle.sis_model.specs.Opens.{DifferInNumber, IsOpenIn, IsWorld}
use Rattle.sis_model.specs.World.{World, OpenFile, bytes_of, content, is_open, is_open_as, most_opens, open_of, opens_of, resized, unopened, with_file, with_open, without_file}
use Rattle.sis_model.specs.declared.command.Command.{Command}
use Rattle.sis_model.specs.declared.command.Command.TheVariants as command
use Rattle.sis_model.specs.declared.history.Entry.{Entry}
use Rattle.sis_model.specs.declared.reply.Reply.{Reply}
use Rattle.sis_model.proofs.FreeNumbers.{number_is_free}

-- ---- files that stay

some_cond : {X : Type 0} (b : Bool) (x : X) (o : Option X) → is_some o ≡ true
    → is_some (cond b (Some x) o) ≡ true
some_cond true x o there = refl
some_cond false x o there = there

none_cond : {X : Type 0} (b : Bool) (o : Option X) → b ≡ false → is_some o ≡ true
    → is_some (cond b None o) ≡ true
none_cond true o other there = absurd cc
none_cond false o other there = there

kept_file : (w : World) (name bytes q : List ℕ) → is_some (bytes_of w q) ≡ true
    → is_some (bytes_of (with_file w name bytes) q) ≡ true
kept_file w name bytes q there =
    ap (λ (o : Option (List ℕ)). is_some o) (get-insert name_total w.files name bytes q)
    ∙ some_cond (eq_by_cmp name_cmp q name) bytes (get w.files q) there

other_file : (w : World) (name q : List ℕ) → same_name q name ≡ false
    → is_some (bytes_of w q) ≡ true → is_some (bytes_of (without_file w name) q) ≡ true
other_file w name q other there =
    ap (λ (o : Option (List ℕ)). is_some o) (get-remove name_total w.files name q)
    ∙ none_cond (eq_by_cmp name_cmp q name) (get w.files q)
    (sym (lists_ties nat_cmp unsigned_ties q name) ∙ other) there

-- ---- opens that stay

all_opens : (P Q : OpenFile → Type 0) (os : List OpenFile) → ((o : OpenFile) → P o → Q o)
    → AllByRecursion P os → AllByRecursion Q os
all_opens P Q [] keeps all = tt
all_opens P Q (o ∷ os) keeps all = (keeps o all.0, all_opens P Q os keeps all.1)

pub world-with_file : (w : World) (name bytes : List ℕ) → IsWorld w
    → IsWorld (with_file w name bytes)
world-with_file w name bytes is = record {
  opens =
      all_opens (IsOpenIn w) (IsOpenIn (with_file w name bytes)) w.opens
      (λ o open'.
      record {
        low = open'.low;
        high = open'.high;
        there = kept_file w name bytes o.name open'.there;
      })
      is.opens;
  numbers = is.numbers;
}

opens_without : (w : World) (name : List ℕ) (os : List OpenFile)
    → list_any (λ o. same_name o.name name) os ≡ false → AllByRecursion (IsOpenIn w) os
    → AllByRecursion (IsOpenIn (without_file w name)) os
opens_without w name [] closed all = tt
opens_without w name (o ∷ os) closed all =
    by (same_name o.name name) refl closed (opens_without w name os)
  where
    by : (b : Bool) → same_name o.name name ≡ b
        → (b || list_any (λ p. same_name p.name name) os) ≡ false
        → (list_any (λ p. same_name p.name name) os ≡ false → AllByRecursion (IsOpenIn w) os
        → AllByRecursion (IsOpenIn (without_file w name)) os)
        → AllByRecursion (IsOpenIn (without_file w name)) (o ∷ os)
    by true is closed rest = absurd cc
    by false is closed rest = (
      record {
        low = (all.0).low;
        high = (all.0).high;
        there = other_file w name o.name is (all.0).there;
      },
      rest closed all.1,
    )

pub world-without_file : (w : World) (name : List ℕ) → is_open w name ≡ false → IsWorld w
    → IsWorld (without_file w name)
world-without_file w name closed is = record {
  opens = opens_without w name w.opens closed is.opens;
  numbers = is.numbers;
}

-- ---- opens that go

all_filtered : (P : OpenFile → Type 0) (test : OpenFile → Bool) (os : List OpenFile)
    → AllByRecursion P os → AllByRecursion P (filter test os)
all_filtered P test [] all = tt
all_filtered P test (o ∷ os) all = by (test o) (all_filtered P test os all.1)
  where
    by : (b : Bool) → AllByRecursion P (filter test os)
        → AllByRecursion P (cond b (o ∷ filter test os) (filter test os))
    by true rest = (all.0, rest)
    by false rest = rest

none_filtered : (p test : OpenFile → Bool) (os : List OpenFile) → list_any p os ≡ false
    → list_any p (filter test os) ≡ false
none_filtered p test [] none = refl
none_filtered p test (o ∷ os) none = by (p o) refl (test o) none (none_filtered p test os)
  where
    by : (here : Bool) → p o ≡ here → (b : Bool) → (here || list_any p os) ≡ false
        → (list_any p os ≡ false → list_any p (filter test os) ≡ false)
        → list_any p (cond b (o ∷ filter test os) (filter test os)) ≡ false
    by true is b none rest = absurd cc
    by false is true none rest = ap (λ (h : Bool). h || list_any p (filter test os)) is ∙ rest none
    by false is false none rest = rest none

differ_filtered : (test : OpenFile → Bool) (os : List OpenFile) → DifferInNumber os
    → DifferInNumber (filter test os)
differ_filtered test [] differ = tt
differ_filtered test (o ∷ os) differ = by (test o) (differ_filtered test os differ.1)
  where
    by : (b : Bool) → DifferInNumber (filter test os)
        → DifferInNumber (cond b (o ∷ filter test os) (filter test os))
    by true rest = (none_filtered (is_open_as o.client o.number) test os differ.0, rest)
    by false rest = rest

pub world-filtered : (w : World) (test : OpenFile → Bool) → IsWorld w
    → IsWorld (record w { opens = filter test w.opens })
world-filtered w test is = record {
  opens =
      all_opens (IsOpenIn w) (IsOpenIn (record w { opens = filter test w.opens }))
      (filter test w.opens)
      (λ o open'. record { low = open'.low; high = open'.high; there = open'.there })
      (all_filtered (IsOpenIn w) test w.opens is.opens);
  numbers = differ_filtered test w.opens is.numbers;
}

-- ---- one open more

turned : (o p : OpenFile) → is_open_as o.client o.number p ≡ is_open_as p.client p.number o
turned o p = grind (arith, nat_tests)

none_pushed : (p : OpenFile → Bool) (os : List OpenFile) (o : OpenFile) → list_any p os ≡ false
    → p o ≡ false → list_any p (os ++ o ∷ []) ≡ false
none_pushed p [] o none last = ap (λ (b : Bool). b || false) last
none_pushed p (x ∷ os) o none last = by (p x) none (none_pushed p os o)
  where
    by : (b : Bool) → (b || list_any p os) ≡ false
        → (list_any p os ≡ false → p o ≡ false → list_any p (os ++ o ∷ []) ≡ false)
        → (b || list_any p (os ++ o ∷ [])) ≡ false
    by true none rest = absurd cc
    by false none rest = rest none last

differ_pushed : (os : List OpenFile) (o : OpenFile) → DifferInNumber os
    → list_any (is_open_as o.client o.number) os ≡ false → DifferInNumber (os ++ o ∷ [])
differ_pushed [] o differ free = (refl, tt)
differ_pushed (p ∷ os) o differ free =
    by (is_open_as o.client o.number p) refl free (differ_pushed os o differ.1)
  where
    by : (b : Bool) → is_open_as o.client o.number p ≡ b
        → (b || list_any (is_open_as o.client o.number) os) ≡ false
        → (list_any (is_open_as o.client o.number) os ≡ false → DifferInNumber (os ++ o ∷ []))
        → DifferInNumber (p ∷ (os ++ o ∷ []))
    by true is free rest = absurd cc
    by false is free rest = (
      none_pushed (is_open_as p.client p.number) os o differ.0 (sym (turned o p) ∙ is),
      rest free,
    )

all_pushed : (P : OpenFile → Type 0) (os : List OpenFile) (o : OpenFile) → AllByRecursion P os
    → P o → AllByRecursion P (os ++ o ∷ [])
all_pushed P [] o all last = (last, tt)
all_pushed P (p ∷ os) o all last = (all.0, all_pushed P os o all.1 last)

pub world-with_open : (w : World) (client : ℕ) (name : List ℕ) (writes : Bool)
    → is_some (bytes_of w name) ≡ true → length (opens_of w client) < most_opens → IsWorld w
    → IsWorld (with_open w client name writes)
world-with_open w client name writes there few is =
    let number = number_is_free w client few in
    record {
      opens =
          all_pushed (IsOpenIn (with_open w client name writes)) w.opens _
          (all_opens (IsOpenIn w) (IsOpenIn (with_open w client name writes)) w.opens
          (λ o open'. record { low = open'.low; high = open'.high; there = open'.there }) is.opens)
          (record { low = number.low; high = number.high; there = there });
      numbers = differ_pushed w.opens _ is.numbers number.free;
    }

-- ---- commands

pub refused_none : (test : Bool) (refusal : Reply) (next : Option Reply)
    → or_refused test refusal next ≡ None → (test ≡ false) × (next ≡ None)
refused_none true refusal next none = absurd cc
refused_none false refusal next none = (refl, none)

pub not_false : (b : Bool) → not b ≡ false → b ≡ true
not_false true e = refl
not_false false e = absurd cc

world_change : (w : World) (o : Option OpenFile) (change : List ℕ → List ℕ) → IsWorld w
    → IsWorld (with_change w o change)
world_change w None change is = is
world_change w (Some o) change is = world-with_file w o.name (change (content w o.name)) is

world_copied_paths : (w : World) (source destination : Option (List ℕ)) → IsWorld w
    → IsWorld (copied_paths w source destination)
world_copied_paths w (Some source) (Some destination) is =
    world-with_file w destination (content w source) is
world_copied_paths w (Some source) None is = is
world_copied_paths w None destination is = is

world_copied : (w : World) (asked : Result Request RequestFault) → IsWorld w
    → IsWorld (copied w asked)
world_copied w (Err fault) is = is
world_copied w (Ok r) is =
    world_copied_paths w (path_in w.letter r.source) (path_in w.letter r.destination) is

world_changed : (w : World) (client : ℕ) (c : Command) → IsWorld w
    → refusal_of w client c ≡ None → IsWorld (changed_by w client c)
world_changed w client (command.Put name bytes) is none = world-with_file w name bytes is
world_changed w client (command.Open name write) is none =
    let a = refused_none (is_store_name name) _ _ none in
    let b = refused_none (not (is_some (bytes_of w name))) _ _ a.1 in
    let c = refused_none (nat_le most_opens (length (opens_of w client))) _ _ b.1 in
    let few : length (opens_of w client) < most_opens =
    (let test : nat_le most_opens (length (opens_of w client)) ≡ false = c.0 in
    grind (arith, nat_tests)) in
    world-with_open w client name write (not_false _ b.0) few is
world_changed w client (command.Read number at len) is none = is
world_changed w client (command.Write number at bytes) is none =
    world_change w (open_of w client number) (written at bytes) is
world_changed w client (command.Size number len) is none =
    world_change w (open_of w client number) (resized len) is
world_changed w client (command.Close number) is none =
    world-filtered w (λ o. not (is_open_as client number o)) is
world_changed w client (command.Remove name) is none =
    let a = refused_none (is_store_name name) _ _ none in
    let b = refused_none (not (is_some (bytes_of w name))) _ _ a.1 in
    let c = refused_none (is_open w name) _ _ b.1 in
    world-without_file w name c.0 is
world_changed w client (command.Rename old new) is none =
    let a = refused_none (is_store_name old || is_store_name new) _ _ none in
    let b = refused_none (not (is_some (bytes_of w old))) _ _ a.1 in
    let c = refused_none (is_some (bytes_of w new)) _ _ b.1 in
    let d = refused_none (is_open w old) _ _ c.1 in
    world-with_file (without_file w old) new (content w old) (world-without_file w old d.0 is)
world_changed w client (command.Stat name) is none = is
world_changed w client (command.List after) is none = is
world_changed w client (command.Tell name) is none = is
world_changed w client command.Space is none = is
world_changed w client (command.Fsctl code bytes) is none = world_copied w (request_at bytes) is
world_changed w client command.Sync is none = is
world_changed w client command.Grovel is none = is
world_changed w client command.End is none =
    world-filtered w (λ o. not (o.client == client)) is

world_as_kind : (w : World) (client : ℕ) (c : Command) (r : Reply) (kind : Kind) → IsWorld w
    → MayReplyAs w client c r kind → IsWorld (world_as w client c kind)
world_as_kind w client c r IsDone is may = world_changed w client c is may.0
world_as_kind w client c r IsRefused is may = is
world_as_kind w client c r (IsHindered first) is may = is

pub world_answered : (w : World) (client : ℕ) (c : Command) (r : Reply) → IsWorld w
    → MayReply w client c r → IsWorld (world_with w client c r)
world_answered w client c r is may = world_as_kind w client c r (kind_of r) is may

pub world_later : (w : World) (es : List Entry) → IsWorld w → IsLegal w es
    → IsWorld (world_after w es)
world_later w [] is legal = is
world_later w (e ∷ es) is legal =
    let next = world_answered w e.client e.command e.reply is legal.0 in
    world_later (world_with w e.client e.command e.reply) es next legal.1

pub world_unopened : (letter : ℕ) (files : Files) → IsWorld (unopened letter files)
world_unopened letter files = record { opens = tt; numbers = tt }
