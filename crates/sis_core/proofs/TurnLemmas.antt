-- Turns of clients, one after the other, and the lines that they take.
use Rattle.std.proofs.Common.{◌≡◌, ◌≢◌, ◌⊎◌, inl, inr, ℕ, zero, suc, ◌+◌, ◌-◌, ◌<◌, ◌≤◌, Bool, true, false, ◌||◌, List, [], ◌∷◌, ◌++◌, length, refl, sym, ap, subst, ◌∙◌, arith, append_assoc, append-nil}
use Rattle.std.specs.Prelude.{All, not, if◌then◌else◌, ◌==◌}
use Rattle.std.specs.List.{list_any}
use Rattle.std.proofs.lemmas.List.{length-append}
use Rattle.std.proofs.lemmas.Bool.Decides.{nat_tests}
use Rattle.sis_history.specs.Replies.{IsServed}
use Rattle.sis_model.specs.Order.{TakeOneTurn, commands_of, end_of, exec_order, expected_calls, is_end, most_clients, next_of, remaining, rounds, taken, takes_one_turn, up_to_client, with_end, without_ends, without_next}
use Rattle.sis_model.specs.declared.command.Command.{Command}
use Rattle.sis_model.specs.declared.command.Command.TheVariants as command
use Rattle.sis_model.specs.declared.history.Line.{Line}
use Rattle.sis_model.proofs.Orders.{commands-exec_order}
use Rattle.sis_core.specs.Jobs.{AreIdle, IsClient}
use Rattle.sis_core.specs.Rest.{IsReady, RestView, left}
use Rattle.sis_core.specs.Steps.{IsSaved}
use Rattle.sis_core.specs.Turns.{AddsLines, AddsTurns, EachEnds, HadTurns, LastIsEnd}
use Rattle.sis_core.specs.View.{CoreView, opening_of}
use Rattle.sis_core.proofs.AddLemmas.{adds_as, adds_length, adds_none, adds_then}
use Rattle.sis_core.proofs.LineLemmas.{commands-append, commands_mine, commands_other, same_or_not}

-- ---- a client's next line is taken out

-- the commands behind the first one
abbrev behind : List Command → List Command
behind [] = []
behind (c ∷ cs) = cs

commands_without : (c : ℕ) (ls : List Line)
    → commands_of c (without_next c ls) ≡ behind (commands_of c ls)
commands_without c [] = refl
commands_without c (l ∷ ls) = by (l.client == c) refl (commands_without c ls)
  where
    by : (b : Bool) → (l.client == c) ≡ b
        → commands_of c (without_next c ls) ≡ behind (commands_of c ls)
        → commands_of c (if b then ls else l ∷ without_next c ls)
        ≡ behind (if b then l.command ∷ commands_of c ls else commands_of c ls)
    by true e rest = refl
    by false e rest =
        ap (λ (b : Bool). if b then l.command ∷ commands_of c (without_next c ls)
        else commands_of c (without_next c ls)) e ∙ rest

others_without : (c other : ℕ) (ls : List Line) → other ≢ c
    → commands_of other (without_next c ls) ≡ commands_of other ls
others_without c other [] not = refl
others_without c other (l ∷ ls) not = by (l.client == c) refl (others_without c other ls not)
  where
    by : (b : Bool) → (l.client == c) ≡ b
        → commands_of other (without_next c ls) ≡ commands_of other ls
        → commands_of other (if b then ls else l ∷ without_next c ls) ≡ commands_of other (l ∷ ls)
    by true e rest =
        let same : l.client ≡ c = grind (arith, nat_tests) in
        sym (commands_other other l ls (λ is. not (sym is ∙ same)))
    by false e rest =
        ap (λ (cs : List Command). if l.client == other then l.command ∷ cs else cs) rest

without_none : (c : ℕ) (ls : List Line) → commands_of c ls ≡ [] → without_next c ls ≡ ls
without_none c [] none = refl
without_none c (l ∷ ls) none = by (l.client == c) none (λ rest. without_none c ls rest)
  where
    by : (b : Bool)
        → (if b then l.command ∷ commands_of c ls else commands_of c ls) ≡ []
        → (commands_of c ls ≡ [] → without_next c ls ≡ ls)
        → (if b then ls else l ∷ without_next c ls) ≡ l ∷ ls
    by true none rest = absurd cc
    by false none rest = ap (λ (xs : List Line). l ∷ xs) (rest none)

-- what holds of all lines holds of those that are left
all_without : (P : Line → Type 0) (c : ℕ) (ls : List Line) → All P ls → All P (without_next c ls)
all_without P c [] all = all
all_without P c (l ∷ ls) all =
    by (l.client == c) (all_without P c ls (λ k d lt. all (suc k) d (omega arith)))
  where
    first : (xs : List Line) → All P xs → All P (l ∷ xs)
    first xs rest zero d lt = all 0 d (omega arith)
    first xs rest (suc k) d lt = rest k d (omega arith)

    by : (b : Bool) → All P (without_next c ls) → All P (if b then ls else l ∷ without_next c ls)
    by true rest = λ k d lt. all (suc k) d (omega arith)
    by false rest = first (without_next c ls) rest

-- a client's next command is one of the lines'
next_all : (P : Command → Type 0) (c : ℕ) (x : Command) (cs : List Command) (ls : List Line)
    → commands_of c ls ≡ x ∷ cs → All (λ l. P l.command) ls → P x
next_all P c x cs [] is all = absurd cc
next_all P c x cs (l ∷ ls) is all =
    by (l.client == c) is
    (λ rest. next_all P c x cs ls rest (λ k d lt. all (suc k) d (omega arith)))
  where
    by : (b : Bool) → (if b then l.command ∷ commands_of c ls else commands_of c ls) ≡ x ∷ cs
        → (commands_of c ls ≡ x ∷ cs → P x) → P x
    by true e rest = subst P (let f = e in cc) (all 0 l (omega arith))
    by false e rest = rest e

size_without : (c : ℕ) (x : Command) (cs : List Command) (ls : List Line)
    → commands_of c ls ≡ x ∷ cs → length (without_next c ls) + 1 ≡ length ls
size_without c x cs [] is = absurd cc
size_without c x cs (l ∷ ls) is = by (l.client == c) is (λ rest. size_without c x cs ls rest)
  where
    by : (b : Bool) → (if b then l.command ∷ commands_of c ls else commands_of c ls) ≡ x ∷ cs
        → (commands_of c ls ≡ x ∷ cs → length (without_next c ls) + 1 ≡ length ls)
        → length (if b then ls else l ∷ without_next c ls) + 1 ≡ suc (length ls)
    by true e rest = omega arith
    by false e rest = omega (arith, rest e)

-- no line is of a number that no client has
no_client : (ls : List Line) (c : ℕ) → All (λ l. IsClient l.client) ls → ¬ IsClient c
    → commands_of c ls ≡ []
no_client ls c clients not = by ls clients
  where
    by : (xs : List Line) → All (λ l. IsClient l.client) xs → commands_of c xs ≡ []
    by [] all = refl
    by (l ∷ xs) all =
        commands_other c l xs (λ e. not (subst IsClient e (all 0 l (omega arith))))
        ∙ by xs (λ k d lt. all (suc k) d (omega arith))

-- nobody has a line
none_at_all : (ls : List Line) → All (λ l. IsClient l.client) ls
    → ((c : ℕ) → IsClient c → commands_of c ls ≡ []) → ls ≡ []
none_at_all [] clients none = refl
none_at_all (l ∷ ls) clients none =
    absurd (let e = sym (commands_mine l.client l ls refl)
    ∙ none l.client (clients 0 l (omega arith)) in cc)

-- ---- lists of turns

taken-append : (ls : List Line) (ts us : List ℕ)
    → taken ls (ts ++ us) ≡ taken ls ts ++ taken (remaining ls ts) us
taken-append ls [] us = refl
taken-append ls (t ∷ ts) us =
    ap (λ (xs : List Line). next_of t (commands_of t ls) ++ xs)
    (taken-append (without_next t ls) ts us)
    ∙ sym (append_assoc (next_of t (commands_of t ls)) (taken (without_next t ls) ts)
    (taken (remaining (without_next t ls) ts) us))

remaining-append : (ls : List Line) (ts us : List ℕ)
    → remaining ls (ts ++ us) ≡ remaining (remaining ls ts) us
remaining-append ls [] us = refl
remaining-append ls (t ∷ ts) us = remaining-append (without_next t ls) ts us

-- each client's commands are those that were taken and those that remain
commands-taken : (c : ℕ) (ls : List Line) (ts : List ℕ)
    → commands_of c (taken ls ts) ++ commands_of c (remaining ls ts) ≡ commands_of c ls
commands-taken c ls [] = refl
commands-taken c ls (t ∷ ts) =
    ap (λ (cs : List Command). cs ++ commands_of c (remaining (without_next t ls) ts))
    (commands-append c (next_of t (commands_of t ls)) (taken (without_next t ls) ts))
    ∙ append_assoc (commands_of c (next_of t (commands_of t ls)))
    (commands_of c (taken (without_next t ls) ts))
    (commands_of c (remaining (without_next t ls) ts))
    ∙ ap (λ (cs : List Command). commands_of c (next_of t (commands_of t ls)) ++ cs)
    (commands-taken c (without_next t ls) ts)
    ∙ same_or_not c t _ here there
  where
    mine : (cs : List Command) → commands_of t (next_of t cs) ++ behind cs ≡ cs
    mine [] = refl
    mine (x ∷ cs) =
        ap (λ (ds : List Command). ds ++ cs)
        (commands_mine t (record { client = t; command = x }) [] refl)

    other : c ≢ t → (cs : List Command) → commands_of c (next_of t cs) ≡ []
    other not [] = refl
    other not (x ∷ cs) =
        commands_other c (record { client = t; command = x }) [] (λ e. not (sym e))

    here : c ≡ t → commands_of c (next_of t (commands_of t ls)) ++ commands_of c (without_next t ls)
        ≡ commands_of c ls
    here e =
        ap (λ (n : ℕ). commands_of n (next_of t (commands_of t ls))
        ++ commands_of n (without_next t ls)) e
        ∙ ap (λ (cs : List Command). commands_of t (next_of t (commands_of t ls)) ++ cs)
        (commands_without t ls)
        ∙ mine (commands_of t ls) ∙ ap (λ (n : ℕ). commands_of n ls) (sym e)

    there : c ≢ t → commands_of c (next_of t (commands_of t ls)) ++ commands_of c (without_next t ls)
        ≡ commands_of c ls
    there not =
        ap (λ (cs : List Command). cs ++ commands_of c (without_next t ls))
        (other not (commands_of t ls))
        ∙ others_without t c ls not

length-taken : (ls : List Line) (ts : List ℕ)
    → length (taken ls ts) + length (remaining ls ts) ≡ length ls
length-taken ls [] = omega arith
length-taken ls (t ∷ ts) =
    omega (
      arith,
      length-append (next_of t (commands_of t ls)) (taken (without_next t ls) ts),
      length-taken (without_next t ls) ts,
      by (commands_of t ls) refl,
    )
  where
    by : (cs : List Command) → commands_of t ls ≡ cs
        → length (next_of t cs) + length (without_next t ls) ≡ length ls
    by [] is = let same = ap length (without_none t ls is) in omega (arith, same)
    by (x ∷ cs) is = omega (arith, size_without t x cs ls is)

-- ---- ends

last-behind : (cs : List Command) → LastIsEnd cs → LastIsEnd (behind cs)
last-behind [] h = tt
last-behind (c ∷ []) h = tt
last-behind (c ∷ d ∷ cs) h = h

ends_without : (c : ℕ) (ls : List Line) → EachEnds ls → EachEnds (without_next c ls)
ends_without c ls h other =
    same_or_not other c _
    (λ e. subst (λ (n : ℕ). LastIsEnd (commands_of n (without_next c ls))) (sym e)
    (subst LastIsEnd (sym (commands_without c ls)) (last-behind (commands_of c ls) (h c))))
    (λ not. subst LastIsEnd (sym (others_without c other ls not)) (h other))

ends_remaining : (ls : List Line) (ts : List ℕ) → EachEnds ls → EachEnds (remaining ls ts)
ends_remaining ls [] h = h
ends_remaining ls (t ∷ ts) h = ends_remaining (without_next t ls) ts (ends_without t ls h)

pub ends_exec_order : (ls : List Line) → EachEnds (exec_order ls)
ends_exec_order ls c = subst LastIsEnd (sym (commands-exec_order c ls)) (by (commands_of c ls))
  where
    last : (x : Command) (cs : List Command) → LastIsEnd ((x ∷ cs) ++ command.End ∷ [])
    last x [] = refl
    last x (y ∷ cs) = last y cs

    by : (cs : List Command) → LastIsEnd (with_end cs)
    by [] = tt
    by (x ∷ cs) = last x cs

all_exec_order : (P : Line → Type 0) → ((l : Line) → P l → P (end_of l.client))
    → (ls : List Line) → All P ls → All P (exec_order ls)
all_exec_order P ends [] all = all
all_exec_order P ends (l ∷ ls) all =
    by (list_any (λ m. m.client == l.client) ls)
    (all_exec_order P ends ls (λ k d lt. all (suc k) d (omega arith)))
  where
    first : (x : Line) → P x → (xs : List Line) → All P xs → All P (x ∷ xs)
    first x p xs rest zero d lt = p
    first x p xs rest (suc k) d lt = rest k d (omega arith)

    by : (b : Bool) → All P (exec_order ls)
        → All P (if b then l ∷ exec_order ls else l ∷ end_of l.client ∷ exec_order ls)
    by true rest = first l (all 0 l (omega arith)) (exec_order ls) rest
    by false rest =
        first l (all 0 l (omega arith)) (end_of l.client ∷ exec_order ls)
        (first (end_of l.client) (ends l (all 0 l (omega arith))) (exec_order ls) rest)

-- ---- turns that were had

pub had_none : (v : CoreView) (r : RestView) (ls : List Line) → IsReady v r ls
    → HadTurns v v ls r []
had_none v r ls ready = record {
  entries = adds_none v.entries;
  ready = ready;
  opening = refl;
  saved = λ ends none was. was none;
}

pub had_then : (a b c : CoreView) (ls : List Line) (mid after : RestView) (ts us : List ℕ)
    → HadTurns a b ls mid ts → HadTurns b c (remaining ls ts) after us
    → HadTurns a c ls after (ts ++ us)
had_then a b c ls mid after ts us one two = record {
  entries =
      adds_as a.entries c.entries _ (taken ls (ts ++ us)) (sym (taken-append ls ts us))
      (adds_then a.entries b.entries c.entries (taken ls ts) (taken (remaining ls ts) us)
      one.entries two.entries);
  ready = subst (IsReady c after) (sym (remaining-append ls ts us)) two.ready;
  opening = two.opening ∙ one.opening;
  saved = λ ends none was.
      two.saved (ends_remaining ls ts ends) (sym (remaining-append ls ts us) ∙ none)
      (λ empty. one.saved ends empty was);
}

-- a client that has nothing left has a turn
had_passed : (v : CoreView) (before after : RestView) (ls : List Line) (c : ℕ)
    → ((n : ℕ) → left after n ≡ left before n) → commands_of c ls ≡ [] → IsReady v before ls
    → HadTurns v v ls after (c ∷ [])
had_passed v before after ls c same none ready = record {
  entries =
      adds_as v.entries v.entries [] (taken ls (c ∷ []))
      (sym (append-nil (next_of c (commands_of c ls)) ∙ ap (next_of c) none))
      (adds_none v.entries);
  ready =
      subst (IsReady v after) (sym (without_none c ls none)) (record {
        idle = ready.idle;
        left = λ n lt. same n ∙ ready.left n lt;
        clients = ready.clients;
        served = ready.served;
        room = ready.room;
      });
  opening = refl;
  saved = λ ends empty was. was (sym (without_none c ls none) ∙ empty);
}

pub had_nothing : (v : CoreView) (before after : RestView) (ls : List Line) (c : ℕ) → IsClient c
    → ((n : ℕ) → left after n ≡ left before n) → left after c ≡ [] → IsReady v before ls
    → HadTurns v v ls after (c ∷ [])
had_nothing v before after ls c client same none ready =
    let most = client.1 in
    had_passed v before after ls c same
    (sym (ready.left c (omega (arith, most))) ∙ sym (same c) ∙ none) ready

-- a number that is no client's has a turn
pub had_no_client : (v : CoreView) (r : RestView) (ls : List Line) (c : ℕ) → ¬ IsClient c
    → IsReady v r ls → HadTurns v v ls r (c ∷ [])
had_no_client v r ls c not ready =
    had_passed v r r ls c (λ n. refl) (no_client ls c ready.clients not) ready

-- the next command of a client, and what is left then
pub next_command : (v : CoreView) (before after : RestView) (ls : List Line) (c : ℕ) (x : Command)
    → IsClient c → left before c ≡ x ∷ left after c → IsReady v before ls
    → commands_of c ls ≡ x ∷ left after c
next_command v before after ls c x client is ready =
    let most = client.1 in sym (ready.left c (omega (arith, most))) ∙ is

pub next_served : (v : CoreView) (before after : RestView) (ls : List Line) (c : ℕ) (x : Command)
    → IsClient c → left before c ≡ x ∷ left after c → IsReady v before ls → IsServed x
next_served v before after ls c x client is ready =
    next_all IsServed c x (left after c) ls (next_command v before after ls c x client is ready)
    ready.served

pub next_room : (v : CoreView) (before after : RestView) (ls : List Line) (c : ℕ) (x : Command)
    → IsClient c → left before c ≡ x ∷ left after c → IsReady v before ls → 1 ≤ v.spare
next_room v before after ls c x client is ready =
    let size = size_without c x (left after c) ls
    (next_command v before after ls c x client is ready) in
    omega (arith, size, ready.room)

-- a client's next command was answered
pub had_moved : (old new : CoreView) (before after : RestView) (ls : List Line) (c : ℕ)
    (x : Command) → IsClient c → left before c ≡ x ∷ left after c
    → ((other : ℕ) → other ≢ c → left after other ≡ left before other) → IsReady old before ls
    → AddsLines old.entries new.entries (record { client = c; command = x } ∷ [])
    → AreIdle new.jobs → old.spare ≤ new.spare + 1 → opening_of new ≡ opening_of old
    → (is_end x ≡ true → IsSaved new)
    → HadTurns old new ls after (c ∷ [])
had_moved old new before after ls c x client is others ready adds idle spare opening saved =
    let mine = next_command old before after ls c x client is ready in
    let here : commands_of c (without_next c ls) ≡ left after c =
    commands_without c ls ∙ ap behind mine in
    record {
      entries =
          adds_as old.entries new.entries (record { client = c; command = x } ∷ [])
          (taken ls (c ∷ []))
          (sym (append-nil (next_of c (commands_of c ls)) ∙ ap (next_of c) mine)) adds;
      ready = record {
        idle = idle;
        left = λ n lt. same_or_not n c _
            (λ e. ap (left after) e ∙ sym here
            ∙ ap (λ (m : ℕ). commands_of m (without_next c ls)) (sym e))
            (λ not. others n not ∙ ready.left n lt ∙ sym (others_without c n ls not));
        clients = all_without (λ l. IsClient l.client) c ls ready.clients;
        served = all_without (λ l. IsServed l.command) c ls ready.served;
        room =
            let size = size_without c x (left after c) ls mine in
            omega (arith, size, ready.room, spare);
      };
      opening = opening;
      saved = λ ends none was.
          saved (subst LastIsEnd (mine ∙ ap (λ (cs : List Command). x ∷ cs)
          (sym here ∙ ap (commands_of c) none)) (ends c));
    }

-- ---- rounds

next_client : (n client : ℕ) → client ≡ suc n
    → up_to_client n ++ client ∷ [] ≡ up_to_client client
next_client n client is =
    subst (λ (c : ℕ). up_to_client n ++ c ∷ [] ≡ up_to_client c) (sym is) refl

pub had_client : (a b c : CoreView) (ls : List Line) (mid after : RestView) (client : ℕ)
    → 1 ≤ client → HadTurns a b ls mid (up_to_client (client - 1))
    → HadTurns b c (remaining ls (up_to_client (client - 1))) after (client ∷ [])
    → HadTurns a c ls after (up_to_client (client + 1 - 1))
had_client a b c ls mid after client low one two =
    let same : client ≡ suc (client - 1) = omega arith in
    let last : client ≡ client + 1 - 1 = omega arith in
    subst (λ (m : ℕ). HadTurns a c ls after (up_to_client m)) last
    (subst (HadTurns a c ls after) (next_client (client - 1) client same)
    (had_then a b c ls mid after (up_to_client (client - 1)) (client ∷ []) one two))

pub had_round : (a b c : CoreView) (ls : List Line) (mid after : RestView) (schedule : List ℕ)
    (n : ℕ) → HadTurns a b ls mid (schedule ++ rounds n)
    → HadTurns b c (remaining ls (schedule ++ rounds n)) after (up_to_client most_clients)
    → HadTurns a c ls after (schedule ++ rounds (suc n))
had_round a b c ls mid after schedule n one two =
    subst (HadTurns a c ls after) (append_assoc schedule (rounds n) (up_to_client most_clients))
    (had_then a b c ls mid after (schedule ++ rounds n) (up_to_client most_clients) one two)

pub longer_more : (w m : Bool) (start was now : ℕ) → (w ≡ true → start < was) → start ≤ was
    → (m ≡ true → was < now) → (m ≡ false → now ≡ was)
    → ((w || m) ≡ true → start < now) × (start ≤ now)
longer_more true true start was now a b c d =
    let x = a refl in let y = c refl in (λ e. omega (arith, x, y), omega (arith, x, y))
longer_more true false start was now a b c d =
    let x = a refl in let y = d refl in (λ e. omega (arith, x, y), omega (arith, x, y))
longer_more false true start was now a b c d =
    let y = c refl in (λ e. omega (arith, b, y), omega (arith, b, y))
longer_more false false start was now a b c d =
    let y = d refl in (λ e. absurd cc, omega (arith, b, y))

neither : (w m : Bool) → (w || m) ≡ false → (w ≡ false) × (m ≡ false)
neither true m e = absurd cc
neither false m e = (refl, e)

pub done_more : (before after : RestView) (client : ℕ) (w m : Bool)
    → (w ≡ false → (c : ℕ) → 1 ≤ c → c < client → left before c ≡ [])
    → (m ≡ false → left after client ≡ [])
    → (m ≡ false → (c : ℕ) → left after c ≡ left before c)
    → (w || m) ≡ false → (c : ℕ) → 1 ≤ c → c < client + 1 → left after c ≡ []
done_more before after client w m sofar here same none c low high =
    let both = neither w m none in
    same_or_not c client _ (λ e. ap (left after) e ∙ here both.1)
    (λ not. same both.1 c ∙ sofar both.0 c low (omega (arith, high, not)))

-- ---- all turns

pub ready_at_start : (v : CoreView) (r : RestView) (lines : List Line) → AreIdle v.jobs
    → ((c : ℕ) → c < 17 → left r c ≡ expected_calls lines c)
    → All (λ l. IsClient l.client) lines → All (λ l. IsServed l.command) lines
    → length (exec_order lines) ≤ v.spare → IsReady v r (exec_order lines)
ready_at_start v r lines idle is clients served room = record {
  idle = idle;
  left = λ c lt. is c lt ∙ sym (commands-exec_order c lines);
  clients = all_exec_order (λ l. IsClient l.client) (λ l p. p) lines clients;
  served = all_exec_order (λ l. IsServed l.command) (λ l p. tt) lines served;
  room = room;
}

-- fewer entries are still to come
pub fewer_to_come : (total was now : ℕ) → was < now → now ≤ total → total - now < total - was
fewer_to_come total was now more most = omega (arith, more, most)

-- how many entries there are
pub had_size : (old new : CoreView) (ls : List Line) (r : RestView) (ts : List ℕ)
    → HadTurns old new ls r ts
    → length new.entries + length (remaining ls ts) ≡ length old.entries + length ls
had_size old new ls r ts had =
    omega (
      arith,
      adds_length old.entries new.entries (taken ls ts) had.entries,
      length-taken ls ts,
    )

-- nobody has anything left
pub none_remains : (old new : CoreView) (ls : List Line) (r : RestView) (ts : List ℕ)
    → HadTurns old new ls r ts → ((c : ℕ) → IsClient c → left r c ≡ []) → remaining ls ts ≡ []
none_remains old new ls r ts had none =
    none_at_all (remaining ls ts) had.ready.clients
    (λ c is. let most = is.1 in sym (had.ready.left c (omega (arith, most))) ∙ none c is)

-- so each client's commands were taken
all_taken : (lines : List Line) (ts : List ℕ) (c : ℕ) → remaining (exec_order lines) ts ≡ []
    → commands_of c (taken (exec_order lines) ts) ≡ expected_calls lines c
all_taken lines ts c none =
    sym (append-nil (commands_of c (taken (exec_order lines) ts)))
    ∙ ap (λ (xs : List Line). commands_of c (taken (exec_order lines) ts) ++ commands_of c xs)
    (sym none)
    ∙ commands-taken c (exec_order lines) ts ∙ commands-exec_order c lines

-- ---- the order of the lines, without their clients' ends

-- commands with an end behind them, or neither commands nor an end
abbrev WithEnd : List Command → List Command → Type 0
WithEnd cs all = (all ≡ cs ++ command.End ∷ []) ⊎ ((cs ≡ []) × (all ≡ []))

abbrev WithEnds : List Line → List Line → Type 0
WithEnds lines all = (c : ℕ) → WithEnd (commands_of c lines) (commands_of c all)

with_behind : (cs all : List Command) → WithEnd cs all → WithEnd (behind cs) (behind all)
with_behind [] all (inl is) = inr (refl, ap behind is)
with_behind (x ∷ cs) all (inl is) = inl (ap behind is)
with_behind cs all (inr none) = inr (ap behind none.0, ap behind none.1)

with_without : (t : ℕ) (lines all : List Line) → WithEnds lines all
    → WithEnds (without_next t lines) (without_next t all)
with_without t lines all h c =
    same_or_not c t _
    (λ e. subst (λ (n : ℕ). WithEnd (commands_of n (without_next t lines))
    (commands_of n (without_next t all))) (sym e)
    (subst (λ (cs : List Command). WithEnd cs (commands_of t (without_next t all)))
    (sym (commands_without t lines))
    (subst (WithEnd (behind (commands_of t lines))) (sym (commands_without t all))
    (with_behind (commands_of t lines) (commands_of t all) (h t)))))
    (λ not. subst (λ (cs : List Command). WithEnd cs (commands_of c (without_next t all)))
    (sym (others_without t c lines not))
    (subst (WithEnd (commands_of c lines)) (sym (others_without t c all not)) (h c)))

with_remaining : (ts : List ℕ) (lines all : List Line) → WithEnds lines all
    → WithEnds (remaining lines ts) (remaining all ts)
with_remaining [] lines all h = h
with_remaining (t ∷ ts) lines all h =
    with_remaining ts (without_next t lines) (without_next t all) (with_without t lines all h)

with_exec_order : (lines : List Line) → WithEnds lines (exec_order lines)
with_exec_order lines c = by (commands_of c lines) (commands-exec_order c lines)
  where
    by : (cs : List Command) → commands_of c (exec_order lines) ≡ with_end cs
        → WithEnd cs (commands_of c (exec_order lines))
    by [] is = inr (refl, is)
    by (x ∷ cs) is = inl is

one_turn_no_end : (c : Command) → takes_one_turn c ≡ true → is_end c ≡ false
one_turn_no_end (command.Put name bytes) e = refl
one_turn_no_end (command.Open name write) e = refl
one_turn_no_end (command.Read number at len) e = refl
one_turn_no_end (command.Write number at bytes) e = refl
one_turn_no_end (command.Size number len) e = refl
one_turn_no_end (command.Close number) e = refl
one_turn_no_end (command.Remove name) e = refl
one_turn_no_end (command.Rename old new) e = refl
one_turn_no_end (command.Stat name) e = refl
one_turn_no_end (command.List after) e = refl
one_turn_no_end (command.Tell name) e = refl
one_turn_no_end command.Space e = refl
one_turn_no_end (command.Fsctl code bytes) e = refl
one_turn_no_end command.Sync e = refl
one_turn_no_end command.Grovel e = refl
one_turn_no_end command.End e = absurd cc

one_turn_without : (c : ℕ) (ls : List Line) → TakeOneTurn ls → TakeOneTurn (without_next c ls)
one_turn_without c [] h = h
one_turn_without c (l ∷ ls) h = by (l.client == c) (one_turn_without c ls h.1)
  where
    by : (b : Bool) → TakeOneTurn (without_next c ls)
        → TakeOneTurn (if b then ls else l ∷ without_next c ls)
    by true rest = h.1
    by false rest = (h.0, rest)

one_turn_next : (c : ℕ) (x : Command) (cs : List Command) (ls : List Line)
    → commands_of c ls ≡ x ∷ cs → TakeOneTurn ls → takes_one_turn x ≡ true
one_turn_next c x cs [] is h = absurd cc
one_turn_next c x cs (l ∷ ls) is h =
    by (l.client == c) is (λ rest. one_turn_next c x cs ls rest h.1)
  where
    by : (b : Bool) → (if b then l.command ∷ commands_of c ls else commands_of c ls) ≡ x ∷ cs
        → (commands_of c ls ≡ x ∷ cs → takes_one_turn x ≡ true) → takes_one_turn x ≡ true
    by true e rest =
        subst (λ (y : Command). takes_one_turn y ≡ true) (let f = e in cc) h.0
    by false e rest = rest e

without_ends-append : (xs ys : List Line)
    → without_ends (xs ++ ys) ≡ without_ends xs ++ without_ends ys
without_ends-append [] ys = refl
without_ends-append (x ∷ xs) ys = by (not (is_end x.command)) (without_ends-append xs ys)
  where
    by : (b : Bool) → without_ends (xs ++ ys) ≡ without_ends xs ++ without_ends ys
        → (if b then x ∷ without_ends (xs ++ ys) else without_ends (xs ++ ys))
        ≡ (if b then x ∷ without_ends xs else without_ends xs) ++ without_ends ys
    by true h = ap (λ (ls : List Line). x ∷ ls) h
    by false h = h

same_next : (t : ℕ) (lines all : List Line) → TakeOneTurn lines → WithEnds lines all
    → without_ends (next_of t (commands_of t all)) ≡ next_of t (commands_of t lines)
same_next t lines all once h = by (commands_of t lines) refl (h t)
  where
    by : (cs : List Command) → commands_of t lines ≡ cs → WithEnd cs (commands_of t all)
        → without_ends (next_of t (commands_of t all)) ≡ next_of t cs
    by [] is (inl e) = ap (λ (ds : List Command). without_ends (next_of t ds)) e
    by (x ∷ cs) is (inl e) =
        ap (λ (ds : List Command). without_ends (next_of t ds)) e
        ∙ ap (λ (b : Bool). if not b then record { client = t; command = x } ∷ [] else [])
        (one_turn_no_end x (one_turn_next t x cs lines is once))
    by cs is (inr e) =
        ap (λ (ds : List Command). without_ends (next_of t ds)) e.1
        ∙ ap (next_of t) (sym e.0)

same_taken : (ts : List ℕ) (lines all : List Line) → TakeOneTurn lines → WithEnds lines all
    → without_ends (taken all ts) ≡ taken lines ts
same_taken [] lines all once h = refl
same_taken (t ∷ ts) lines all once h =
    without_ends-append (next_of t (commands_of t all)) (taken (without_next t all) ts)
    ∙ ap (λ (xs : List Line). xs ++ without_ends (taken (without_next t all) ts))
    (same_next t lines all once h)
    ∙ ap (λ (xs : List Line). next_of t (commands_of t lines) ++ xs)
    (same_taken ts (without_next t lines) (without_next t all) (one_turn_without t lines once)
    (with_without t lines all h))

none_with_ends : (lines all : List Line) → WithEnds lines all → all ≡ [] → lines ≡ []
none_with_ends [] all h none = refl
none_with_ends (l ∷ ls) all h none =
    absurd (by (h l.client) (commands_mine l.client l ls refl)
    (ap (commands_of l.client) none))
  where
    by : WithEnd (commands_of l.client (l ∷ ls)) (commands_of l.client all)
        → commands_of l.client (l ∷ ls) ≡ l.command ∷ commands_of l.client ls
        → commands_of l.client all ≡ [] → ⊥
    by (inl e) mine empty =
        let f = sym empty ∙ e ∙ ap (λ (cs : List Command). cs ++ command.End ∷ []) mine in cc
    by (inr e) mine empty = let f = sym e.0 ∙ mine in cc

-- ---- the entries

-- all turns were had, and nothing is left
pub had_all : (old new : CoreView) (lines : List Line) (r : RestView) (schedule : List ℕ) (n : ℕ)
    → HadTurns old new (exec_order lines) r (schedule ++ rounds n)
    → remaining (exec_order lines) (schedule ++ rounds n) ≡ []
    → AddsTurns old.entries new.entries lines schedule
had_all old new lines r schedule n had none =
    let adds = had.entries in
    let turns = schedule ++ rounds n in
    record {
      more = adds.more;
      kept = adds.kept;
      calls = λ c. ap (commands_of c) adds.lines ∙ all_taken lines turns c none;
      order = (n, adds.lines, none);
      own_order = λ once. (
        n,
        ap without_ends adds.lines
            ∙ same_taken turns lines (exec_order lines) once (with_exec_order lines),
        none_with_ends (remaining lines turns) (remaining (exec_order lines) turns)
            (with_remaining turns lines (exec_order lines) (with_exec_order lines)) none,
      );
    }
