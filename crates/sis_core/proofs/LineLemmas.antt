-- The commands of a client among lines.
use Rattle.std.proofs.Common.{◌≡◌, ◌≢◌, ℕ, zero, suc, ◌+◌, ◌<◌, ◌≤◌, Bool, true, false, ◌||◌, List, [], ◌∷◌, ◌++◌, length, drop, refl, sym, ap, ◌∙◌, arith, append-nil}
use Rattle.std.specs.Prelude.{slice_index_or, slice_set, if◌then◌else◌, ◌==◌}
use Rattle.std.specs.List.{list_any}
use Rattle.std.proofs.lemmas.List.{get_or-set_other}
use Rattle.std.proofs.lemmas.Grind.{get_or-set_at}
use Rattle.std.proofs.lemmas.Bool.Decides.{nat_tests}
use Rattle.sis_model.specs.Order.{commands_of, expected_calls, with_end}
use Rattle.sis_model.specs.declared.command.Command.{Command}
use Rattle.sis_model.specs.declared.command.Command.TheVariants as command
use Rattle.sis_model.specs.declared.history.Line.{Line}
use Rattle.sis_core.specs.Rest.{end_if}

pub commands-append : (c : ℕ) (xs ys : List Line)
    → commands_of c (xs ++ ys) ≡ commands_of c xs ++ commands_of c ys
commands-append c [] ys = refl
commands-append c (x ∷ xs) ys = by (x.client == c) (commands-append c xs ys)
  where
    by : (b : Bool) → commands_of c (xs ++ ys) ≡ commands_of c xs ++ commands_of c ys
        → (if b then x.command ∷ commands_of c (xs ++ ys) else commands_of c (xs ++ ys))
        ≡ (if b then x.command ∷ commands_of c xs else commands_of c xs) ++ commands_of c ys
    by true h = ap (λ (cs : List Command). x.command ∷ cs) h
    by false h = h

is_it : (a b : ℕ) → a ≡ b → (a == b) ≡ true
is_it a b e = grind (arith, nat_tests)

is_not : (a b : ℕ) → a ≢ b → (a == b) ≡ false
is_not a b e = grind (arith, nat_tests)

pub same_or_not : (a b : ℕ) (P : Type 0) → (a ≡ b → P) → (a ≢ b → P) → P
same_or_not a b P same other = by (a == b) refl
  where
    by : (t : Bool) → (a == b) ≡ t → P
    by true e = same (grind (arith, nat_tests))
    by false e = other (grind (arith, nat_tests))

pub commands_mine : (c : ℕ) (l : Line) (ls : List Line) → l.client ≡ c
    → commands_of c (l ∷ ls) ≡ l.command ∷ commands_of c ls
commands_mine c l ls is =
    ap (λ (b : Bool). if b then l.command ∷ commands_of c ls else commands_of c ls)
    (is_it l.client c is)

pub commands_other : (c : ℕ) (l : Line) (ls : List Line) → l.client ≢ c
    → commands_of c (l ∷ ls) ≡ commands_of c ls
commands_other c l ls not =
    ap (λ (b : Bool). if b then l.command ∷ commands_of c ls else commands_of c ls)
    (is_not l.client c not)

pub commands_few : (c : ℕ) (ls : List Line) → length (commands_of c ls) ≤ length ls
commands_few c [] = omega arith
commands_few c (l ∷ ls) = by (l.client == c) (commands_few c ls)
  where
    by : (b : Bool) → length (commands_of c ls) ≤ length ls
        → length (if b then l.command ∷ commands_of c ls else commands_of c ls) ≤ suc (length ls)
    by true few = omega (arith, few)
    by false few = omega (arith, few)

-- ---- how many lines each client has

-- each client's number of lines
abbrev pub AreCounted : List ℕ → List Line → Type 0
AreCounted counts lines =
    (client : ℕ) → client < 17
    → slice_index_or counts client 0 ≡ length (commands_of client lines)

-- one line more
pub counts_more : (counts now : List ℕ) (ls : List Line) (l : Line) (n : ℕ)
    → length counts ≡ 17 → l.client < 17 → n ≡ slice_index_or counts l.client 0
    → now ≡ slice_set counts l.client (n + 1)
    → AreCounted counts ls → AreCounted now (ls ++ l ∷ [])
counts_more counts now ls l n size low is set held client lt =
    same_or_not l.client client _
    (λ same. ap (λ (ns : List ℕ). slice_index_or ns client 0) set
    ∙ get_or-set_at counts l.client client (n + 1) 0 (sym same) (omega (arith, size, low))
    ∙ by_same same)
    (λ other. ap (λ (ns : List ℕ). slice_index_or ns client 0) set
    ∙ get_or-set_other counts l.client client (n + 1) 0 (λ e. other (sym e))
    ∙ held client lt
    ∙ ap length (sym (append-nil (commands_of client ls))
    ∙ ap (λ (cs : List Command). commands_of client ls ++ cs)
    (sym (commands_other client l [] other))
    ∙ sym (commands-append client ls (l ∷ []))))
  where
    size_more : {X : Type 0} (xs : List X) (x : X) → length (xs ++ x ∷ []) ≡ length xs + 1
    size_more [] x = refl
    size_more (y ∷ xs) x = omega (arith, size_more xs x)

    by_same : l.client ≡ client → n + 1 ≡ length (commands_of client (ls ++ l ∷ []))
    by_same same =
        let one : length (commands_of client (ls ++ l ∷ [])) ≡ length (commands_of client ls) + 1 =
        ap length (commands-append client ls (l ∷ [])
        ∙ ap (λ (cs : List Command). commands_of client ls ++ cs)
        (commands_mine client l [] same)) ∙ size_more (commands_of client ls) l.command in
        let was = held client lt in
        let here : n ≡ slice_index_or counts client 0 =
        is ∙ ap (λ (c : ℕ). slice_index_or counts c 0) same in
        omega (arith, one, was, here)

-- one line less, the first
pub counts_less : (counts now : List ℕ) (ls : List Line) (l : Line) (n : ℕ)
    → length counts ≡ 17 → l.client < 17 → n + 1 ≡ slice_index_or counts l.client 0
    → now ≡ slice_set counts l.client n
    → AreCounted counts (l ∷ ls) → AreCounted now ls
counts_less counts now ls l n size low is set held client lt =
    same_or_not l.client client _
    (λ same. ap (λ (ns : List ℕ). slice_index_or ns client 0) set
    ∙ get_or-set_at counts l.client client n 0 (sym same) (omega (arith, size, low))
    ∙ by_same same)
    (λ other. ap (λ (ns : List ℕ). slice_index_or ns client 0) set
    ∙ get_or-set_other counts l.client client n 0 (λ e. other (sym e))
    ∙ held client lt ∙ ap length (commands_other client l ls other))
  where
    by_same : l.client ≡ client → n ≡ length (commands_of client ls)
    by_same same =
        let one = ap length (commands_mine client l ls same) in
        let was = held client lt in
        let here : n + 1 ≡ slice_index_or counts client 0 =
        is ∙ ap (λ (c : ℕ). slice_index_or counts c 0) same in
        omega (arith, one, was, here)

-- ---- whether a client has lines

pub has_lines : (client : ℕ) (ls : List Line) (n : ℕ) (b : Bool) → n ≡ length (commands_of client ls)
    → (n ≡ 0 → b ≡ false) → (n ≢ 0 → b ≡ true) → list_any (λ m. m.client == client) ls ≡ b
has_lines client [] n b is none some = sym (none is)
has_lines client (l ∷ ls) n b is none some =
    by (l.client == client) is (has_lines client ls (length (commands_of client ls)) b refl)
  where
    by : (t : Bool)
        → n ≡ length (if t then l.command ∷ commands_of client ls else commands_of client ls)
        → ((length (commands_of client ls) ≡ 0 → b ≡ false)
        → (length (commands_of client ls) ≢ 0 → b ≡ true)
        → list_any (λ m. m.client == client) ls ≡ b)
        → (t || list_any (λ m. m.client == client) ls) ≡ b
    by true e rest = sym (some (λ zero_is. absurd (omega (arith, e, zero_is))))
    by false e rest = rest (λ z. none (e ∙ z)) (λ z. some (λ w. z (sym e ∙ w)))

has_none : (client : ℕ) (ls : List Line) → list_any (λ m. m.client == client) ls ≡ false
    → commands_of client ls ≡ []
has_none client [] h = refl
has_none client (l ∷ ls) h = by (l.client == client) (λ k. has_none client ls k) h
  where
    by : (b : Bool)
        → (list_any (λ m. m.client == client) ls ≡ false → commands_of client ls ≡ [])
        → (b || list_any (λ m. m.client == client) ls) ≡ false
        → (if b then l.command ∷ commands_of client ls else commands_of client ls) ≡ []
    by true rest h = absurd cc
    by false rest h = rest h

has_some : (client : ℕ) (ls : List Line) → list_any (λ m. m.client == client) ls ≡ true
    → with_end (commands_of client ls) ≡ commands_of client ls ++ command.End ∷ []
has_some client [] h = absurd cc
has_some client (l ∷ ls) h = by (l.client == client) (λ k. has_some client ls k) h
  where
    by : (b : Bool)
        → (list_any (λ m. m.client == client) ls ≡ true
        → with_end (commands_of client ls) ≡ commands_of client ls ++ command.End ∷ [])
        → (b || list_any (λ m. m.client == client) ls) ≡ true
        → with_end (if b then l.command ∷ commands_of client ls else commands_of client ls)
        ≡ (if b then l.command ∷ commands_of client ls else commands_of client ls)
        ++ command.End ∷ []
    by true rest h = refl
    by false rest h = rest h

-- a client with lines has its end behind them
pub left_at_start : (client : ℕ) (ls : List Line) (b : Bool)
    → b ≡ list_any (λ m. m.client == client) ls
    → commands_of client ls ++ end_if b ≡ expected_calls ls client
left_at_start client ls true is = sym (has_some client ls (sym is))
left_at_start client ls false is =
    append-nil (commands_of client ls) ∙ has_none client ls (sym is)
    ∙ sym (ap with_end (has_none client ls (sym is)))

-- ---- from a place on

pub drop_at : {X : Type 0} (xs : List X) (i : ℕ) (d : X) → i < length xs
    → drop i xs ≡ slice_index_or xs i d ∷ drop (suc i) xs
drop_at [] i d lt = absurd (omega arith)
drop_at (x ∷ xs) zero d lt = refl
drop_at (x ∷ xs) (suc i) d lt = drop_at xs i d (omega arith)

-- a client that has no line at a place has the same ones behind it
pub commands_behind : (c : ℕ) (ls : List Line) (i : ℕ) (d : Line) → i < length ls
    → (slice_index_or ls i d).client ≢ c
    → commands_of c (drop (suc i) ls) ≡ commands_of c (drop i ls)
commands_behind c ls i d lt other =
    sym (ap (commands_of c) (drop_at ls i d lt)
    ∙ commands_other c (slice_index_or ls i d) (drop (suc i) ls) other)

-- a line of the same client that takes a line's place changes nothing behind it
pub drop_set : {X : Type 0} (xs : List X) (i : ℕ) (x : X)
    → drop (suc i) (slice_set xs i x) ≡ drop (suc i) xs
drop_set [] i x = refl
drop_set (y ∷ xs) zero x = refl
drop_set (y ∷ xs) (suc i) x = drop_set xs i x

-- nor for another client
pub commands_set : (c : ℕ) (ls : List Line) (i n : ℕ) (l d : Line) → i < length ls
    → (slice_index_or ls i d).client ≢ c → l.client ≢ c
    → commands_of c (drop n (slice_set ls i l)) ≡ commands_of c (drop n ls)
commands_set c [] i n l d lt was other = absurd (omega arith)
commands_set c (m ∷ ls) zero zero l d lt was other =
    commands_other c l ls other ∙ sym (commands_other c m ls was)
commands_set c (m ∷ ls) zero (suc n) l d lt was other = refl
commands_set c (m ∷ ls) (suc i) zero l d lt was other =
    ap (λ (cs : List Command). if m.client == c then m.command ∷ cs else cs)
    (commands_set c ls i zero l d (omega arith) was other)
commands_set c (m ∷ ls) (suc i) (suc n) l d lt was other =
    commands_set c ls i n l d (omega arith) was other
