-- Lines that are taken from the end of a reversed list, and each client's end.
use Rattle.std.proofs.Common.{◌≡◌, ◌≢◌, ℕ, zero, suc, ◌+◌, ◌<◌, ◌≤◌, Bool, true, false, List, [], ◌∷◌, ◌++◌, length, Option, None, refl, sym, ap, subst, ◌∙◌, arith, append_assoc, append-nil}
use Rattle.std.specs.Prelude.{All, reverse, replicate, slice_set, slice_index_or, ◌==◌, if◌then◌else◌}
use Rattle.std.specs.List.{list_any}
use Rattle.std.proofs.lemmas.List.{reverse-append, reverse-reverse}
use Rattle.std.proofs.lemmas.List.Elements.{All-take}
use Rattle.std.proofs.Math.Seq.{take-append_seam}
use Rattle.sis_model.specs.Order.{end_of, exec_order}
use Rattle.sis_model.specs.declared.history.Entry.{Entry}
use Rattle.sis_model.specs.declared.history.Line.{Line}
use Rattle.sis_core.specs.declared.job.Job.{Job}
use Rattle.sis_core.specs.Jobs.{AreIdle, IsClient}
use Rattle.sis_core.specs.Turns.{AddsLines}
use Rattle.sis_core.proofs.AddLemmas.{adds_as, adds_none, adds_then}
use Rattle.sis_core.proofs.LineLemmas.{AreCounted, commands_mine, counts_less, has_lines}

-- ---- a job that comes and goes

set_twice : {X : Type 0} (xs : List X) (i : ℕ) (x y : X)
    → slice_set (slice_set xs i x) i y ≡ slice_set xs i y
set_twice [] i x y = refl
set_twice (z ∷ xs) zero x y = refl
set_twice (z ∷ xs) (suc i) x y = ap (λ ys. z ∷ ys) (set_twice xs i x y)

set_same : {X : Type 0} (n i : ℕ) (x : X) → slice_set (replicate n x) i x ≡ replicate n x
set_same zero i x = refl
set_same (suc n) zero x = refl
set_same (suc n) (suc i) x = ap (λ xs. x ∷ xs) (set_same n i x)

pub idle_again : (old mid new : List (Option Job)) (client : ℕ) (j : Option Job) → AreIdle old
    → mid ≡ slice_set old client j → new ≡ slice_set mid client None → AreIdle new
idle_again old mid new client j idle begun ended =
    ended ∙ ap (λ (js : List (Option Job)). slice_set js client None) begun
    ∙ set_twice old client j None
    ∙ ap (λ (js : List (Option Job)). slice_set js client None) idle
    ∙ set_same 17 client None

-- ---- the lines at the start

all_again : (lines given : List Line) → lines ≡ reverse given → reverse lines ≡ given
all_again lines given is = ap reverse is ∙ reverse-reverse given

pub counted_all : (counts : List ℕ) (lines given shown : List Line) → lines ≡ reverse given
    → shown ≡ given → AreCounted counts shown → AreCounted counts (reverse lines)
counted_all counts lines given shown is same counted =
    subst (AreCounted counts) (same ∙ sym (all_again lines given is)) counted

pub room_all : (lines given : List Line) (spare : ℕ) → lines ≡ reverse given
    → length (exec_order given) ≤ spare → length (exec_order (reverse lines)) ≤ spare
room_all lines given spare is room =
    subst (λ (ls : List Line). length (exec_order ls) ≤ spare) (sym (all_again lines given is))
    room

-- ---- the line that is taken

pub last_all : (P : Line → Type 0) (lines rest : List Line) (l : Line) → lines ≡ rest ++ l ∷ []
    → All P lines → P l
last_all P lines rest l is all = by rest (λ k d lt. subst (All P) is all k d lt)
  where
    by : (xs : List Line) → All P (xs ++ l ∷ []) → P l
    by [] all = all 0 l (omega arith)
    by (x ∷ xs) all = by xs (λ k d lt. all (suc k) d (omega arith))

pub rest_all : (P : Line → Type 0) (lines rest : List Line) (l : Line) → lines ≡ rest ++ l ∷ []
    → All P lines → All P rest
rest_all P lines rest l is all =
    subst (All P) (take-append_seam rest (l ∷ []))
    (All-take P (length rest) (rest ++ l ∷ []) (subst (All P) is all))

pub low_client : (lines rest : List Line) (l : Line) → lines ≡ rest ++ l ∷ []
    → All (λ x. IsClient x.client) lines → l.client < 17
low_client lines rest l is all =
    let most = (last_all (λ x. IsClient x.client) lines rest l is all).1 in omega (arith, most)

counted_first : (counts : List ℕ) (lines rest : List Line) (l : Line) → lines ≡ rest ++ l ∷ []
    → AreCounted counts (reverse lines) → AreCounted counts (l ∷ reverse rest)
counted_first counts lines rest l is =
    subst (AreCounted counts) (ap reverse is ∙ reverse-append rest (l ∷ []))

pub one_at_least : (counts : List ℕ) (lines rest : List Line) (l : Line) → lines ≡ rest ++ l ∷ []
    → All (λ x. IsClient x.client) lines → AreCounted counts (reverse lines)
    → 1 ≤ slice_index_or counts l.client 0
one_at_least counts lines rest l is clients counted =
    let here = counted_first counts lines rest l is counted l.client
    (low_client lines rest l is clients) in
    let mine = ap length (commands_mine l.client l (reverse rest) refl) in
    omega (arith, here, mine)

pub counted_rest : (counts now : List ℕ) (lines rest : List Line) (l : Line) (n : ℕ)
    → lines ≡ rest ++ l ∷ [] → All (λ x. IsClient x.client) lines → length counts ≡ 17
    → AreCounted counts (reverse lines) → n + 1 ≡ slice_index_or counts l.client 0
    → now ≡ slice_set counts l.client n → AreCounted now (reverse rest)
counted_rest counts now lines rest l n is clients size counted one set =
    counts_less counts now (reverse rest) l n size (low_client lines rest l is clients) one set
    (counted_first counts lines rest l is counted)

pub is_last : (counts : List ℕ) (rest : List Line) (client : ℕ) → client < 17
    → AreCounted counts (reverse rest) → slice_index_or counts client 0 ≡ 0
    → list_any (λ m. m.client == client) (reverse rest) ≡ false
is_last counts rest client lt counted none =
    has_lines client (reverse rest) (slice_index_or counts client 0) false (counted client lt)
    (λ e. refl) (λ some. absurd (some none))

pub has_more : (counts : List ℕ) (rest : List Line) (client : ℕ) → client < 17
    → AreCounted counts (reverse rest) → slice_index_or counts client 0 ≢ 0
    → list_any (λ m. m.client == client) (reverse rest) ≡ true
has_more counts rest client lt counted some =
    has_lines client (reverse rest) (slice_index_or counts client 0) true (counted client lt)
    (λ none. absurd (some none)) (λ e. refl)

pub some_left : (rest : List Line) (client : ℕ) (P : Type 0)
    → list_any (λ m. m.client == client) (reverse rest) ≡ true → rest ≡ [] → P
some_left rest client P has none =
    absurd (let e = sym has
    ∙ ap (λ (ls : List Line). list_any (λ m. m.client == client) (reverse ls)) none in cc)

-- ---- the order of the lines that are left, where one more is taken

taken_order : (lines rest : List Line) (l : Line) (has : Bool) → lines ≡ rest ++ l ∷ []
    → list_any (λ m. m.client == l.client) (reverse rest) ≡ has
    → exec_order (reverse lines) ≡ (if has then l ∷ exec_order (reverse rest)
    else l ∷ end_of l.client ∷ exec_order (reverse rest))
taken_order lines rest l has is has_is =
    ap exec_order (ap reverse is ∙ reverse-append rest (l ∷ []))
    ∙ ap (λ (b : Bool). if b then l ∷ exec_order (reverse rest)
    else l ∷ end_of l.client ∷ exec_order (reverse rest)) has_is

order_more : (lines rest before now : List Line) (l : Line) (all : List Line)
    → lines ≡ rest ++ l ∷ [] → list_any (λ m. m.client == l.client) (reverse rest) ≡ true
    → now ≡ before ++ l ∷ [] → before ++ exec_order (reverse lines) ≡ all
    → now ++ exec_order (reverse rest) ≡ all
order_more lines rest before now l all is more next h =
    ap (λ (ls : List Line). ls ++ exec_order (reverse rest)) next
    ∙ append_assoc before (l ∷ []) (exec_order (reverse rest))
    ∙ ap (λ (ls : List Line). before ++ ls) (sym (taken_order lines rest l true is more)) ∙ h

order_last : (lines rest before mid now : List Line) (l : Line) (all : List Line)
    → lines ≡ rest ++ l ∷ [] → list_any (λ m. m.client == l.client) (reverse rest) ≡ false
    → mid ≡ before ++ l ∷ [] → now ≡ mid ++ end_of l.client ∷ []
    → before ++ exec_order (reverse lines) ≡ all
    → now ++ exec_order (reverse rest) ≡ all
order_last lines rest before mid now l all is last one two h =
    ap (λ (ls : List Line). ls ++ exec_order (reverse rest)) two
    ∙ append_assoc mid (end_of l.client ∷ []) (exec_order (reverse rest))
    ∙ ap (λ (ls : List Line). ls ++ end_of l.client ∷ exec_order (reverse rest)) one
    ∙ append_assoc before (l ∷ []) (end_of l.client ∷ exec_order (reverse rest))
    ∙ ap (λ (ls : List Line). before ++ ls) (sym (taken_order lines rest l false is last)) ∙ h

-- The entries of some first lines were added, and with the lines that are left they are all.
pub record RanFront (old new : List Entry) (lines all : List Line) : Type 0 where
  pub front : List Line
  pub adds : AddsLines old new front
  pub order : front ++ exec_order (reverse lines) ≡ all

pub front_none : (es : List Entry) (lines given : List Line) → lines ≡ reverse given
    → RanFront es es lines (exec_order given)
front_none es lines given is = record {
  front = [];
  adds = adds_none es;
  order = ap exec_order (all_again lines given is);
}

pub front_all : (old new : List Entry) (lines all : List Line) → lines ≡ []
    → RanFront old new lines all → AddsLines old new all
front_all old new lines all none ran =
    adds_as old new ran.front all
    (sym (append-nil ran.front)
    ∙ ap (λ (ls : List Line). ran.front ++ exec_order (reverse ls)) (sym none) ∙ ran.order)
    ran.adds

pub front_more : (old before now : List Entry) (lines rest : List Line) (l : Line)
    (all : List Line) → lines ≡ rest ++ l ∷ []
    → list_any (λ m. m.client == l.client) (reverse rest) ≡ true
    → AddsLines before now (l ∷ []) → RanFront old before lines all → RanFront old now rest all
front_more old before now lines rest l all is more one ran = record {
  front = ran.front ++ l ∷ [];
  adds = adds_then old before now ran.front (l ∷ []) ran.adds one;
  order =
      order_more lines rest ran.front (ran.front ++ l ∷ []) l all is more refl ran.order;
}

pub front_last : (old before mid now : List Entry) (lines rest : List Line) (l : Line)
    (all : List Line) → lines ≡ rest ++ l ∷ []
    → list_any (λ m. m.client == l.client) (reverse rest) ≡ false
    → AddsLines before mid (l ∷ []) → AddsLines mid now (end_of l.client ∷ [])
    → RanFront old before lines all → RanFront old now rest all
front_last old before mid now lines rest l all is last one two ran = record {
  front = (ran.front ++ l ∷ []) ++ end_of l.client ∷ [];
  adds =
      adds_then old mid now (ran.front ++ l ∷ []) (end_of l.client ∷ [])
      (adds_then old before mid ran.front (l ∷ []) ran.adds one) two;
  order =
      order_last lines rest ran.front (ran.front ++ l ∷ [])
      ((ran.front ++ l ∷ []) ++ end_of l.client ∷ []) l all is last refl refl ran.order;
}

pub room_more : (lines rest : List Line) (l : Line) (spare now : ℕ) → lines ≡ rest ++ l ∷ []
    → list_any (λ m. m.client == l.client) (reverse rest) ≡ true
    → length (exec_order (reverse lines)) ≤ spare → spare ≤ now + 1
    → length (exec_order (reverse rest)) ≤ now
room_more lines rest l spare now is more room one =
    let size = ap length (taken_order lines rest l true is more) in
    omega (arith, size, room, one)

pub room_last : (lines rest : List Line) (l : Line) (spare mid : ℕ) → lines ≡ rest ++ l ∷ []
    → list_any (λ m. m.client == l.client) (reverse rest) ≡ false
    → length (exec_order (reverse lines)) ≤ spare → spare ≤ mid + 1
    → length (exec_order (reverse rest)) < mid
room_last lines rest l spare mid is last room one =
    let size = ap length (taken_order lines rest l false is last) in
    omega (arith, size, room, one)
