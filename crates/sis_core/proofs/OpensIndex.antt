-- An index of opens, when one is entered, taken out and looked up.
use Rattle.std.proofs.Common.{◌≡◌, ℕ, ◌+◌, ◌<◌, ◌≤◌, add-one, append_assoc, drop, get_or, subst, take, ◌||◌, ◌&&◌, Bool, true, false, not, cond, is_some, List, [], ◌∷◌, ◌++◌, length, filter, None, Some, Option, refl, sym, ap, ◌∙◌, arith}
use Rattle.std.specs.Prelude.{find, nat_lt, ◌==◌, Result, Ok, Err, OnOk, OnErr}
use Rattle.std.specs.Result.{is_err}
use Rattle.std.specs.List.{list_any}
use Rattle.std.specs.Option.{option_or}
use Rattle.std.specs.Ordering.{eq_by_cmp}
use Rattle.std.specs.BTreeMap.{BTreeMap, Updates, get}
use Rattle.std.proofs.lemmas.Bool.Decides.{nat_tests}
use Rattle.std.proofs.lemmas.List.{append-nil}
use Rattle.std.proofs.lemmas.List.Elements.{filter_more}
use Rattle.std.proofs.lemmas.List.Folds.{find-append}
use Rattle.std.proofs.Math.Seq.{drop-cons}
use Rattle.sis_core.specs.Opens.{AreNumbered, CountsClients, CountsFiles, IsIndex, count_of, has_other_writer, is_as, is_in, is_of, open_as, pair_cmp, writes_in}
use Rattle.sis_core.specs.declared.opens.Open.{Open}
use Rattle.sis_core.specs.declared.opens.index.Index.{Index}

-- ---- keys

pub same_key : (c n d m : ℕ) → eq_by_cmp pair_cmp (c, n) (d, m) ≡ ((c == d) && (n == m))
same_key c n d m = grind (arith, nat_tests)

-- a change of one key of the map by client and number
pub number_changed : (old new : BTreeMap (ℕ × ℕ) Open) (o : Open) (now : Option Open)
    → Updates pair_cmp old new (o.client, o.number) now → (client number : ℕ)
    → get pair_cmp new (client, number)
    ≡ cond (is_as client number o) now (get pair_cmp old (client, number))
number_changed old new o now updates client number =
    updates.0 (client, number)
    ∙ ap (λ (b : Bool). cond b now (get pair_cmp old (client, number)))
    (same_key o.client o.number client number)

-- ---- counts

pub count-le : (test : Open → Bool) (opens : List Open) → count_of test opens ≤ length opens
count-le test [] = omega arith
count-le test (o ∷ os) = grind (arith, count-le test os)

pub writers-le : (file : ℕ) (opens : List Open)
    → count_of (writes_in file) opens ≤ count_of (is_in file) opens
writers-le file [] = omega arith
writers-le file (o ∷ os) = grind (arith, writers-le file os)

-- ---- numbers

find_none_between : (test : Open → Bool) (front rest : List Open) (o : Open)
    → find test (front ++ o ∷ rest) ≡ None
    → (test o ≡ false) × (find test (front ++ rest) ≡ None)
find_none_between test [] rest o none =
    elim (test o) as (λ b. cond b (Some o) (find test rest) ≡ None
    → (b ≡ false) × (find test rest ≡ None)) [
      | true ↦ λ h. absurd cc
      | false ↦ λ h. (refl, h)
    ] none
find_none_between test (p ∷ ps) rest o none =
    elim (test p) as (λ b. cond b (Some p) (find test (ps ++ o ∷ rest)) ≡ None
    → (test o ≡ false) × (cond b (Some p) (find test (ps ++ rest)) ≡ None)) [
      | true ↦ λ h. absurd cc
      | false ↦ λ h. find_none_between test ps rest o h
    ] none

find-between : (test : Open → Bool) (front rest : List Open) (o : Open) → test o ≡ false
    → find test (front ++ o ∷ rest) ≡ find test (front ++ rest)
find-between test [] rest o other = ap (λ (b : Bool). cond b (Some o) (find test rest)) other
find-between test (p ∷ ps) rest o other =
    ap (λ (q : Option Open). cond (test p) (Some p) q) (find-between test ps rest o other)

-- two opens of different numbers
other_number : (o p : Open) → is_as o.client o.number p ≡ false → is_as p.client p.number o ≡ false
other_number o p other = grind (arith, nat_tests)

numbered_push : (opens : List Open) (o : Open) → AreNumbered opens
    → open_as o.client o.number opens ≡ None → AreNumbered (opens ++ o ∷ [])
numbered_push [] o numbered free = (refl, tt)
numbered_push (p ∷ ps) o numbered free =
    let first = find_none_between (is_as o.client o.number) [] ps p free in (
      find-append (is_as p.client p.number) ps (o ∷ [])
          ∙ rw (numbered.0, other_number o p first.0) refl,
      numbered_push ps o numbered.1 first.1,
    )

numbered_between : (front rest : List Open) (o : Open) → AreNumbered (front ++ o ∷ rest)
    → AreNumbered (front ++ rest) × (open_as o.client o.number (front ++ rest) ≡ None)
numbered_between [] rest o numbered = (numbered.1, numbered.0)
numbered_between (p ∷ ps) rest o numbered =
    let first = find_none_between (is_as p.client p.number) ps rest o numbered.0 in
    let others = numbered_between ps rest o numbered.1 in (
      (first.1, others.0),
      ap (λ (b : Bool). cond b (Some p) (open_as o.client o.number (ps ++ rest)))
          (other_number p o first.0) ∙ others.1,
    )

-- ---- an open is entered, and taken out

number_entered : (opens : List Open) (o : Open) (client number : ℕ) (found : Option Open)
    → open_as o.client o.number opens ≡ None → found ≡ open_as client number opens
    → cond (is_as client number o) (Some o) found
    ≡ open_as client number (opens ++ o ∷ [])
number_entered opens o client number found free was =
    ap (cond (is_as client number o) (Some o)) was
    ∙ elim (is_as client number o) as (λ b. is_as client number o ≡ b
    → cond b (Some o) (open_as client number opens)
    ≡ option_or (open_as client number opens) (cond b (Some o) None)) [
      | true ↦ λ is.
          let c : o.client ≡ client = grind (arith, nat_tests) in
          let n : o.number ≡ number = grind (arith, nat_tests) in
          let none : open_as client number opens ≡ None = rw (← c, ← n) free in
          rw none refl
      | false ↦ λ is. by (open_as client number opens)
    ] refl
    ∙ sym (find-append (is_as client number) opens (o ∷ []))
  where
    by : (q : Option Open) → q ≡ option_or q None
    by None = refl
    by (Some x) = refl

number_left : (front rest : List Open) (o : Open) (client number : ℕ)
    → open_as o.client o.number (front ++ rest) ≡ None
    → cond (is_as client number o) None (open_as client number (front ++ o ∷ rest))
    ≡ open_as client number (front ++ rest)
number_left front rest o client number none =
    elim (is_as client number o) as (λ b. is_as client number o ≡ b
    → cond b None (open_as client number (front ++ o ∷ rest))
    ≡ open_as client number (front ++ rest)) [
      | true ↦ λ is.
          let c : o.client ≡ client = grind (arith, nat_tests) in
          let n : o.number ≡ number = grind (arith, nat_tests) in
          let gone : open_as client number (front ++ rest) ≡ None = rw (← c, ← n) none in
          sym gone
      | false ↦ λ other. find-between (is_as client number) front rest o other
    ] refl

pub entered : (opens : List Open) (o : Open) (old new : Index) → IsIndex opens old
    → open_as o.client o.number opens ≡ None
    → Updates pair_cmp old.numbers new.numbers (o.client, o.number) (Some o)
    → CountsClients (opens ++ o ∷ []) new.clients → CountsFiles (opens ++ o ∷ []) new.files
    → IsIndex (opens ++ o ∷ []) new
entered opens o old new is free numbers clients files = record {
  numbered = numbered_push opens o is.numbered free;
  numbers =
      λ client number. number_changed old.numbers new.numbers o (Some o) numbers client number
      ∙ number_entered opens o client number _ free (is.numbers client number);
  clients = clients;
  files = files;
}

pub left : (front rest : List Open) (o : Open) (old new : Index) → IsIndex (front ++ o ∷ rest) old
    → Updates pair_cmp old.numbers new.numbers (o.client, o.number) None
    → CountsClients (front ++ rest) new.clients → CountsFiles (front ++ rest) new.files
    → IsIndex (front ++ rest) new
left front rest o old new is numbers clients files =
    let left_numbers = numbered_between front rest o is.numbered in
    record {
      numbered = left_numbers.0;
      numbers =
          λ client number. number_changed old.numbers new.numbers o None numbers client number
          ∙ ap (cond (is_as client number o) None) (is.numbers client number)
          ∙ number_left front rest o client number left_numbers.1;
      clients = clients;
      files = files;
    }

-- ---- a client's opens are taken out in turn

-- those of the first `i` opens that aren't the client's, and all behind them
abbrev pub left_at : ℕ → ℕ → List Open → List Open
left_at client i opens = filter (λ o. not (is_of client o)) (take i opens) ++ drop i opens

from_here : (opens : List Open) (i : ℕ) (d : Open) → i < length opens
    → drop i opens ≡ get_or opens i d ∷ drop (i + 1) opens
from_here opens i d lt = rw (add-one, drop-cons opens i d) refl

pub goes : (client i : ℕ) (opens : List Open) (d : Open) (old new : Index) → i < length opens
    → is_of client (get_or opens i d) ≡ true
    → ((front rest : List Open) → IsIndex (front ++ get_or opens i d ∷ rest) old
    → IsIndex (front ++ rest) new)
    → IsIndex (left_at client i opens) old → IsIndex (left_at client (i + 1) opens) new
goes client i opens d old new lt is leaves was =
    let front = filter (λ o. not (is_of client o)) (take i opens) in
    let same : front ≡ filter (λ o. not (is_of client o)) (take (i + 1) opens) =
    sym (filter_more (λ o. not (is_of client o)) opens i d lt ∙ rw is (append-nil front)) in
    subst (λ (os : List Open). IsIndex (os ++ drop (i + 1) opens) new) same
    (leaves front (drop (i + 1) opens)
    (subst (λ (os : List Open). IsIndex (front ++ os) old) (from_here opens i d lt) was))

pub stays : (client i : ℕ) (opens : List Open) (d : Open) (index : Index) → i < length opens
    → is_of client (get_or opens i d) ≡ false
    → IsIndex (left_at client i opens) index → IsIndex (left_at client (i + 1) opens) index
stays client i opens d index lt other was =
    let front = filter (λ o. not (is_of client o)) (take i opens) in
    let more : filter (λ o. not (is_of client o)) (take (i + 1) opens)
    ≡ front ++ get_or opens i d ∷ [] =
    filter_more (λ o. not (is_of client o)) opens i d lt ∙ rw other refl in
    let same : left_at client i opens ≡ left_at client (i + 1) opens =
    ap (λ (os : List Open). front ++ os) (from_here opens i d lt)
    ∙ sym (ap (λ (os : List Open). os ++ drop (i + 1) opens) more
    ∙ append_assoc front (get_or opens i d ∷ []) (drop (i + 1) opens)) in
    subst (λ (os : List Open). IsIndex os index) same was

-- ---- an open is found, or isn't

pub filter_none : (test : Open → Bool) (opens : List Open) → find test opens ≡ None
    → filter (λ o. not (test o)) opens ≡ opens
filter_none test [] none = refl
filter_none test (o ∷ os) none =
    let first = find_none_between test [] os o none in
    rw first.0 (ap (λ (ps : List Open). o ∷ ps) (filter_none test os first.1))

-- the open of a client and number, with those before and those behind it
pub record StandsIn (client number : ℕ) (opens : List Open) (o : Open) : Type 0 where
  pub front : List Open
  pub rest : List Open
  pub is : opens ≡ front ++ o ∷ rest
  pub left : filter (λ p. not (is_as client number p)) opens ≡ front ++ rest

pub stands_in : (client number : ℕ) (opens : List Open) (o : Open) → AreNumbered opens
    → open_as client number opens ≡ Some o → StandsIn client number opens o
stands_in client number [] o numbered found = absurd cc
stands_in client number (p ∷ ps) o numbered found =
    elim (is_as client number p) as (λ b. is_as client number p ≡ b
    → cond b (Some p) (open_as client number ps) ≡ Some o
    → StandsIn client number (p ∷ ps) o) [
      | true ↦ λ is h.
          let c : p.client ≡ client = grind (arith, nat_tests) in
          let n : p.number ≡ number = grind (arith, nat_tests) in
          let same : p ≡ o = cc in
          let none : open_as client number ps ≡ None = rw (← c, ← n) numbered.0 in
          record {
            front = [];
            rest = ps;
            is = ap (λ (q : Open). q ∷ ps) same;
            left = rw is (filter_none (is_as client number) ps none);
          }
      | false ↦ λ other h.
          let behind = stands_in client number ps o numbered.1 h in
          record {
            front = p ∷ behind.front;
            rest = behind.rest;
            is = ap (λ (qs : List Open). p ∷ qs) behind.is;
            left = rw other (ap (λ (qs : List Open). p ∷ qs) behind.left);
          }
    ] refl found

pub some_as : (test : Open → Bool) (opens : List Open)
    → is_some (find test opens) ≡ list_any test opens
some_as test [] = refl
some_as test (o ∷ os) =
    elim (test o) as (λ b. is_some (cond b (Some o) (find test os)) ≡ (b || list_any test os)) [
      | true ↦ refl
      | false ↦ some_as test os
    ]

-- ---- files

pub any_counted : (test : Open → Bool) (opens : List Open)
    → nat_lt 0 (count_of test opens) ≡ list_any test opens
any_counted test [] = refl
any_counted test (o ∷ os) =
    elim (test o) as (λ b. nat_lt 0 (length (cond b (o ∷ filter test os) (filter test os)))
    ≡ (b || list_any test os)) [
      | true ↦ grind (arith, nat_tests)
      | false ↦ any_counted test os
    ]

-- what an open itself counts among those that may write a file
abbrev pub own : ℕ → Option Open → ℕ
own file None = 0
own file (Some o) = cond (writes_in file o) 1 0

-- no open of this client and number: each that may write the file is another one
others_only : (o : Open) (opens : List Open) → open_as o.client o.number opens ≡ None
    → has_other_writer o opens ≡ list_any (writes_in o.file) opens
others_only o [] none = refl
others_only o (p ∷ ps) none =
    let first = find_none_between (is_as o.client o.number) [] ps p none in
    let rest = others_only o ps first.1 in
    rw (first.0, rest) (by (p.file == o.file) p.writes)
  where
    by : (a b : Bool) → ((a && b && true) || list_any (writes_in o.file) ps)
        ≡ ((a && b) || list_any (writes_in o.file) ps)
    by true true = refl
    by true false = refl
    by false b = refl

own_le : (file : ℕ) (test : Open → Bool) (opens : List Open)
    → own file (find test opens) ≤ count_of (writes_in file) opens
own_le file test [] = omega arith
own_le file test (p ∷ ps) =
    elim (test p) as (λ b. own file (cond b (Some p) (find test ps))
    ≤ count_of (writes_in file) (p ∷ ps)) [
      | true ↦ grind arith
      | false ↦ grind (arith, own_le file test ps)
    ]

pub other_writers : (o : Open) (opens : List Open) → AreNumbered opens
    → nat_lt (own o.file (open_as o.client o.number opens)) (count_of (writes_in o.file) opens)
    ≡ has_other_writer o opens
other_writers o [] numbered = refl
other_writers o (p ∷ ps) numbered =
    elim (is_as o.client o.number p) as (λ b. is_as o.client o.number p ≡ b
    → nat_lt (own o.file (cond b (Some p) (open_as o.client o.number ps)))
    (count_of (writes_in o.file) (p ∷ ps))
    ≡ (((p.file == o.file) && p.writes && not b) || has_other_writer o ps)) [
      | true ↦ λ is.
          let c : p.client ≡ o.client = grind (arith, nat_tests) in
          let n : p.number ≡ o.number = grind (arith, nat_tests) in
          let none : open_as o.client o.number ps ≡ None = rw (← c, ← n) numbered.0 in
          let rest : has_other_writer o ps ≡ nat_lt 0 (count_of (writes_in o.file) ps) =
          others_only o ps none ∙ sym (any_counted (writes_in o.file) ps) in
          rw rest (itself (p.file == o.file) p.writes)
      | false ↦ λ other.
          let rest = other_writers o ps numbered.1 in
          let le = own_le o.file (is_as o.client o.number) ps in
          rw (← rest) (another (p.file == o.file) p.writes le)
    ] refl
  where
    itself : (a b : Bool) → nat_lt (cond (a && b) 1 0)
        (length (cond (a && b) (p ∷ filter (writes_in o.file) ps) (filter (writes_in o.file) ps)))
        ≡ ((a && b && false) || nat_lt 0 (count_of (writes_in o.file) ps))
    itself true true = grind (arith, nat_tests)
    itself true false = refl
    itself false b = refl

    another : (a b : Bool)
        → own o.file (open_as o.client o.number ps) ≤ count_of (writes_in o.file) ps
        → nat_lt (own o.file (open_as o.client o.number ps))
        (length (cond (a && b) (p ∷ filter (writes_in o.file) ps) (filter (writes_in o.file) ps)))
        ≡ ((a && b && true)
        || nat_lt (own o.file (open_as o.client o.number ps)) (count_of (writes_in o.file) ps))
    another true true le = grind (arith, nat_tests)
    another true false le = refl
    another false b le = refl

-- ---- what a call left

pub at_err : {T E P : Type 0} (r : Result T E) → is_err r ≡ true → OnErr r P → P
at_err (Ok x) is h = absurd cc
at_err (Err e) is h = h

pub at_ok : {T E P : Type 0} (r : Result T E) → is_err r ≡ false → OnOk r P → P
at_ok (Ok x) is h = h
at_ok (Err e) is h = absurd cc
