-- A client with fewer opens than there are numbers has one free.
use Rattle.std.proofs.Common.{◌≡◌, ℕ, zero, suc, ◌+◌, ◌<◌, ◌≤◌, Bool, true, false, not, cond, ◌&&◌, ◌||◌, if◌then◌else◌, List, [], ◌∷◌, length, filter, find, Option, None, Some, refl, subst, arith}
use Rattle.std.specs.Prelude.{◌==◌, unwrap_or}
use Rattle.std.specs.List.{list_any, range_with_len}
use Rattle.std.proofs.lemmas.Bool.Decides.{nat_tests}
use Rattle.sis_model.specs.World.{World, OpenFile, free_number, is_open_as, most_opens, opens_of}

abbrev how_many : (ℕ → Bool) → List ℕ → ℕ
how_many p [] = 0
how_many p (n ∷ ns) = (if p n then 1 else 0) + how_many p ns

one_of_two : (a b : Bool) → (if a || b then 1 else 0) ≤ (if a then 1 else 0) + (if b then 1 else 0)
one_of_two true b = omega arith
one_of_two false b = omega arith

how_many_either : (p q : ℕ → Bool) (ns : List ℕ)
    → how_many (λ n. p n || q n) ns ≤ how_many p ns + how_many q ns
how_many_either p q [] = omega arith
how_many_either p q (n ∷ ns) =
    omega (arith, one_of_two (p n) (q n), how_many_either p q ns)

none_later : (k a n : ℕ) → k < a → how_many (λ m. k == m) (range_with_len a n) ≡ 0
none_later k a zero lt = refl
none_later k a (suc n) lt =
    let other : (k == a) ≡ false = grind (arith, nat_tests) in
    rw other (omega (arith, none_later k (a + 1) n (omega arith)))

at_most_one : (k a n : ℕ) → how_many (λ m. k == m) (range_with_len a n) ≤ 1
at_most_one k a zero = omega arith
at_most_one k a (suc n) = by (k == a) refl (at_most_one k (a + 1) n)
  where
    by : (b : Bool) → (k == a) ≡ b → how_many (λ m. k == m) (range_with_len (a + 1) n) ≤ 1
        → (if b then 1 else 0) + how_many (λ m. k == m) (range_with_len (a + 1) n) ≤ 1
    by true is rest =
        let same : k ≡ a = grind (arith, nat_tests) in
        omega (arith, none_later k (a + 1) n (omega (arith, same)))
    by false is rest = omega (arith, rest)

abbrev taken : ℕ → List OpenFile → ℕ → Bool
taken client os n = list_any (is_open_as client n) os

none_taken : (client : ℕ) (ns : List ℕ) → how_many (λ n. taken client [] n) ns ≡ 0
none_taken client [] = refl
none_taken client (n ∷ ns) = omega (arith, none_taken client ns)

never : (ns : List ℕ) → how_many (λ n. false) ns ≡ 0
never [] = refl
never (n ∷ ns) = omega (arith, never ns)

by_one : (client : ℕ) (o : OpenFile) (n : ℕ)
    → how_many (λ m. is_open_as client m o) (range_with_len 1 n)
    ≤ (if o.client == client then 1 else 0)
by_one client o n = by (o.client == client)
  where
    by : (b : Bool) → how_many (λ m. b && (o.number == m)) (range_with_len 1 n)
        ≤ (if b then 1 else 0)
    by true = at_most_one o.number 1 n
    by false = omega (arith, never (range_with_len 1 n))

-- a client's opens take at most as many numbers as they are
few_taken : (client : ℕ) (os : List OpenFile) (n : ℕ)
    → how_many (taken client os) (range_with_len 1 n) ≤ length (filter (λ o. o.client == client) os)
few_taken client [] n = omega (arith, none_taken client (range_with_len 1 n))
few_taken client (o ∷ os) n =
    let both =
    how_many_either (λ m. is_open_as client m o) (taken client os) (range_with_len 1 n) in
    let first = by_one client o n in
    by (o.client == client) refl both first (few_taken client os n)
  where
    most : (b : Bool) → (o.client == client) ≡ b
        → how_many (λ m. is_open_as client m o) (range_with_len 1 n)
        ≤ (if o.client == client then 1 else 0)
        → how_many (λ m. is_open_as client m o) (range_with_len 1 n) ≤ (if b then 1 else 0)
    most b is first =
        subst
        (λ (t : Bool). how_many (λ m. is_open_as client m o) (range_with_len 1 n)
        ≤ (if t then 1 else 0)) is first

    by : (b : Bool) → (o.client == client) ≡ b
        → how_many (λ m. is_open_as client m o || taken client os m) (range_with_len 1 n)
        ≤ how_many (λ m. is_open_as client m o) (range_with_len 1 n)
        + how_many (taken client os) (range_with_len 1 n)
        → how_many (λ m. is_open_as client m o) (range_with_len 1 n)
        ≤ (if o.client == client then 1 else 0)
        → how_many (taken client os) (range_with_len 1 n)
        ≤ length (filter (λ p. p.client == client) os)
        → how_many (taken client (o ∷ os)) (range_with_len 1 n)
        ≤ length (cond b (o ∷ filter (λ p. p.client == client) os)
        (filter (λ p. p.client == client) os))
    by true is both first rest = omega (arith, both, most true is first, rest)
    by false is both first rest = omega (arith, both, most false is first, rest)

-- where no number is free, all are taken
all_taken : (p : ℕ → Bool) (a n : ℕ) → find (λ m. not (p m)) (range_with_len a n) ≡ None
    → how_many p (range_with_len a n) ≡ n
all_taken p a zero none = refl
all_taken p a (suc n) none = by (p a) none (all_taken p (a + 1) n)
  where
    by : (b : Bool)
        → cond (not b) (Some a) (find (λ m. not (p m)) (range_with_len (a + 1) n)) ≡ None
        → (find (λ m. not (p m)) (range_with_len (a + 1) n) ≡ None
        → how_many p (range_with_len (a + 1) n) ≡ n)
        → (if b then 1 else 0) + how_many p (range_with_len (a + 1) n) ≡ suc n
    by true none rest = omega (arith, rest none)
    by false none rest = absurd cc

pub record IsFound (p : ℕ → Bool) (a n m : ℕ) : Type 0 where
  pub test : p m ≡ true
  pub low : a ≤ m
  pub high : m < a + n

found_in : (p : ℕ → Bool) (a n m : ℕ) → find p (range_with_len a n) ≡ Some m → IsFound p a n m
found_in p a zero m is = absurd cc
found_in p a (suc n) m is = by (p a) refl is (found_in p (a + 1) n m)
  where
    by : (b : Bool) → p a ≡ b → cond b (Some a) (find p (range_with_len (a + 1) n)) ≡ Some m
        → (find p (range_with_len (a + 1) n) ≡ Some m → IsFound p (a + 1) n m)
        → IsFound p a (suc n) m
    by true test is rest =
        let same : a ≡ m = (let e : Some a ≡ Some m = is in cc) in
        record {
          test = subst (λ (k : ℕ). p k ≡ true) same test;
          low = omega (arith, same);
          high = omega (arith, same);
        }
    by false test is rest =
        let later = rest is in
        record {
          test = later.test;
          low = omega (arith, later.low);
          high = omega (arith, later.high);
        }

-- the number that a new open gets
pub record IsFree (w : World) (client number : ℕ) : Type 0 where
  pub low : 1 ≤ number
  pub high : number ≤ most_opens
  pub free : list_any (is_open_as client number) w.opens ≡ false

not_true : (b : Bool) → not b ≡ true → b ≡ false
not_true true e = absurd cc
not_true false e = refl

pub number_is_free : (w : World) (client : ℕ) → length (opens_of w client) < most_opens
    → IsFree w client (free_number w client)
number_is_free w client few =
    by (find (λ n. not (taken client w.opens n)) (range_with_len 1 most_opens)) refl
  where
    by : (o : Option ℕ)
        → find (λ n. not (taken client w.opens n)) (range_with_len 1 most_opens) ≡ o
        → IsFree w client (unwrap_or o 0)
    by None is =
        absurd
        (let all = all_taken (taken client w.opens) 1 most_opens is in
        let most = few_taken client w.opens most_opens in
        omega (arith, all, most, few))
    by (Some number) is =
        let found = found_in (λ n. not (taken client w.opens n)) 1 most_opens number is in
        record {
          low = found.low;
          high = omega (arith, found.high);
          free = not_true (taken client w.opens number) found.test;
        }
