-- Steps of reading: what a step that didn't fail gave, and what a step on spelled bytes gives.
use Rattle.std.proofs.Common.{◌≡◌, ℕ, ◌^◌, ◌%◌, ◌<◌, ◌≤◌, false, ltb, List, [], ◌∷◌, ◌++◌, length, take, drop, Result, Ok, refl, sym, ap, subst, ◌∙◌, append_assoc, arith}
use Rattle.std.proofs.lemmas.Bool.{ltb-false, le-ltb}
use Rattle.std.proofs.lemmas.List.{drop_at, take-append-drop, length-append}
use Rattle.byteorder.specs.Endian.{little_number, little_bytes}
use Rattle.byteorder.specs.Numbers.{little_from-lt, little_number-reads_back, length-bytes_low_first}
pub use Rattle.sis_disk.proofs.Bytes.{IsBytes, IsBytes-drop, bytes_again}
use Rattle.sis_disk.specs.declared.layout.TableKind.TheVariants as kinds
use Rattle.sis_table.specs.Reading.{Fault, number_at, here}
use Rattle.sis_reading.specs.Steps.{◌>>=◌}
use Rattle.sis_reading.proofs.StepLemmas.{bind_ok, bind_again, guarded}

-- what a reader took from the front
pub record Takes (bytes text rest : List ℕ) : Type 0 where
  pub parts : bytes ≡ text ++ rest
  pub rest_fits : IsBytes rest

pub Takes-then : (a x b y c : List ℕ) → Takes a x b → Takes b y c → Takes a (x ++ y) c
Takes-then a x b y c p q = record {
  parts = p.parts ∙ ap (λ (t : List ℕ). x ++ t) q.parts ∙ sym (append_assoc x y c);
  rest_fits = q.rest_fits;
}

-- ---- numbers

-- a number that is not above 0
pub none_above : (n : ℕ) → ltb 0 n ≡ false → n ≡ 0
none_above n h = let le : n ≤ 0 = ltb-false 0 n h in omega arith

-- a byte is spelled by itself
pub one_byte : (n : ℕ) → n < 256 ^ 1 → little_bytes 1 n ≡ n ∷ []
one_byte n lt = let e : n % 256 ≡ n = omega arith in ap (λ (x : ℕ). x ∷ []) e

pub number_takes : (n total : ℕ) (bytes : List ℕ) (x : ℕ × List ℕ) → IsBytes bytes → number_at n total bytes ≡ Ok x → Takes bytes (little_bytes n x.0) x.1 × (x.0 < 256 ^ n)
unfolding number_at
number_takes n total bytes x fits e =
    let g = guarded (here total bytes kinds.Short) (ltb (length bytes) n) (little_number n bytes, drop n bytes) x e in
    let long : n ≤ length bytes = ltb-false _ _ g.0 in
    let front : little_bytes n (little_number n bytes) ≡ take n bytes = bytes_again n bytes fits long in
    let taken : Takes bytes (little_bytes n (little_number n bytes)) (drop n bytes) = record { parts = rw front (sym (take-append-drop n bytes)); rest_fits = IsBytes-drop n bytes fits } in
    subst (λ (y : ℕ × List ℕ). Takes bytes (little_bytes n y.0) y.1 × (y.0 < 256 ^ n)) g.1 (taken, little_from-lt 0 n bytes fits)

pub number_again : (n total x : ℕ) (rest : List ℕ) → x < 256 ^ n → number_at n total (little_bytes n x ++ rest) ≡ Ok (x, rest)
unfolding number_at
number_again n total x rest lt =
    let len : length (little_bytes n x) ≡ n = length-bytes_low_first 0 n x in
    let long : ltb (length (little_bytes n x ++ rest)) n ≡ false = le-ltb _ _ (omega (arith, length-append (little_bytes n x) rest)) in
    rw (long, little_number-reads_back n x rest lt, drop_at (little_bytes n x) rest n len) refl

-- a number that was read, and what was read behind it
pub number_step : {B : Type 0} (n total : ℕ) (bytes : List ℕ) (f : ℕ × List ℕ → Result B Fault) (y : B) → IsBytes bytes → (number_at n total bytes >>= f) ≡ Ok y → (x : ℕ × List ℕ) × Takes bytes (little_bytes n x.0) x.1 × (x.0 < 256 ^ n) × (f x ≡ Ok y)
number_step n total bytes f y fits e =
    let b = bind_ok (number_at n total bytes) f y e in
    let t = number_takes n total bytes b.0 fits b.1 in
    (b.0, t.0, t.1, b.2)

pub number_back : {B : Type 0} (n total x : ℕ) (rest : List ℕ) (f : ℕ × List ℕ → Result B Fault) (y : Result B Fault) → x < 256 ^ n → f (x, rest) ≡ y → (number_at n total (little_bytes n x ++ rest) >>= f) ≡ y
number_back n total x rest f y lt e = bind_again (number_at n total (little_bytes n x ++ rest)) (x, rest) f y (number_again n total x rest lt) e

-- the same, with what follows as a function of what was read
pub number_then : {B : Type 0} (n total : ℕ) (bytes : List ℕ) (f : ℕ × List ℕ → Result B Fault) (y : B) (P : Type 0) → IsBytes bytes → (number_at n total bytes >>= f) ≡ Ok y
    → ((x : ℕ) (rest : List ℕ) → Takes bytes (little_bytes n x) rest → x < 256 ^ n → f (x, rest) ≡ Ok y → P) → P
number_then n total bytes f y P fits e next =
    let s = number_step n total bytes f y fits e in
    next s.0.0 s.0.1 s.1 s.2 s.3
