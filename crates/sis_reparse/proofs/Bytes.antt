-- Numbers that bytes spell are spelled by these bytes.
use Rattle.std.proofs.Common.{◌≡◌, ℕ, zero, suc, ◌+◌, ◌-◌, ◌*◌, ◌^◌, ◌<◌, ◌≤◌, ◌/◌, ◌%◌, List, [], ◌∷◌, ◌++◌, length, get_or, take, drop, slice_range, refl, sym, ap, ◌∙◌, arith}
use Rattle.std.specs.List.{All, AllByRecursion}
use Rattle.std.specs.Int.{byte_at, bytes_low_first}
use Rattle.std.proofs.Math.Nat.{pow-succ', div-div-eq-div-mul, div-one}
use Rattle.std.proofs.lemmas.List.{take-append-drop, drop-drop, length-drop}
use Rattle.std.proofs.lemmas.List.Elements.{All-head, All-tail, All-drop, recursion_from_All}
use Rattle.byteorder.specs.Endian.{little_number, little_bytes}
use Rattle.byteorder.specs.Numbers.{little_from-cons, little_from-lt}
use Rattle.sis_reparse.specs.Point.{field}

-- the number is a byte
abbrev pub IsByte : ℕ → Type 0
IsByte b = b < 256

-- each item is one
abbrev pub AreBytes : List ℕ → Type 0
AreBytes bytes = All IsByte bytes

byte_at-pow : (k x : ℕ) → byte_at k x ≡ x / 256 ^ k % 256
byte_at-pow zero x = ap (λ (y : ℕ). y % 256) (sym (div-one x))
byte_at-pow (suc k) x = refl

byte_at-next : (i x : ℕ) → byte_at (suc i) x ≡ byte_at i (x / 256)
byte_at-next i x = byte_at-pow (suc i) x ∙ ap (λ (p : ℕ). x / p % 256) (pow-succ' 256 i)
    ∙ ap (λ (q : ℕ). q % 256) (sym (div-div-eq-div-mul x 256 (256 ^ i))) ∙ sym (byte_at-pow i (x / 256))

bytes-next : (i n x : ℕ) → bytes_low_first (suc i) n x ≡ bytes_low_first i n (x / 256)
bytes-next i zero x = refl
bytes-next i (suc n) x = rw (byte_at-next i x, bytes-next (suc i) n x) refl

low_byte : (a b : ℕ) → a < 256 → (a + 256 * b) % 256 ≡ a
low_byte a b lt = omega arith

high_bytes : (a b : ℕ) → a < 256 → (a + 256 * b) / 256 ≡ b
high_bytes a b lt = omega arith

bytes_again : (n : ℕ) (bytes : List ℕ) → AreBytes bytes → n ≤ length bytes → little_bytes n (little_number n bytes) ≡ take n bytes
bytes_again zero bytes fits long = refl
bytes_again (suc n) [] fits long = absurd (omega arith)
bytes_again (suc n) (b ∷ bytes) fits long =
    let moved : little_number (suc n) (b ∷ bytes) ≡ b + 256 * little_number n bytes = ap (λ (k : ℕ). b + 256 * k) (little_from-cons 0 n b bytes) in
    let small : b < 256 = All-head IsByte b bytes fits in
    let behind : bytes_low_first 1 n (b + 256 * little_number n bytes) ≡ take n bytes =
    bytes-next 0 n (b + 256 * little_number n bytes) ∙ ap (λ (k : ℕ). bytes_low_first 0 n k) (high_bytes b (little_number n bytes) small)
    ∙ bytes_again n bytes (All-tail IsByte b bytes fits) (omega arith) in
    ap (little_bytes (suc n)) moved ∙ rw (low_byte b (little_number n bytes) small, behind) refl

-- the field at an offset, and the bytes behind it
pub field_back : (n at : ℕ) (bytes : List ℕ) → AreBytes bytes → at + n ≤ length bytes → drop at bytes ≡ little_bytes n (field n at bytes) ++ drop (at + n) bytes
field_back n at bytes fits long =
    sym (take-append-drop n (drop at bytes))
    ∙ ap (λ (l : List ℕ). l ++ drop n (drop at bytes)) (sym (bytes_again n (drop at bytes) (All-drop IsByte at bytes fits) (omega (arith, length-drop at bytes))))
    ∙ ap (λ (l : List ℕ). little_bytes n (field n at bytes) ++ l) (drop-drop n at bytes)

-- the bytes from one offset to another, and those behind them
pub range_back : (at end : ℕ) (bytes : List ℕ) → at ≤ end → drop at bytes ≡ slice_range bytes at end ++ drop end bytes
range_back at end bytes order =
    let count : at + (end - at) ≡ end = omega arith in
    sym (take-append-drop (end - at) (drop at bytes)) ∙ ap (λ (l : List ℕ). slice_range bytes at end ++ l) (drop-drop (end - at) at bytes ∙ ap (λ (k : ℕ). drop k bytes) count)

fit_at : (bytes : List ℕ) → AllByRecursion IsByte bytes → (i : ℕ) → get_or bytes i 0 < 256
fit_at [] h i = omega arith
fit_at (b ∷ bytes) h zero = h.0
fit_at (b ∷ bytes) h (suc i) = fit_at bytes h.1 i

-- a field of eight bytes is a number of 64 bits
pub field_fits : (at : ℕ) (bytes : List ℕ) → AreBytes bytes → field 8 at bytes < 2 ^ 64
field_fits at bytes fits = little_from-lt 0 8 (drop at bytes) (fit_at (drop at bytes) (recursion_from_All IsByte (drop at bytes) (All-drop IsByte at bytes fits)))
