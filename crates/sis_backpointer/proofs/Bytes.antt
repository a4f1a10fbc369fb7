-- Bytes, and the numbers that they spell.
use Rattle.std.proofs.Common.{◌≡◌, ℕ, zero, suc, ◌+◌, ◌*◌, ◌^◌, ◌<◌, ◌≤◌, ◌/◌, ◌%◌, List, [], ◌∷◌, length, get_or, take, drop, refl, sym, ap, ◌∙◌, arith}
use Rattle.std.proofs.Math.Nat.{pow-succ', div-div-eq-div-mul, div-one}
use Rattle.std.proofs.lemmas.List.{get_or-drop}
use Rattle.std.specs.Int.{byte_at, bytes_low_first}
use Rattle.byteorder.specs.Endian.{little_number, little_bytes}
use Rattle.byteorder.specs.Numbers.{little_from-cons}

-- each item is a byte
abbrev pub IsBytes : List ℕ → Type 0
IsBytes bytes = (i : ℕ) → get_or bytes i 0 < 256

pub IsBytes-drop : (n : ℕ) (bytes : List ℕ) → IsBytes bytes → IsBytes (drop n bytes)
IsBytes-drop n bytes h i = rw get_or-drop (h (n + i))

byte_at-pow : (k x : ℕ) → byte_at k x ≡ x / 256 ^ k % 256
byte_at-pow zero x = ap (λ (y : ℕ). y % 256) (sym (div-one x))
byte_at-pow (suc k) x = refl

byte_at-next : (i x : ℕ) → byte_at (suc i) x ≡ byte_at i (x / 256)
byte_at-next i x = byte_at-pow (suc i) x ∙ ap (λ (p : ℕ). x / p % 256) (pow-succ' 256 i)
    ∙ ap (λ (q : ℕ). q % 256) (sym (div-div-eq-div-mul x 256 (256 ^ i))) ∙ sym (byte_at-pow i (x / 256))

bytes-next : (i n x : ℕ) → bytes_low_first (suc i) n x ≡ bytes_low_first i n (x / 256)
bytes-next i zero x = refl
bytes-next i (suc n) x = rw (byte_at-next i x, bytes-next (suc i) n x) refl

low_byte : (a b : ℕ) → a < 256 → (a + 256 * b) % 256 ≡ a
low_byte a b lt = omega arith

high_bytes : (a b : ℕ) → a < 256 → (a + 256 * b) / 256 ≡ b
high_bytes a b lt = omega arith

-- bytes are those of the number that they spell
pub bytes_again : (n : ℕ) (bytes : List ℕ) → IsBytes bytes → n ≤ length bytes → little_bytes n (little_number n bytes) ≡ take n bytes
bytes_again zero bytes fits long = refl
bytes_again (suc n) [] fits long = absurd (omega arith)
bytes_again (suc n) (b ∷ bytes) fits long =
    let moved : little_number (suc n) (b ∷ bytes) ≡ b + 256 * little_number n bytes = ap (λ (k : ℕ). b + 256 * k) (little_from-cons 0 n b bytes) in
    let small : b < 256 = fits 0 in
    let behind : bytes_low_first 1 n (b + 256 * little_number n bytes) ≡ take n bytes =
    bytes-next 0 n (b + 256 * little_number n bytes) ∙ ap (λ (k : ℕ). bytes_low_first 0 n k) (high_bytes b (little_number n bytes) small)
    ∙ bytes_again n bytes (λ i. fits (suc i)) (omega arith) in
    ap (little_bytes (suc n)) moved ∙ rw (low_byte b (little_number n bytes) small, behind) refl
