-- What is read is spelled so.
use Rattle.std.proofs.Common.{◌≡◌, ℕ, ◌≤◌, ◌+◌, not, ◌==◌, nat_lt, false, List, ◌++◌, length, drop, slice_range, Ok, refl, sym, ap, subst, ◌∙◌, arith}
use Rattle.std.proofs.lemmas.Bool.{ltb-false}
use Rattle.std.proofs.lemmas.Bool.Decides.{nat_tests}
use Rattle.std.proofs.lemmas.List.{append-nil, drop_all, length-take-le, length-drop}
use Rattle.std.proofs.lemmas.List.Elements.{All-take, All-drop}
use Rattle.byteorder.specs.Endian.{little_bytes}
use Rattle.sis_reading.proofs.StepLemmas.{bind_ok, ok_is, guard_ok, guarded}
use Rattle.sis_reparse.specs.declared.point.SisPoint.{SisPoint}
use Rattle.sis_reparse.specs.declared.fault.PointFault.TheVariants as faults
use Rattle.sis_reparse.specs.Point.{IsPoint, point_text, field, whole, head, point_at}
use Rattle.sis_reparse.proofs.Bytes.{IsByte, AreBytes, field_back, range_back, field_fits}
use Rattle.sis_reparse.proofs.Spelled.{head_text, numbers_text, parts_of}

is_number : (m n : ℕ) → not (m == n) ≡ false → m ≡ n
is_number m n e = grind (arith, nat_tests)

whole_ok : (bytes : List ℕ) (x : Unit {0}) → whole bytes ≡ Ok x → length bytes ≡ 64
whole_ok bytes x e =
    let short = guard_ok (faults.Short (length bytes)) (nat_lt (length bytes) 64) _ _ x e in
    let long = guarded (faults.Long (length bytes)) (nat_lt 64 (length bytes)) _ x short.1 in
    let low : 64 ≤ length bytes = ltb-false _ _ short.0 in
    let high : length bytes ≤ 64 = ltb-false _ _ long.0 in
    omega arith

-- the fields that each buffer has
record HasHead (bytes : List ℕ) : Type 0 where
  pub tag : field 4 0 bytes ≡ 0x80000007
  pub data_len : field 2 4 bytes ≡ 56
  pub reserved : field 2 6 bytes ≡ 0
  pub version : field 4 8 bytes ≡ 1
  pub zero : field 4 12 bytes ≡ 0

head_ok : (bytes : List ℕ) (x : Unit {0}) → head bytes ≡ Ok x → HasHead bytes
unfolding head
head_ok bytes x e =
    let a = guard_ok (faults.Tag (field 4 0 bytes)) _ _ _ x e in
    let b = guard_ok (faults.Length (field 2 4 bytes)) _ _ _ x a.1 in
    let c = guard_ok (faults.Reserved 6) _ _ _ x b.1 in
    let d = guard_ok (faults.Version (field 4 8 bytes)) _ _ _ x c.1 in
    let z = guarded (faults.Reserved 12) _ _ x d.1 in
    record {
      tag = is_number _ _ a.0;
      data_len = is_number _ _ b.0;
      reserved = is_number _ _ c.0;
      version = is_number _ _ d.0;
      zero = is_number _ _ z.0;
    }

abbrev pub point : List ℕ → ℕ → ℕ → ℕ → List ℕ → SisPoint
point guid index file store signature = record { guid = guid; index = index; file = file; store = store; signature = signature }

-- what stands in some bytes
abbrev stated : List ℕ → SisPoint
stated bytes = point (slice_range bytes 16 32) (field 8 32 bytes) (field 8 40 bytes) (field 8 48 bytes) (slice_range bytes 56 64)

record Finds (bytes : List ℕ) (p : SisPoint) : Type 0 where
  pub long : length bytes ≡ 64
  pub head : HasHead bytes
  pub value : stated bytes ≡ p

finds : (bytes : List ℕ) (p : SisPoint) → point_at bytes ≡ Ok p → Finds bytes p
unfolding point_at
finds bytes p e =
    let a = bind_ok (whole bytes) _ p e in
    let b = bind_ok (head bytes) _ p a.2 in
    record { long = whole_ok bytes a.0 a.1; head = head_ok bytes b.0 b.1; value = ok_is (stated bytes) p b.2 }

module _ (bytes : List ℕ) (fits : AreBytes bytes) (long : length bytes ≡ 64) where
  next : (n at value : ℕ) → at + n ≤ 64 → field n at bytes ≡ value → drop at bytes ≡ little_bytes n value ++ drop (at + n) bytes
  next n at value within is = field_back n at bytes fits (omega arith) ∙ ap (λ (v : ℕ). little_bytes n v ++ drop (at + n) bytes) is

  head_found : HasHead bytes → bytes ≡ head_text ++ drop 16 bytes
  head_found h =
      next 4 0 0x80000007 (omega arith) h.tag ∙ ap (λ (l : List ℕ). little_bytes 4 0x80000007 ++ l)
      (next 2 4 56 (omega arith) h.data_len ∙ ap (λ (l : List ℕ). little_bytes 2 56 ++ l)
      (next 2 6 0 (omega arith) h.reserved ∙ ap (λ (l : List ℕ). little_bytes 2 0 ++ l)
      (next 4 8 1 (omega arith) h.version ∙ ap (λ (l : List ℕ). little_bytes 4 1 ++ l)
      (next 4 12 0 (omega arith) h.zero))))

  signature_found : drop 56 bytes ≡ slice_range bytes 56 64
  signature_found =
      range_back 56 64 bytes (omega arith) ∙ ap (λ (l : List ℕ). slice_range bytes 56 64 ++ l) (drop_all 64 bytes (omega arith))
      ∙ append-nil (slice_range bytes 56 64)

  numbers_found : drop 32 bytes ≡ numbers_text (stated bytes)
  numbers_found =
      field_back 8 32 bytes fits (omega arith) ∙ ap (λ (l : List ℕ). little_bytes 8 (field 8 32 bytes) ++ l)
      (field_back 8 40 bytes fits (omega arith) ∙ ap (λ (l : List ℕ). little_bytes 8 (field 8 40 bytes) ++ l)
      (field_back 8 48 bytes fits (omega arith) ∙ ap (λ (l : List ℕ). little_bytes 8 (field 8 48 bytes) ++ l) signature_found))

  text_found : HasHead bytes → bytes ≡ point_text (stated bytes)
  text_found h =
      head_found h ∙ ap (λ (l : List ℕ). head_text ++ l)
      (range_back 16 32 bytes (omega arith) ∙ ap (λ (l : List ℕ). slice_range bytes 16 32 ++ l) numbers_found)
      ∙ sym (parts_of (stated bytes))

  stated_is : IsPoint (stated bytes)
  stated_is = record {
    guid_len = omega (arith, length-take-le 16 (drop 16 bytes) (omega (arith, length-drop 16 bytes)));
    guid = All-take IsByte 16 (drop 16 bytes) (All-drop IsByte 16 bytes fits);
    index = field_fits 32 bytes fits;
    file = field_fits 40 bytes fits;
    store = field_fits 48 bytes fits;
    signature_len = omega (arith, length-take-le 8 (drop 56 bytes) (omega (arith, length-drop 56 bytes)));
    signature = All-take IsByte 8 (drop 56 bytes) (All-drop IsByte 56 bytes fits);
  }

-- what is read is a point, and the bytes are its spelling
pub read_is_spelled : (bytes : List ℕ) (p : SisPoint) → AreBytes bytes → point_at bytes ≡ Ok p → IsPoint p × (bytes ≡ point_text p)
read_is_spelled bytes p fits e =
    let f = finds bytes p e in
    subst (λ (q : SisPoint). IsPoint q × (bytes ≡ point_text q)) f.value (stated_is bytes fits f.long, text_found bytes fits f.long f.head)

-- the same of what was read field by field
pub fields_found : (bytes guid signature : List ℕ) (index file store : ℕ) (x y : Unit {0}) → AreBytes bytes → whole bytes ≡ Ok x → head bytes ≡ Ok y
    → guid ≡ slice_range bytes 16 32 → index ≡ field 8 32 bytes → file ≡ field 8 40 bytes → store ≡ field 8 48 bytes → signature ≡ slice_range bytes 56 64
    → IsPoint (point guid index file store signature) × (bytes ≡ point_text (point guid index file store signature))
fields_found bytes guid signature index file store x y fits is_whole has_head g i f s d =
    let long = whole_ok bytes x is_whole in
    let same : stated bytes ≡ point guid index file store signature = rw (g, i, f, s, d) refl in
    subst (λ (p : SisPoint). IsPoint p × (bytes ≡ point_text p)) same (stated_is bytes fits long, text_found bytes fits long (head_ok bytes y has_head))
