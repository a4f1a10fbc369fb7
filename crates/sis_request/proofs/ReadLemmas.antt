-- What is read is spelled so.
use Rattle.std.proofs.Common.{◌≡◌, ℕ, ◌+◌, ◌-◌, ◌*◌, ◌^◌, ◌<◌, ◌≤◌, ◌/◌, ◌%◌, nat_lt, List, [], ◌∷◌, ◌++◌, length, drop, slice_range, Ok, refl, sym, ap, subst, ◌∙◌, arith}
use Rattle.std.specs.List.{flat_map, All, AllByRecursion}
use Rattle.std.proofs.lemmas.Bool.{ltb-false}
use Rattle.std.proofs.lemmas.Grind.{flat_map-append}
use Rattle.std.proofs.lemmas.List.{drop-drop, take-append-drop, length-take-le, length-drop}
use Rattle.std.proofs.lemmas.List.Elements.{All-from_recursion, recursion_from_All}
use Rattle.byteorder.specs.Endian.{little_number}
use Rattle.byteorder.specs.Numbers.{little_from-lt}
use Rattle.sis_request.specs.declared.fault.Field.{Field}
use Rattle.sis_request.specs.declared.fault.Field.TheVariants as fields
use Rattle.sis_request.specs.declared.fault.RequestFault.TheVariants as faults
use Rattle.sis_request.specs.Request.{Request, IsRequest, IsRequestName, IsLentName, le2, le4, name_len, name_text, request_text, units_of, number_at, length_of, name_of, request_at}
use Rattle.sis_request.proofs.NameUnits.{IsBytes, IsBytes-All, IsBytes-drop, IsBytes-take, length_units_of, length_name_text, text_units_of, units_fit, no_nulls, all_front, all_both}
use Rattle.sis_request.proofs.NameFields.{name_ok}
use Rattle.sis_request.proofs.Lengths.{IsLength, length_ok}
use Rattle.sis_reading.proofs.StepLemmas.{bind_ok, ok_is, guard_ok}
use Rattle.sis_request.proofs.Spelled.{Finds, text_of, parts_of}

finds_from : (bytes : List ℕ) (r : Request) → request_at bytes ≡ Ok r → (n : ℕ) × (m : ℕ) × Finds bytes n m r
unfolding request_at
finds_from bytes r e =
    let head = guard_ok (faults.Short (length bytes) 12) (nat_lt (length bytes) 12) _ _ r e in
    let n = bind_ok (length_of fields.Source (number_at 0 bytes)) _ r head.1 in
    let n_is = length_ok fields.Source (number_at 0 bytes) n.0 n.1 in
    let m = bind_ok (length_of fields.Destination (number_at 4 bytes)) _ r n.2 in
    let m_is = length_ok fields.Destination (number_at 4 bytes) m.0 m.1 in
    let whole = guard_ok (faults.Short (length bytes) (12 + n.0 + m.0)) (nat_lt (length bytes) (12 + n.0 + m.0)) _ _ r m.2 in
    let s = bind_ok (name_of fields.Source (units_of (slice_range bytes 12 (12 + n.0)))) _ r whole.1 in
    let d = bind_ok (name_of fields.Destination (units_of (slice_range bytes (12 + n.0) (12 + n.0 + m.0)))) _ r s.2 in
    let read : Request = record { source = s.0; destination = d.0; flags = number_at 8 bytes } in
    let found : Finds bytes n.0 m.0 read = record {
      first = sym n_is.0;
      second = sym m_is.0;
      flag_bits = refl;
      first_length = subst IsLength (sym n_is.0) n_is.1;
      second_length = subst IsLength (sym m_is.0) m_is.1;
      long = ltb-false _ _ whole.0;
      from = s.1;
      to = d.1;
    } in
    (n.0, m.0, subst (λ (x : Request). Finds bytes n.0 m.0 x) (ok_is read r d.2) found)

-- four bytes are those of the number that they spell
four : (a b c d : ℕ) (rest : List ℕ) → a < 256 → b < 256 → c < 256 → d < 256 → le4 (little_number 4 (a ∷ b ∷ c ∷ d ∷ rest)) ≡ a ∷ b ∷ c ∷ d ∷ []
unfolding le4
four a b c d rest a_fits b_fits c_fits d_fits =
    let n = a + 256 * (b + 256 * (c + 256 * (d + 256 * 0))) in
    let first : n % 256 ≡ a = omega arith in
    let second : n / 256 % 256 ≡ b = omega arith in
    let third : n / 65536 % 256 ≡ c = omega arith in
    let fourth : n / 16777216 % 256 ≡ d = omega arith in
    rw (first, second, third, fourth) refl

head_number : (bytes : List ℕ) → IsBytes bytes → 4 ≤ length bytes → bytes ≡ le4 (little_number 4 bytes) ++ drop 4 bytes
head_number [] fits long = absurd (omega arith)
head_number (a ∷ []) fits long = absurd (omega arith)
head_number (a ∷ b ∷ []) fits long = absurd (omega arith)
head_number (a ∷ b ∷ c ∷ []) fits long = absurd (omega arith)
head_number (a ∷ b ∷ c ∷ d ∷ rest) fits long = ap (λ (front : List ℕ). front ++ rest) (sym (four a b c d rest (fits 0) (fits 1) (fits 2) (fits 3)))

-- a name's bytes are its text
name_found : (field : Field) (range name : List ℕ) → IsBytes range → IsLength (length range) → name_of field (units_of range) ≡ Ok name → (range ≡ name_text name) × IsRequestName name
unfolding le2
name_found field range name fits is e =
    let even = is.even in
    let low = is.low in
    let high = is.high in
    let twice : 2 * length (units_of range) ≡ length range = length_units_of range is.even in
    let p = name_ok field (units_of range) name (omega arith) e in
    let text : range ≡ name_text name = sym (text_units_of range is.even fits) ∙ ap (flat_map le2) p.0 ∙ flat_map-append le2 name (0 ∷ []) in
    let len : length range ≡ name_len name = ap length text ∙ length_name_text name in
    let small = all_front (λ u. u < 65536) name (0 ∷ []) (subst (AllByRecursion (λ u. u < 65536)) p.0 (units_fit range fits)) in
    let full = recursion_from_All (λ u. 0 < u) name (no_nulls name p.1) in (
      text,
      record {
        low = omega arith;
        high = omega arith;
        units = All-from_recursion (λ u. (0 < u) × (u < 65536)) name (all_both (λ u. 0 < u) (λ u. u < 65536) name full small);
      },
    )

-- a list from a place on is a range, and the list from its end on
cut : (bytes : List ℕ) (a b : ℕ) → a ≤ b → drop a bytes ≡ slice_range bytes a b ++ drop b bytes
cut bytes a b order =
    let count : a + (b - a) ≡ b = omega arith in
    sym (take-append-drop (b - a) (drop a bytes)) ∙ ap (λ (t : List ℕ). slice_range bytes a b ++ t) (drop-drop (b - a) a bytes ∙ ap (λ (k : ℕ). drop k bytes) count)

range_long : (bytes : List ℕ) (a b : ℕ) → a ≤ b → b ≤ length bytes → length (slice_range bytes a b) ≡ b - a
range_long bytes a b order within = length-take-le (b - a) (drop a bytes) (omega (arith, length-drop a bytes))

-- the three numbers stand in front of the names
head_found : (bytes : List ℕ) → IsBytes bytes → 12 ≤ length bytes → bytes ≡ text_of (number_at 0 bytes) (number_at 4 bytes) (number_at 8 bytes) (drop 12 bytes)
head_found bytes fits long =
    let first = head_number bytes fits (omega arith) in
    let second = head_number (drop 4 bytes) (IsBytes-drop 4 bytes fits) (omega (arith, length-drop 4 bytes)) in
    let third = head_number (drop 8 bytes) (IsBytes-drop 8 bytes fits) (omega (arith, length-drop 8 bytes)) in
    first ∙ ap (λ (t : List ℕ). le4 (number_at 0 bytes) ++ t)
    (second ∙ ap (λ (t : List ℕ). le4 (number_at 4 bytes) ++ t)
    (drop-drop 4 4 bytes ∙ third ∙ ap (λ (t : List ℕ). le4 (number_at 8 bytes) ++ t) (drop-drop 4 8 bytes)))

-- what is read begins with its spelling
pub read_is_spelled : (bytes : List ℕ) (r : Request) → All (λ b. b < 256) bytes → request_at bytes ≡ Ok r
    → IsRequest r × ((rest : List ℕ) × (bytes ≡ request_text r ++ rest))
read_is_spelled bytes r all e =
    let fits = IsBytes-All bytes all in
    let finds = finds_from bytes r e in
    let n = finds.0 in
    let m = finds.1 in
    let f = finds.2 in
    let long = f.long in
    let source = slice_range bytes 12 (12 + n) in
    let destination = slice_range bytes (12 + n) (12 + n + m) in
    let rest = drop (12 + n + m) bytes in
    let source_long : length source ≡ n = omega (arith, range_long bytes 12 (12 + n) (omega arith) (omega arith)) in
    let destination_long : length destination ≡ m = omega (arith, range_long bytes (12 + n) (12 + n + m) (omega arith) (omega arith)) in
    let s = name_found fields.Source source r.source (IsBytes-take _ _ (IsBytes-drop 12 bytes fits)) (subst IsLength (sym source_long) f.first_length) f.from in
    let d = name_found fields.Destination destination r.destination (IsBytes-take _ _ (IsBytes-drop (12 + n) bytes fits)) (subst IsLength (sym destination_long) f.second_length) f.to in
    let first : number_at 0 bytes ≡ name_len r.source = f.first ∙ sym source_long ∙ ap length s.0 ∙ length_name_text r.source in
    let second : number_at 4 bytes ≡ name_len r.destination = f.second ∙ sym destination_long ∙ ap length d.0 ∙ length_name_text r.destination in
    let body : drop 12 bytes ≡ name_text r.source ++ (name_text r.destination ++ rest) =
    cut bytes 12 (12 + n) (omega arith) ∙ ap (λ (t : List ℕ). source ++ t) (cut bytes (12 + n) (12 + n + m) (omega arith))
    ∙ ap (λ (t : List ℕ). t ++ (destination ++ rest)) s.0 ∙ ap (λ (t : List ℕ). name_text r.source ++ (t ++ rest)) d.0 in
    let whole : bytes ≡ request_text r ++ rest =
    head_found bytes fits (omega arith) ∙ ap (λ (k : ℕ). text_of k (number_at 4 bytes) (number_at 8 bytes) (drop 12 bytes)) first
    ∙ ap (λ (k : ℕ). text_of (name_len r.source) k (number_at 8 bytes) (drop 12 bytes)) second
    ∙ ap (λ (k : ℕ). text_of (name_len r.source) (name_len r.destination) k (drop 12 bytes)) f.flag_bits
    ∙ ap (λ (t : List ℕ). text_of (name_len r.source) (name_len r.destination) r.flags t) body ∙ sym (parts_of r rest) in
    let flags : r.flags < 2 ^ 32 = subst (λ (k : ℕ). k < 2 ^ 32) f.flag_bits (little_from-lt 0 4 (drop 8 bytes) (IsBytes-drop 8 bytes fits)) in
    (record { source = s.1; destination = d.1; flags = flags }, (rest, whole))

-- the units of a lent name are those of a request's name
pub lent_is_name : (bytes : List ℕ) → IsBytes bytes → IsLentName bytes → IsRequestName (units_of bytes)
lent_is_name bytes fits lent =
    let low = lent.low in
    let high = lent.high in
    let twice : 2 * length (units_of bytes) ≡ length bytes = length_units_of bytes lent.even in
    record {
      low = omega arith;
      high = omega arith;
      units = All-from_recursion (λ u. (0 < u) × (u < 65536)) (units_of bytes)
          (all_both (λ u. 0 < u) (λ u. u < 65536) (units_of bytes) (recursion_from_All (λ u. 0 < u) (units_of bytes) lent.units) (units_fit bytes fits));
    }
