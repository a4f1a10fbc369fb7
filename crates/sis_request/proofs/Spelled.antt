-- What is spelled so is read.
use Rattle.std.proofs.Common.{◌≡◌, ℕ, ◌+◌, ◌-◌, ◌^◌, ◌<◌, ◌≤◌, List, [], ◌++◌, length, take, drop, slice_range, Ok, refl, sym, ap, ◌∙◌, append_assoc, length-append, arith}
use Rattle.std.proofs.Math.Seq.{take-append_seam, drop-append_seam, drop-append-add}
use Rattle.std.proofs.lemmas.Bool.{le-ltb}
use Rattle.std.proofs.lemmas.List.{append-nil, append_cancel_left}
use Rattle.std.proofs.lemmas.List.Elements.{recursion_from_All}
use Rattle.byteorder.specs.Numbers.{little_number-reads_back}
use Rattle.sis_request.specs.declared.fault.Field.{Field}
use Rattle.sis_request.specs.declared.fault.Field.TheVariants as fields
use Rattle.sis_request.specs.declared.fault.RequestFault.TheVariants as faults
use Rattle.sis_request.specs.Request.{Request, IsRequest, IsRequestName, le4, name_len, name_text, request_text, units_of, number_at, length_of, name_of, request_at}
use Rattle.sis_request.proofs.NameUnits.{length_name_text, units_of-name_text, all_first, all_second, no_null_in}
use Rattle.sis_request.proofs.NameFields.{name_again}
use Rattle.sis_request.proofs.Lengths.{IsLength, length_again}
use Rattle.sis_reading.proofs.StepLemmas.{ok_is, bind_again, guard_again}

-- what reading finds in the bytes of a request
pub record Finds (bytes : List ℕ) (n m : ℕ) (r : Request) : Type 0 where
  pub first : number_at 0 bytes ≡ n
  pub second : number_at 4 bytes ≡ m
  pub flag_bits : number_at 8 bytes ≡ r.flags
  pub first_length : IsLength n
  pub second_length : IsLength m
  pub long : 12 + n + m ≤ length bytes
  pub from : name_of fields.Source (units_of (slice_range bytes 12 (12 + n))) ≡ Ok r.source
  pub to : name_of fields.Destination (units_of (slice_range bytes (12 + n) (12 + n + m))) ≡ Ok r.destination

pub finds_again : (bytes : List ℕ) (n m : ℕ) (r : Request) → Finds bytes n m r → request_at bytes ≡ Ok r
unfolding request_at
finds_again bytes n m r f =
    let long = f.long in
    guard_again (faults.Short (length bytes) 12) _ _ _ _ (le-ltb (length bytes) 12 (omega arith))
    (bind_again (length_of fields.Source (number_at 0 bytes)) n _ _ (ap (length_of fields.Source) f.first ∙ length_again fields.Source n f.first_length)
    (bind_again (length_of fields.Destination (number_at 4 bytes)) m _ _ (ap (length_of fields.Destination) f.second ∙ length_again fields.Destination m f.second_length)
    (guard_again (faults.Short (length bytes) (12 + n + m)) _ _ _ _ (le-ltb (length bytes) (12 + n + m) long)
    (bind_again (name_of fields.Source (units_of (slice_range bytes 12 (12 + n)))) r.source _ _ f.from
    (bind_again (name_of fields.Destination (units_of (slice_range bytes (12 + n) (12 + n + m)))) r.destination _ _ f.to
    (ap (λ (flags : ℕ). Ok (record { source = r.source; destination = r.destination; flags = flags })) f.flag_bits))))))

-- a request's text, part by part
pub parts_of : (r : Request) (rest : List ℕ) → request_text r ++ rest
    ≡ le4 (name_len r.source) ++ (le4 (name_len r.destination) ++ (le4 r.flags ++ (name_text r.source ++ (name_text r.destination ++ rest))))
unfolding request_text
parts_of r rest = simp append_assoc

abbrev pub text_of : ℕ → ℕ → ℕ → List ℕ → List ℕ
text_of n m flags behind = le4 n ++ (le4 m ++ (le4 flags ++ behind))

-- the numbers in front of the names
first_again : (n m flags : ℕ) (behind : List ℕ) → n < 256 ^ 4 → number_at 0 (text_of n m flags behind) ≡ n
unfolding le4
first_again n m flags behind fits = little_number-reads_back 4 n (le4 m ++ (le4 flags ++ behind)) fits

second_again : (n m flags : ℕ) (behind : List ℕ) → m < 256 ^ 4 → number_at 4 (text_of n m flags behind) ≡ m
unfolding le4
second_again n m flags behind fits = little_number-reads_back 4 m (le4 flags ++ behind) fits

flags_again : (n m flags : ℕ) (behind : List ℕ) → flags < 256 ^ 4 → number_at 8 (text_of n m flags behind) ≡ flags
unfolding le4
flags_again n m flags behind fits = little_number-reads_back 4 flags behind fits

head_long : (n m flags : ℕ) (behind : List ℕ) → length (text_of n m flags behind) ≡ 12 + length behind
unfolding le4
head_long n m flags behind = omega arith

behind_head : (n m flags k : ℕ) (behind : List ℕ) → drop (12 + k) (text_of n m flags behind) ≡ drop k behind
unfolding le4
behind_head n m flags k behind = drop-append-add (le4 n ++ (le4 m ++ le4 flags)) behind k

-- the range of a list in the middle
middle : (n m flags k l : ℕ) (front text rest : List ℕ) → k ≡ length front → l ≡ length text
    → slice_range (text_of n m flags (front ++ (text ++ rest))) (12 + k) (12 + k + l) ≡ text
middle n m flags k l front text rest is_k is_l =
    let count : 12 + k + l - (12 + k) ≡ length text = omega arith in
    ap (λ (c : ℕ). take c (drop (12 + k) (text_of n m flags (front ++ (text ++ rest))))) count
    ∙ ap (take (length text)) (behind_head n m flags k (front ++ (text ++ rest)) ∙ ap (λ (j : ℕ). drop j (front ++ (text ++ rest))) is_k ∙ drop-append_seam front (text ++ rest))
    ∙ take-append_seam text rest

-- a name is read from its text
name_spelled : (field : Field) (name range : List ℕ) → IsRequestName name → range ≡ name_text name → name_of field (units_of range) ≡ Ok name
name_spelled field name range is e =
    let each = recursion_from_All (λ u. (0 < u) × (u < 65536)) name is.units in
    let small = all_second (λ u. 0 < u) (λ u. u < 65536) name each in
    let full = all_first (λ u. 0 < u) (λ u. u < 65536) name each in
    ap (λ (text : List ℕ). name_of field (units_of text)) e ∙ ap (name_of field) (units_of-name_text name small) ∙ name_again field name (no_null_in name full)

is_length : (name : List ℕ) → IsRequestName name → IsLength (name_len name)
is_length name is =
    let low = is.low in
    let high = is.high in
    record { even = omega arith; low = omega arith; high = omega arith }

-- what is spelled so is read, whatever is behind it
pub spelled_is_read : (r : Request) (rest : List ℕ) → IsRequest r → request_at (request_text r ++ rest) ≡ Ok r
spelled_is_read r rest is =
    let n = name_len r.source in
    let m = name_len r.destination in
    let source = name_text r.source in
    let destination = name_text r.destination in
    let behind = source ++ (destination ++ rest) in
    let n_high = is.source.high in
    let m_high = is.destination.high in
    let flags_high = is.flags in
    let source_long : n ≡ length source = sym (length_name_text r.source) in
    let destination_long : m ≡ length destination = sym (length_name_text r.destination) in
    let from : slice_range (text_of n m r.flags behind) 12 (12 + n) ≡ source = middle n m r.flags 0 n [] source (destination ++ rest) refl source_long in
    let to : slice_range (text_of n m r.flags behind) (12 + n) (12 + n + m) ≡ destination = middle n m r.flags n m source destination rest source_long destination_long in
    let found : Finds (text_of n m r.flags behind) n m r = record {
      first = first_again n m r.flags behind (omega arith);
      second = second_again n m r.flags behind (omega arith);
      flag_bits = flags_again n m r.flags behind flags_high;
      first_length = is_length r.source is.source;
      second_length = is_length r.destination is.destination;
      long = omega (arith, head_long n m r.flags behind, source_long, destination_long, length-append source (destination ++ rest), length-append destination rest);
      from = name_spelled fields.Source r.source _ is.source from;
      to = name_spelled fields.Destination r.destination _ is.destination to;
    } in
    ap request_at (parts_of r rest) ∙ finds_again (text_of n m r.flags behind) n m r found

-- no spelling goes on as another
pub no_prefix : (r s : Request) (rest : List ℕ) → IsRequest r → IsRequest s → request_text s ≡ request_text r ++ rest → (r ≡ s) × (rest ≡ [])
no_prefix r s rest is_r is_s e =
    let whole : request_at (request_text s) ≡ Ok s = ap request_at (sym (append-nil (request_text s))) ∙ spelled_is_read s [] is_s in
    let same : r ≡ s = ok_is r s (sym (spelled_is_read r rest is_r) ∙ ap request_at (sym e) ∙ whole) in
    (same, append_cancel_left (request_text r) rest [] (sym e ∙ ap request_text (sym same) ∙ sym (append-nil (request_text r))))
