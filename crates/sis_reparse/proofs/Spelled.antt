-- What is spelled so is read.
use Rattle.std.proofs.Common.{◌≡◌, ℕ, ◌+◌, Bool, false, List, ◌++◌, length, take, drop, slice_range, take_all, take_at, Ok, refl, sym, ap, ◌∙◌, append_assoc, length-append, arith}
use Rattle.std.proofs.Math.Seq.{drop-append-add}
use Rattle.std.proofs.lemmas.Bool.{le-ltb}
use Rattle.byteorder.specs.Endian.{little_bytes, little_number}
use Rattle.byteorder.specs.Numbers.{little_number-reads_back}
use Rattle.sis_reading.proofs.StepLemmas.{ok_is, bind_again, guard_again}
use Rattle.sis_reading.specs.Steps.{guard}
use Rattle.sis_reparse.specs.declared.point.SisPoint.{SisPoint}
use Rattle.sis_reparse.specs.declared.fault.PointFault.TheVariants as faults
use Rattle.sis_reparse.specs.Point.{IsPoint, point_text, field, whole, head, point_at}

-- the fields that each buffer has
abbrev pub head_text : List ℕ
head_text = little_bytes 4 0x80000007 ++ little_bytes 2 56 ++ little_bytes 2 0 ++ little_bytes 4 1 ++ little_bytes 4 0

pub point_text-is : (p : SisPoint) → point_text p ≡ head_text ++ p.guid ++ little_bytes 8 p.index ++ little_bytes 8 p.file ++ little_bytes 8 p.store ++ p.signature
unfolding point_text
point_text-is p = refl

guarded_again : {A E : Type 0} (fault : E) (wrong : Bool) (x : A) → wrong ≡ false → guard fault wrong x ≡ Ok x
guarded_again fault wrong x right = rw right refl

-- what stands behind the GUID
abbrev pub numbers_text : SisPoint → List ℕ
numbers_text p = little_bytes 8 p.index ++ (little_bytes 8 p.file ++ (little_bytes 8 p.store ++ p.signature))

pub parts_of : (p : SisPoint) → point_text p ≡ head_text ++ (p.guid ++ numbers_text p)
parts_of p = point_text-is p ∙ simp append_assoc

pub point_text_len : (p : SisPoint) → IsPoint p → length (point_text p) ≡ 64
point_text_len p is =
    let guid_len = is.guid_len in
    let signature_len = is.signature_len in
    ap length (parts_of p) ∙ omega (arith, length-append p.guid (numbers_text p))

module _ (p : SisPoint) (is : IsPoint p) where
  abbrev text : List ℕ
  text = head_text ++ (p.guid ++ numbers_text p)

  behind_guid : (k : ℕ) → drop (32 + k) text ≡ drop k (numbers_text p)
  behind_guid k =
      let long : length (head_text ++ p.guid) ≡ 32 = omega (arith, is.guid_len) in
      ap (drop (32 + k)) (sym (append_assoc head_text p.guid (numbers_text p))) ∙ ap (λ (n : ℕ). drop (n + k) (head_text ++ p.guid ++ numbers_text p)) (sym long)
      ∙ drop-append-add (head_text ++ p.guid) (numbers_text p) k

  guid_again : slice_range text 16 32 ≡ p.guid
  guid_again = take_at p.guid (numbers_text p) 16 is.guid_len

  index_again : field 8 32 text ≡ p.index
  index_again = ap (little_number 8) (behind_guid 0) ∙ little_number-reads_back 8 p.index (little_bytes 8 p.file ++ (little_bytes 8 p.store ++ p.signature)) is.index

  file_again : field 8 40 text ≡ p.file
  file_again = ap (little_number 8) (behind_guid 8) ∙ little_number-reads_back 8 p.file (little_bytes 8 p.store ++ p.signature) is.file

  store_again : field 8 48 text ≡ p.store
  store_again = ap (little_number 8) (behind_guid 16) ∙ little_number-reads_back 8 p.store p.signature is.store

  signature_again : slice_range text 56 64 ≡ p.signature
  signature_again = ap (take 8) (behind_guid 24) ∙ take_all 8 p.signature (omega (arith, is.signature_len))

  long : length text ≡ 64
  long = sym (ap length (parts_of p)) ∙ point_text_len p is

  whole_again : whole text ≡ Ok (tt {0})
  whole_again = guard_again (faults.Short (length text)) _ _ _ _ (le-ltb (length text) 64 (omega (arith, long)))
      (guarded_again (faults.Long (length text)) _ (tt {0}) (le-ltb 64 (length text) (omega (arith, long))))

  head_again : head text ≡ Ok (tt {0})
  unfolding head
  head_again = refl

  text_again : point_at text ≡ Ok p
  unfolding point_at
  text_again =
      bind_again (whole text) (tt {0}) _ _ whole_again
      (bind_again (head text) (tt {0}) _ _ head_again
      (rw (guid_again, index_again, file_again, store_again, signature_again) refl))

-- what is spelled so is read
pub spelled_is_read : (p : SisPoint) → IsPoint p → point_at (point_text p) ≡ Ok p
spelled_is_read p is = ap point_at (parts_of p) ∙ text_again p is

-- no two points have one spelling
pub one_spelling : (p q : SisPoint) → IsPoint p → IsPoint q → point_text p ≡ point_text q → p ≡ q
one_spelling p q is_p is_q e = ok_is p q (sym (spelled_is_read p is_p) ∙ ap point_at e ∙ spelled_is_read q is_q)
