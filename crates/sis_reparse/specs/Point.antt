-- The reparse buffer of a SIS link: how it is spelled, and how any bytes are read.
use Rattle.std.specs.Prelude.{ℕ, ◌^◌, ◌<◌, ◌≡◌, ◌==◌, not, List, ◌++◌, length, drop, slice_range, All, nat_lt, Result, Ok}
use Rattle.byteorder.specs.Endian.{little_bytes, little_number}
use Rattle.sis_reading.specs.Steps.{◌>>=◌, guard}
use Rattle.sis_reparse.specs.declared.point.SisPoint.{SisPoint}
use Rattle.sis_reparse.specs.declared.fault.PointFault.{PointFault}
use Rattle.sis_reparse.specs.declared.fault.PointFault.TheVariants as faults

-- the GUID has 16 bytes and the signature 8, and the numbers have 64 bits
pub record IsPoint (p : SisPoint) : Type 0 where
  pub guid_len : length p.guid ≡ 16
  pub guid : All (λ b. b < 256) p.guid
  pub index : p.index < 2 ^ 64
  pub file : p.file < 2 ^ 64
  pub store : p.store < 2 ^ 64
  pub signature_len : length p.signature ≡ 8
  pub signature : All (λ b. b < 256) p.signature

-- tag, data length, zero, version, zero; then the fields
unfoldable pub point_text : SisPoint → List ℕ
point_text p =
    little_bytes 4 0x80000007 ++ little_bytes 2 56 ++ little_bytes 2 0 ++ little_bytes 4 1
    ++ little_bytes 4 0 ++ p.guid ++ little_bytes 8 p.index ++ little_bytes 8 p.file
    ++ little_bytes 8 p.store ++ p.signature

-- the number of n bytes at this offset
abbrev pub field : ℕ → ℕ → List ℕ → ℕ
field n at bytes = little_number n (drop at bytes)

-- there are exactly 64 bytes
abbrev pub whole : List ℕ → Result (Unit {0}) PointFault
whole bytes = do
  a ← guard (faults.Short (length bytes)) (nat_lt (length bytes) 64) (tt {0})
  guard (faults.Long (length bytes)) (nat_lt 64 (length bytes)) (tt {0})

-- the fields before the GUID have the values that they have in every buffer
unfoldable pub head : List ℕ → Result (Unit {0}) PointFault
head bytes = do
  a ← guard (faults.Tag (field 4 0 bytes)) (not (field 4 0 bytes == 0x80000007)) (tt {0})
  b ← guard (faults.Length (field 2 4 bytes)) (not (field 2 4 bytes == 56)) (tt {0})
  c ← guard (faults.Reserved 6) (not (field 2 6 bytes == 0)) (tt {0})
  d ← guard (faults.Version (field 4 8 bytes)) (not (field 4 8 bytes == 1)) (tt {0})
  guard (faults.Reserved 12) (not (field 4 12 bytes == 0)) (tt {0})

-- what some bytes say as a reparse buffer, or the first fault
unfoldable pub point_at : List ℕ → Result SisPoint PointFault
point_at bytes = do
  a ← whole bytes
  b ← head bytes
  Ok (record {
    guid = slice_range bytes 16 32;
    index = field 8 32 bytes;
    file = field 8 40 bytes;
    store = field 8 48 bytes;
    signature = slice_range bytes 56 64;
  })
