-- A copy request in units of UTF-16: how it is spelled, and how any bytes are read.
use Rattle.std.specs.Prelude.{ℕ, ◌+◌, ◌-◌, ◌*◌, ◌%◌, ◌^◌, ◌<◌, ◌≤◌, ◌≡◌, ◌==◌, ◌||◌, not, Bool, List, [], ◌∷◌, ◌++◌, length, take, drop, slice_index, slice_range, flat_map, position, All, nat_lt, Option, Some, None, Result, Ok, Err}
use Rattle.byteorder.specs.Endian.{little_bytes, little_number}
use Rattle.sis_reading.specs.Steps.{◌>>=◌, guard}
use Rattle.sis_request.specs.declared.fault.Field.{Field}
use Rattle.sis_request.specs.declared.fault.Field.TheVariants as fields
use Rattle.sis_request.specs.declared.fault.RequestFault.{RequestFault}
use Rattle.sis_request.specs.declared.fault.RequestFault.TheVariants as faults

-- the names in units, without the null at their end, and the flags
pub record Request : Type 0 where
  pub source : List ℕ
  pub destination : List ℕ
  pub flags : ℕ

-- ---- which values are requests, and their spelling

-- the units of a name: some, at most 32,766, and none null
pub record IsRequestName (name : List ℕ) : Type 0 where
  pub low : 1 ≤ length name
  pub high : length name ≤ 32766
  pub units : All (λ u. (0 < u) × (u < 2 ^ 16)) name

-- both names are such, and the flags have 32 bits
pub record IsRequest (r : Request) : Type 0 where
  pub source : IsRequestName r.source
  pub destination : IsRequestName r.destination
  pub flags : r.flags < 2 ^ 32

-- numbers of two and four bytes, the lowest first
unfoldable pub le2 : ℕ → List ℕ
le2 n = little_bytes 2 n

unfoldable pub le4 : ℕ → List ℕ
le4 n = little_bytes 4 n

-- how many bytes a name takes, with its null
abbrev pub name_len : List ℕ → ℕ
name_len name = 2 * length name + 2

-- the units of a name, and the null
abbrev pub name_text : List ℕ → List ℕ
name_text name = flat_map le2 name ++ le2 0

-- the lengths of both names, the flags, and the names
unfoldable pub request_text : Request → List ℕ
request_text r =
    le4 (name_len r.source) ++ le4 (name_len r.destination) ++ le4 r.flags
    ++ name_text r.source ++ name_text r.destination

-- the units of bytes, the lower byte of each first
abbrev pub units_of : List ℕ → List ℕ
units_of [] = []
units_of (b ∷ []) = []
units_of (b ∷ c ∷ bytes) = (b + 256 * c) ∷ units_of bytes

-- the request with names of these bytes, which are without the null
abbrev pub request_of : List ℕ → List ℕ → ℕ → Request
request_of source destination flags =
    record { source = units_of source; destination = units_of destination; flags = flags }

-- the bytes of a name without the null: whole units, at most 32,766, and none null
pub record IsLentName (bytes : List ℕ) : Type 0 where
  pub even : length bytes % 2 ≡ 0
  pub low : 2 ≤ length bytes
  pub high : length bytes ≤ 65532
  pub units : All (λ u. 0 < u) (units_of bytes)

-- ---- reading

-- the number of four bytes at this offset
abbrev pub number_at : ℕ → List ℕ → ℕ
number_at at bytes = little_number 4 (drop at bytes)

-- a length in bytes that a name may have
unfoldable pub length_of : Field → ℕ → Result ℕ RequestFault
length_of field n = do
  a ← guard (faults.OddLength field) (n % 2 == 1) (tt {0})
  b ← guard (faults.LengthRange field n) (nat_lt n 4 || nat_lt 65534 n) (tt {0})
  Ok n

-- there are so many bytes
abbrev pub enough : ℕ → List ℕ → Result (Unit {0}) RequestFault
enough need bytes =
    guard (faults.Short (length bytes) need) (nat_lt (length bytes) need) (tt {0})

-- the unit is null
abbrev pub is_null : ℕ → Bool
is_null unit = unit == 0

-- all units but the last
abbrev pub but_last : List ℕ → List ℕ
but_last units = take (length units - 1) units

-- no unit is null, or the first one that is
abbrev pub no_early : Field → Option ℕ → Result (Unit {0}) RequestFault
no_early field None = Ok (tt {0})
no_early field (Some at) = Err (faults.EarlyNull field at)

-- the name of these units, of which the last is to be null, and no other
unfoldable pub name_of : Field → List ℕ → Result (List ℕ) RequestFault
name_of field units = do
  a ← guard (faults.NoNull field)
      (not (is_null (slice_index units (length units - 1)))) (tt {0})
  b ← no_early field (position is_null (but_last units))
  Ok (but_last units)

-- What some bytes say as a request, or the first fault. Bytes behind the second name are left
-- unread.
unfoldable pub request_at : List ℕ → Result Request RequestFault
request_at bytes = do
  a ← enough 12 bytes
  n ← length_of fields.Source (number_at 0 bytes)
  m ← length_of fields.Destination (number_at 4 bytes)
  b ← enough (12 + n + m) bytes
  source ← name_of fields.Source (units_of (slice_range bytes 12 (12 + n)))
  destination ← name_of fields.Destination
      (units_of (slice_range bytes (12 + n) (12 + n + m)))
  Ok (record { source = source; destination = destination; flags = number_at 8 bytes })
