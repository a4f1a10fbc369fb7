-- How a disk in memory keeps its calls: one note each, and the bytes of all writes in one row.
use Rattle.std.specs.Prelude.{◌≡◌, ℕ, ◌+◌, Bool, List, [], ◌∷◌, length, take, drop, refl}
use Rattle.std.proofs.Common.{arith}
use Rattle.sis_disk.specs.Record.{Call, Reads, Writes, Syncs, DiskRecord}
use Rattle.sis_disk.specs.declared.log.Kind.{Kind}
use Rattle.sis_disk.specs.declared.log.Kind.TheVariants.{Read, Write, Sync}
use Rattle.sis_disk.specs.declared.log.Noted.{Noted}

-- how many bytes of the row are a call's
abbrev pub taken_by : Kind → ℕ → ℕ
taken_by Read len = 0
taken_by Write len = len
taken_by Sync len = 0

-- the call of a note, given the bytes of a write
abbrev pub call_by : Kind → ℕ → ℕ → Bool → List ℕ → Call
call_by Read at len ok bytes = Reads at len ok
call_by Write at len ok bytes = Writes at bytes ok
call_by Sync at len ok bytes = Syncs ok

-- the same for a note
abbrev pub taken : Noted → ℕ
taken n = taken_by n.kind n.len

-- the same call for a whole note
abbrev pub call_of : Noted → List ℕ → Call
call_of n bytes = call_by n.kind n.at n.len n.ok bytes

-- how many bytes of the row are those of all notes
abbrev pub all_taken : List Noted → ℕ
all_taken [] = 0
all_taken (n ∷ ns) = taken n + all_taken ns

-- the calls of all notes, each with its bytes from the row
abbrev pub calls_of : List Noted → List ℕ → List Call
calls_of [] row = []
calls_of (n ∷ ns) row = call_of n (take (taken n) row) ∷ calls_of ns (drop (taken n) row)

-- the record of a disk that keeps these
abbrev pub record_of : List ℕ → List Noted → List ℕ → DiskRecord
record_of opening notes row = record { opening = opening; calls = calls_of notes row }

-- there are as many calls as notes
pub length-calls_of : (notes : List Noted) (row : List ℕ)
    → length (calls_of notes row) ≡ length notes
length-calls_of [] row = refl
length-calls_of (n ∷ ns) row = let e = length-calls_of ns (drop (taken n) row) in omega arith
