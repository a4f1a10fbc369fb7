-- Which of the images that a stop may leave is picked.
use Rattle.std.specs.Prelude.{ℕ, ◌+◌, nat_lt, Bool, true, false, if◌then◌else◌, List, [], ◌∷◌, length, map, take}
use Rattle.std.specs.List.{range_with_len}
use Rattle.sis_disk.specs.Record.{Call, Reads, Writes, Syncs, DiskRecord, State, after, is_loose}
use Rattle.sis_disk.specs.declared.pick.Pick.{Pick}
use Rattle.sis_disk.specs.declared.pick.Pick.TheVariants.{Old, New, Fill, Front}

-- the bytes at the last sync that succeeded, given those before the call
abbrev pub synced_by : Call → State → List ℕ → List ℕ
synced_by (Reads at len ok) s old = old
synced_by (Writes at bytes ok) s old = old
synced_by (Syncs true) s old = s.live
synced_by (Syncs false) s old = old

-- the same after some calls
abbrev pub synced_after : List ℕ → State → List Call → List ℕ
synced_after old s [] = old
synced_after old s (c ∷ cs) = synced_after (synced_by c s old) (after s c) cs

-- the same after the first k calls, and the opening bytes where no sync succeeded
abbrev pub synced_at : DiskRecord → ℕ → List ℕ
synced_at r k = synced_after r.opening (record { live = r.opening; loose = [] }) (take k r.calls)

-- whether each position is loose
abbrev pub loose_bits : State → List Bool
loose_bits s = map (is_loose s.loose) (range_with_len 0 (length s.live))

-- The byte at a loose position, before which so many others are loose. The two bytes are the one at
-- the last sync and the live one.
abbrev pub loose_byte : Pick → ℕ → ℕ → ℕ → ℕ
loose_byte Old before old live = old
loose_byte New before old live = live
loose_byte (Fill byte) before old live = byte
loose_byte (Front count) before old live = if nat_lt before count then live else old

-- the live bytes, but what is picked at loose positions, with so many others before the first byte
abbrev pub picked_from : Pick → ℕ → List Bool → List ℕ → List ℕ → List ℕ
picked_from pick before [] old live = []
picked_from pick before (l ∷ loose) [] live = []
picked_from pick before (l ∷ loose) (o ∷ old) [] = []
picked_from pick before (l ∷ loose) (o ∷ old) (x ∷ live) =
    (if l then loose_byte pick before o x else x)
    ∷ picked_from pick (if l then before + 1 else before) loose old live

-- the image in this state, given the bytes at the last sync
abbrev pub picked : Pick → State → List ℕ → List ℕ
picked pick s old = picked_from pick 0 (loose_bits s) old s.live
