-- What a replay of a disk's calls keeps.
use Rattle.std.specs.Prelude.{ℕ, ◌+◌, ◌≤◌, Bool, true, false, List, [], ◌∷◌, ◌++◌, length, take, drop, replicate, ⊤}
use Rattle.std.specs.List.{AllByRecursion}
use Rattle.sis_disk.specs.Record.{Call, Reads, Writes, Syncs, DiskRecord, laid}

-- the live bytes, those at the last sync, and of each position whether it is loose
pub record Replayed : Type 0 where
  pub live : List ℕ
  pub synced : List ℕ
  pub loose : List Bool

-- these bits with n of them set, from `at` on
abbrev pub set_bits : ℕ → ℕ → List Bool → List Bool
set_bits at n bits = take at bits ++ replicate n true ++ drop (at + n) bits

-- what is kept after one call more
abbrev pub replayed_by : Call → Replayed → Replayed
replayed_by (Reads at len ok) a = a
replayed_by (Writes at bytes true) a =
    record {
      live = laid a.live at bytes;
      synced = a.synced;
      loose = set_bits at (length bytes) a.loose;
    }
replayed_by (Writes at bytes false) a =
    record { live = a.live; synced = a.synced; loose = set_bits at (length bytes) a.loose }
replayed_by (Syncs true) a =
    record { live = a.live; synced = a.live; loose = replicate (length a.live) false }
replayed_by (Syncs false) a = a

-- the same after some calls more
abbrev pub replayed_after : Replayed → List Call → Replayed
replayed_after a [] = a
replayed_after a (c ∷ cs) = replayed_after (replayed_by c a) cs

-- what is kept before any call
abbrev pub unplayed : List ℕ → Replayed
unplayed opening =
    record { live = opening; synced = opening; loose = replicate (length opening) false }

-- a call that writes lies in a disk of this length
abbrev pub Fits : ℕ → Call → Type 0
Fits size (Reads at len ok) = ⊤
Fits size (Writes at bytes ok) = at + length bytes ≤ size
Fits size (Syncs ok) = ⊤

-- each write of the record lies in the disk
abbrev pub AllFit : DiskRecord → Type 0
AllFit r = AllByRecursion (Fits (length r.opening)) r.calls
