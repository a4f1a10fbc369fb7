-- Which calls of a disk end a session, and which hinder one command alone.
use Rattle.std.specs.Prelude.{◌≡◌, ◌⊎◌, ℕ, ◌+◌, ◌≤◌, ◌&&◌, not, nat_lt, Bool, true, false, List, [], ◌∷◌, ◌++◌}
use Rattle.std.specs.List.{AllByRecursion}
use Rattle.sis_disk.specs.Record.{Call, Reads, Writes, Syncs, Seen, Rose}
use Rattle.sis_disk.specs.Stops.{GoesOnBy}

-- the call failed, and is one of a commit: a sync, or a write before the data blocks, which begin
-- at the byte `first`
abbrev pub fails_commit : ℕ → Call → Bool
fails_commit first (Reads at len ok) = false
fails_commit first (Writes at bytes ok) = not ok && nat_lt at first
fails_commit first (Syncs ok) = not ok

-- none of the calls does
abbrev pub NoneFails : ℕ → List Call → Type 0
NoneFails first calls = AllByRecursion (λ c. fails_commit first c ≡ false) calls

-- the call went well, and is one of a commit
abbrev pub serves_commit : ℕ → Call → Bool
serves_commit first (Reads at len ok) = false
serves_commit first (Writes at bytes ok) = ok && nat_lt at first
serves_commit first (Syncs ok) = ok

-- each of the calls does
abbrev pub AllServe : ℕ → List Call → Type 0
AllServe first calls = AllByRecursion (λ c. serves_commit first c ≡ true) calls

-- the last of the calls fails a commit, and each call before it serves one
abbrev pub LastFails : ℕ → List Call → Type 0
LastFails first calls =
    (front : List Call) × (last : Call) × (calls ≡ front ++ last ∷ []) × AllServe first front
    × (fails_commit first last ≡ true)

-- No call from old to new failed a commit, where the disk tells its calls. A call that failed is a
-- read, or a write of data blocks.
pub record StaysUp (first : ℕ) (old new : Seen) : Type 0 where
  pub told : GoesOnBy (NoneFails first) old.told new.told

-- Each call from old to new went well and is one of a commit, where the disk tells its calls.
pub record GoesWell (first : ℕ) (old new : Seen) : Type 0 where
  pub told : GoesOnBy (AllServe first) old.told new.told

-- A commit failed, and one call alone: call `at`, the last of all; or a call that the disk refused
-- when so many calls had been made. Each other call went well and is one of a commit.
pub record GoesDown (first at : ℕ) (old new : Seen) : Type 0 where
  pub rose : Rose old.faults new.faults
  pub once : new.faults ≤ old.faults + 1
  pub low : old.calls ≤ at
  pub told : ((new.calls ≡ at + 1) × GoesOnBy (LastFails first) old.told new.told)
      ⊎ ((new.calls ≡ at) × GoesOnBy (AllServe first) old.told new.told)
