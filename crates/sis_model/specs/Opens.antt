-- Which opens a world may have.
use Rattle.std.specs.Prelude.{◌≡◌, ◌≤◌, false, true, List, [], ◌∷◌, is_some, ⊤}
use Rattle.std.specs.List.{AllByRecursion, list_any}
use Rattle.sis_model.specs.World.{World, OpenFile, bytes_of, is_open_as, most_opens}

-- the number is one of a client's opens, and the file is there
pub record IsOpenIn (w : World) (o : OpenFile) : Type 0 where
  pub low : 1 ≤ o.number
  pub high : o.number ≤ most_opens
  pub there : is_some (bytes_of w o.name) ≡ true

-- no client has two of the opens under one number
abbrev pub DifferInNumber : List OpenFile → Type 0
DifferInNumber [] = ⊤
DifferInNumber (o ∷ os) =
    (list_any (is_open_as o.client o.number) os ≡ false) × DifferInNumber os

-- The opens of a client have numbers from 1 to 64 that differ, and their files are there.
pub record IsWorld (w : World) : Type 0 where
  pub opens : AllByRecursion (IsOpenIn w) w.opens
  pub numbers : DifferInNumber w.opens
