-- When the files of a table go together, and which of them is the first that doesn't.
use Rattle.std.specs.Prelude.{◌≡◌, ◌<◌, ℕ, ◌==◌, ◌||◌, Bool, false, List, [], ◌∷◌, ◌++◌, length, slice_index_or, if◌then◌else◌, Option, None, Some}
use Rattle.std.specs.List.{list_any}
use Rattle.sis_disk.specs.declared.layout.GoodKind.{GoodKind}
use Rattle.sis_disk.specs.declared.layout.GoodKind.TheVariants.{PlaceTwice}
use Rattle.sis_table.specs.Volume.{VolumeTable, place_in, places_of}
use Rattle.sis_table.specs.declared.fault.GoodFault.{GoodFault}
use Rattle.sis_table.specs.declared.fault.GoodFault.TheVariants as faults
use Rattle.sis_table.specs.declared.node.Node.{Node}

-- No place is mapped twice: blocks that lie at one place are one block of one file.
abbrev pub IsGood : VolumeTable → Type 0
IsGood v =
    (i j a b place : ℕ) → place_in v i a ≡ Some place → place_in v j b ≡ Some place
    → (i ≡ j) × (a ≡ b)

-- the place is one of these
abbrev pub is_among : List ℕ → ℕ → Bool
is_among places place = list_any (λ p. p == place) places

-- one of the places, which stand behind some others, is an earlier one again
abbrev pub repeats : List ℕ → List ℕ → Bool
repeats before [] = false
repeats before (p ∷ ps) = is_among before p || repeats (before ++ p ∷ []) ps

-- what is wrong, the file's id, and 0
abbrev pub Defect : Type 0
Defect = GoodKind × ℕ × ℕ

-- The first file, by rising id, that maps a place of an earlier file, or one of its own again.
abbrev pub defect_after : List ℕ → List Node → Option Defect
defect_after before [] = None
defect_after before (n ∷ ns) =
    if repeats before (places_of n) then Some (PlaceTwice, n.id, 0)
    else defect_after (before ++ places_of n) ns

abbrev pub first_defect : VolumeTable → Option Defect
first_defect v = defect_after [] v.nodes

-- a fault names this defect, unless memory ran out
abbrev pub Names : Option Defect → GoodFault → Type 0
Names defect faults.Memory = Unit {0}
Names defect (faults.Bad kind file index) = defect ≡ Some (kind, file, index)

-- the marks stand at these places
abbrev pub Marks : List Bool → List ℕ → Type 0
Marks marks places =
    (place : ℕ) → place < length marks → slice_index_or marks place false ≡ is_among places place
