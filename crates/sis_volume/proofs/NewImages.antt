-- A new image holds the table without files.
use Rattle.std.proofs.Common.{◌≤◌, List, ℕ, length, Option, Some, None, arith}
use Rattle.std.specs.Prelude.{Result, Ok, Err, OnOk, IfSome}
use Rattle.sis_disk.specs.declared.layout.Layout.{Layout}
use Rattle.sis_disk.specs.Layout.{IsLayout, table_cap}
use Rattle.sis_journal.specs.Texts.{HoldsText}
use Rattle.sis_table.specs.Image.{Holds}
use Rattle.sis_table.specs.Spelling.{spelling}
use Rattle.sis_table.specs.Volume.{IsTable, empty_table}
use Rattle.sis_table.proofs.Lengths.{length-spelling}
use Rattle.sis_volume.proofs.Fronts.{text-holds}

empty_is : (l : Layout) → IsLayout l → IsTable (empty_table l)
empty_is l is = record { layout = is; next_low = omega arith; next_high = omega arith; greatest = omega arith; few = omega arith; nodes = tt }

-- its spelling fits each area
pub empty_fits : (l : Layout) → IsLayout l → length (spelling (empty_table l)) ≤ table_cap l
empty_fits l is =
    let low = is.area_low in
    omega (arith, length-spelling (empty_table l))

-- an image that holds its text holds it
some_empty : (l : Layout) (live : Option (List ℕ)) → IsLayout l → IfSome live (HoldsText l (spelling (empty_table l))) → IfSome live (λ m. Holds m (empty_table l))
some_empty l None is h = tt
some_empty l (Some m) is h = text-holds (empty_table l) m (empty_is l is) h

pub format_holds : {T E : Type 0} (result : Result T E) (l : Layout) (live : Option (List ℕ)) → IsLayout l
    → OnOk result (IfSome live (HoldsText l (spelling (empty_table l)))) → OnOk result (IfSome live (λ m. Holds m (empty_table l)))
format_holds (Ok x) l live is h = some_empty l live is h
format_holds (Err e) l live is h = tt
