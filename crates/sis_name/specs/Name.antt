-- Which units are a name, and what is the first thing wrong where they aren't.
use Rattle.std.specs.Prelude.{◌≡◌, ℕ, ◌==◌, ◌⊎◌, if◌then◌else◌, List, length, nat_lt, position, Option, None, Some}
use Rattle.sis_name.specs.Units.{is_barred, unpaired_from}
use Rattle.sis_name.specs.declared.fault.NameFault.{NameFault}
use Rattle.sis_name.specs.declared.fault.NameFault.TheVariants.{Empty, TooLong, Barred, Surrogate, Memory}

-- the fault of the first unpaired surrogate, if there is one
abbrev pub surrogate_fault : Option ℕ → Option NameFault
surrogate_fault None = None
surrogate_fault (Some at) = Some (Surrogate at)

-- the fault of the first barred unit, or else that of the first unpaired surrogate
abbrev pub unit_fault : Option ℕ → Option ℕ → Option NameFault
unit_fault None unpaired = surrogate_fault unpaired
unit_fault (Some at) unpaired = Some (Barred at)

-- the first fault of some units as a name, or none
abbrev pub name_fault : List ℕ → Option NameFault
name_fault units =
    if length units == 0 then Some Empty
    else if nat_lt 255 (length units) then Some (TooLong (length units))
    else unit_fault (position is_barred units) (unpaired_from 0 units)

-- these units are a name
abbrev pub IsName : List ℕ → Type 0
IsName units = name_fault units ≡ None

-- why these units may be refused as a name: their first fault, or memory
abbrev pub RefusesName : List ℕ → NameFault → Type 0
RefusesName units fault = (name_fault units ≡ Some fault) ⊎ (fault ≡ Memory)
