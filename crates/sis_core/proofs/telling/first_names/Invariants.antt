use Rattle.std.proofs.Common.{◌-◌, length}
use Rattle.std.specs.Option.{option_copied}
use Rattle.sis_table.specs.Volume.{names_after}
use Rattle.sis_core.proofs.Told.{Listing}
use Rattle.sis_core.proofs.telling.first_names.Given as goal

-- of all names the first were taken, and the next file is known
abbrev pub invariant-loop-next : goal.invariant-loop-next
invariant-loop-next g l =
    Listing l.fn.volume.table (names_after l.fn.volume.table (option_copied l.fn.after)) l.names
    l.next

abbrev pub decreases-loop-next : goal.decreases-loop-next
decreases-loop-next g l = 100 - length l.names
