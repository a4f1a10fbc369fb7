-- Which fault of a reading an error of a line names.
use Rattle.std.specs.Prelude.{Option, Some, None}
use Rattle.sis_script.specs.declared.faults.LineFault.{LineFault}
use Rattle.sis_script.specs.declared.faults.LineFault.TheVariants as faults
use Rattle.sis_script.specs.declared.faults.LineKind.{LineKind}

-- what is wrong with the line; nothing where memory ran out
abbrev pub named : LineFault → Option LineKind
named faults.Memory = None
named (faults.Wrong kind) = Some kind
