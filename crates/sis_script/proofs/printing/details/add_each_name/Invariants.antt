use Rattle.std.proofs.Common.{◌≡◌, ◌++◌, flat_map, take, string_bytes}
use Rattle.sis_script.specs.Details.{quoted}
use Rattle.sis_script.proofs.printing.details.add_each_name.Given as goal

abbrev pub invariant-loop-name : goal.invariant-loop-name
invariant-loop-name l =
    string_bytes l.text ≡ string_bytes l.fn.text ++ flat_map quoted (take l.name-index l.names)
