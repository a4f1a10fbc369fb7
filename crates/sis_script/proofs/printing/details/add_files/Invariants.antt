use Rattle.std.proofs.Common.{◌≡◌, ◌++◌, flat_map, take, string_bytes}
use Rattle.sis_script.specs.Details.{unsettled_text}
use Rattle.sis_script.proofs.printing.details.add_files.Given as goal

abbrev pub invariant-loop-file : goal.invariant-loop-file
invariant-loop-file l =
    string_bytes l.text
    ≡ string_bytes l.fn.text ++ flat_map unsettled_text (take l.file-index l.files)
