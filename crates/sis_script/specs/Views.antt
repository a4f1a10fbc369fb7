-- Scripts and lines without where they lie in memory.
use Rattle.sis_script.specs.Script.{Parts, no_parts, only_line, only_turns}
use Rattle.sis_script.specs.declared.commands.Item.{Item}
use Rattle.sis_script.specs.declared.commands.Item.TheVariants as item
use Rattle.sis_script.specs.declared.reading.Script.{Script}

-- what a script has
abbrev pub parts_of : Script → Parts
parts_of s = record { lines = s.lines.items; schedule = s.schedule.items }

-- what a line adds to a script
abbrev pub parts_in : Item → Parts
parts_in item.Nothing = no_parts
parts_in (item.Runs line) = only_line line
parts_in (item.Turns clients) = only_turns clients.items
