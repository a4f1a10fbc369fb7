use Rattle.std.proofs.Common.{sym, ◌∙◌}
use Rattle.sis_copyclose.proofs.ReadParts.{stops_parts}
use Rattle.sis_copyclose.proofs.reading.read.Goals as goal

pub returns-then-is_err-clause-stops : goal.returns-then-is_err-clause-stops
returns-then-is_err-clause-stops g c =
    stops_parts c.args.volume.now c.add_pieces-added.new.volume c.args.file c.args.range.at
    c.end_in-end.result (sym c.down.ensures.down ∙ c.in_default.is) c.add_pieces-added.ensures.reads

pub returns-else-is_err-clause-stops : goal.returns-else-is_err-clause-stops
returns-else-is_err-clause-stops g c =
    stops_parts c.args.volume.now c.add_pieces-added.new.volume c.args.file c.args.range.at
    c.end_in-end.result (sym c.down.ensures.down ∙ c.in_default.is) c.add_pieces-added.ensures.reads
