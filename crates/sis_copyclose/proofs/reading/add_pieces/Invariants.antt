use Rattle.std.proofs.Common.{◌≡◌, ◌-◌}
use Rattle.sis_copyclose.proofs.ReadParts.{ReadsOn}
use Rattle.sis_copyclose.proofs.reading.add_pieces.Given as goal

-- so much was read, and the volume is as it was
abbrev pub invariant-loop-next : goal.invariant-loop-next
invariant-loop-next g l = record {
  same : l.volume ≡ record l.fn.volume { seen = l.volume.seen };
  reading : ReadsOn l.fn.volume l.volume l.file l.at l.next l.end l.fn.out.items l.out.items;
}

abbrev pub decreases-loop-next : goal.decreases-loop-next
decreases-loop-next g l = l.end - l.next
