use Rattle.std.proofs.Common.{◌≡◌, length, take}
use Rattle.sis_core.proofs.LineLemmas.{AreCounted}
use Rattle.sis_core.proofs.running.lines_by_client.Given as goal

abbrev pub invariant-loop-line : goal.invariant-loop-line
invariant-loop-line l = record {
  counted : AreCounted l.counts (take l.line-index l.lines);
  size : length l.counts ≡ 17;
}
