use Rattle.std.proofs.Common.{◌≡◌, ◌≤◌, ◌++◌, drop}
use Rattle.sis_disk.specs.Picks.{picked_from}
use Rattle.sis_disk.proofs.pick.picked.Given as goal

abbrev pub invariant-loop-i : goal.invariant-loop-i
invariant-loop-i l =
    (l.image.items
    ++ picked_from l.pick l.before (drop l.i l.loose) (drop l.i l.old) (drop l.i l.live)
    ≡ picked_from l.pick 0 l.loose l.old l.live)
    × (l.before ≤ l.i)
