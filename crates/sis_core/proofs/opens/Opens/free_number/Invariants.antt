use Rattle.std.proofs.Common.{◌≡◌, ◌-◌, not}
use Rattle.std.specs.Prelude.{find}
use Rattle.std.specs.List.{list_any, range_with_len}
use Rattle.sis_core.specs.Opens.{is_as}
use Rattle.sis_core.proofs.opens.Opens.free_number.Given as goal

-- the least free number is none of those that were tried
abbrev pub invariant-loop-number : goal.invariant-loop-number
invariant-loop-number l =
    find (λ n. not (list_any (is_as l.client n) l.self)) (range_with_len l.number (65 - l.number))
    ≡ find (λ n. not (list_any (is_as l.client n) l.self)) (range_with_len 1 64)
