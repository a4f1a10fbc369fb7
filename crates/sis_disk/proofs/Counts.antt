-- Counts that stand still at the end of their type.
use Rattle.std.proofs.Common.{◌≡◌, ℕ, ◌+◌, ◌-◌, ◌^◌, ◌<◌, ◌≤◌, min, arith}
use Rattle.std.proofs.lemmas.Bool.Decides.{nat_tests}
use Rattle.sis_disk.specs.Record.{Rose}
use Rattle.sis_disk.specs.Failing.{raised}

-- what `saturating_add` gives
pub raised_is : (n : ℕ) → n < 2 ^ 64 → min (n + 1) (2 ^ 64 - 1) ≡ raised n
raised_is n fits = grind (arith, nat_tests)

pub raised_later : (n : ℕ) → n ≤ raised n
raised_later n = grind (arith, nat_tests)

pub raised_rose : (n : ℕ) → Rose n (raised n)
raised_rose n = grind (arith, nat_tests)

pub raised_once : (n : ℕ) → raised n ≤ n + 1
raised_once n = grind (arith, nat_tests)
