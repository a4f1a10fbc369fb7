-- Which calls of a thing in memory fail, and how its faults are counted.
use Rattle.std.specs.Prelude.{ℕ, ◌+◌, ◌-◌, ◌^◌, ◌==◌, nat_lt, Bool, if◌then◌else◌, List}
use Rattle.std.specs.List.{list_any}

-- the call of this number is one to fail
abbrev pub is_to_fail : List ℕ → ℕ → Bool
is_to_fail fails number = list_any (λ n. n == number) fails

-- a count with one more, which stands still at the end of its type
abbrev pub raised : ℕ → ℕ
raised n = if nat_lt n (2 ^ 64 - 1) then n + 1 else n
