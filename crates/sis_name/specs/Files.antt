-- Files under their names.
use Rattle.std.specs.Prelude.{ℕ, nat_eq, Bool, List}
use Rattle.std.specs.Cmp.Lexicographic.{pointwise}
use Rattle.std.specs.FinMap.{FinMap}
use Rattle.sis_name.specs.Units.{name_cmp}

-- the bytes of files under their names
abbrev pub Files : Type 0
Files = FinMap name_cmp (List ℕ)

-- two names have the same units
abbrev pub same_name : List ℕ → List ℕ → Bool
same_name a b = pointwise nat_eq a b
