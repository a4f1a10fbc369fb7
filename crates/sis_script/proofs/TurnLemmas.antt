-- The clients of a schedule's line, read one by one.
use Rattle.std.proofs.Common.{ℕ, List, ◌++◌, Result, Ok, Err}
use Rattle.sis_script.specs.declared.faults.LineKind.{LineKind}

-- the clients read so far, and those behind them
abbrev pub behind : List ℕ → Result (List ℕ) LineKind → Result (List ℕ) LineKind
behind front (Ok clients) = Ok (front ++ clients)
behind front (Err e) = Err e
