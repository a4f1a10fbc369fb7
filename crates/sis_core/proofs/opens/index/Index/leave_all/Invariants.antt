use Rattle.std.proofs.Common.{◌++◌, drop, filter, not, take}
use Rattle.sis_core.specs.Opens.{IsIndex, is_of}
use Rattle.sis_core.proofs.opens.index.Index.leave_all.Given as goal

-- the index is of the opens but the client's that were seen
abbrev pub invariant-loop-open : goal.invariant-loop-open
invariant-loop-open l = IsIndex l.opens l.fn.self
    → IsIndex (filter (λ o. not (is_of l.client o)) (take l.open-index l.opens)
    ++ drop l.open-index l.opens) l.self
