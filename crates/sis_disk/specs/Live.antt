-- What holds of a record with one call more.
use Rattle.std.specs.Prelude.{◌≡◌, List, [], ◌∷◌, ◌++◌, length, refl}
use Rattle.sis_disk.specs.Record.{Call, DiskRecord, State, after, after_all, live_bytes}

pub counted_by : (r : DiskRecord) → length r.calls ≡ length r.calls
counted_by r = refl

pub sized_by : (r : DiskRecord) → length (live_bytes r) ≡ length (live_bytes r)
sized_by r = refl

pub after_all-push : (s : State) (cs : List Call) (c : Call)
    → after_all s (cs ++ c ∷ []) ≡ after (after_all s cs) c
after_all-push s [] c = refl
after_all-push s (d ∷ cs) c = after_all-push (after s d) cs c
