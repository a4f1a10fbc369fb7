-- The state after one call more.
use Rattle.std.proofs.Common.{◌≡◌, [], ap}
use Rattle.sis_disk.specs.Record.{Call, DiskRecord, State, after, live_bytes, state_of, with_call}
use Rattle.sis_disk.specs.Live.{after_all-push}

pub state_with : (c : Call) (r : DiskRecord) → state_of (with_call c r) ≡ after (state_of r) c
state_with c r = after_all-push (record { live = r.opening; loose = [] }) r.calls c

pub live_with : (c : Call) (r : DiskRecord) → live_bytes (with_call c r) ≡ (after (state_of r) c).live
live_with c r = ap (λ (s : State). s.live) (state_with c r)
