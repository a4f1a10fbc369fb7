-- What the answers of a disk in memory are as calls of a disk.
use Rattle.std.proofs.Common.{◌≡◌, inl, inr, ℕ, ◌+◌, ◌≤◌, Bool, true, false, List, [], ◌∷◌, length, Some, refl, ap, ◌∙◌, arith, length-append}
use Rattle.std.specs.Prelude.{Result, Ok, Err, IsErr}
use Rattle.sis_disk.specs.Record.{Call, Reads, Writes, Syncs, DiskRecord, Seen, Made, Went, after, state_of, live_bytes}
use Rattle.sis_disk.specs.Memory.{MemoryView, Answers, Enters, seen_of}
use Rattle.sis_disk.proofs.Counts.{raised_later, raised_once, raised_rose}
use Rattle.sis_disk.proofs.Laid.{length-laid}
use Rattle.sis_disk.proofs.Push.{live_with}

made : (c : Call) (cost : ℕ) (old new : MemoryView) → Enters c cost old new → Made c (seen_of old) (seen_of new)
made c cost old new e = record {
  calls = ap (λ (r : DiskRecord). length r.calls) e.told ∙ length-append old.told.calls (c ∷ []);
  told = ap (λ (r : DiskRecord). Some r) e.told;
}

size_after : (c : Call) (cost : ℕ) (old new : MemoryView) → length (after (state_of old.told) c).live ≡ length (live_bytes old.told) → Enters c cost old new → length (live_bytes new.told) ≡ length (live_bytes old.told)
size_after c cost old new same e = ap (λ (r : DiskRecord). length (live_bytes r)) e.told ∙ ap (λ (l : List ℕ). length l) (live_with c old.told) ∙ same

-- an answer is a call of the disk, where the call leaves the length
pub went : {T E : Type 0} (call : Bool → Call) (cost : ℕ) (result : Result T E) (old new : MemoryView)
    → ((ok : Bool) → length (after (state_of old.told) (call ok)).live ≡ length (live_bytes old.told))
    → Answers call cost result old new → Went call result (seen_of old) (seen_of new)
went call cost (Ok x) old new same a = record {
  size = size_after (call true) cost old new (same true) a.ok.1;
  faults = omega (arith, a.ok.2);
  cause = tt;
  once = tt;
  quiet = a.ok.2;
  ok = made (call true) cost old new a.ok.1;
  err = tt;
}
went call cost (Err e) old new same a = record {
  size = elim a.err [
    | inl entered ↦ size_after (call false) cost old new (same false) entered.1
    | inr refused ↦ ap (λ (r : DiskRecord). length (live_bytes r)) refused.told
  ];
  faults = rw a.fault (raised_later old.faults);
  cause = rw a.fault (raised_rose old.faults);
  once = rw a.fault (raised_once old.faults);
  quiet = tt;
  ok = tt;
  err = elim a.err [
    | inl entered ↦ inl (made (call false) cost old new entered.1)
    | inr refused ↦ inr (record { calls = ap (λ (r : DiskRecord). length r.calls) refused.told; told = ap (λ (r : DiskRecord). Some r) refused.told })
  ];
}

pub went_read : {T E : Type 0} (at len cost : ℕ) (result : Result T E) (old new : MemoryView) → Answers (Reads at len) cost result old new → Went (Reads at len) result (seen_of old) (seen_of new)
went_read at len cost result old new a = went (Reads at len) cost result old new (λ ok. refl) a

pub went_write : {T E : Type 0} (at cost : ℕ) (bytes : List ℕ) (result : Result T E) (old new : MemoryView) → at + length bytes ≤ length (live_bytes old.told) → Answers (Writes at bytes) cost result old new → Went (Writes at bytes) result (seen_of old) (seen_of new)
went_write at cost bytes result old new within a = went (Writes at bytes) cost result old new (λ ok. size_write ok) a
  where
    size_write : (ok : Bool) → length (after (state_of old.told) (Writes at bytes ok)).live ≡ length (live_bytes old.told)
    size_write true = length-laid at bytes (live_bytes old.told) within
    size_write false = refl

pub went_sync : {T E : Type 0} (cost : ℕ) (result : Result T E) (old new : MemoryView) → Answers Syncs cost result old new → Went Syncs result (seen_of old) (seen_of new)
went_sync cost result old new a = went Syncs cost result old new same a
  where
    same : (ok : Bool) → length (after (state_of old.told) (Syncs ok)).live ≡ length (live_bytes old.told)
    same true = refl
    same false = refl

-- a call with another error went the same way
pub went_err : {T E D : Type 0} (call : Bool → Call) (e : D) (result : Result T E) (old new : Seen) → IsErr result → Went {T = T} call (Err e) old new → Went call result old new
went_err call e (Ok x) old new is_err w = absurd (cc)
went_err call e (Err d) old new is_err w = record { size = w.size; faults = w.faults; cause = w.cause; once = w.once; quiet = tt; ok = tt; err = w.err }
