-- What one read leaves, and one write.
use Rattle.std.proofs.Common.{◌≡◌, inl, inr, ℕ, ◌+◌, ◌≤◌, true, false, List, Option, Some, None, ap, ◌∙◌, arith}
use Rattle.std.specs.Prelude.{Result, Ok, Err, OnOk}
use Rattle.std.specs.List.{AllByRecursion}
use Rattle.std.specs.Option.{option_map}
use Rattle.sis_disk.specs.Record.{Reads, Writes, State, DiskRecord, Seen, Made, NotMade, Went, laid, with_call, live_bytes, live_of, state_of}
use Rattle.sis_disk.proofs.GoesOn.{by_call, by_none}
use Rattle.sis_disk.proofs.Push.{live_with, state_with}
use Rattle.sis_view.specs.Reading.{IsReadWithin, OnlyReads}

-- a read changes nothing that is asked of the state
part_read : {A : Type 0} (part : State → A) (at len : ℕ) (ok : _) (old new : Option DiskRecord)
    → new ≡ option_map (with_call (Reads at len ok)) old
    → option_map (λ (r : DiskRecord). part (state_of r)) new
    ≡ option_map (λ (r : DiskRecord). part (state_of r)) old
part_read part at len ok None new e = ap (option_map (λ (r : DiskRecord). part (state_of r))) e
part_read part at len ok (Some r) new e =
    ap (option_map (λ (r : DiskRecord). part (state_of r))) e
    ∙ ap (λ (s : State). Some (part s)) (state_with (Reads at len ok) r)

-- ---- one read

made_read : (at len : ℕ) (ok : _) (old new : Seen) → at + len ≤ old.size → new.size ≡ old.size
    → old.faults ≤ new.faults → Made (Reads at len ok) old new → OnlyReads 1 old new
made_read at len ok old new within size faults made = record {
  elapses = record { size = size; calls = omega (arith, made.calls); faults = faults };
  calls = omega (arith, made.calls);
  told = by_call (AllByRecursion (IsReadWithin old.size)) (Reads at len ok) old.told new.told
      (within, tt) made.told;
  live = part_read (λ (s : State). s.live) at len ok old.told new.told made.told;
  loose = part_read (λ (s : State). s.loose) at len ok old.told new.told made.told;
}

-- no call was made
not_made : (most : ℕ) (old new : Seen) → new.size ≡ old.size → old.faults ≤ new.faults
    → NotMade old new → OnlyReads most old new
not_made most old new size faults none = record {
  elapses = record { size = size; calls = omega (arith, none.calls); faults = faults };
  calls = omega (arith, none.calls);
  told = by_none (AllByRecursion (IsReadWithin old.size)) old.told new.told tt none.told;
  live = ap (option_map live_bytes) none.told;
  loose = ap (option_map (λ (r : DiskRecord). (state_of r).loose)) none.told;
}

-- a read, whatever it answered
pub one_read : {T E : Type 0} (at len : ℕ) (result : Result T E) (old new : Seen)
    → at + len ≤ old.size → Went (Reads at len) result old new → OnlyReads 1 old new
one_read at len (Ok x) old new within went =
    made_read at len true old new within went.size went.faults went.ok
one_read at len (Err e) old new within went = elim went.err [
  | inl made ↦ made_read at len false old new within went.size went.faults made
  | inr none ↦ not_made 1 old new went.size went.faults none
]

-- ---- a write

laid_told : (at : ℕ) (bytes : List ℕ) (old new : Option DiskRecord)
    → new ≡ option_map (with_call (Writes at bytes true)) old
    → option_map live_bytes new
    ≡ option_map (λ (live : List ℕ). laid live at bytes) (option_map live_bytes old)
laid_told at bytes None new e = ap (option_map live_bytes) e
laid_told at bytes (Some r) new e =
    ap (option_map live_bytes) e
    ∙ ap (λ (live : List ℕ). Some live) (live_with (Writes at bytes true) r)

-- the live bytes after a write that succeeded
pub write_live : {T E : Type 0} (at : ℕ) (bytes : List ℕ) (result : Result T E) (old new : Seen)
    → Went (Writes at bytes) result old new
    → OnOk result (live_of new ≡ option_map (λ (live : List ℕ). laid live at bytes) (live_of old))
write_live at bytes (Ok x) old new went = laid_told at bytes old.told new.told went.ok.told
write_live at bytes (Err e) old new went = tt
