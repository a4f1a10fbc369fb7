-- What a write leaves at its run.
use Rattle.std.proofs.Common.{◌≡◌, ℕ, ◌*◌, ◌/◌, ◌≤◌, true, false, List, length, take, Option, Some, None, sym, ap, ◌∙◌, subst, arith}
use Rattle.std.specs.Prelude.{IfSome, Result, Ok, Err, is_err}
use Rattle.std.specs.Option.{option_map}
use Rattle.std.proofs.lemmas.List.{length-take-le}
use Rattle.sis_disk.specs.declared.layout.Layout.{Layout}
use Rattle.sis_disk.specs.Layout.{IsLayout, data_blocks, first_byte}
use Rattle.sis_disk.specs.Record.{DiskRecord, Seen, Went, Writes, live_bytes, live_of, with_call}
use Rattle.sis_disk.proofs.Push.{live_with}
use Rattle.sis_places.specs.Places.{PlacesView}
use Rattle.sis_table.specs.declared.edit.Edit.{Edit}
use Rattle.sis_ranges.specs.declared.run.Run.{Run}
use Rattle.sis_table.specs.Content.{run_bytes}
use Rattle.sis_ranges.specs.Extents.{place_end}
use Rattle.sis_table.proofs.ImageLemmas.{run_bytes-laid}
use Rattle.sis_volume.specs.Keeping.{IsNextRun, WritesOnly}
use Rattle.sis_volume.specs.View.{is_fresh}
use Rattle.sis_volume.proofs.Freshness.{data_low}
use Rattle.sis_volume.proofs.Writes.{write_only}

written : (r : Run) (bytes : List ℕ) (n : ℕ) (old new : Option DiskRecord)
    → new ≡ option_map (with_call (Writes (4096 * r.place) bytes true)) old
    → length bytes ≡ 4096 * r.count → 4096 * place_end r ≤ n
    → IfSome old (λ q. length (live_bytes q) ≡ n)
    → IfSome (option_map live_bytes new) (λ now. run_bytes now r ≡ bytes)
written r bytes n None new is len le sized = subst (λ (o : Option DiskRecord). IfSome (option_map live_bytes o) (λ now. run_bytes now r ≡ bytes)) (sym is) tt
written r bytes n (Some q) new is len le sized =
    subst (λ (o : Option DiskRecord). IfSome (option_map live_bytes o) (λ now. run_bytes now r ≡ bytes)) (sym is)
    (ap (λ (live : List ℕ). run_bytes live r) (live_with (Writes (4096 * r.place) bytes true) q)
    ∙ run_bytes-laid (live_bytes q) bytes r.first r.count r.place (omega arith) len)

module _ (l : Layout) (p : PlacesView) (edits : List Edit) (layout : IsLayout l) (len : length p.current ≡ data_blocks l) where
  -- a write of the next run leaves its bytes there
  pub next_there : {T E : Type 0} (first : ℕ) (r : Run) (bytes : List ℕ) (result : Result T E)
      (old new : Seen) → IsNextRun l p edits first (length bytes / 4096) r
      → Went (Writes (4096 * r.place) (take (4096 * r.count) bytes)) result old new
      → is_err result ≡ false → IfSome old.told (λ q. length (live_bytes q) ≡ old.size)
      → old.size ≡ 4096 * l.total
      → IfSome (live_of new) (λ now. run_bytes now r ≡ take (4096 * r.count) bytes)
  next_there first r bytes (Ok x) old new next went ok sized size =
      let few = next.few in
      let high = next.high in
      written r (take (4096 * r.count) bytes) old.size old.told new.told went.ok.told
      (length-take-le (4096 * r.count) bytes (omega arith)) (omega arith) sized
  next_there first r bytes (Err e) old new next went ok sized size = absurd cc

  -- and writes to nothing but its places, whatever becomes of it
  pub next_writes : {T E : Type 0} (first : ℕ) (r : Run) (bytes : List ℕ) (result : Result T E)
      (old new : Seen) → IsNextRun l p edits first (length bytes / 4096) r
      → Went (Writes (4096 * r.place) (take (4096 * r.count) bytes)) result old new
      → IfSome old.told (λ q. length (live_bytes q) ≡ old.size) → old.size ≡ 4096 * l.total
      → WritesOnly (first_byte l) (is_fresh l p edits) old new
  next_writes first r bytes result old new next went sized size =
      let few = next.few in
      let high = next.high in
      let some = next.some in
      let low = data_low l p edits layout len r.place (next.fresh r.place (omega arith) (omega arith)) in
      let long : length (take (4096 * r.count) bytes) ≡ 4096 * r.count = length-take-le (4096 * r.count) bytes (omega arith) in
      write_only (is_fresh l p edits) (4096 * r.place) (take (4096 * r.count) bytes)
      (λ i ge lt. next.fresh (i / 4096) (omega arith) (omega arith)) (first_byte l) result old new went
      sized (omega arith) (omega arith)
